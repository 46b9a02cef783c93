use Rattle.laying_steps.proofs.Work.{clear_takes}
use Rattle.laying_steps.proofs.clear.Goals as goal

pub returns : goal.returns
returns c = clear_takes c.args.c
