-- `laying_steps::miss` meets its contract. Assumes nothing.
use Rattle.laying_steps.proofs.Work.{miss_takes}
use Rattle.laying_steps.proofs.miss.Goals as goal

pub returns : goal.returns
returns c = let s = c in miss_takes s.args.c
