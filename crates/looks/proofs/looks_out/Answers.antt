use Rattle.looks.proofs.Laws.{none_told}
use Rattle.looks.proofs.looks_out.Goals as goal

pub told_out-requires : goal.told_out-requires
told_out-requires c = none_told c.args.origins.now
