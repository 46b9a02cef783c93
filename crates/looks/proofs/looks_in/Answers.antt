use Rattle.looks.proofs.Laws.{none_told}
use Rattle.looks.proofs.looks_in.Goals as goal

pub told_in-requires : goal.told_in-requires
told_in-requires c = none_told c.args.origins.now
