use Rattle.laying_steps.proofs.Work.{begin_holds}
use Rattle.laying_steps.proofs.begin.Goals as goal

pub returns : goal.returns
returns c = let p = c.clear_used in record { begins = begin_holds _ p.new.w p.ensures.w_after; only_in = p.ensures.only_in }
