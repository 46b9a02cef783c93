-- `laying_steps::pop` meets its contract. Assumes nothing.
use Prim.Native.Nat.{◌*◌}
use Rattle.laying_words.proofs.Slices.{only_none}
use Rattle.laying_steps.proofs.Work.{by_queue, by_heap}
use Rattle.laying_steps.proofs.pop.Goals as goal

pub returns-then-rule-eq2 : goal.returns-then-rule-eq2
returns-then-rule-eq2 c =
    let s = c in
    record { pops = by_queue s.args.rule c.if-rule-eq2.true c.pop_queue.ensures; only_in = only_none (5 * s.args.n) (9 * s.args.n) s.args.w.now }

pub returns : goal.returns
returns c =
    let s = c in
    let p = c.pop_heap in
    record { pops = by_heap s.args.rule c.if-rule-eq2.false p.ensures.pops; only_in = p.ensures.only_in }
