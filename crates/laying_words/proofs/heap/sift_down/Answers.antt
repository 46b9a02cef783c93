-- `sift_down` meets its contract. The loop's invariant (`Sifting`): what is left of the definition's way down from
-- place p, with v to be put, gives the whole heap. The place grows, so it ends. Assumes nothing.
use native.Mathlib.Omega.{arith}
use borrow.Author.Rules.{rules}
use mathlib.Core.Path.{refl}
use lib.ListN.{length-set}
use Rattle.laying_words.proofs.Sifting.{start, step, end_left, end_none}
use Rattle.laying_words.proofs.heap.sift_down.Goals as goal

pub loop-p-init : goal.loop-p-init
loop-p-init c = (refl, search rules, search rules, start _ _ _)

pub loop-p-preserved : goal.loop-p-preserved
loop-p-preserved c =
    let i = c.loop-p.invariant in
    (simp length-set (omega arith), search rules, simp length-set (omega arith), step _ _ _ _ _ i.2 i.1 i.3 c.loop-p-test.true)

pub returns-then-p-m : goal.returns-then-p-m
returns-then-p-m c =
    let i = c.loop-p.invariant in
    end_left _ _ _ _ _ i.2 i.1 i.3 c.loop-p-test.false c.if-p-m.true

pub returns-else-p-m : goal.returns-else-p-m
returns-else-p-m c =
    let i = c.loop-p.invariant in
    end_none _ _ _ _ _ i.2 i.1 i.3 c.if-p-m.false
