use Rattle.laying_words.proofs.Sifting.{pop_more, pop_none}
use mathlib.Core.Path.{refl}
use Rattle.laying_words.proofs.heap.pop.Goals as goal

pub returns-then-left-gt0 : goal.returns-then-left-gt0
returns-then-left-gt0 c =
    let s = c in
    let p = c.sift_down in
    let q = pop_more s.args.w.now p.new.w s.args.m c.if-left-gt0.true s.requires.1 p.ensures.0
    p.ensures.1 in
    (refl, q.0, q.1)

pub returns-else-left-gt0 : goal.returns-else-left-gt0
returns-else-left-gt0 c = let s = c in (refl, pop_none _ _ c.if-left-gt0.false s.requires.1, refl)
