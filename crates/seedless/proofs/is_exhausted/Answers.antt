-- `is_exhausted` meets its contract. The loop's invariant: no three unused points of which one is below i make a seed.
-- Assumes nothing.
use native.Mathlib.Omega.{arith}
use Rattle.seedless.proofs.Threes.{exhaust_start, exhaust_step}
use Rattle.seedless.proofs.is_exhausted.Goals as goal

pub loop-i-init : goal.loop-i-init
loop-i-init c = exhaust_start c.requires.0 c.requires.1

pub search_next-requires : goal.search_next-requires
search_next-requires c = let l = c.loop-i in (l.invariant.held, l.invariant.hashed, c.loop-i-test.true, c.requires.2)

pub loop-i-preserved : goal.loop-i-preserved
loop-i-preserved c =
    let n = c.search_next in
    exhaust_step n.new.w c.loop-i.invariant c.loop-i-test.true n.ensures.1 n.auto.w c.in-Some.ensures.0

pub shape_of-w : goal.shape_of-w
shape_of-w c = c.loop-i.invariant.same

pub returns : goal.returns
returns c = let l = c.loop-i in (λ h a ha. l.invariant.known a (omega (arith, c.loop-i-test.false)), l.invariant.kept)
