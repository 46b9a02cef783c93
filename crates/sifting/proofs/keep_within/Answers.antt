-- `keep_within` meets its contract. The loop's invariant: what is left of the list leads to the whole. Assumes nothing.
use native.Mathlib.Omega.{arith}
use Rattle.sifting.proofs.Sifting.{sift_start, sift_below, sift_skip, sift_take, sift_end}
use Rattle.sifting.proofs.keep_within.Goals as goal
use Rattle.sifting.proofs.keep_within.Goals.{then-is_within, else-is_within}

pub loop-m-init : goal.loop-m-init
loop-m-init c = sift_start

pub overflow_cast-k : goal.overflow_cast-k
overflow_cast-k c =
    record { fits = omega (arith, sift_below c.requires c.loop-m.invariant c.loop-m-test.true, c.requires.few) }

pub is_within-requires : goal.is_within-requires
is_within-requires c =
    omega (arith, sift_below c.requires c.loop-m.invariant c.loop-m-test.true, c.requires.points_long)

pub loop-m-preserved : goal.loop-m-preserved
loop-m-preserved c =
    elim c.if-is_within.branch [
      | then-is_within w ↦ rw w.kept-is (sift_take c.requires c.loop-m.invariant c.loop-m-test.true c.is_within.ensures w.if-is_within.true)
      | else-is_within w ↦ rw w.kept-is (sift_skip c.requires c.loop-m.invariant c.loop-m-test.true c.is_within.ensures w.if-is_within.false)
    ]

pub returns : goal.returns
returns c = sift_end c.requires c.loop-m.invariant c.loop-m-test.false
