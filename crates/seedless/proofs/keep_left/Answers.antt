-- `keep_left` meets its contract. The loop's invariant: those of the first m points that are to be kept stand at the
-- list's start. Assumes nothing.
use native.Mathlib.Omega.{arith}
use Rattle.seedless.proofs.Threes.{left_start, left_below, left_skip, left_take, left_end}
use Rattle.seedless.proofs.keep_left.Goals as goal
use Rattle.seedless.proofs.keep_left.Goals.{then-is_left, else-is_left}

pub loop-m-init : goal.loop-m-init
loop-m-init c = left_start

pub overflow_cast-k : goal.overflow_cast-k
overflow_cast-k c =
    let a = c in
    let h = left_below a.requires.1 a.requires.2 c.loop-m.invariant c.loop-m-test.true in
    record { fits = omega (arith, h, a.requires.0) }

pub is_left-requires : goal.is_left-requires
is_left-requires c =
    let l = c.loop-m in
    let a = c in
    (a.requires.0, omega (arith, a.requires.1, l.invariant.same), left_below a.requires.1 a.requires.2 l.invariant c.loop-m-test.true)

pub loop-m-preserved : goal.loop-m-preserved
loop-m-preserved c =
    let k = c.loop-m.invariant in
    let t = c.loop-m-test.true in
    elim c.if-is_left.branch [
      | then-is_left w ↦ rw (w.w-is, w.kept-is) (left_take c.requires.1 c.requires.2 k t)
      | else-is_left w ↦ rw (w.w-is, w.kept-is) (left_skip c.requires.1 c.requires.2 k t c.is_left.ensures w.if-is_left.false)
    ]

pub shape_of-w : goal.shape_of-w
shape_of-w c = c.loop-m.invariant.same

pub returns : goal.returns
returns c = let a = c in
    left_end a.requires.1 a.requires.2 c.loop-m.invariant c.loop-m-test.false
