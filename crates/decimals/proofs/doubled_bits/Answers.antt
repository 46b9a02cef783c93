-- `decimals::doubled_bits` meets its contract: each doubling keeps the fraction (`Scaling`), and where it has 24 digits
-- its nearest whole number are the pattern's digits. Assumes nothing.
use Prim.Native.Nat.{◌+◌, ◌*◌, ◌<◌}
use native.Mathlib.Omega.{arith}
use lib.Ieee.Nearest.{closest}
use Rattle.numbers.proofs.RootPattern.{no_nan_bits}
use Rattle.decimals.proofs.Nearest.{Rounded, number_no_nan, positive, at_most, scaling_start, scaling_more, scaling_next, scaling_end, scaling_no_tie}
use Rattle.decimals.proofs.doubled_bits.Goals.{After-loop-n, After-nearest_quotient, In-loop-n}
use Rattle.decimals.proofs.doubled_bits.Goals as goal

pub overflow_mul-least : goal.overflow_mul-least
overflow_mul-least c = let l = at_most _ _ c.requires.1 in omega arith

pub overflow_mul-n : goal.overflow_mul-n
overflow_mul-n c = let s = (scaling_start _ _ c.requires.0 c.requires.1).high in let l = at_most _ _ c.requires.1 in omega arith

pub loop-n-init : goal.loop-n-init
loop-n-init c = scaling_start _ _ c.requires.0 c.requires.1

-- where the loop goes on
again : (c : In-loop-n) → c.loop-n.n < 8388608 * c.args.d
again c = let h = c.loop-n-test.true in omega arith

pub overflow_mul-n-in-loop-n : goal.overflow_mul-n-in-loop-n
overflow_mul-n-in-loop-n c = let h = again c in let l = at_most _ _ c.requires.1 in omega arith

pub overflow_sub-h : goal.overflow_sub-h
overflow_sub-h c = let h = scaling_more _ _ _ _ c.loop-n.invariant (again c) in omega arith

pub loop-n-smaller : goal.loop-n-smaller
loop-n-smaller c = let h = scaling_more _ _ _ _ c.loop-n.invariant (again c) in omega arith

pub loop-n-preserved : goal.loop-n-preserved
loop-n-preserved c = scaling_next _ _ _ _ c.loop-n.invariant (again c)

-- where it ends
rounded : (c : After-loop-n)
    → Rounded c.args.m c.args.d
    (c.loop-n.h * 8388608 + closest c.loop-n.n c.args.d)
rounded c = scaling_end _ _ _ _ c.loop-n.invariant c.requires.1 (let h = c.loop-n-test.false in omega arith)

pattern : (c : After-nearest_quotient) → c.loop-n.h * 8388608 + c.nearest_quotient.result < 0x7f800000
pattern c = let n = (rounded c.before).nearest.number in let e = c.nearest_quotient.ensures in omega arith

pub overflow_mul-result : goal.overflow_mul-result
overflow_mul-result c = let h = c.loop-n.invariant.high_h in omega arith

pub nearest_quotient-requires : goal.nearest_quotient-requires
nearest_quotient-requires c =
    let t = c.requires.1 in
    let l = at_most _ _ t in
    let s = c.loop-n.invariant in
    let h = s.high in
    (positive _ _ t, l, omega arith, scaling_no_tie _ _ _ _ s t)

pub overflow_cast-result : goal.overflow_cast-result
overflow_cast-result c = let h = pattern c in omega arith

pub overflow_add-result : goal.overflow_add-result
overflow_add-result c = let h = pattern c in omega arith

pub returns : goal.returns
returns c = (rw c.nearest_quotient.ensures (rounded c.before).value, no_nan_bits _ (number_no_nan _ (pattern c)))
