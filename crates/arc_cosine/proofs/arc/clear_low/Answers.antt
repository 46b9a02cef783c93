-- `clear_low` meets its contract: a number's pattern with its low bits cleared is a number's still.
use mathlib.Core.Path.{sym, subst, ◌∙◌}
use mathlib.Core.Bool.{Bool, not}
use Prim.Native.Nat.{◌-◌, ◌%◌}
use native.Mathlib.Omega.{arith}
use lib.Dec.{T}
use lib.Ieee.{binary32, to_bits}
use lib.Ieee.Bits.{nan_bits_above}
use borrow.Author.Tests.{le-ltb}
use Rattle.numbers.specs.Acos.{high_part}
use Rattle.numbers.proofs.Compare.{is_nan_lem}
use Rattle.numbers.proofs.RootSpecial.{not_self, pattern_lt, pattern_le}
use Rattle.arc_cosine.proofs.arc.clear_low.Goals as goal

pub returns-then-s : goal.returns-then-s
unfolding high_part
returns-then-s c = rw (is_nan_lem, c.if-s.true)

pub float_to_bits-b : goal.float_to_bits-b
float_to_bits-b c = not_self _ c.if-s.false

pub float_from_bits-result : goal.float_from_bits-result
float_from_bits-result c =
    let s = c.args.s in
    let b = to_bits binary32 s in
    let held = subst T (sym c.well_formed.0.1) tt in
    let e = nan_bits_above binary32 (b - b % 4096) ∙ le-ltb 2139095040 ((b - b % 4096) % 2147483648)
    (omega (arith, pattern_le s held (not_self s c.if-s.false), pattern_lt s held)) in
    subst (λ (t : Bool). T (not t)) (sym e) tt

pub returns : goal.returns
unfolding high_part
returns c = rw (is_nan_lem, c.if-s.false)
