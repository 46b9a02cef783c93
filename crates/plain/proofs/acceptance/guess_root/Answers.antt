-- `plain::acceptance::guess_root` meets its contract: the pattern that it makes is a number's. Assumes nothing.
use mathlib.Core.Path.{sym, subst, ◌∙◌}
use mathlib.Core.Bool.{Bool, not}
use Prim.Native.Nat.{◌+◌, ◌/◌, ◌%◌}
use native.Mathlib.Omega.{arith}
use lib.Dec.{T}
use lib.Ieee.{binary32, to_bits}
use lib.Ieee.Bits.{nan_bits_above}
use borrow.Author.Tests.{le-ltb}
use Rattle.numbers.proofs.RootSpecial.{not_self}
use Rattle.plain.proofs.acceptance.guess_root.Goals as goal

pub float_to_bits-b : goal.float_to_bits-b
float_to_bits-b c = not_self _ c.if-x.false

pub float_from_bits-result : goal.float_from_bits-result
float_from_bits-result c =
    let b = to_bits binary32 c.args.x / 2 + 532676624 in
    let e = nan_bits_above binary32 b ∙ le-ltb 2139095040 (b % 2147483648) (omega arith) in
    subst (λ (t : Bool). T (not t)) (sym e) tt
