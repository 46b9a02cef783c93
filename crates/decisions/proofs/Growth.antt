-- Points that are close at one radius are so at every larger one. Assumes nothing.
use Prim.Native.Nat.{ℕ}
use mathlib.Core.Path.{◌≡◌, sym, ap, subst}
use mathlib.Core.Bool.{true, not}
use mathlib.Core.List.{List}
use lib.Dec.{T}
use lib.Ieee.{Float, nan, inf, fin, lt, le, eq, is_nan, of_bits, mul}
use lib.Ieee.Bits.{is_true}
use lib.Ieee.Scale.{finite}
use Rattle.numbers.specs.Rounded.{f32}
use Rattle.numbers.proofs.OrderLaws.{le_left, le_right, le_lt_trans}
use Rattle.numbers.proofs.ProductOrder.{mul_monotone, mul_number}
use Rattle.lists.proofs.Bools.{not-true}
use Rattle.decisions.specs.Decisions.{reach, apart, is_close}

-- ---- twice the radius
pub double_number : (x : Float) → T (not (is_nan x)) → T (not (is_nan (reach x)))
unfolding is_nan mul of_bits
double_number nan h = absurd h
double_number (inf s) h = tt
double_number (fin s m e) h = mul_number (fin s m e) (f32 0x40000000) tt tt

two_finite : T (finite (f32 0x40000000))
unfolding of_bits
two_finite = tt

two_above : T (le (f32 0) (f32 0x40000000))
unfolding le lt eq of_bits
two_above = tt

pub double_monotone : (x y : Float) → T (le x y) → T (le (reach x) (reach y))
double_monotone x y h = mul_monotone x y (f32 0x40000000) two_finite h two_above (double_number x (le_left x y h)) (double_number y (le_right x y h))

-- what is not below the lesser is not below the greater
pub not_below : (x y v : Float) → T (le x y) → not (lt x v) ≡ true → not (lt y v) ≡ true
not_below x y v h t = ap not (not-true (λ (l : lt y v ≡ true).
    let d = le_lt_trans x y v h (subst T (sym l) tt) in
    subst T (ap not (is_true (lt x v) d)) (subst T (sym t) tt)))

pub close_more : (pts : List Float) (r s : Float) → T (le r s) → (i j : ℕ) → is_close pts r i j ≡ true → is_close pts s i j ≡ true
unfolding is_close
close_more pts r s h i j = not_below (reach r) (reach s) (apart pts i j) (double_monotone r s h)
