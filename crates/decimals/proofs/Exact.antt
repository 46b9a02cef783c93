-- Whole numbers up to 2 ^ 24 are f32, and a division of two of them is their fraction, rounded. Assumes nothing.
use mathlib.Core.Path.{◌≡◌, sym, ap, subst}
use mathlib.Core.Bool.{true, false, not}
use Prim.Native.Nat.{ℕ, zero, suc, ◌*◌, ◌^◌, ◌≤◌, ◌<◌}
use native.Mathlib.Nat.{mul-pos, lt_irrefl}
use native.Mathlib.Omega.{arith}
use borrow.Author.Tests.{ne_eqb}
use lib.Dec.{T, le→leb}
use lib.IntN.{pos}
use lib.Ieee.{Float, nan, inf, fin, Format, prec, binary32, lt, is_nan, up, down, of_int, in_float, div, round}
use lib.Ieee.Fits.{up_pos, down_pos}
use lib.Ieee.Exact.{HasValue}
use lib.Ieee.Back.{round_whole}
use lib.Ieee.Scale.{round_same}

-- b * u is d * e, and d and e are not 0, so neither is b
not_zero : (b u d e : ℕ) → 0 < d → 0 < e → b * u * 1 ≡ d * e → 0 < b
not_zero zero u d e D E h = let p : 0 < d * e = mul-pos D E in absurd (omega arith)
not_zero (suc b) u d e D E h = omega arith

crossed : (a u c b v e m d : ℕ) → a * u * 1 ≡ m * c → b * v * 1 ≡ d * e → a * u * e * d ≡ m * (b * v * c)
crossed a u c b v e m d h k =
    let x : a * u * (e * d) ≡ m * c * (e * d) = ap (λ (z : ℕ). z * (e * d)) (mul_one_left h) in
    let y : m * c * (b * v) ≡ m * c * (d * e) = ap (λ (z : ℕ). m * c * z) (mul_one_left k) in
    omega arith
  where
    mul_one_left : {p q : ℕ} → p * 1 ≡ q → p ≡ q
    mul_one_left {p} {q} h = omega arith

divided : (x y : Float) (m d : ℕ) → 0 < d → HasValue x false m 1 → HasValue y false d 1 → div binary32 x y ≡ round binary32 false m d
unfolding div
divided nan y m d D h k = absurd h
divided (inf s) y m d D h k = absurd h
divided (fin s a e) nan m d D h k = absurd k
divided (fin s a e) (inf t) m d D h k = absurd k
divided (fin true a e) (fin t b g) m d D h k = absurd (subst T h.0 tt)
divided (fin false a e) (fin true b g) m d D h k = absurd (subst T k.0 tt)
divided (fin false a e) (fin false b g) m d D h k =
    let B : 0 < b = not_zero b (up g) d (down g) D (down_pos g) k.1 in
    rw (ne_eqb b 0 (λ z. lt_irrefl 0 (subst (λ (n : ℕ). 0 < n) z B)))
    (round_same binary32 false (a * up e * down g) (b * up g * down e) m d (mul-pos (mul-pos B (up_pos g)) (down_pos e)) D
    (crossed a (up e) (down e) b (up g) (down g) m d h.1 k.1))

pub exact_quotient : (m d : ℕ) → m ≤ 2 ^ 24 → d ≤ 2 ^ 24 → 0 < d → div binary32 (of_int binary32 (pos m)) (of_int binary32 (pos d)) ≡ round binary32 false m d
unfolding of_int
exact_quotient m d M L D = divided (round binary32 false m 1) (round binary32 false d 1) m d D (round_whole binary32 false m M) (round_whole binary32 false d L)

pub exact : (f : Format) (n : ℕ) → n ≤ 2 ^ prec f → T (in_float f (pos n))
unfolding in_float
exact f n h = le→leb n (2 ^ prec f) h

-- a number below another is no NaN
pub below_no_nan : (x y : Float) → lt x y ≡ true → T (not (is_nan x))
unfolding lt is_nan
below_no_nan nan y e = subst T (sym e) tt
below_no_nan (inf s) y e = tt
below_no_nan (fin s m k) y e = tt
