-- The cut to a whole number keeps the order (`cut_monotone`), and so does the cut of a product
-- (`cut_product_monotone`). Assumes nothing.
use mathlib.Core.Path.{◌≡◌, refl, sym, ap, subst}
use Prim.Native.Nat.{ℕ, ◌*◌, ◌/◌, ◌≤◌, ◌<◌, zero-le}
use native.Mathlib.Nat.{zero-div, mul-pos, le_of_eq, le_trans}
use native.Mathlib.Omega.{arith}
use mathlib.Core.Bool.{Bool, true, false, not, cond}
use lib.IntN.{ℤ}
use lib.Dec.{T, eqb, eqb→eq, T_not}
use lib.Ieee.{Float, nan, inf, fin, binary32, round, up, down, unlike, mul, le, is_nan, of_bits, to_unsigned}
use lib.Ieee.Fits.{down_pos}
use lib.Ieee.Nearest.{div_mono}
use lib.Ieee.Scale.{finite}
use Rattle.numbers.specs.Rounded.{f32, ◌⊗◌}
use Rattle.numbers.specs.Cut.{cut}
use Rattle.numbers.proofs.OrderLaws.{le→side, le_right, top_le}
use Rattle.numbers.proofs.RoundedOrder.{above, under, rounds_nonpositive}
use Rattle.numbers.proofs.ProductOrder.{mul_number, mul_monotone}

pub cut_monotone : (x y : Float) → T (le x y) → cut x ≤ cut y
unfolding le to_unsigned
cut_monotone nan y h = absurd h
cut_monotone (inf true) y h = zero-le
cut_monotone (inf false) y h = le_of_eq (ap cut (sym (top_le y h)))
cut_monotone (fin true m e) y h = zero-le
cut_monotone (fin false m e) nan h = absurd h
cut_monotone (fin false m e) (inf true) h = absurd h
cut_monotone (fin false m e) (inf false) h = omega arith
cut_monotone (fin false m e) (fin true n d) h =
    let k : m * up e / down e ≤ 0 / down d = div_mono (m * up e) (down e) 0 (down d) (down_pos e) (down_pos d)
    (omega (arith, le→side (fin false m e) (fin true n d) tt tt h)) in
    let z : 0 / down d ≡ 0 = zero-div (down d) in
    omega arith
cut_monotone (fin false m e) (fin false n d) h =
    let k : m * up e / down e ≤ n * up d / down d = div_mono (m * up e) (down e) (n * up d) (down d) (down_pos e) (down_pos d)
    (omega (arith, le→side (fin false m e) (fin false n d) tt tt h)) in
    omega arith

cut_nan : (x : Float) → T (is_nan x) → cut x ≡ 0
unfolding is_nan to_unsigned
cut_nan nan h = refl
cut_nan (inf s) h = absurd h
cut_nan (fin s m e) h = absurd h

cut_zero : (s : Bool) (c : ℕ) → 0 < c → cut (round binary32 s 0 c) ≤ 0
unfolding of_bits to_unsigned
cut_zero s c C = cut_monotone (round binary32 s 0 c) (f32 0) (go s)
  where
    go : (s : Bool) → T (le (round binary32 s 0 c) (f32 0))
    go true = rounds_nonpositive {p = 0} {n = 0} C (under 0 refl refl) zero-le
    go false = rounds_nonpositive {p = 0} {n = 0} C (above 0 refl refl) zero-le

cut_times_zero : (u : Float) (t : Bool) (d : ℤ) → cut (u ⊗ fin t 0 d) ≤ 0
unfolding mul to_unsigned
cut_times_zero nan t d = zero-le
cut_times_zero (inf s) t d = zero-le
cut_times_zero (fin s m e) t d =
    let z : m * up e * (0 * up d) ≡ 0 = omega arith in
    subst (λ (a : ℕ). cut (round binary32 (unlike s t) a (down e * down d)) ≤ 0) (sym z)
    (cut_zero (unlike s t) (down e * down d) (mul-pos (down_pos e) (down_pos d)))

-- a number's product with a finite one is a NaN at an infinity times 0, and any other times that 0 is cut to 0
cut_nothing : (u v c : Float) → T (not (is_nan v)) → T (finite c) → T (is_nan (v ⊗ c)) → cut (u ⊗ c) ≤ 0
cut_nothing u nan c f g h = absurd (unfold is_nan in f)
cut_nothing u (fin s m e) c f g h = absurd (T_not (is_nan (fin s m e ⊗ c)) (mul_number (fin s m e) c tt g) h)
cut_nothing u (inf s) nan f g h = absurd g
cut_nothing u (inf s) (inf t) f g h = absurd g
cut_nothing u (inf s) (fin t n d) f g h = subst (λ (k : ℕ). cut (u ⊗ fin t k d) ≤ 0) (sym (eqb→eq n 0 zero_factor)) (cut_times_zero u t d)
  where
    zero_factor : T (eqb n 0)
    zero_factor = go (eqb n 0) (unfold mul in h)
      where
        go : (b : Bool) → T (is_nan (cond b nan (inf (unlike s t)))) → T b
        go true k = tt
        go false k = unfold is_nan in k

pub cut_product_monotone : (u v c : Float) → T (finite c) → T (le u v) → T (le (f32 0) c) → cut (u ⊗ c) ≤ cut (v ⊗ c)
cut_product_monotone u v c f h z = go (is_nan (u ⊗ c)) (is_nan (v ⊗ c)) refl refl
  where
    go : (a b : Bool) → is_nan (u ⊗ c) ≡ a → is_nan (v ⊗ c) ≡ b → cut (u ⊗ c) ≤ cut (v ⊗ c)
    go true b p q = rw (cut_nan (u ⊗ c) (subst T (sym p) tt)) zero-le
    go false true p q = le_trans (cut_nothing u v c (le_right u v h) f (subst T (sym q) tt)) zero-le
    go false false p q = cut_monotone (u ⊗ c) (v ⊗ c)
        (mul_monotone u v c f h z (subst (λ (b : Bool). T (not b)) (sym p) tt) (subst (λ (b : Bool). T (not b)) (sym q) tt))
