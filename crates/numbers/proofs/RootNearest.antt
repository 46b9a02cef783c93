-- `root` is the square root that IEEE 754 asks for, strictly nearest to the true root (`root_nearest`), as
-- specs/Nearest says it. Assumes nothing.
use mathlib.Core.Path.{◌≡◌, sym, ap, ◌∙◌, subst}
use Prim.Native.Nat.{ℕ, zero, suc, ◌+◌, ◌*◌, ◌^◌, ◌≤◌, ◌<◌, zero-le}
use native.Mathlib.Nat.{le_of_lt, le_trans, lt_of_lt_of_le, lt_of_le_of_lt, mul-pos, mul-le-mul_left, mul-le-mul_right, mul-lt-mul_of_pos_right}
use native.Mathlib.Nat.{lt_of_mul-lt-mul_right}
use native.Mathlib.Omega.{arith}
use native.Mathlib.Decide.{dec_le}
use mathlib.Core.Bool.{true, false}
use lib.Dec.{T}
use lib.Pow.{pow-add, pow_pos}
use lib.Ieee.{Float, nan, inf, fin, binary32, units, fits}
use lib.Ieee.Exact.{HasValue}
use lib.Ieee.Positive.{positive, value_pos}
use Rattle.numbers.specs.Root.{nearest_root, root_of_units, root}
use Rattle.numbers.specs.Nearest.{Nearer, IsNearest}
use Rattle.numbers.proofs.RootWhole.{Near, nearest_near, nearest_bounds}
use Rattle.numbers.proofs.RootPattern.{units_fits, units_value}
use Rattle.numbers.proofs.RootUnits.{finer, scaled, root_of_value}
use Rattle.numbers.proofs.RootGrid.{Grid, f32_whole, on_grid, coarse, scaling, below_top}

-- ---- w against u units of p, by squares

sq_below : (w u p n : ℕ) → 0 < p → w ≤ u * p → u * u < 4 * n → w * w < 4 * (n * (p * p))
sq_below w u p n P h k =
    let a : w * w ≤ u * p * w = mul-le-mul_right w h in
    let b : u * p * w ≤ u * p * (u * p) = mul-le-mul_left (u * p) h in
    let c : u * u * (p * p) < 4 * n * (p * p) = mul-lt-mul_of_pos_right k (mul-pos P P) in
    omega arith

sq_under : (w u p n : ℕ) → 0 < p → w < u * p → u * u ≤ 4 * n → w * w < 4 * (n * (p * p))
sq_under w u p n P h k =
    let a : w * w ≤ w * (u * p) = mul-le-mul_left w (le_of_lt h) in
    let b : w * (u * p) < u * p * (u * p) = mul-lt-mul_of_pos_right h (lt_of_le_of_lt zero-le h) in
    let c : u * u * (p * p) ≤ 4 * n * (p * p) = mul-le-mul_right (p * p) k in
    omega arith

sq_above : (w u p n : ℕ) → 0 < p → u * p ≤ w → 4 * n < u * u → 4 * (n * (p * p)) < w * w
sq_above w u p n P h k =
    let a : u * p * (u * p) ≤ u * p * w = mul-le-mul_left (u * p) h in
    let b : u * p * w ≤ w * w = mul-le-mul_right w h in
    let c : 4 * n * (p * p) < u * u * (p * p) = mul-lt-mul_of_pos_right k (mul-pos P P) in
    omega arith

-- ---- r is the whole number nearest to √n, r * 2^h the root, y another number of the grid

smaller : (n r p y : ℕ) → 0 < p → Near n r → 2 ^ 46 ≤ n → 2 ^ 23 ≤ r → (2 ^ 23 * p ≤ y → (c : ℕ) × (y ≡ c * p)) → y < r * p
    → (r * p + y) * (r * p + y) < 4 * (n * (p * p))
smaller n zero p y P x lo b g l = absurd (omega arith)
smaller n (suc s) p y P x lo b g l = go (dec_le (suc s) (2 ^ 23))
  where
    -- the root is not below √n, and then a y at any distance below is farther
    least : suc s ≡ 2 ^ 23 → (suc s * p + y) * (suc s * p + y) < 4 * (n * (p * p))
    least e = sq_under (suc s * p + y) (2 * suc s) p n P (omega arith) (subst (λ (r : ℕ). 2 * r * (2 * r) ≤ 4 * n) (sym e) (omega arith))

    -- else y is at least one place lower
    step : 2 ^ 23 ≤ s → Dec (2 ^ 23 * p ≤ y) → y ≤ s * p
    step d (yes f) =
        let c = g f in
        let k : c.0 < suc s = lt_of_mul-lt-mul_right p (subst (λ (z : ℕ). z < suc s * p) c.1 l) in
        let m : c.0 * p ≤ s * p = mul-le-mul_right p (omega arith) in
        subst (λ (z : ℕ). z ≤ s * p) (sym c.1) m
    step d (no f) = let m : 2 ^ 23 * p ≤ s * p = mul-le-mul_right p d in omega arith

    go : Dec (suc s ≤ 2 ^ 23) → (suc s * p + y) * (suc s * p + y) < 4 * (n * (p * p))
    go (yes e) = least (omega arith)
    go (no e) =
        let m = step (omega arith) (dec_le (2 ^ 23 * p) y) in
        sq_below (suc s * p + y) (2 * s + 1) p n P (omega arith) (omega (arith, x.0))

larger : (n r p y : ℕ) → 0 < p → Near n r → 2 ^ 23 ≤ r → (2 ^ 23 * p ≤ y → (c : ℕ) × (y ≡ c * p)) → r * p < y → 4 * (n * (p * p)) < (r * p + y) * (r * p + y)
larger n r p y P x b g l =
    let c = g (le_trans (mul-le-mul_right p b) (le_of_lt l)) in
    let k : r < c.0 = lt_of_mul-lt-mul_right p (subst (λ (z : ℕ). r * p < z) c.1 l) in
    let m : (r + 1) * p ≤ c.0 * p = mul-le-mul_right p (omega arith) in
    let m' : (r + 1) * p ≤ y = subst (λ (z : ℕ). (r + 1) * p ≤ z) (sym c.1) m in
    sq_above (r * p + y) (2 * r + 1) p n P (omega arith) (omega (arith, x.1))

even_power : (h : ℕ) → 2 ^ (2 * h) ≡ 2 ^ h * 2 ^ h
even_power h = let e : 2 * h ≡ h + h = omega arith in ap (λ (i : ℕ). 2 ^ i) e ∙ pow-add 2 h h

nearer : (n r h Y : ℕ) → Near n r → 2 ^ 46 ≤ n → 2 ^ 23 ≤ r → Grid Y → Nearer (n * 2 ^ (2 * h)) (r * 2 ^ h) Y
nearer n r h Y x lo b g =
    let p = 2 ^ h in
    let c : 2 ^ 23 * p ≤ Y → (c : ℕ) × (Y ≡ c * p) = λ f. coarse Y h g (subst (λ (z : ℕ). z ≤ Y) (sym (pow-add 2 23 h)) f) in
    subst (λ (z : ℕ). Nearer (n * z) (r * p) Y) (sym (even_power h)) (smaller n r p Y (pow_pos h) x lo b c, larger n r p Y (pow_pos h) x b c)

-- ---- the theorem

-- from the number of units a of 2^-149
of_units : (x : Float) (a : ℕ) → T (fits binary32 x) → 0 < a → HasValue x false a (2 ^ 149) → IsNearest x
of_units x a t p v =
    let X = a * 2 ^ 149 in
    let s = scaling a (on_grid x false a t v) p (below_top x false a t v p) in
    let n = s.n in
    let r = nearest_root n in
    let b = nearest_bounds n s.low s.high in
    let is : root x ≡ units binary32 false r s.h =
    root_of_value x X (mul-pos p (pow_pos 149)) (finer x a v) ∙ ap root_of_units s.is ∙ scaled n s.h s.low s.high in
    record {
      X = X;
      R = r * 2 ^ s.h;
      argument = finer x a v;
      result = subst (λ (z : Float). HasValue z false (r * 2 ^ s.h) (2 ^ 149)) (sym is) (units_value r s.h b.1 s.short);
      held = subst (λ (z : Float). T (fits binary32 z)) (sym is) (units_fits r s.h b.1 s.short);
      above_zero = mul-pos (lt_of_lt_of_le (pow_pos 23) b.0) (pow_pos s.h);
      nearest =
          λ y Y f w.
          subst (λ (z : ℕ). Nearer z (r * 2 ^ s.h) Y) (sym s.is)
          (nearer n r s.h Y (nearest_near n (lt_of_lt_of_le (pow_pos 46) s.low) s.high) s.low b.0 (on_grid y false Y f w));
    }

pub root_nearest : (x : Float) → T (fits binary32 x) → T (positive x) → IsNearest x
root_nearest nan t p = absurd p
root_nearest (inf s) t p = absurd p
root_nearest (fin true m e) t p = absurd p
root_nearest (fin false m e) t p =
    let w = f32_whole false m e t in
    of_units (fin false m e) w.0 t (value_pos (fin false m e) w.0 (2 ^ 149) p (pow_pos 149) w.1) w.1
