-- The chain of rounding errors from the differences to the length: one for each square, one for each sum, three for the
-- root. Assumes nothing.
use mathlib.Core.Path.{◌≡◌, refl, sym, ap, ◌∙◌, subst}
use Prim.Native.Nat.{ℕ, zero, suc, ◌+◌, ◌*◌, ◌^◌, ◌≤◌, ◌<◌}
use native.Mathlib.Nat.{lt_irrefl, zero-lt-suc, le_trans, le_of_eq, mul-pos, mul-le-mul, mul-le-mul_right, le_of_mul-le-mul_right, mul-one, add_comm}
use native.Mathlib.Nat.{two-pow-succ, zero-mul, mul_assoc}
use native.Mathlib.Omega.{arith}
use mathlib.Core.Bool.{Bool, false}
use lib.Dec.{T}
use native.Mathlib.Decide.{dec_lt}
use lib.Pow.{pow_pos, pow_mono}
use lib.Ieee.{Float, nan, inf, fin, binary32, down, round, fits, le, of_bits}
use lib.Ieee.Fits.{up_pos}
use lib.Ieee.Exact.{HasValue}
use lib.Ieee.Bits.{of_bits-fits}
use lib.Ieee.Order.{le_of_values}
use lib.Ieee.Positive.{positive, values_of_le}
use Rattle.numbers.proofs.RootNearest.{root_nearest}
use Rattle.numbers.proofs.RootMonotone.{root_monotone}
use Rattle.numbers.specs.Rounded.{f32, ◌⊕◌, ◌⊗◌}
use Rattle.numbers.specs.Root.{root}
use Rattle.rounding_errors.proofs.Near.{Near, near_eq, near_self, near_trans, near_add, near_times, near_more}
use Rattle.rounding_errors.proofs.Rounding.{Units, units_positive, round_units}
use Rattle.rounding_errors.proofs.Operations.{sum_at, root_units}
use Rattle.accuracy.proofs.Exact.{square_is, round_zero}

-- x is about q / 4096, but for k errors: n units of 2 ^ -149, none if q is 0
pub record About (x : Float) (k q j : ℕ) : Type 0 where
  pub n : ℕ
  pub value : HasValue x false n (2 ^ 149)
  pub none : q ≡ 0 → n ≡ 0
  pub some : 0 < q → 2 ^ 137 ≤ n
  pub high : n ≤ 2 ^ j
  pub below : Near k (n * 4096) (q * 2 ^ 149)
  pub above : Near k (q * 2 ^ 149) (n * 4096)

nothing : {x : Float} (k q j : ℕ) → q ≡ 0 → HasValue x false 0 (2 ^ 149) → About x k q j
nothing {x} k q j e v = record {
  n = 0;
  value = v;
  none = λ z. refl;
  some = λ h. absurd (omega arith);
  high = omega arith;
  below = near_eq {k = k} {p = 0} refl (same q (2 ^ 149) e) (near_self k 0);
  above = near_eq {k = k} {p = 0} (same q (2 ^ 149) e) refl (near_self k 0);
}
  where
    same : (q w : ℕ) → q ≡ 0 → 0 ≡ q * w
    same q w e = sym (ap (λ (z : ℕ). z * w) e ∙ zero-mul w)

square_large : (g : ℕ) → g ≤ 128000 → g * g ≤ 2 ^ 34
square_large g h = let a : g * g ≤ 128000 * 128000 = mul-le-mul h h in omega arith

pub square_about : (x : Float) (s : Bool) (g : ℕ) → g ≤ 128000 → HasValue x s g 64 → About (x ⊗ x) 1 (g * g) 171
square_about x s zero l h =
    nothing 1 (0 * 0) 171 refl
    (subst (λ (z : Float). HasValue z false 0 (2 ^ 149)) (sym (square_is x s 0 h))
    (round_zero (4096 * 2 ^ 149) (mul-pos {m = 4096} (omega arith) (pow_pos 149))))
square_about x s (suc g) l h =
    let c = suc g in
    let r = round_units (c * c * 2 ^ 149) 4096 137 171 (omega arith) (omega arith) (omega arith) (omega arith) (lo c (2 ^ 149) (2 ^ 137) refl (omega arith))
    (hi c (2 ^ 149) (2 ^ 171) refl l) in
    record {
      n = r.n;
      value = subst (λ (z : Float). HasValue z false r.n (2 ^ 149)) (sym (square_is x s c h)) r.is.value;
      none = λ e. absurd (omega arith);
      some = λ p. r.is.low;
      high = r.is.high;
      below = r.below;
      above = r.above;
    }
  where
    lo : (c w v : ℕ) → w ≡ v * 4096 → 0 < c → v * 4096 ≤ c * c * w
    lo c w v e h = let a : 1 * w ≤ c * c * w = mul-le-mul_right w (mul-pos h h) in omega arith

    hi : (c w v : ℕ) → 2 ^ 34 * w ≡ v * 4096 → c ≤ 128000 → c * c * w ≤ v * 4096
    hi c w v e h = le_trans (mul-le-mul_right w (square_large c h)) (le_of_eq e)

pub more_about : {x : Float} {k q j : ℕ} (i : ℕ) → j ≤ i → About x k q j → About x (k + 1) q i
more_about i l h = record {
  n = h.n;
  value = h.value;
  none = h.none;
  some = h.some;
  high = le_trans h.high (pow_mono l);
  below = near_more 1 h.below;
  above = near_more 1 h.above;
}

pub sum_about : {x y : Float} {k p q j : ℕ} → suc j ≤ 276 → About x k p j → About y k q j → About (x ⊕ y) (k + 1) (p + q) (suc j)
sum_about {x} {y} {k} {p} {q} {j} l h i = go (dec_lt 0 (p + q))
  where
    w : ℕ
    w = 2 ^ 149

    at : x ⊕ y ≡ round binary32 false (h.n + i.n) (1 * 2 ^ 149)
    at = sum_at x y h.n i.n (2 ^ 149) (pow_pos 149) h.value i.value

    lo : 0 < p + q → Dec (0 < p) → 2 ^ 137 * 1 ≤ h.n + i.n
    lo a (yes b) = below_sum (2 ^ 137) h.n i.n (h.some b)
      where
        below_sum : (v m n : ℕ) → v ≤ m → v * 1 ≤ m + n
        below_sum v m n h = omega arith
    lo a (no b) = below_sum (2 ^ 137) h.n i.n (i.some (omega arith))
      where
        below_sum : (v m n : ℕ) → v ≤ n → v * 1 ≤ m + n
        below_sum v m n h = omega arith

    hi : h.n + i.n ≤ 2 ^ suc j * 1
    hi = top (2 ^ j) h.n i.n (two-pow-succ j) h.high i.high
      where
        top : {d : ℕ} (v m n : ℕ) → d ≡ v + v → m ≤ v → n ≤ v → m + n ≤ d * 1
        top v m n e h k = omega arith

    shared : (m n : ℕ) → m * 4096 + n * 4096 ≡ (m + n) * 4096
    shared m n = omega arith

    spread : (p q w : ℕ) → p * w + q * w ≡ (p + q) * w
    spread p q w = omega arith

    go : Dec (0 < p + q) → About (x ⊕ y) (k + 1) (p + q) (suc j)
    go (no a) =
        let z : p + q ≡ 0 = omega arith in
        let m = h.none (omega arith) in
        let n = i.none (omega arith) in
        let t : h.n + i.n ≡ 0 = omega (arith, m, n) in
        nothing (k + 1) (p + q) (suc j) z
        (subst (λ (z : Float). HasValue z false 0 (2 ^ 149)) (sym (at ∙ ap (λ (z : ℕ). round binary32 false z (1 * 2 ^ 149)) t))
        (round_zero (1 * 2 ^ 149) (pow_pos 149)))
    go (yes a) =
        let r = round_units (h.n + i.n) 1 137 (suc j) (omega arith) (omega arith) (omega arith) l (lo a (dec_lt 0 p)) hi in
        let b : Near k ((h.n + i.n) * 4096) ((p + q) * 2 ^ 149) = near_eq (shared h.n i.n) (spread p q (2 ^ 149)) (near_add h.below i.below) in
        let c : Near k ((p + q) * 2 ^ 149) ((h.n + i.n) * 4096) = near_eq (spread p q (2 ^ 149)) (shared h.n i.n) (near_add h.above i.above) in
        record {
          n = r.n;
          value = subst (λ (z : Float). HasValue z false r.n (2 ^ 149)) (sym at) r.is.value;
          none = λ e. absurd (omega arith);
          some = λ e. r.is.low;
          high = r.is.high;
          below = subst (λ (z : ℕ). Near z (r.n * 4096) ((p + q) * 2 ^ 149)) (add_comm 1 k)
              (near_trans (near_times 4096 (near_eq (mul-one r.n) refl r.below)) b);
          above = near_trans c (near_times 4096 (near_eq refl (mul-one r.n) r.above));
        }

-- ---- the root
pub record Length (x : Float) (q : ℕ) : Type 0 where
  pub n : ℕ
  pub value : HasValue x false n (2 ^ 149)
  pub held : T (fits binary32 x)
  pub none : q ≡ 0 → n ≡ 0
  pub some : 0 < q → 2 ^ 143 ≤ n
  pub below : Near 6 (n * n * 4096) (q * 2 ^ 298)
  pub above : Near 6 (q * 2 ^ 298) (n * n * 4096)

root_zero : (x : Float) → T (fits binary32 x) → HasValue x false 0 (2 ^ 149) → HasValue (root x) false 0 (2 ^ 149) × T (fits binary32 (root x))
unfolding root
root_zero nan f h = absurd h
root_zero (inf s) f h = absurd h
root_zero (fin s zero e) f h = (h, f)
root_zero (fin s (suc m) e) f h =
    absurd (lt_irrefl 0 (subst (λ (z : ℕ). 0 < z) (h.1 ∙ zero-mul (down e)) (mul-pos (mul-pos (zero-lt-suc m) (up_pos e)) (pow_pos 149))))

-- the root of 2 ^ -12 and more is 2 ^ -6 and more
root_low : (x : Float) (n r : ℕ) → T (fits binary32 x) → T (positive (root x)) → 2 ^ 137 ≤ n → HasValue x false n (2 ^ 149)
    → HasValue (root x) false r (2 ^ 149) → 2 ^ 143 ≤ r
root_low x n r f p l v w =
    let a : T (le (f32 0x39800000) x) = le_of_values (f32 0x39800000) x (2 ^ 137) (2 ^ 149) n (2 ^ 149) (pow_pos 149) (pow_pos 149) least v
    (mul-le-mul_right (2 ^ 149) l) in
    let m = root_monotone (f32 0x39800000) x (of_bits-fits binary32 0x39800000) f (unfold le of_bits in tt) a in
    let b : T (le (f32 0x3c800000) (root x)) = subst (λ (z : Float). T (le z (root x))) least_root m in
    le_of_mul-le-mul_right (values_of_le (f32 0x3c800000) (root x) (2 ^ 143) (2 ^ 149) r (2 ^ 149) (unfold of_bits in tt) p least' w b) (pow_pos 149)
  where
    least : HasValue (f32 0x39800000) false (2 ^ 137) (2 ^ 149)
    least = unfold of_bits in (refl, refl)

    least' : HasValue (f32 0x3c800000) false (2 ^ 143) (2 ^ 149)
    least' = unfold of_bits in (refl, refl)

    least_root : root (f32 0x39800000) ≡ f32 0x3c800000
    least_root = unfold root of_bits in refl

pub root_about : (x : Float) (q : ℕ) → T (fits binary32 x) → About x 3 q 173 → Length (root x) q
root_about x q f h = go (dec_lt 0 q)
  where
    around : (n w : ℕ) → n * 4096 * w ≡ n * w * 4096
    around n w = omega arith

    twice : (q w v : ℕ) → v ≡ w * w → q * w * w ≡ q * v
    twice q w v e = mul_assoc q w w ∙ ap (λ (z : ℕ). q * z) (sym e)

    go : Dec (0 < q) → Length (root x) q
    go (no a) =
        let z : q ≡ 0 = omega arith in
        let n = h.none z in
        let r = root_zero x f (subst (λ (m : ℕ). HasValue x false m (2 ^ 149)) n h.value) in
        let e : 0 ≡ q * 2 ^ 298 = sym (ap (λ (z : ℕ). z * 2 ^ 298) z ∙ zero-mul (2 ^ 298)) in
        record {
          n = 0;
          value = r.0;
          held = r.1;
          none = λ z. refl;
          some = λ p. absurd (a p);
          below = near_eq {k = 6} {p = 0} refl e (near_self 6 0);
          above = near_eq {k = 6} {p = 0} e refl (near_self 6 0);
        }
    go (yes a) =
        let u : Units x h.n 137 173 = record { value = h.value; low = h.some a; high = h.high } in
        let r = root_units {i = 137} {j = 173} 142 162 f u tt in
        record {
          n = r.n;
          value = r.is.value;
          held = (root_nearest x f (units_positive u)).held;
          none = λ z. absurd (omega arith);
          some = λ p. root_low x h.n r.n f (units_positive r.is) (h.some a) h.value r.is.value;
          below = near_trans (near_times 4096 r.below)
              (near_eq (around h.n (2 ^ 149)) (twice q (2 ^ 149) (2 ^ 298) refl) (near_times (2 ^ 149) h.below));
          above = near_trans (near_eq (twice q (2 ^ 149) (2 ^ 298) refl) (around h.n (2 ^ 149)) (near_times (2 ^ 149) h.above))
              (near_times 4096 r.above);
        }
