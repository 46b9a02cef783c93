-- The theorem of request 10 (`accurate`), the same in smaller numbers (`measured`), and that equal points have length 0
-- (`equal_zero`). Assumes nothing.
use mathlib.Core.Path.{◌≡◌, refl, sym, ap, ◌∙◌, subst}
use Prim.Native.Nat.{ℕ, ◌+◌, ◌*◌, ◌^◌, ◌≤◌, ◌<◌}
use native.Mathlib.Nat.{le_of_mul-le-mul_right}
use native.Mathlib.Omega.{arith}
use native.Mathlib.Bridge.{IsLe, le_by_compare}
use native.Mathlib.Decide.{dec_lt}
use mathlib.Core.Bool.{Bool, false}
use lib.Dec.{T}
use lib.Pow.{pow_pos}
use lib.Ieee.{Float, binary32, to_bits, eq}
use lib.Ieee.Exact.{HasValue}
use lib.Ieee.Scale.{finite}
use Rattle.numbers.specs.Rounded.{◌⊖◌, ◌⊗◌}
use Rattle.numbers.proofs.RootGrid.{on_grid, coarse}
use Rattle.vector.specs.Vector.{difference, magnitude_squared, squared, distance}
use Rattle.vector.specs.Inner.Numbers.{Finite}
use Rattle.vector.specs.declared.Point3f.{Point3f}
use Rattle.vector.proofs.Distances.{squared_fits}
use Rattle.rounding_errors.proofs.Near.{Near, near_within}
use Rattle.patterns.specs.Pattern.{units_of}
use Rattle.patterns.proofs.Pattern.{number_bits, bits_units, no_units}
use Rattle.accuracy.specs.Accuracy.{Signed, Coordinate, Place, At, gap, signed_apart, square, exact_square, Accurate, Measured, Equal}
use Rattle.accuracy.proofs.Exact.{difference_value, apart_small, equal_value}
use Rattle.accuracy.proofs.Chain.{About, square_about, more_about, sum_about, Length, root_about}

-- ---- the length of a difference that is known exactly

-- x is a / 64, with either sign
record Exactly (x : Float) (a : ℕ) : Type 0 where
  sign : Bool
  value : HasValue x sign a 64
  small : a ≤ 128000

module _ (p q : Point3f) (a b c : ℕ) (h : Exactly (p.x ⊖ q.x) a) (k : Exactly (p.y ⊖ q.y) b) (l : Exactly (p.z ⊖ q.z) c) where
  part : {x : Float} {n : ℕ} → Exactly x n → About (x ⊗ x) 1 (square n) 171
  part {x} {n} e = square_about x e.sign n e.small e.value

  squares : About (squared p q) 3 (square a + square b + square c) 173
  unfolding squared magnitude_squared difference
  squares = sum_about (omega arith) (sum_about (omega arith) (part h) (part k)) (more_about 172 (omega arith) (part l))

  length : Length (distance p q) (square a + square b + square c)
  unfolding distance
  length = root_about (squared p q) (square a + square b + square c) (squared_fits p q) squares

-- ---- six errors are less than a part of 2 ^ -21

within : (a b : ℕ) → Near 6 a b → Near 6 b a → gap a b * 2097152 ≤ b
unfolding IsLe
within a b h k =
    let i = near_within {p = a} {q = b} 6 2097152 2097153 (le_by_compare (2097152 * 16777216 ^ 6) (2097153 * 16777215 ^ 6) tt) h in
    let j = near_within {p = b} {q = a} 6 2097151 2097152 (le_by_compare (2097151 * 16777216 ^ 6) (2097152 * 16777215 ^ 6) tt) k in
    omega arith

module _ (x : Float) (D : ℕ) (l : Length x D) where
  units : units_of (to_bits binary32 x) ≡ l.n
  units = bits_units x l.n l.held l.value

  good : Accurate D (to_bits binary32 x)
  good = record {
    number = number_bits x l.n l.held l.value;
    near = subst (λ (u : ℕ). gap (square u * 4096) (D * 2 ^ 298) * 2097152 ≤ D * 2 ^ 298) (sym units)
        (within (square l.n * 4096) (D * 2 ^ 298) l.below l.above);
    none = λ e. no_units (to_bits binary32 x) (units ∙ l.none e);
    some = λ h. subst (λ (u : ℕ). 2 ^ 149 ≤ u * 64) (sym units) (scaled (2 ^ 149) (2 ^ 143) l.n refl (l.some h));
  }
    where
      scaled : (w v n : ℕ) → w ≡ v * 64 → v ≤ n → w ≤ n * 64
      scaled w v n e h = omega arith

  -- a length of at least 1/64 is a multiple of 2 ^ -29
  small_numbers : Measured D (to_bits binary32 x)
  small_numbers = go (dec_lt 0 D)
    where
      cancelled : (M D w a b : ℕ) → 0 < w → a ≡ square M * w → b ≡ 2 ^ 46 * D * w → gap a b * 2097152 ≤ b → gap (square M) (2 ^ 46 * D) ≤ 2 ^ 25 * D
      cancelled M D w a b W e f h =
          let i : square M * 2097152 * w ≤ 2 ^ 46 * D * 2097153 * w = omega arith in
          let j : 2 ^ 46 * D * 2097151 * w ≤ square M * 2097152 * w = omega arith in
          let k : square M * 2097152 ≤ 2 ^ 46 * D * 2097153 = le_of_mul-le-mul_right i W in
          let m : 2 ^ 46 * D * 2097151 ≤ square M * 2097152 = le_of_mul-le-mul_right j W in
          omega arith

      length_squared : (n M v w : ℕ) → n ≡ M * v → w ≡ v * v * 4096 → square n * 4096 ≡ square M * w
      length_squared n M v w e f = ap (λ (z : ℕ). square z * 4096) e ∙ grouped M v ∙ ap (λ (z : ℕ). square M * z) (sym f)
        where
          grouped : (M v : ℕ) → square (M * v) * 4096 ≡ square M * (v * v * 4096)
          grouped M v = omega arith

      distance_squared : (D v w : ℕ) → v ≡ 2 ^ 46 * w → D * v ≡ 2 ^ 46 * D * w
      distance_squared D v w e = let i = ap (λ (z : ℕ). D * z) e in omega arith

      go : Dec (0 < D) → Measured D (to_bits binary32 x)
      go (no a) = record { M = 0; fraction = units ∙ l.none (omega arith); near = omega arith }
      go (yes a) = let c = coarse l.n 120 (on_grid x false l.n l.held l.value) (l.some a) in
          record {
            M = c.0;
            fraction = units ∙ c.1;
            near = cancelled c.0 D (2 ^ 252) (square l.n * 4096) (D * 2 ^ 298) (pow_pos 252)
                (length_squared l.n c.0 (2 ^ 120) (2 ^ 252) c.1 refl) (distance_squared D (2 ^ 298) (2 ^ 252) refl)
                (within (square l.n * 4096) (D * 2 ^ 298) l.below l.above);
          }

-- ---- the theorem

module _ (p q : Point3f) (v w : Place) (h : At p v) (k : At q w) where
  along : {x y : Float} {a b : Signed} → Coordinate x a → Coordinate y b → Exactly (x ⊖ y) (signed_apart a b)
  along {x} {y} {a} {b} c d = let r = difference_value x y a b c d in record { sign = r.0; value = r.1; small = apart_small a b c.small d.small }

  lattice : Length (distance p q) (exact_square v w)
  lattice = length p q _ _ _ (along h.x_is k.x_is) (along h.y_is k.y_is) (along h.z_is k.z_is)

  pub accurate : Accurate (exact_square v w) (to_bits binary32 (distance p q))
  accurate = good (distance p q) (exact_square v w) lattice

  pub measured : Measured (exact_square v w) (to_bits binary32 (distance p q))
  measured = small_numbers (distance p q) (exact_square v w) lattice

pub equal_zero : (p q : Point3f) → Finite p → Equal p q → to_bits binary32 (distance p q) ≡ 0
equal_zero p q f e =
    (good (distance p q) 0
    (length p q 0 0 0 (on p.x q.x f.x_finite e.x_equal) (on p.y q.y f.y_finite e.y_equal)
    (on p.z q.z f.z_finite e.z_equal))).none refl
  where
    on : (x y : Float) → T (finite x) → T (eq x y) → Exactly (x ⊖ y) 0
    on x y f e = let r = equal_value x y f e in record { sign = r.0; value = r.1; small = omega arith }
