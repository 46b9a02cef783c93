-- The normal of three points in range is no not-a-number. Assumes nothing.
use mathlib.Core.Path.{◌≡◌, refl, sym, ◌∙◌, subst}
use mathlib.Core.Bool.{Bool, true, false, not, cond, ◌&&◌, ◌||◌, beq}
use mathlib.Core.List.{List}
use Prim.Native.Nat.{ℕ, zero, suc, ◌+◌, ◌*◌, ◌/◌, ◌%◌, ◌≤◌, ◌<◌}
use native.Mathlib.Nat.{mul-pos}
use native.Mathlib.Omega.{arith}
use lib.IntN.{ℤ, pos}
use lib.Dec.{T, eqb, eqb-suc-zero}
use lib.ListN.{length, get_or}
use lib.Ieee.{Float, nan, inf, fin, binary32, unlike, up, down, round, add, mul, div, neg, le, eq, is_nan, fits, of_bits}
use lib.Ieee.Fits.{up_pos, add-fits}
use lib.Ieee.Scale.{finite}
use lib.Ieee.Positive.{den_pos}
use Rattle.numbers.specs.Rounded.{f32, ◌⊕◌, ◌⊖◌, ◌⊗◌, ◌⊘◌}
use Rattle.numbers.specs.Root.{root}
use Rattle.numbers.specs.Inner.Bounds.{unsigned, Bounded}
use Rattle.numbers.proofs.OrderLaws.{unsigned_le, unsigned_number_lem, finite_number, le_left, le_refl}
use Rattle.numbers.proofs.RoundedOrder.{round_number}
use Rattle.numbers.proofs.Bounded.{bounded_finite, sub_bounded, mul_bounded}
use Rattle.numbers.proofs.RootMonotone.{root_monotone}
use Rattle.vector.specs.Vector.{point, difference, magnitude_squared, magnitude, cross}
use Rattle.vector.specs.declared.Point3f.{Point3f}
use Rattle.vector.proofs.Distances.{magnitude_unsigned}
use Rattle.points.specs.Points.{point_at}
use Rattle.ranges.specs.Range.{inside, leading, first_outside, farthest}
use Rattle.ranges.proofs.Range.{leading_inside}
use Rattle.lists.proofs.Bools.{and_both}
use Rattle.facets.specs.Format.{divided, normal, corner_at}
use Rattle.facets.specs.Known.{NamesPoints}

-- every part is a number
pub record Numbers (v : Point3f) : Type 0 where
  pub x_number : T (not (is_nan v.x))
  pub y_number : T (not (is_nan v.y))
  pub z_number : T (not (is_nan v.z))

-- every coordinate is in range
pub record Near (p : Point3f) : Type 0 where
  pub x_near : Bounded p.x farthest
  pub y_near : Bounded p.y farthest
  pub z_near : Bounded p.z farthest

-- ---- the cross product is finite
abbrev wide : Float
wide = farthest ⊕ farthest

abbrev area : Float
area = wide ⊗ wide

apart : (x y : Float) → Bounded x farthest → Bounded y farthest → Bounded (x ⊖ y) wide
apart x y b c = sub_bounded x y farthest farthest (unfold of_bits in tt) (unfold of_bits in tt) b c

part : (a b c d : Float) → Bounded a wide → Bounded b wide → Bounded c wide → Bounded d wide → T (finite (a ⊗ b ⊖ c ⊗ d))
part a b c d h i j k =
    bounded_finite (a ⊗ b ⊖ c ⊗ d) (area ⊕ area) (unfold add mul of_bits in tt)
    (sub_bounded (a ⊗ b) (c ⊗ d) area area (unfold add mul of_bits in tt) (unfold add mul of_bits in tt)
    (mul_bounded a b wide wide (unfold add of_bits in tt) (unfold add of_bits in tt) (unfold add of_bits in tt) (unfold add of_bits in tt) h i)
    (mul_bounded c d wide wide (unfold add of_bits in tt) (unfold add of_bits in tt) (unfold add of_bits in tt) (unfold add of_bits in tt) j k))

-- ---- a quotient
zeros_level : (s t : Bool) (a b : ℕ) → a ≡ 0 → b ≡ 0 → (eqb a b && (beq s t || eqb a 0)) ≡ true
zeros_level s t a b p q = rw (p, q) (either (beq s t))
  where
    either : (c : Bool) → (c || true) ≡ true
    either true = refl
    either false = refl

zeros_equal : (s t : Bool) (e d : ℤ) → eq (fin s 0 e) (fin t 0 d) ≡ true
unfolding eq
zeros_equal s t e d = zeros_level s t (0 * up e * down d) (0 * up d * down e) (omega arith) (omega arith)

zero_is : (t : Bool) (d : ℤ) → eq (fin t 0 d) (f32 0) ≡ true
unfolding of_bits
zero_is t d = zeros_equal t false d (pos 0)

quotient : (x l : Float) → T (finite x) → T (not (is_nan l)) → eq l (f32 0) ≡ false → T (not (is_nan (x ⊘ l)))
quotient nan l f h n = absurd f
quotient (inf s) l f h n = absurd f
quotient (fin s m e) nan f h n = absurd (unfold is_nan in h)
quotient (fin s m e) (inf t) f h n = unfold div is_nan in tt
quotient (fin s m e) (fin t zero d) f h n = absurd (subst T (sym (zero_is t d) ∙ n) tt)
quotient (fin s m e) (fin t (suc k) d) f h n =
    let c : ℕ = suc k * up d * down e in
    let some : 0 < c = mul-pos (mul-pos (omega arith) (up_pos d)) (den_pos (fin s m e)) in
    let is : fin s m e ⊘ fin t (suc k) d ≡ round binary32 (unlike s t) (m * up e * down d) c = unfold div in rw (eqb-suc-zero k) in
    rw is (round_number (unlike s t) (m * up e * down d) c some)

-- ---- the length
root_number : (x : Float) → T (fits binary32 x) → T (unsigned x) → T (not (is_nan (root x)))
root_number x f u = let z = unsigned_le x u in le_left (root x) (root x) (root_monotone x x f f z (le_refl x (unsigned_number_lem x u)))

length_number : (v : Point3f) → T (finite v.x) → T (finite v.y) → T (finite v.z) → T (not (is_nan (magnitude v)))
unfolding magnitude magnitude_squared
length_number v f g h =
    root_number (magnitude_squared v) (add-fits binary32 (v.x ⊗ v.x ⊕ v.y ⊗ v.y) (v.z ⊗ v.z))
    (magnitude_unsigned v (finite_number v.x f) (finite_number v.y g) (finite_number v.z h))

-- ---- the normal
divided_number : (v : Point3f) (l : Float) → T (finite v.x) → T (finite v.y) → T (finite v.z) → T (not (is_nan l)) → Numbers (divided v l)
unfolding divided
divided_number v l f g h k = by (eq l (f32 0)) refl
  where
    by : (t : Bool) → eq l (f32 0) ≡ t → Numbers (cond t (point (f32 0) (f32 0) (f32 0)) (point (v.x ⊘ l) (v.y ⊘ l) (v.z ⊘ l)))
    by true e = record { x_number = unfold of_bits is_nan in tt; y_number = unfold of_bits is_nan in tt; z_number = unfold of_bits is_nan in tt }
    by false e = record { x_number = quotient v.x l f k e; y_number = quotient v.y l g k e; z_number = quotient v.z l h k e }

module _ (p q r : Point3f) (np : Near p) (nq : Near q) (nr : Near r) where
  dx : Bounded (q.x ⊖ p.x) wide
  dx = apart q.x p.x nq.x_near np.x_near

  dy : Bounded (q.y ⊖ p.y) wide
  dy = apart q.y p.y nq.y_near np.y_near

  dz : Bounded (q.z ⊖ p.z) wide
  dz = apart q.z p.z nq.z_near np.z_near

  ex : Bounded (r.x ⊖ p.x) wide
  ex = apart r.x p.x nr.x_near np.x_near

  ey : Bounded (r.y ⊖ p.y) wide
  ey = apart r.y p.y nr.y_near np.y_near

  ez : Bounded (r.z ⊖ p.z) wide
  ez = apart r.z p.z nr.z_near np.z_near

  pub normal_numbers : Numbers (normal p q r)
  unfolding normal cross difference
  normal_numbers =
      let v = cross (difference q p) (difference r p) in
      let fx : T (finite v.x) = part (q.y ⊖ p.y) (r.z ⊖ p.z) (q.z ⊖ p.z) (r.y ⊖ p.y) dy ez dz ey in
      let fy : T (finite v.y) = part (q.z ⊖ p.z) (r.x ⊖ p.x) (q.x ⊖ p.x) (r.z ⊖ p.z) dz ex dx ez in
      let fz : T (finite v.z) = part (q.x ⊖ p.x) (r.y ⊖ p.y) (q.y ⊖ p.y) (r.x ⊖ p.x) dx ey dy ex in
      divided_number v (magnitude v) fx fy fz (length_number v fx fy fz)

-- ---- a patch's
in_range_lem : (points : List Float) → length points % 3 ≡ 0 → length points / 3 ≤ first_outside farthest points → (k : ℕ) → k < length points
    → Bounded (get_or points k nan) farthest
unfolding first_outside inside
in_range_lem points threes none k h =
    let x = get_or points k nan in
    let most : k < leading (neg farthest) farthest points = omega arith in
    let b = and_both {p = le (neg farthest) x} {q = le x farthest} (leading_inside (neg farthest) farthest points k most) in
    record { upper = subst T (sym b.1) tt; lower = subst T (sym b.0) tt }

module _ (points : List Float) (faces : List ℕ) (threes : length points % 3 ≡ 0) (none : length points / 3 ≤ first_outside farthest points)
    (known : NamesPoints points faces) where
  pub corner_near : (k : ℕ) → k < length faces → Near (corner_at points faces k)
  unfolding point_at
  corner_near k h =
      let l = known.known k h in
      let at = in_range_lem points threes none in
      record {
        x_near = at (3 * get_or faces k 0) (omega arith);
        y_near = at (3 * get_or faces k 0 + 1) (omega arith);
        z_near = at (3 * get_or faces k 0 + 2)
            (omega arith);
      }

  -- no normal of a patch whose points are in range, and whose faces name points, is a not-a-number
  pub patch_normals : (i j k : ℕ) → i < length faces → j < length faces → k < length faces
      → Numbers (normal (corner_at points faces i) (corner_at points faces j) (corner_at points faces k))
  patch_normals i j k hi hj hk = normal_numbers (corner_at points faces i) (corner_at points faces j) (corner_at points faces k) (corner_near i hi)
      (corner_near j hj) (corner_near k hk)
