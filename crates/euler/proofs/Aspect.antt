-- The computed aspect ratio of three points whose squared distances are plain is at most 1/2 + 14 / 2 ^ 20
-- (`aspect_half`). Assumes nothing.
use mathlib.Core.Logic.{inl, inr}
use mathlib.Core.Path.{◌≡◌, refl, sym, subst}
use Prim.Native.Nat.{ℕ, ◌+◌, ◌*◌, ◌^◌, ◌≤◌, ◌<◌}
use native.Mathlib.Nat.{le_trans, mul-le-mul, mul-le-mul_left, mul-le-mul_right, le_of_mul-le-mul_right}
use native.Mathlib.Omega.{arith}
use native.Mathlib.Bridge.{IsLe, le_by_compare}
use native.Mathlib.Decide.{dec_le}
use mathlib.Core.Bool.{true, false}
use lib.Dec.{T}
use lib.Pow.{pow_pos}
use lib.Ieee.{Float, nan, inf, fin, le, fits, is_nan, of_bits}
use lib.Ieee.Scale.{finite}
use Rattle.numbers.specs.Rounded.{f32, ◌⊕◌, ◌⊗◌, ◌⊘◌}
use Rattle.numbers.specs.Root.{root}
use Rattle.numbers.proofs.OrderLaws as order
use Rattle.vector.specs.Vector.{difference, cross, squared}
use Rattle.vector.specs.declared.Point3f.{Point3f}
use Rattle.vector.proofs.Distances.{magnitude_nonnegative}
use Rattle.quality.specs.Measures.{half, radius_of}
use Rattle.quality.specs.Inner.Shape.{shape_of}
use Rattle.area_bounds.specs.Inner.AreaBound.{cross_squared}
use Rattle.area_bounds.proofs.AreaBound.{cross_fits}
use Rattle.rounding_errors.proofs.Near.{near_trans, near_add, near_self, near_within, square_back}
use Rattle.rounding_errors.proofs.Rounding.{Units, units_pos}
use Rattle.rounding_errors.proofs.Operations.{mul_units, div_units, add_units, root_units}
use Rattle.rounding_errors.proofs.Signed.{units_order}
use Rattle.thin.proofs.Aspect.{half_units, four_units, times_below, half_below, half_above, quotient_le, aspect_by, flat_below, none_below, infinite_below}
use Rattle.thin.proofs.Thin.{flat_limit}
use Rattle.cosines.specs.Inner.Cosine.{Coordinates, is_plain_pair}
use Rattle.cosines.proofs.Points.{Square, Exactly, exact_of}
use Rattle.cosines.proofs.Narrow.{square_large}
use Rattle.euler.proofs.Inequality.{Floor, floor_of, spread, Within, Sized, Triangle, euler_near}
use Rattle.euler.proofs.Ratio.{above_bar, under_bar, length_near, spread_near, ratio_below}

-- ---- the lengths, cut

square_small : {x : Float} {A : ℕ} → Square x A → A ≤ 2 ^ 325
unfolding IsLe
square_small {x} {A} s =
    doubled (2 ^ 324) (s.m * 2 ^ 149) (mul-le-mul_right (2 ^ 149) s.is.high)
    (near_within 6 1 2 (le_by_compare (1 * 16777216 ^ 6) (2 * 16777215 ^ 6) tt) s.above)
  where
    doubled : (v m : ℕ) → m ≤ v → A * 1 ≤ m * 2 → A ≤ 2 * v
    doubled v m h k = omega arith

root_large : (n A x : ℕ) → Floor A x → n * n ≤ A → n ≤ x
root_large n A x f h = go (dec_le n x)
  where
    go : Dec (n ≤ x) → n ≤ x
    go (yes k) = k
    go (no k) =
        let i : (x + 1) * (x + 1) ≤ n * n = mul-le-mul (omega arith) (omega arith) in
        let j = f.high in
        absurd (omega arith)

sized : {s : Float} {A x : ℕ} → Square s A → Floor A x → Sized (2 ^ 128) x
unfolding IsLe
sized {s} {A} {x} q f = record {
  low = root_large (2 ^ 128) A x f (le_trans (le_by_compare (2 ^ 128 * 2 ^ 128) (2 ^ 257) tt) (square_large q));
  high = square_back x (34359738368 * 2 ^ 128)
      (le_trans f.low (le_trans (square_small q) (le_by_compare (2 ^ 325) (34359738368 * 2 ^ 128 * (34359738368 * 2 ^ 128)) tt)));
}

-- ---- the cross product against the lengths

-- the units of single products are next to nothing; v is w ^ 3
absorbed : (e X Y v c u : ℕ) → 4 * (17592177655809 * (e * Y)) ≤ 4 * (17592177655809 * ((e + 1) * X)) + e * (e + 1) * (3 * c + 9 * u) → 4 * (17592177655809 * v)
    + c ≤ u
    → 4 * (17592177655809 * (e * (Y + 3 * v))) ≤ 4 * (17592177655809 * ((e + 1) * X)) + e * (e + 1) * (12 * u)
absorbed e X Y v c u h k =
    let i : e * (e + 1) * (4 * (17592177655809 * v) + c) ≤ e * (e + 1) * u = mul-le-mul_left (e * (e + 1)) k in
    omega arith

module _ {p q t : Point3f} (x : Exactly p q t) where
  errors_within : Within x.X (x.Y + 3 * (2 ^ 149 * 2 ^ 149 * 2 ^ 149)) (x.A * x.C)
  unfolding IsLe
  errors_within = record {
    within =
        λ e.
        absorbed e x.X x.Y (2 ^ 149 * 2 ^ 149 * 2 ^ 149) (2533274790395904 * (2 ^ 149 * 2 ^ 149)) (x.A * x.C) (x.over e)
        (le_trans (le_by_compare (4 * (17592177655809 * (2 ^ 149 * 2 ^ 149 * 2 ^ 149)) + 2533274790395904 * (2 ^ 149 * 2 ^ 149)) (2 ^ 257 * 2 ^ 257) tt)
        (mul-le-mul (square_large x.first) (square_large x.second)));
  }

  abbrev a : ℕ
  a = (floor_of x.A).0

  abbrev b : ℕ
  b = (floor_of x.B).0

  abbrev c : ℕ
  c = (floor_of x.C).0

  triangle : Triangle (2 ^ 128) x.A x.B x.C a b c x.X
  triangle = record {
    first = (floor_of x.A).1;
    second = (floor_of x.B).1;
    third = (floor_of x.C).1;
    first_size = sized x.first (floor_of x.A).1;
    second_size = sized x.third (floor_of x.B).1;
    third_size = sized x.second (floor_of x.C).1;
    heron = x.heron;
  }

  euler : 1048576 * (4 * (x.Y + 3 * (2 ^ 149 * 2 ^ 149 * 2 ^ 149))) ≤ 1048596 * spread a b c
  unfolding IsLe
  euler = euler_near (le_by_compare 17179869184 (2 ^ 128) tt) triangle errors_within

  -- the computed cross product is not large
  cross_most : x.m ≤ 2 ^ 209
  unfolding IsLe
  cross_most =
      let W : ℕ = 2 ^ 149 * 2 ^ 149 * 2 ^ 149 in
      let h : ℕ = 34359738368 * 2 ^ 128 in
      let s : spread a b c ≤ (h + h + h) * (h * h * h) = mul-le-mul
      (three triangle.first_size.high triangle.second_size.high triangle.third_size.high)
      (mul-le-mul (mul-le-mul triangle.first_size.high triangle.second_size.high) triangle.third_size.high) in
      let k : x.m * W ≤ (h + h + h) * (h * h * h) = below_spread (x.m * W) (x.Y + 3 * W) (spread a b c) ((h + h + h) * (h * h * h)) s
      (near_within 5 1 2 (le_by_compare (1 * 16777216 ^ 5) (2 * 16777215 ^ 5) tt) x.below) euler in
      le_of_mul-le-mul_right (le_trans k (le_by_compare ((h + h + h) * (h * h * h)) (2 ^ 209 * W) tt)) (pow_pos 447)
    where
      three : {h : ℕ} → a ≤ h → b ≤ h → c ≤ h → a + b + c ≤ h + h + h
      three i j k = omega arith

      below_spread : (m Y s t : ℕ) → s ≤ t → m * 1 ≤ Y * 2 → 1048576 * (4 * Y) ≤ 1048596 * s → m ≤ t
      below_spread m Y s t i j k = omega arith

-- ---- the ratio

-- 1/2 + 14 / 2 ^ 20
abbrev pub bound : Float
bound = f32 0x3f0000e0

bound_units : Units bound (1048604 * 2 ^ 128) 148 149
unfolding of_bits IsLe
bound_units = record { value = (refl, refl); low = le_by_compare (2 ^ 148) (1048604 * 2 ^ 128) tt; high = le_by_compare (1048604 * 2 ^ 128) (2 ^ 149) tt }

-- the lengths in the order of the points
module _ {p q t : Point3f} (x : Exactly p q t) (low : 2 ^ 83 ≤ x.m) where
  ratio_le : T (le (root (cross_squared p q t) ⊗ half ⊘ ((root (squared q p) ⊕ root (squared q t) ⊕ root (squared t p)) ⊗ half) ⊘ radius_of (root (squared q p))
      (root (squared q t)) (root (squared t p)) (root (cross_squared p q t) ⊗ half)) bound)
  unfolding radius_of
  ratio_le =
      let w : ℕ = 2 ^ 149 in
      let W : 0 < w = pow_pos 149 in
      let ux : Units (cross_squared p q t) x.m 83 209 = record { value = x.crossed; low = low; high = cross_most x } in
      let ra = root_units 128 163 x.first.held x.first.is tt in
      let rb = root_units 128 163 x.third.held x.third.is tt in
      let rc = root_units 128 163 x.second.held x.second.is tt in
      let rx = root_units 115 180 (cross_fits p q t) ux tt in
      let g = mul_units 114 179 rx.is half_units tt in
      let s1 = add_units 128 164 ra.is rb.is tt tt in
      let s = add_units 128 165 s1.is rc.is tt tt in
      let h = mul_units 127 164 s.is half_units tt in
      let i = div_units 99 201 g.is h.is tt in
      let p1 = mul_units 107 177 ra.is rb.is tt in
      let p2 = mul_units 86 191 p1.is rc.is tt in
      let f = mul_units 116 181 four_units g.is tt in
      let ρ = div_units 54 224 p2.is f.is tt in
      let over = above_bar w x.m rx.n g.n h.n f.n i.n rx.below (half_below w (2 ^ 148) g.n rx.n W refl g.below) i.below
      (times_below w (2 ^ 151) 4 f.n g.n W refl f.below) in
      let under = under_bar w ra.n rb.n rc.n s.n h.n p1.n p2.n f.n ρ.n
      (near_trans (near_add s1.above (near_self 1 rc.n)) s.above) (half_above w (2 ^ 148) h.n s.n W refl h.above) p1.above p2.above
      ρ.above in
      let lengths = spread_near (length_near x.A (a x) ra.n (floor_of x.A).1 (near_trans x.first.above ra.above))
      (length_near x.B (b x) rb.n (floor_of x.B).1 (near_trans x.third.above rb.above))
      (length_near x.C (c x) rc.n (floor_of x.C).1 (near_trans x.second.above rc.above)) in
      quotient_le i.is ρ.is (unfold fits of_bits in tt) bound_units
      (ratio_below w (2 ^ 128) x.m i.n h.n f.n ρ.n (a x) (b x) (c x) ra.n rb.n rc.n (x.Y + 3 * (w * w * w)) W (units_pos h.is)
      (units_pos f.is) refl (euler x) x.below over lengths under)

-- ---- every cross product

module _ (p q t : Point3f) (P : Coordinates p) (Q : Coordinates q) (R : Coordinates t) (ha : T (is_plain_pair (squared q p) (squared q p)))
    (hc : T (is_plain_pair (squared t p) (squared t p))) (hb : T (is_plain_pair (squared q t) (squared q t))) where
  abbrev Half : Type 0
  Half = T (le (shape_of (root (squared q p)) (root (squared q t)) (root (squared t p)) (root (cross_squared p q t) ⊗ half)).aspect_ratio bound)

  zero : T (le (f32 0) bound)
  zero = unfold le of_bits in tt

  finite_half : T (finite (cross_squared p q t)) → Half
  unfolding cross_squared
  finite_half f =
      let y = cross_squared p q t in
      let n = order.finite_number y f in
      elim (order.le_or_lt (f32 0x1e800000) y (unfold of_bits is_nan in tt) n) [
        | inl l ↦
            let x = exact_of p q t P Q R ha hc hb f in
            aspect_by (root (squared q p)) (root (squared q t)) (root (squared t p)) (root y ⊗ half) bound zero
            (λ e g. ratio_le x (units_order (f32 0x1e800000) y (2 ^ 83) x.m (unfold of_bits in (refl, refl)) x.crossed l))
        | inr l ↦
            flat_below (root (squared q p)) (root (squared q t)) (root (squared t p)) y bound zero
            (flat_limit.below y (cross_fits p q t) (magnitude_nonnegative (cross (difference q p) (difference t p)) n) (order.lt_le y (f32 0x1e800000) l))
      ]

  pub aspect_half : Half
  aspect_half = go (cross_squared p q t) refl
    where
      none : {y : Float} → cross_squared p q t ≡ y → root y ≡ nan → Half
      none e h = none_below (root (squared q p)) (root (squared q t)) (root (squared t p)) (cross_squared p q t) bound zero (rw e h)

      go : (y : Float) → cross_squared p q t ≡ y → Half
      go nan e = none e (unfold root in refl)
      go (inf true) e = none e (unfold root in refl)
      go (inf false) e = infinite_below (root (squared q p)) (root (squared q t)) (root (squared t p)) (cross_squared p q t) bound zero
          (rw e (unfold root in refl))
      go (fin s m d) e = finite_half (subst (λ (y : Float). T (finite y)) (sym e) tt)
