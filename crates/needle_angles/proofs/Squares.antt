-- Needles by the squares of their edges' lengths, in five classes (`needle_10` to `needle_128`). Assumes nothing.
use mathlib.Core.Path.{◌≡◌, refl}
use Prim.Native.Nat.{ℕ, suc, ◌*◌, ◌^◌, ◌≤◌, ◌<◌}
use native.Mathlib.Nat.{mul-pos, mul-le-mul_right}
use native.Mathlib.Omega.{arith}
use native.Mathlib.Bridge.{IsLe, le_by_compare}
use mathlib.Core.Bool.{false}
use mathlib.Core.List.{List}
use lib.Dec.{T}
use lib.Pow.{pow_pos}
use lib.Ieee.{Float, binary32, round, mul, le, fits, of_bits}
use lib.Ieee.Order.{round_mono}
use lib.Ieee.Positive.{positive, positive-finite, between}
use Rattle.numbers.specs.Rounded.{f32, ◌⊗◌, ◌⊘◌}
use Rattle.numbers.specs.Root.{root}
use Rattle.numbers.specs.Order.{maximum}
use Rattle.numbers.proofs.OrderLaws.{le_trans, unsigned_le}
use Rattle.numbers.proofs.Above.{positive_signless}
use Rattle.numbers.proofs.ProductOrder.{mul_monotone_finite}
use Rattle.rounding_errors.proofs.Rounding.{Units, units_pos, units_positive}
use Rattle.rounding_errors.proofs.Operations.{between_units, mul_units, div_at, div_units, root_units, units_le}
use Rattle.six_orders.specs.Inner.SixOrders.{EdgeBound}
use Rattle.six_orders.proofs.Positive.{number, maximum_either}
use Rattle.six_orders.proofs.Edges.{edges_bounded}
use Rattle.slivers.proofs.Arc.{w}
use Rattle.needle_angles.specs.declared.NeedleClass.TheVariants.{Times10, Times16, Times32, Times64, Times128}
use Rattle.needle_angles.specs.Inner.NeedleAngles.{NeedleAngle, NeedleRatio, OfClass, angle_of, ratio_of}
use Rattle.needle_angles.proofs.Opposite.{has_room, edges_near, edges_far}
use Rattle.needle_angles.proofs.LeftOver.{Step, are_all}
use Rattle.needle_angles.proofs.Table.{first, first_all, second, second_all, third, third_all, fourth, fourth_all, fifth, fifth_all}
use Rattle.needle_angles.proofs.Bound.{is_part, needle_bound}

-- 2 ^ -40 and 2 ^ 26
abbrev tiny : Float
tiny = f32 0x2b800000

abbrev huge : Float
huge = f32 0x4c800000

huge_units : Units huge (67108864 * 2 ^ 149) 175 175
unfolding of_bits IsLe
huge_units = record { value = (refl, refl); low = le_by_compare (2 ^ 175) (67108864 * 2 ^ 149) tt; high = le_by_compare (67108864 * 2 ^ 149) (2 ^ 175) tt }

-- the squares are neither too small nor too large
pub record Plain (least most long : Float) : Type 0 where
  pub from : T (le tiny least)
  pub most_under : T (le most huge)
  pub long_under : T (le long huge)
  pub far : T (le long (least ⊗ huge))

-- the edge ratio of edges K times as long is at least r, which is K
module _ (K : ℕ) (r : Float) (is : r ≡ round binary32 false K 1) (pr : T (positive r)) (a b c : Float) (i j k : ℕ) (ua : Units a i 128 163)
    (ub : Units b j 128 163) (uc : Units c k 128 163) (to-b : i * K ≤ j) (to-c : i * K ≤ k) where
  ratio_least : {x : Float} {n : ℕ} → Units x n 128 163 → i * K ≤ n → T (le r (x ⊘ a))
  ratio_least {x} {n} u h = rw (is, div_at u ua) (round_mono binary32 K 1 (n * w) (i * w) (omega arith) (mul-pos (units_pos ua) (pow_pos 149)) (times n w h))
    where
      times : (n w : ℕ) → i * K ≤ n → K * (i * w) ≤ n * w * 1
      times n w h = let l = mul-le-mul_right w h in omega arith

  ratio_positive : {x : Float} {n : ℕ} → Units x n 128 163 → T (positive (x ⊘ a))
  ratio_positive u = units_positive (div_units 113 185 u ua tt).is

  edges_times : EdgeBound a b c r
  edges_times =
      let p = maximum_either (λ (x : Float). T (positive (x ⊘ a))) b c (ratio_positive ub) (ratio_positive uc) in
      let l = maximum_either (λ (x : Float). T (le r (x ⊘ a))) b c (ratio_least ub to-b) (ratio_least uc to-c) in
      let e = edges_bounded a b c (units_positive ua) (units_positive ub) (units_positive uc) p in
      record { above = λ n. pr; least = λ u v t o n. le_trans r (maximum b c ⊘ a) _ l (e.least u v t o (number (maximum b c ⊘ a) p)) }

-- a class: edges K times as long, by the square's factor h, of k
module _ (K : ℕ) (some : 0 < K) (θ : Float) (κ : ℕ) (m : Float) (steps : List Step) (all : T (are_all K θ κ m steps)) (φ n : ℕ) (pκ : T (is_part κ n))
    (pφ : T (is_part φ (suc n))) (room : T (has_room K (suc n)))
    (ρ : Float) (is : ρ ≡ round binary32 false K 1) (pρ : T (positive ρ)) (h : Float) (k : ℕ) (uh : Units h (k * 2 ^ 149) 155 165)
    (square : K * K * 1000001 ≤ k * 1000000) (rises : T (le tiny (tiny ⊗ h)))
    (least most short long : Float) (p : Plain least most long) (apart : T (le (most ⊗ h) short)) where
  module _ (x : Float) (fx : T (fits binary32 x)) (lo : T (le least x)) (hi : T (le x most)) where
    x_from : T (le tiny x)
    x_from = le_trans tiny least x p.from lo

    x_units : (n : ℕ) × Units x n 109 175
    x_units = between_units x tiny huge 109 175 fx (unfold of_bits in (refl, refl)) (unfold of_bits in (refl, refl)) x_from
        (le_trans x most huge hi p.most_under)

    most_positive : T (positive most)
    most_positive = between tiny most huge (unfold of_bits in tt) (unfold of_bits in tt) (le_trans tiny x most x_from hi) p.most_under

    least_positive : T (positive least)
    least_positive = between tiny least huge (unfold of_bits in tt) (unfold of_bits in tt) p.from
        (le_trans least x huge lo (le_trans x most huge hi p.most_under))

    above_zero : T (le (f32 0) h)
    above_zero = unsigned_le h (positive_signless h (units_positive uh))

    module _ (y : Float) (fy : T (fits binary32 y)) (l : T (le short y)) (r : T (le y long)) where
      times : T (le (x ⊗ h) y)
      times = le_trans (x ⊗ h) (most ⊗ h) y
          (mul_monotone_finite x most h (positive-finite x (units_positive x_units.1)) (positive-finite most most_positive)
          (positive-finite h (units_positive uh)) hi above_zero) (le_trans (most ⊗ h) short y apart l)

      y_from : T (le tiny y)
      y_from = le_trans tiny (x ⊗ h) y
          (le_trans tiny (tiny ⊗ h) (x ⊗ h) rises
          (mul_monotone_finite tiny x h (unfold of_bits in tt) (positive-finite x (units_positive x_units.1))
          (positive-finite h (units_positive uh)) x_from above_zero)) times

      y_units : (n : ℕ) × Units y n 109 175
      y_units = between_units y tiny huge 109 175 fy (unfold of_bits in (refl, refl)) (unfold of_bits in (refl, refl)) y_from
          (le_trans y long huge r p.long_under)

      under : T (le y (x ⊗ huge))
      under =
          le_trans y (least ⊗ huge) (x ⊗ huge) (le_trans y long (least ⊗ huge) r p.far)
          (mul_monotone_finite least x huge (positive-finite least least_positive) (positive-finite x (units_positive x_units.1)) (unfold of_bits in tt) lo
          (unfold le of_bits in tt))

      near : (root_units 128 163 fx x_units.1 tt).n * K ≤ (root_units 128 163 fy y_units.1 tt).n
      near =
          let i = root_units 128 163 fx x_units.1 tt in
          let j = root_units 128 163 fy y_units.1 tt in
          let z = mul_units 115 191 x_units.1 uh tt in
          edges_near w i.n j.n x_units.0 y_units.0 z.n (pow_pos 149) K k square i.below z.above (units_le z.is y_units.1 times)
          j.above

      not_far : (root_units 128 163 fy y_units.1 tt).n ≤ (root_units 128 163 fx x_units.1 tt).n * 8193
      not_far =
          let i = root_units 128 163 fx x_units.1 tt in
          let j = root_units 128 163 fy y_units.1 tt in
          let z = mul_units 135 201 x_units.1 huge_units tt in
          edges_far w i.n j.n x_units.0 y_units.0 z.n (pow_pos 149) j.below (units_le y_units.1 z.is under) z.below i.above

  of_angle : NeedleAngle least most short long θ
  of_angle = record {
    bound = λ x y z fx fy fz a b c d e f.
        let i = root_units 128 163 fx (x_units x fx a b).1 tt in
        let j = root_units 128 163 fy (y_units x fx a b y fy c d).1 tt in
        let o = root_units 128 163 fz (y_units x fx a b z fz e f).1 tt in
        needle_bound K some θ κ m steps all φ n pκ pφ room (root x) (root y) (root z) i.n j.n o.n i.is j.is o.is (near x fx a b y fy c d)
        (near x fx a b z fz e f) (not_far x fx a b y fy c d) (not_far x fx a b z fz e f);
  }

  of_ratio : NeedleRatio least most short long ρ
  of_ratio = record {
    bound = λ x y z fx fy fz a b c d e f.
        let i = root_units 128 163 fx (x_units x fx a b).1 tt in
        let j = root_units 128 163 fy (y_units x fx a b y fy c d).1 tt in
        let o = root_units 128 163 fz (y_units x fx a b z fz e f).1 tt in
        edges_times K ρ is pρ (root x) (root y) (root z) i.n j.n o.n i.is j.is o.is (near x fx a b y fy c d) (near x fx a b z fz e f);
  }

  of_class : NeedleAngle least most short long θ × NeedleRatio least most short long ρ
  of_class = (of_angle, of_ratio)

-- ---- the classes

module _ {least most short long : Float} (p : Plain least most long) where
  pub needle_10 : T (le (most ⊗ f32 0x42ca0000) short) → OfClass least most short long Times10
  unfolding IsLe angle_of ratio_of
  needle_10 h =
      let r = of_class 10 (le_by_compare 1 10 tt) (f32 0x3e570a3d) 0x3f7a7000 (f32 0x3fbbe819) first first_all 0x3f7a7800 8014 tt tt tt (f32 0x41200000)
      (unfold of_bits round in refl) (unfold of_bits in tt) (f32 0x42ca0000) 101 units (le_by_compare (10 * 10 * 1000001) (101 * 1000000) tt)
      (unfold le mul of_bits in tt) least most short long p h in
      record { angle = r.0; ratio = r.1 }
    where
      units : Units (f32 0x42ca0000) (101 * 2 ^ 149) 155 165
      units = unfold of_bits in record {
        value = (refl, refl);
        low = le_by_compare (2 ^ 155) (101 * 2 ^ 149) tt;
        high = le_by_compare (101 * 2 ^ 149)
            (2 ^ 165) tt;
      }

  pub needle_16 : T (le (most ⊗ f32 0x43808000) short) → OfClass least most short long Times16
  unfolding IsLe angle_of ratio_of
  needle_16 h =
      let r = of_class 16 (le_by_compare 1 16 tt) (f32 0x3e051eb8) 0x3f7de000 (f32 0x3fc0ddf9) second second_all 0x3f7de800 8124 tt tt tt (f32 0x41800000)
      (unfold of_bits round in refl) (unfold of_bits in tt) (f32 0x43808000) 257 units (le_by_compare (16 * 16 * 1000001) (257 * 1000000) tt)
      (unfold le mul of_bits in tt) least most short long p h in
      record { angle = r.0; ratio = r.1 }
    where
      units : Units (f32 0x43808000) (257 * 2 ^ 149) 155 165
      units = unfold of_bits in record {
        value = (refl, refl);
        low = le_by_compare (2 ^ 155) (257 * 2 ^ 149) tt;
        high = le_by_compare (257 * 2 ^ 149)
            (2 ^ 165) tt;
      }

  pub needle_32 : T (le (most ⊗ f32 0x44802000) short) → OfClass least most short long Times32
  unfolding IsLe angle_of ratio_of
  needle_32 h =
      let r = of_class 32 (le_by_compare 1 32 tt) (f32 0x3d8f5c29) 0x3f7f6000 (f32 0x3fc4bf94) third third_all 0x3f7f6800 8172 tt tt tt (f32 0x42000000)
      (unfold of_bits round in refl) (unfold of_bits in tt) (f32 0x44802000) 1025 units (le_by_compare (32 * 32 * 1000001) (1025 * 1000000) tt)
      (unfold le mul of_bits in tt) least most short long p h in
      record { angle = r.0; ratio = r.1 }
    where
      units : Units (f32 0x44802000) (1025 * 2 ^ 149) 155 165
      units = unfold of_bits in record {
        value = (refl, refl);
        low = le_by_compare (2 ^ 155) (1025 * 2 ^ 149) tt;
        high = le_by_compare (1025 * 2 ^ 149)
            (2 ^ 165) tt;
      }

  pub needle_64 : T (le (most ⊗ f32 0x45800800) short) → OfClass least most short long Times64
  unfolding IsLe angle_of ratio_of
  needle_64 h =
      let r = of_class 64 (le_by_compare 1 64 tt) (f32 0x3d4ccccd) 0x3f7fb000 (f32 0x3fc5efc0) fourth fourth_all 0x3f7fb800 8182 tt tt tt (f32 0x42800000)
      (unfold of_bits round in refl) (unfold of_bits in tt) (f32 0x45800800) 4097 units (le_by_compare (64 * 64 * 1000001) (4097 * 1000000) tt)
      (unfold le mul of_bits in tt) least most short long p h in
      record { angle = r.0; ratio = r.1 }
    where
      units : Units (f32 0x45800800) (4097 * 2 ^ 149) 155 165
      units = unfold of_bits in record {
        value = (refl, refl);
        low = le_by_compare (2 ^ 155) (4097 * 2 ^ 149) tt;
        high = le_by_compare (4097 * 2 ^ 149)
            (2 ^ 165) tt;
      }

  pub needle_128 : T (le (most ⊗ f32 0x46800200) short) → OfClass least most short long Times128
  unfolding IsLe angle_of ratio_of
  needle_128 h =
      let r = of_class 128 (le_by_compare 1 128 tt) (f32 0x3d23d70a) 0x3f7fd000 (f32 0x3fc68fcd) fifth fifth_all 0x3f7fd800 8186 tt tt tt (f32 0x43000000)
      (unfold of_bits round in refl) (unfold of_bits in tt) (f32 0x46800200) 16385 units (le_by_compare (128 * 128 * 1000001) (16385 * 1000000) tt)
      (unfold le mul of_bits in tt) least most short long p h in
      record { angle = r.0; ratio = r.1 }
    where
      units : Units (f32 0x46800200) (16385 * 2 ^ 149) 155 165
      units = unfold of_bits in record {
        value = (refl, refl);
        low = le_by_compare (2 ^ 155) (16385 * 2 ^ 149) tt;
        high = le_by_compare (16385 * 2 ^ 149)
            (2 ^ 165) tt;
      }
