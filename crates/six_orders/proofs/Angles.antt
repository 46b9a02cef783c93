-- The least angle in each order: four of six measure the angle opposite to the same edge, and the other two have their
-- own bounds (`angles_bounded`). Assumes nothing.
use mathlib.Core.Path.{◌≡◌}
use mathlib.Core.Bool.{not}
use lib.Dec.{T}
use lib.Ieee.{Float, nan, le, is_nan}
use Rattle.numbers.specs.Rounded.{f32, ◌⊖◌, ◌⊗◌}
use Rattle.numbers.specs.Order.{maximum}
use Rattle.numbers.proofs.OrderLaws.{le_left, le_trans}
use Rattle.numbers.proofs.SumOrder.{add_commutative}
use Rattle.quality.specs.Measures.{angle, least, largest}
use Rattle.six_orders.specs.Inner.SixOrders.{InOrder, abc, acb, bac, bca, cab, cba, least_angle, AngleBound}
use Rattle.six_orders.proofs.Positive.{least_first, least_second, largest_first, largest_second, largest_third}

angle_turned : (a b c : Float) → f32 0x40000000 ⊗ b ⊗ c ≡ f32 0x40000000 ⊗ c ⊗ b → angle a b c ≡ angle a c b
unfolding angle
angle_turned a b c e = rw (e, add_commutative (b ⊗ b) (c ⊗ c))

pub no_angle_bound : (a b c : Float) → AngleBound a b c nan
no_angle_bound a b c = record { most = λ u v w o k. absurd (unfold is_nan in k) }

module _ (a b c : Float) (same : f32 0x40000000 ⊗ b ⊗ c ≡ f32 0x40000000 ⊗ c ⊗ b) {x y z f g : Float} (ex : x ≡ angle a b c) (ey : y ≡ angle b c a)
    (ez : z ≡ angle c b a)
    (nx : T (not (is_nan x))) (ny : T (not (is_nan y))) (nz : T (not (is_nan z))) (ef : f ≡ least y z (f32 0x40490fdb ⊖ y ⊖ z))
    (eg : g ≡ least z y (f32 0x40490fdb ⊖ z ⊖ y)) where
  abbrev m : Float
  m = maximum (maximum x f) g

  f_number : T (not (is_nan f))
  f_number = rw ef (le_left _ y (least_first y z (f32 0x40490fdb ⊖ y ⊖ z) ny))

  g_number : T (not (is_nan g))
  g_number = rw eg (le_left _ z (least_first z y (f32 0x40490fdb ⊖ z ⊖ y) nz))

  x_le : T (le x m)
  unfolding largest
  x_le = largest_first x f g nx

  f_le : T (le f m)
  unfolding largest
  f_le = largest_second x f g f_number

  g_le : T (le g m)
  unfolding largest
  g_le = largest_third x f g g_number

  -- what measures the angle opposite to a, first or second
  by_first : (p q : Float) → x ≡ p → T (le (least p q (f32 0x40490fdb ⊖ p ⊖ q)) m)
  by_first p q e = le_trans _ p m (least_first p q _ (rw (← e) nx)) (rw (← e) x_le)

  by_second : (p q : Float) → x ≡ q → T (le (least p q (f32 0x40490fdb ⊖ p ⊖ q)) m)
  by_second p q e = le_trans _ q m (least_second p q _ (rw (← e) nx)) (rw (← e) x_le)

  turned : x ≡ angle a c b
  turned = rw ex (angle_turned a b c same)

  bounded : {u v w : Float} → InOrder a b c u v w → T (le (least_angle u v w) m)
  unfolding least_angle
  bounded abc = by_first (angle a b c) (angle b a c) ex
  bounded acb = by_first (angle a c b) (angle c a b) turned
  bounded bac = by_second (angle b a c) (angle a b c) ex
  bounded cab = by_second (angle c a b) (angle a c b) turned
  bounded bca = rw (← ey, ← ez, ← ef) f_le
  bounded cba = rw (← ey, ← ez, ← eg) g_le

  pub angles_bounded : AngleBound a b c m
  angles_bounded = record { most = λ u v w o k. bounded o }
