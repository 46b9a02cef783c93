-- The squared distance of points, as f32 have it, is at least the square of the difference on each axis (`squared_x`,
-- `squared_y`, `squared_z`), and is the same both ways (`squared_turned`), as the distance is (`distance_turned`).
-- Assumes nothing.
use mathlib.Core.Path.{◌≡◌, refl, ap}
use mathlib.Core.Bool.{not}
use lib.Dec.{T}
use lib.Ieee.{Float, nan, inf, fin, binary32, mul, le, fits, is_nan}
use lib.Ieee.Fits.{add-fits, mul-fits}
use lib.Ieee.Scale.{finite}
use Rattle.numbers.specs.Rounded.{f32, ◌⊕◌, ◌⊖◌, ◌⊗◌}
use Rattle.numbers.specs.Root.{root}
use Rattle.numbers.proofs.OrderLaws.{le_trans, unsigned_le}
use Rattle.numbers.specs.Inner.Bounds.{unsigned}
use Rattle.numbers.proofs.SumOrder.{add_unsigned, add_above_left, add_above_right, add_number, sub_number}
use Rattle.numbers.proofs.ProductOrder.{square_unsigned, square_turned}
use Rattle.vector.specs.Vector.{difference, magnitude_squared, squared, distance}
use Rattle.vector.specs.Inner.Numbers.{Finite}
use Rattle.vector.specs.declared.Point3f.{Point3f}

-- the square of a difference
abbrev pub square : Float → Float → Float
square x y = (x ⊖ y) ⊗ (x ⊖ y)

pub squared_is : (p q : Point3f) → squared p q ≡ (square p.x q.x ⊕ square p.y q.y) ⊕ square p.z q.z
unfolding squared magnitude_squared difference
squared_is p q = refl

-- ---- a sum of three

module _ (a b c : Float) (f : T (unsigned a)) (g : T (unsigned b)) (h : T (unsigned c)) where
  two_unsigned : T (unsigned (a ⊕ b))
  two_unsigned = add_unsigned a b f g

  three_unsigned : T (unsigned ((a ⊕ b) ⊕ c))
  three_unsigned = add_unsigned (a ⊕ b) c two_unsigned h

  third_above : T (le (a ⊕ b) ((a ⊕ b) ⊕ c))
  third_above = add_above_left (a ⊕ b) c (add-fits binary32 a b) (unsigned_le (a ⊕ b) two_unsigned) (unsigned_le c h)

  above_first : T (fits binary32 a) → T (le a ((a ⊕ b) ⊕ c))
  above_first k = le_trans a (a ⊕ b) ((a ⊕ b) ⊕ c) (add_above_left a b k (unsigned_le a f) (unsigned_le b g)) third_above

  above_second : T (fits binary32 b) → T (le b ((a ⊕ b) ⊕ c))
  above_second k = le_trans b (a ⊕ b) ((a ⊕ b) ⊕ c) (add_above_right a b k (unsigned_le a f) (unsigned_le b g)) third_above

  above_third : T (fits binary32 c) → T (le c ((a ⊕ b) ⊕ c))
  above_third k = add_above_right (a ⊕ b) c k (unsigned_le (a ⊕ b) two_unsigned) (unsigned_le c h)

-- ---- the squared distance

square_fits : (x y : Float) → T (fits binary32 (square x y))
square_fits x y = mul-fits binary32 (x ⊖ y) (x ⊖ y)

finite_unsigned : (x y : Float) → T (finite x) → T (finite y) → T (unsigned (square x y))
finite_unsigned x y f g = square_unsigned (x ⊖ y) (sub_number x y f g)

pub squared_fits : (p q : Point3f) → T (fits binary32 (squared p q))
squared_fits p q = rw (squared_is p q) (add-fits binary32 (square p.x q.x ⊕ square p.y q.y) (square p.z q.z))

pub squared_turned : (p q : Point3f) → squared p q ≡ squared q p
squared_turned p q = rw (squared_is p q, squared_is q p, square_turned p.x q.x, square_turned p.y q.y, square_turned p.z q.z)

module _ (p q : Point3f) (f : Finite p) (g : Finite q) where
  on_x : T (unsigned (square p.x q.x))
  on_x = finite_unsigned p.x q.x f.x_finite g.x_finite

  on_y : T (unsigned (square p.y q.y))
  on_y = finite_unsigned p.y q.y f.y_finite g.y_finite

  on_z : T (unsigned (square p.z q.z))
  on_z = finite_unsigned p.z q.z f.z_finite g.z_finite

  pub squared_unsigned : T (unsigned (squared p q))
  squared_unsigned = rw (squared_is p q) (three_unsigned _ _ _ on_x on_y on_z)

  pub squared_x : T (le (square p.x q.x) (squared p q))
  squared_x = rw (squared_is p q) (above_first _ _ _ on_x on_y on_z (square_fits p.x q.x))

  pub squared_y : T (le (square p.y q.y) (squared p q))
  squared_y = rw (squared_is p q) (above_second _ _ _ on_x on_y on_z (square_fits p.y q.y))

  pub squared_z : T (le (square p.z q.z) (squared p q))
  squared_z = rw (squared_is p q) (above_third _ _ _ on_x on_y on_z (square_fits p.z q.z))

-- whatever the points, it is not below 0 unless it is a NaN
number_unsigned : (d : Float) → T (not (is_nan (d ⊗ d))) → T (unsigned (d ⊗ d))
number_unsigned nan k = absurd (unfold is_nan mul in k)
number_unsigned (inf s) k = square_unsigned (inf s) (unfold is_nan in tt)
number_unsigned (fin s m e) k = square_unsigned (fin s m e) (unfold is_nan in tt)

pub magnitude_unsigned : (v : Point3f) → T (not (is_nan v.x)) → T (not (is_nan v.y)) → T (not (is_nan v.z)) → T (unsigned (magnitude_squared v))
unfolding magnitude_squared
magnitude_unsigned v f g h = three_unsigned _ _ _ (square_unsigned v.x f) (square_unsigned v.y g) (square_unsigned v.z h)

pub magnitude_nonnegative : (v : Point3f) → T (not (is_nan (magnitude_squared v))) → T (le (f32 0) (magnitude_squared v))
unfolding magnitude_squared
magnitude_nonnegative v h =
    let n = add_number (v.x ⊗ v.x ⊕ v.y ⊗ v.y) (v.z ⊗ v.z) h in
    let m = add_number (v.x ⊗ v.x) (v.y ⊗ v.y) n.0 in
    unsigned_le _ (three_unsigned _ _ _ (number_unsigned v.x m.0) (number_unsigned v.y m.1) (number_unsigned v.z n.1))

pub squared_nonnegative : (p q : Point3f) → T (not (is_nan (squared p q))) → T (le (f32 0) (squared p q))
unfolding squared
squared_nonnegative p q h = magnitude_nonnegative (difference p q) h

-- ---- the distance

pub distance_is : (p q : Point3f) → distance p q ≡ root (squared p q)
unfolding distance
distance_is p q = refl

pub distance_turned : (p q : Point3f) → distance p q ≡ distance q p
unfolding distance
distance_turned p q = ap root (squared_turned p q)
