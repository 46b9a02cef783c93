-- The area of a triangle is at most `area_bound` of what bounds two of its edges (`area_bounded`), below what
-- `AreaLimit` says (`area_limited`), and too long for its edges where `LargeLimit` says so (`area_too_long`). Assumes
-- nothing.
use mathlib.Core.Path.{◌≡◌, refl, ap, ◌∙◌}
use mathlib.Core.Bool.{true, false, not}
use lib.Dec.{T}
use lib.Ieee.{Float, nan, inf, fin, binary32, neg, mul, lt, le, fits, is_nan, of_bits}
use lib.Ieee.Fits.{add-fits}
use lib.Ieee.Scale.{finite}
use Rattle.numbers.specs.Rounded.{f32, ◌⊕◌, ◌⊖◌, ◌⊗◌}
use Rattle.numbers.specs.Root.{root}
use Rattle.numbers.proofs.OrderLaws.{le_left, le_right, lt_le, le_not_lt, le_top, le_trans, le_lt_trans}
use Rattle.numbers.specs.Inner.Bounds.{unsigned, Bounded}
use Rattle.numbers.proofs.RootMonotone.{root_monotone}
use Rattle.numbers.proofs.SumOrder.{add_unsigned}
use Rattle.numbers.proofs.ProductOrder.{mul_number, mul_monotone, mul_commutative, square_turned}
use Rattle.numbers.proofs.Bounded.{add_bounded, sub_bounded, mul_bounded, mul_unsigned, add_finite, mul_finite}
use Rattle.vector.specs.Vector.{difference, magnitude_squared, magnitude, cross}
use Rattle.vector.specs.Inner.Numbers.{Finite}
use Rattle.quality.specs.Measures.{half}
use Rattle.triangle.specs.Quality.{area}
use Rattle.area_bounds.specs.Inner.AreaBound.{cross_bound, area_bound, cross_squared, AreaLimit, TooLong, LargeLimit}
use Rattle.vector.specs.declared.Point3f.{Point3f}
use Rattle.vector.proofs.Distances.{magnitude_nonnegative}

-- v bounds d on each axis
pub record Bounds (d v : Point3f) : Type 0 where
  pub bounded_x : Bounded d.x v.x
  pub bounded_y : Bounded d.y v.y
  pub bounded_z : Bounded d.z v.z

-- v has no minus sign, and no NaN
pub record Unsigned (v : Point3f) : Type 0 where
  pub unsigned_x : T (unsigned v.x)
  pub unsigned_y : T (unsigned v.y)
  pub unsigned_z : T (unsigned v.z)

-- ---- half the root

half_nonnegative : T (le (f32 0) half)
unfolding le of_bits
half_nonnegative = tt

half_finite : T (finite half)
unfolding of_bits
half_finite = tt

pub halved_number : (x : Float) → T (not (is_nan x)) → T (not (is_nan (x ⊗ half)))
halved_number nan h = absurd (unfold is_nan in h)
halved_number (inf s) h = unfold is_nan mul of_bits in tt
halved_number (fin s m e) h = mul_number (fin s m e) half tt half_finite

pub half_root_monotone : (a b : Float) → T (fits binary32 a) → T (fits binary32 b) → T (le (f32 0) a) → T (le a b) → T (le (root a ⊗ half) (root b ⊗ half))
half_root_monotone a b f g z h =
    let r = root_monotone a b f g z h in
    mul_monotone (root a) (root b) half half_finite r half_nonnegative (halved_number (root a) (le_left (root a) (root b) r))
    (halved_number (root b) (le_right (root a) (root b) r))

half_root_finite : (a m : Float) → T (lt (root a ⊗ half) m) → T (finite a)
unfolding root mul lt of_bits
half_root_finite nan m h = h
half_root_finite (inf true) m h = h
half_root_finite (inf false) m h = absurd (le_not_lt m (inf false) (le_top m (le_right (inf false) m (lt_le (inf false) m h))) h)
half_root_finite (fin s n e) m h = tt

-- ---- lengths and cross products

pub magnitude_fits : (v : Point3f) → T (fits binary32 (magnitude_squared v))
unfolding magnitude_squared
magnitude_fits v = add-fits binary32 (v.x ⊗ v.x ⊕ v.y ⊗ v.y) (v.z ⊗ v.z)

-- the squares of a finite length are finite
pub squares_finite : (v : Point3f) → T (finite (magnitude_squared v)) → T (finite (v.x ⊗ v.x)) × T (finite (v.y ⊗ v.y)) × T (finite (v.z ⊗ v.z))
unfolding magnitude_squared
squares_finite v f =
    let g = add_finite (v.x ⊗ v.x ⊕ v.y ⊗ v.y) (v.z ⊗ v.z) f in
    let k = add_finite (v.x ⊗ v.x) (v.y ⊗ v.y) g.0 in
    (k.0, k.1, g.1)

parts_finite : (v : Point3f) → T (finite (magnitude_squared v)) → Finite v
parts_finite v f =
    let g = squares_finite v f in
    record { x_finite = (mul_finite v.x v.x g.0).0; y_finite = (mul_finite v.y v.y g.1).0; z_finite = (mul_finite v.z v.z g.2).0 }

magnitude_bounded : (d v : Point3f) → Unsigned v → Bounds d v → T (finite (magnitude_squared v)) → T (le (magnitude_squared d) (magnitude_squared v))
unfolding magnitude_squared
magnitude_bounded d v u b f =
    let g = squares_finite v f in
    let k = add_finite (v.x ⊗ v.x ⊕ v.y ⊗ v.y) (v.z ⊗ v.z) f in
    let x = square d.x v.x u.unsigned_x b.bounded_x g.0 in
    let y = square d.y v.y u.unsigned_y b.bounded_y g.1 in
    let z = square d.z v.z u.unsigned_z b.bounded_z g.2 in
    (add_bounded (d.x ⊗ d.x ⊕ d.y ⊗ d.y) (d.z ⊗ d.z) (v.x ⊗ v.x ⊕ v.y ⊗ v.y) (v.z ⊗ v.z) k.0 g.2
    (add_bounded (d.x ⊗ d.x) (d.y ⊗ d.y) (v.x ⊗ v.x) (v.y ⊗ v.y) g.0 g.1 x y) z).upper
  where
    square : (d v : Float) → T (unsigned v) → Bounded d v → T (finite (v ⊗ v)) → Bounded (d ⊗ d) (v ⊗ v)
    square d v u b f = let g = mul_finite v v f in mul_bounded d d v v g.0 g.0 u u b b

-- one axis of the cross product
module _ (a b c d i j k l : Float) (f : T (finite (i ⊗ j ⊕ k ⊗ l))) (I : T (unsigned i)) (J : T (unsigned j)) (K : T (unsigned k)) (L : T (unsigned l)) where
  axis_bounded : Bounded a i → Bounded b j → Bounded c k → Bounded d l → Bounded (a ⊗ b ⊖ c ⊗ d) (i ⊗ j ⊕ k ⊗ l)
  axis_bounded A B C D =
      let g = add_finite (i ⊗ j) (k ⊗ l) f in
      let s = mul_finite i j g.0 in
      let t = mul_finite k l g.1 in
      sub_bounded (a ⊗ b) (c ⊗ d) (i ⊗ j) (k ⊗ l) g.0 g.1 (mul_bounded a b i j s.0 s.1 I J A B) (mul_bounded c d k l t.0 t.1 K L C D)

  axis_unsigned : T (unsigned (i ⊗ j ⊕ k ⊗ l))
  axis_unsigned =
      let g = add_finite (i ⊗ j) (k ⊗ l) f in
      let s = mul_finite i j g.0 in
      let t = mul_finite k l g.1 in
      add_unsigned (i ⊗ j) (k ⊗ l) (mul_unsigned i j s.0 s.1 I J) (mul_unsigned k l t.0 t.1 K L)

module _ (d e v w : Point3f) (k : Unsigned v) (l : Unsigned w) (f : Finite (cross_bound v w)) where
  cross_unsigned : Unsigned (cross_bound v w)
  unfolding cross_bound
  cross_unsigned = record {
    unsigned_x = axis_unsigned d.y e.z d.z e.y v.y w.z v.z w.y f.x_finite k.unsigned_y l.unsigned_z k.unsigned_z
        l.unsigned_y;
    unsigned_y = axis_unsigned d.z e.x d.x e.z v.z w.x v.x w.z f.y_finite k.unsigned_z l.unsigned_x k.unsigned_x
        l.unsigned_z;
    unsigned_z = axis_unsigned d.x e.y d.y e.x v.x w.y v.y w.x f.z_finite k.unsigned_x l.unsigned_y k.unsigned_y
        l.unsigned_x;
  }

  cross_bounds : Bounds d v → Bounds e w → Bounds (cross d e) (cross_bound v w)
  unfolding cross cross_bound
  cross_bounds b c = record {
    bounded_x = axis_bounded d.y e.z d.z e.y v.y w.z v.z w.y f.x_finite k.unsigned_y l.unsigned_z k.unsigned_z
        l.unsigned_y b.bounded_y c.bounded_z b.bounded_z c.bounded_y;
    bounded_y = axis_bounded d.z e.x d.x e.z v.z w.x v.x w.z f.y_finite k.unsigned_z l.unsigned_x k.unsigned_x
        l.unsigned_z b.bounded_z c.bounded_x b.bounded_x c.bounded_z;
    bounded_z = axis_bounded d.x e.y d.y e.x v.x w.y v.y w.x f.z_finite k.unsigned_x l.unsigned_y k.unsigned_y
        l.unsigned_x b.bounded_x c.bounded_y b.bounded_y c.bounded_x;
  }

-- ---- the area

pub area_bounded : (p1 p2 p3 v w : Point3f) (m : Float) → Unsigned v → Unsigned w → Bounds (difference p2 p1) v → Bounds (difference p3 p1) w
    → T (lt (area_bound v w) m) → T (lt (area p1 p2 p3) m)
unfolding area area_bound magnitude
area_bounded p1 p2 p3 v w m i j b c h =
    let x = cross (difference p2 p1) (difference p3 p1) in
    let y = cross_bound v w in
    let f = half_root_finite (magnitude_squared y) m h in
    let g = parts_finite y f in
    let l = magnitude_bounded x y (cross_unsigned (difference p2 p1) (difference p3 p1) v w i j g)
    (cross_bounds (difference p2 p1) (difference p3 p1) v w i j g b c) f in
    le_lt_trans (root (magnitude_squared x) ⊗ half) (root (magnitude_squared y) ⊗ half) m
    (half_root_monotone (magnitude_squared x) (magnitude_squared y) (magnitude_fits x) (magnitude_fits y)
    (magnitude_nonnegative x (le_left (magnitude_squared x) (magnitude_squared y) l)) l) h

pub area_limited : (p1 p2 p3 : Point3f) (m t : Float) → AreaLimit m t → T (le (cross_squared p1 p2 p3) t) → T (lt (area p1 p2 p3) m)
unfolding area magnitude cross_squared
area_limited p1 p2 p3 m t l h =
    let x = cross (difference p2 p1) (difference p3 p1) in
    l.below (magnitude_squared x) (magnitude_fits x) (magnitude_nonnegative x (le_left (magnitude_squared x) t h)) h

pub area_too_long : (p1 p2 p3 : Point3f) (r factor t : Float) → LargeLimit r factor t → T (le t (cross_squared p1 p2 p3)) → TooLong r (area p1 p2 p3) factor
unfolding area magnitude cross_squared
area_too_long p1 p2 p3 r factor t l h = let x = cross (difference p2 p1) (difference p3 p1) in l.long (magnitude_squared x) (magnitude_fits x) h

pub area_is : (p1 p2 p3 : Point3f) → area p1 p2 p3 ≡ root (cross_squared p1 p2 p3) ⊗ half
unfolding area magnitude cross_squared
area_is p1 p2 p3 = refl

pub cross_fits : (p1 p2 p3 : Point3f) → T (fits binary32 (cross_squared p1 p2 p3))
unfolding cross_squared
cross_fits p1 p2 p3 = magnitude_fits (cross (difference p2 p1) (difference p3 p1))

-- the points after the first in the other order
pub cross_squared_turned : (p1 p2 p3 : Point3f) → cross_squared p1 p2 p3 ≡ cross_squared p1 p3 p2
unfolding cross_squared magnitude_squared cross
cross_squared_turned p1 p2 p3 =
    let d = difference p2 p1 in
    let e = difference p3 p1 in
    rw (turned d.y e.z d.z e.y, turned d.z e.x d.x e.z, turned d.x e.y d.y e.x)
  where
    turned : (a b c d : Float) → (a ⊗ b ⊖ c ⊗ d) ⊗ (a ⊗ b ⊖ c ⊗ d) ≡ (d ⊗ c ⊖ b ⊗ a) ⊗ (d ⊗ c ⊖ b ⊗ a)
    turned a b c d =
        square_turned (a ⊗ b) (c ⊗ d)
        ∙ ap (λ (x : Float). (x ⊖ a ⊗ b) ⊗ (x ⊖ a ⊗ b)) (mul_commutative c d)
        ∙ ap (λ (x : Float). (d ⊗ c ⊖ x) ⊗ (d ⊗ c ⊖ x)) (mul_commutative a b)

-- ---- limits

pub limit_is : (m t : Float) → T (fits binary32 t) → T (lt (root t ⊗ half) m) → AreaLimit m t
limit_is m t f h = record { below = λ a g z k. le_lt_trans (root a ⊗ half) (root t ⊗ half) m (half_root_monotone a t g f z k) h }

pub no_limit : (m : Float) → AreaLimit m (neg (f32 0x3f800000))
no_limit m = record { below = λ a g z k. absurd (minus_one (le_trans (f32 0) a (neg (f32 0x3f800000)) z k)) }
  where
    minus_one : T (le (f32 0) (neg (f32 0x3f800000))) → ⊥
    minus_one h = unfold le neg of_bits in h
