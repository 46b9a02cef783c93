-- Triangles that are not acceptable: one whose area is below the least (`small_refused`), one with finite edges that
-- are `TooLong` for its area (`large_refused`), and any with finite edges where those of the least area are
-- (`long_refused`). What is too long for an area is for a larger one, so that one test gives a limit
-- (`large_limit_is`). That the edges are finite follows from their being near each other (`near_finite`,
-- `area_number`). Assumes nothing.
use mathlib.Core.Path.{◌≡◌, refl, subst}
use mathlib.Core.Bool.{Bool, true, false, not, cond}
use lib.Dec.{T, not_T}
use lib.Ieee.{Float, nan, inf, fin, binary32, lt, le, fits, is_nan, of_bits}
use lib.Ieee.Bits.{is_true, is_false}
use lib.Ieee.Fits.{mul-fits}
use lib.Ieee.Scale.{finite}
use Rattle.numbers.specs.Rounded.{f32, ◌⊖◌, ◌⊗◌, ◌⊘◌}
use Rattle.numbers.specs.Root.{root}
use Rattle.numbers.specs.Order.{minimum, maximum}
use Rattle.numbers.proofs.OrderLaws.{le_left, le_right, le_refl, lt_le, le_not_lt, not_lt_le, le_trans, lt_le_trans, le_lt_trans, finite_number, unsigned_le}
use Rattle.numbers.proofs.RootMonotone.{root_monotone, root_above}
use Rattle.numbers.proofs.SumOrder.{sub_number}
use Rattle.numbers.proofs.Bounded.{root_finite, product_finite}
use Rattle.numbers.proofs.Minimum.{minimum_le}
use Rattle.numbers.proofs.Maximum.{maximum_right, minimum_finite, maximum_finite}
use Rattle.numbers.proofs.AtLeastOne.{ratio_above, mul_above}
use Rattle.vector.specs.Vector.{difference, magnitude_squared, magnitude, cross, squared, distance}
use Rattle.vector.specs.Inner.Numbers.{Finite}
use Rattle.quality.specs.Measures.{half, one, tiny, least, largest, edge_ratio, measures, degenerate}
use Rattle.triangle.specs.Quality.{area, circumradius, quality, source_acceptable, acceptable}
use Rattle.triangle.proofs.Acceptance.{still_refused, edges_refused}
use Rattle.area_bounds.specs.Inner.AreaBound.{TooLong, LargeLimit}
use Rattle.vector.specs.declared.Point3f.{Point3f}
use Rattle.vector.proofs.Distances.{squared_fits, squared_unsigned, magnitude_unsigned}
use Rattle.area_bounds.proofs.AreaBound.{half_root_monotone, squares_finite, halved_number, magnitude_fits}

-- ---- too small

quality_area : (p1 p2 p3 : Point3f) → (quality p1 p2 p3).area ≡ area p1 p2 p3
unfolding quality degenerate measures
quality_area p1 p2 p3 = go (lt (area p1 p2 p3) tiny)
  where
    go : (b : Bool) → (cond b (degenerate (area p1 p2 p3))
        (measures (distance p2 p1) (distance p3 p2) (distance p1 p3) (area p1 p2 p3) (circumradius p1 p2 p3))).area ≡ area p1 p2 p3
    go true = refl
    go false = refl

pub small_refused : (p1 p2 p3 : Point3f) (r m threshold factor : Float) → T (lt (area p1 p2 p3) m) → acceptable (quality p1 p2 p3) r m threshold factor ≡ false
unfolding source_acceptable
small_refused p1 p2 p3 r m threshold factor h =
    still_refused (quality p1 p2 p3) r m threshold factor (rw (quality_area p1 p2 p3, is_true (lt (area p1 p2 p3) m) h))

-- ---- too long

tiny_positive : T (lt (f32 0) tiny)
unfolding lt of_bits
tiny_positive = tt

pub too_long_is : (r m factor : Float) → T (fits binary32 m) → T (le tiny m) → T (lt (r ⊗ factor) (root m)) → TooLong r m factor
too_long_is r m factor f t h = record {
  some = t;
  long = λ ratio a g i j.
      let z = lt_le_trans (f32 0) tiny m tiny_positive t in
      let k = root_above a g (lt_le_trans (f32 0) m a z j) in
      lt_le_trans (r ⊗ factor) (root a) (ratio ⊗ root a)
      (lt_le_trans (r ⊗ factor) (root m) (root a) h (root_monotone m a f g (lt_le (f32 0) m z) j))
      (mul_above ratio (root a) k.1 i k.0);
}

edge_ratio_above : (a b c : Float) → T (finite a) → T (finite b) → T (finite c) → T (le one (edge_ratio a b c))
unfolding edge_ratio
edge_ratio_above a b c f g h = go (lt tiny (least a b c)) refl
  where
    between : T (le (least a b c) (largest a b c))
    between = unfold least largest in le_trans (minimum (minimum a b) c) c (maximum (maximum a b) c) (minimum_le (minimum a b) c (finite_number c h))
        (maximum_right (maximum a b) c (finite_number c h))

    shortest : T (finite (least a b c))
    shortest = unfold least in minimum_finite (minimum a b) c (minimum_finite a b f g) h

    longest : T (finite (largest a b c))
    longest = unfold largest in maximum_finite (maximum a b) c (maximum_finite a b f g) h

    go : (t : Bool) → lt tiny (least a b c) ≡ t → T (le one (cond t (largest a b c ⊘ least a b c) (inf false)))
    go true e = ratio_above (largest a b c) (least a b c) longest shortest
        (lt_le_trans (f32 0) tiny (least a b c) tiny_positive (lt_le tiny (least a b c) (rw e tt))) between
    go false e = unfold le of_bits in tt

pub too_long_above : (r m s factor : Float) → T (le m s) → TooLong r m factor → TooLong r s factor
too_long_above r m s factor h l = record {
  some = le_trans tiny m s l.some h;
  long = λ ratio a f i j. l.long ratio a f i (le_trans m s a h j);
}

measures_refused : (a b c s t r m threshold factor : Float) → T (finite a) → T (finite b) → T (finite c) → T (fits binary32 s) → TooLong r s factor
    → acceptable (measures a b c s t) r m threshold factor ≡ false
unfolding measures
measures_refused a b c s t r m threshold factor f g h i l =
    edges_refused (measures a b c s t) r m threshold factor
    (is_true (lt (r ⊗ factor) (edge_ratio a b c ⊗ root s))
    (l.long (edge_ratio a b c) s i (edge_ratio_above a b c f g h) (le_refl s (le_right tiny s l.some))))

module _ (p1 p2 p3 : Point3f) (r m threshold factor : Float) (f : T (finite (distance p2 p1))) (g : T (finite (distance p3 p2)))
    (h : T (finite (distance p1 p3))) where
  pub large_refused : TooLong r (area p1 p2 p3) factor → acceptable (quality p1 p2 p3) r m threshold factor ≡ false
  unfolding quality
  large_refused l =
      let some = is_false (lt (area p1 p2 p3) tiny) (not_T (lt (area p1 p2 p3) tiny) (λ i. le_not_lt tiny (area p1 p2 p3) l.some i)) in
      rw some
      (measures_refused (distance p2 p1) (distance p3 p2) (distance p1 p3) (area p1 p2 p3) (circumradius p1 p2 p3) r m threshold factor f g h
      (unfold area in mul-fits binary32 (magnitude (cross (difference p2 p1) (difference p3 p1))) half) l)

  pub long_refused : T (not (is_nan (area p1 p2 p3))) → TooLong r m factor → acceptable (quality p1 p2 p3) r m threshold factor ≡ false
  long_refused n l = go (lt (area p1 p2 p3) m) refl
    where
      go : (b : Bool) → lt (area p1 p2 p3) m ≡ b → acceptable (quality p1 p2 p3) r m threshold factor ≡ false
      go true e = small_refused p1 p2 p3 r m threshold factor (rw e tt)
      go false e = large_refused (too_long_above r m (area p1 p2 p3) factor (not_lt_le (area p1 p2 p3) m n (le_right tiny m l.some) (rw e tt)) l)

-- ---- limits

pub large_limit_is : (r factor t : Float) → T (fits binary32 t) → T (le (f32 0) t) → T (lt (r ⊗ f32 0x40000000) (inf false)) → TooLong r (root t ⊗ half) factor
    → LargeLimit r factor t
large_limit_is r factor t f z b l = record {
  bounded = λ a h. b;
  long = λ a g h. too_long_above r (root t ⊗ half) (root a ⊗ half) factor (half_root_monotone t a f g z h) l;
}

pub no_large_limit : (r factor : Float) → LargeLimit r factor nan
no_large_limit r factor = record { bounded = λ a h. absurd (none a h); long = λ a g h. absurd (none a h) }
  where
    none : (a : Float) → T (le nan a) → ⊥
    none a h = unfold is_nan in le_left nan a h

-- ---- edges of points that are near each other

root_nonnegative : (x : Float) → T (fits binary32 x) → T (le (f32 0) x) → T (le (f32 0) (root x))
root_nonnegative x f z = subst (λ (y : Float). T (le y (root x))) zero (root_monotone (f32 0) x held f still z)
  where
    zero : root (f32 0) ≡ f32 0
    zero = unfold root of_bits in refl

    held : T (fits binary32 (f32 0))
    held = unfold fits of_bits in tt

    still : T (le (f32 0) (f32 0))
    still = unfold le of_bits in tt

between_finite : (x : Float) → T (le (f32 0) x) → T (lt x (inf false)) → T (finite x)
unfolding le lt of_bits
between_finite nan z h = h
between_finite (inf true) z h = z
between_finite (inf false) z h = h
between_finite (fin s m e) z h = tt

pub near_finite : (p q : Point3f) (r : Float) → Finite p → Finite q → T (lt r (inf false)) → T (not (lt r (distance p q))) → T (finite (distance p q))
unfolding distance
near_finite p q r f g h k =
    let z = root_nonnegative (squared p q) (squared_fits p q) (unsigned_le (squared p q) (squared_unsigned p q f g)) in
    let l = not_lt_le r (root (squared p q)) (le_left r (inf false) (lt_le r (inf false) h)) (le_right (f32 0) (root (squared p q)) z) k in
    between_finite (root (squared p q)) z (le_lt_trans (root (squared p q)) r (inf false) l h)

-- one axis of the cross product
axis_number : (a b c d : Float) → T (finite (a ⊗ a)) → T (finite (b ⊗ b)) → T (finite (c ⊗ c)) → T (finite (d ⊗ d)) → T (not (is_nan (a ⊗ b ⊖ c ⊗ d)))
axis_number a b c d f g h i = sub_number (a ⊗ b) (c ⊗ d) (product_finite a b f g) (product_finite c d h i)

pub area_number : (p1 p2 p3 : Point3f) → T (finite (distance p2 p1)) → T (finite (distance p3 p1)) → T (not (is_nan (area p1 p2 p3)))
unfolding area magnitude distance squared
area_number p1 p2 p3 f g =
    let d = difference p2 p1 in
    let e = difference p3 p1 in
    let i = squares_finite d (root_finite (magnitude_squared d) f) in
    let j = squares_finite e (root_finite (magnitude_squared e) g) in
    let u = magnitude_unsigned (cross d e) (unfold cross in axis_number d.y e.z d.z e.y i.1 j.2 i.2 j.1)
    (unfold cross in axis_number d.z e.x d.x e.z i.2 j.0 i.0 j.2)
    (unfold cross in axis_number d.x e.y d.y e.x i.0 j.1 i.1 j.0) in
    halved_number (root (magnitude_squared (cross d e)))
    (le_right (f32 0) (root (magnitude_squared (cross d e)))
    (root_nonnegative (magnitude_squared (cross d e)) (magnitude_fits (cross d e)) (unsigned_le (magnitude_squared (cross d e)) u)))
