-- Three points whose score is too low in every order, by the largest of their areas (`low_all`). Assumes nothing.
use mathlib.Core.Path.{◌≡◌}
use mathlib.Core.Bool.{false, ◌&&◌}
use lib.Dec.{T}
use lib.Ieee.{Float, binary32, lt, le, fits}
use lib.Ieee.Bits.{is_true}
use lib.Ieee.Fits.{and_l, and_r}
use Rattle.numbers.specs.Rounded.{◌⊗◌}
use Rattle.numbers.specs.Root.{root}
use Rattle.numbers.specs.Order.{maximum}
use Rattle.numbers.proofs.OrderLaws.{le_left}
use Rattle.vector.specs.Vector.{difference, cross, magnitude, magnitude_squared}
use Rattle.vector.specs.declared.Point3f.{Point3f}
use Rattle.vector.proofs.Distances.{magnitude_nonnegative}
use Rattle.quality.specs.Measures.{half}
use Rattle.quality.specs.Inner.Shape.{quality_of}
use Rattle.triangle.specs.Quality.{area}
use Rattle.triangle.proofs.Acceptance.{low_refused}
use Rattle.area_bounds.specs.Inner.AreaBound.{cross_squared}
use Rattle.area_bounds.proofs.AreaBound.{magnitude_fits, cross_fits, half_root_monotone}
use Rattle.six_orders.specs.Inner.SixOrders.{InOrder, abc, acb, bac, bca, cab, cba, AllBelow}
use Rattle.six_orders.proofs.Positive.{maximum_either}
use Rattle.decisions.specs.declared.Scene.{Scene}
use Rattle.decisions.specs.Decisions.{accepts}
use Rattle.three_points.specs.Inner.Judged.{RefusedAll}

area_most : (p q t : Point3f) (m : Float) → T (fits binary32 m) → T (le (cross_squared p q t) m) → T (le (area p q t) (root m ⊗ half))
unfolding area magnitude cross_squared
area_most p q t m f h =
    let x = cross (difference q p) (difference t p) in
    half_root_monotone (magnitude_squared x) m (magnitude_fits x) f (magnitude_nonnegative x (le_left (magnitude_squared x) m h)) h

module _ (s : Scene) {a b c most : Float} (low : AllBelow s.quality_threshold most a b c) where
  refused : (u v w x r : Float) → InOrder a b c u v w → T (le x most) → accepts s r (quality_of u v w x) ≡ false
  unfolding accepts
  refused u v w x r o h =
      let q = quality_of u v w x in
      low_refused q r s.min_triangle_area s.quality_threshold s.max_edge_factor
      (is_true (lt q.quality_score s.quality_threshold) (low.below u v w x o h))

  refused_all : (x y z : Float) → T (le x most) → T (le y most) → T (le z most) → RefusedAll s a b c x y z
  refused_all x y z f g h = record {
    first = λ r. record { forward = refused a b c x r abc f; backward = refused c b a x r cba f };
    second = λ r. record { forward = refused a c b y r acb g; backward = refused b c a y r bca g };
    third = λ r. record { forward = refused c a b z r cab h; backward = refused b a c z r bac h };
  }

pub low_all : (s : Scene) (a b c : Float) (p q t : Point3f) {x y z d m n : Float} → x ≡ cross_squared p q t → y ≡ cross_squared q p t → z ≡ cross_squared t p q → d
    ≡ maximum x y → m ≡ maximum d z → n ≡ root m
    → T (le x m && (le y m && le z m)) → AllBelow s.quality_threshold (n ⊗ half) a b c → RefusedAll s a b c (area p q t) (area q p t) (area t p q)
low_all s a b c p q t {x} {y} {z} {d} {m} {n} ex ey ez ed em en h low =
    let k = and_r (le x m) _ h in
    refused_all s low (area p q t) (area q p t) (area t p q) (rw en (area_most p q t m f (rw (← ex) (and_l (le x m) _ h))))
    (rw en (area_most q p t m f (rw (← ey) (and_l (le y m) _ k)))) (rw en (area_most t p q m f (rw (← ez) (and_r (le y m) _ k))))
  where
    P : Float → Type 0
    P v = T (fits binary32 v)

    f : T (fits binary32 m)
    f = rw (em, ed) (maximum_either P (maximum x y) z (maximum_either P x y (rw ex (cross_fits p q t)) (rw ey (cross_fits q p t))) (rw ez (cross_fits t p q)))
