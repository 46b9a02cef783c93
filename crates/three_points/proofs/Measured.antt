-- Three points that were measured: lengths, and areas by the first point, serve both orders of the other two. Assumes
-- nothing.
use Prim.Native.Nat.{ℕ}
use mathlib.Core.Path.{◌≡◌, sym, ap, ◌∙◌}
use mathlib.Core.Bool.{false}
use mathlib.Core.List.{List}
use lib.Ieee.{Float}
use Rattle.numbers.specs.Rounded.{◌⊗◌}
use Rattle.numbers.specs.Root.{root}
use Rattle.vector.specs.Vector.{distance, magnitude}
use Rattle.vector.specs.declared.Point3f.{Point3f}
use Rattle.vector.proofs.Distances.{distance_turned}
use Rattle.quality.specs.Measures.{half}
use Rattle.quality.specs.Inner.Shape.{quality_of}
use Rattle.triangle.specs.Quality.{area, quality}
use Rattle.triangle.proofs.Quality.{quality_is}
use Rattle.area_bounds.specs.Inner.AreaBound.{cross_squared}
use Rattle.area_bounds.proofs.AreaBound.{cross_squared_turned}
use Rattle.points.specs.Points.{point_at}
use Rattle.decisions.specs.declared.Scene.{Scene}
use Rattle.decisions.specs.Decisions.{is_close, accepts, quality_at}
use Rattle.decisions.specs.Inner.Completes.{completes}
use Rattle.filters.specs.Inner.Refused.{RefusedEach}
use Rattle.three_points.specs.Inner.Judged.{NoSeed, Seedless, RefusedBoth}
use Rattle.lists.proofs.Bools.{and_false}

-- the area does not depend on the order of the points after the first
area_turned : (p q t : Point3f) → area p q t ≡ area p t q
unfolding area magnitude cross_squared
area_turned p q t = ap (λ (x : Float). root x ⊗ half) (cross_squared_turned p q t)

off : (s : Scene) (pts : List Float) (r : Float) (i j k : ℕ) → accepts s r (quality_at pts i j k) ≡ false → completes s pts r i j k ≡ false
unfolding completes
off s pts r i j k h = rw (h, and_false (is_close pts r j k), and_false (is_close pts r i k))

module _ (p q t : Point3f) {a b c x : Float} (ea : a ≡ distance q p) (eb : b ≡ distance t q) (ec : c ≡ distance p t) (ex : x ≡ area p q t) where
  forward_is : quality_of a b c x ≡ quality p q t
  forward_is = rw (ea, eb, ec, ex) (quality_is p q t)

  backward_is : quality_of c b a x ≡ quality p t q
  backward_is =
      let ec' : c ≡ distance t p = ec ∙ distance_turned p t in
      let eb' : b ≡ distance q t = eb ∙ distance_turned t q in
      let ea' : a ≡ distance p q = ea ∙ distance_turned q p in
      let ex' : x ≡ area p t q = ex ∙ area_turned p q t in
      rw (ec', eb', ea', ex') (quality_is p t q)

  module _ (s : Scene) (pts : List Float) (r : Float) (i j k : ℕ) (ep : p ≡ point_at pts i) (eq : q ≡ point_at pts j) (et : t ≡ point_at pts k) where
    at_forward : quality p q t ≡ quality_at pts i j k
    unfolding quality_at
    at_forward = cc

    at_backward : quality p t q ≡ quality_at pts i k j
    unfolding quality_at
    at_backward = cc

    measured_no_seed : RefusedBoth s r a b c x → NoSeed s pts r i j k
    measured_no_seed h = record {
      forward = λ d. off s pts r i j k (ap (accepts s r) (sym (forward_is ∙ at_forward)) ∙ h.forward);
      backward = λ d. off s pts r i k j (ap (accepts s r) (sym (backward_is ∙ at_backward)) ∙ h.backward);
    }

-- whichever of them comes first
module _ (p q t : Point3f) {a b c x y z : Float} (ea : a ≡ distance q p) (eb : b ≡ distance t q) (ec : c ≡ distance p t) (ex : x ≡ area p q t)
    (ey : y ≡ area q p t) (ez : z ≡ area t p q)
    (s : Scene) (pts : List Float) (r : Float) (i j k : ℕ) (ep : p ≡ point_at pts i) (eq : q ≡ point_at pts j) (et : t ≡ point_at pts k) where
  pub measured_seedless : RefusedBoth s r a b c x → RefusedBoth s r a c b y → RefusedBoth s r c a b z → Seedless s pts r i j k
  measured_seedless f g h = record {
    first = measured_no_seed p q t ea eb ec ex s pts r i j k ep eq et f;
    second = measured_no_seed q p t (ea ∙ distance_turned q p) (ec ∙ distance_turned p t) (eb ∙ distance_turned t q) ey s pts r j i k eq ep et g;
    third = measured_no_seed t p q ec ea eb ez s pts r k i j et ep eq h;
  }

-- ---- refused in each order

pub each_seedless : {s : Scene} {pts : List Float} {r : Float} {i j k : ℕ} → RefusedEach s r (point_at pts i) (point_at pts j) (point_at pts k)
    → Seedless s pts r i j k
unfolding quality_at
each_seedless {s} {pts} {r} {i} {j} {k} h = record {
  first = record { forward = λ d. off s pts r i j k h.pqt; backward = λ d. off s pts r i k j h.ptq };
  second = record { forward = λ d. off s pts r j i k h.qpt; backward = λ d. off s pts r j k i h.qtp };
  third = record { forward = λ d. off s pts r k i j h.tpq; backward = λ d. off s pts r k j i h.tqp };
}
