-- What is thin at the ends of intervals is so between them (`thin_within`); triangles that are thin and have two small
-- angles (`slivers_along`), or are thin needles (`needles_along`), have a low score in each order, whichever edge is
-- the longest or the shortest (`slivers_turned`, `slivers_swapped`). Assumes nothing.
use mathlib.Core.Path.{◌≡◌, ◌∙◌}
use lib.Dec.{T}
use lib.Ieee.{Float, binary32, lt, le, fits}
use Rattle.numbers.specs.Rounded.{f32, ◌⊗◌}
use Rattle.numbers.specs.Root.{root}
use Rattle.numbers.specs.Order.{maximum}
use Rattle.numbers.proofs.OrderLaws.{le_right, le_trans}
use Rattle.numbers.proofs.Maximum.{maximum_left}
use Rattle.vector.specs.Vector.{squared, distance}
use Rattle.vector.specs.declared.Point3f.{Point3f}
use Rattle.vector.proofs.Distances.{squared_fits, squared_turned, distance_is, distance_turned}
use Rattle.bounds.specs.declared.Interval.{Interval}
use Rattle.intervals.specs.Inner.Enclosed.{IntervalHolds, Joined}
use Rattle.quality.specs.Measures.{half}
use Rattle.quality.specs.Inner.Shape.{shape_of, quality_of}
use Rattle.triangle.specs.Quality.{quality}
use Rattle.triangle.proofs.Quality.{quality_is}
use Rattle.area_bounds.specs.Inner.AreaBound.{cross_squared}
use Rattle.area_bounds.proofs.AreaBound.{area_is, cross_fits, cross_squared_turned}
use Rattle.six_orders.specs.Inner.SixOrders.{InOrder, abc, acb, bac, bca, cab, cba}
use Rattle.thin.specs.Inner.Thin.{ThinLimit, AllThin, LongerThan, ThinUpTo}
use Rattle.thin.proofs.Thin.{not_below}
use Rattle.slivers.specs.Inner.Slivers.{SmallAngles}
use Rattle.cosines.specs.Inner.Cosine.{NarrowAngle, AtLeast}
use Rattle.needle_angles.specs.declared.NeedleClass.{NeedleClass}
use Rattle.needle_angles.specs.Inner.NeedleAngles.{OfClass}
use Rattle.needle_limits.specs.Inner.Needles.{ClassLimit}
use Rattle.sliver_filters.specs.declared.SliverFilter.{SliverFilter}
use Rattle.sliver_filters.specs.Inner.SliversWithin.{Filtering, HeldIn, ThinWithin, TriangleWithin, LowEach, SliversWithin}

-- ---- between the ends

longer : {i : Interval} {x : Float} → T (le i.hi (f32 0x4c800000)) → HeldIn i x → LongerThan i.lo x
longer {i} {x} h g = record { held = g.held; above = g.inside.least; high = le_trans x i.hi (f32 0x4c800000) g.inside.most h }

pub thin_within : (a b c : Interval) (cross limit d : Float) {m : Float} → m ≡ maximum cross d → T (le a.hi (f32 0x4c800000))
    → T (le b.hi (f32 0x4c800000)) → T (le c.hi (f32 0x4c800000)) → ThinUpTo limit a.lo b.lo c.lo m → ThinWithin limit a b c cross
thin_within a b c cross limit d {m} em ha hb hc h = record {
  thin =
      λ u v w x gu gv gw f k.
      h.longer u v w x (longer ha gu) (longer hb gv) (longer hc gw) f
      (not_below m x (λ n. le_trans x cross m k (rw em (maximum_left cross d (le_right x cross k)))));
}

-- ---- one triangle

held_in : {i : Interval} (p q : Point3f) → IntervalHolds i (squared p q) → HeldIn i (squared p q)
held_in p q h = record { held = squared_fits p q; inside = h }

turned_in : {i : Interval} (p q : Point3f) → IntervalHolds i (squared p q) → IntervalHolds i (squared q p)
turned_in p q h = rw (squared_turned q p) h

-- thin triangles whose score is low with such an aspect ratio have a low score in each order of their points
module _ {a b c : Interval} {cross limit α : Float} (threshold : Float) (slim : ThinWithin limit a b c cross) (thins : ThinLimit α limit) (p q t : Point3f)
    (h : TriangleWithin a b c cross p q t)
    (refused : (u v w area : Float) → InOrder (root (squared p q)) (root (squared q t)) (root (squared p t)) u v w
    → T (le (shape_of u v w area).aspect_ratio α) → T (lt (quality_of u v w area).quality_score threshold)) where
  thin_at : (x : Float) → T (fits binary32 x) → T (le x cross) → AllThin limit (squared p q) (squared q t) (squared p t) x
  thin_at x = slim.thin (squared p q) (squared q t) (squared p t) x (held_in p q h.pq) (held_in q t h.qt) (held_in p t h.pt)

  low_at : (x y z : Point3f) {u v w : Float} → distance y x ≡ u → distance z y ≡ v → distance x z ≡ w
      → InOrder (root (squared p q)) (root (squared q t)) (root (squared p t)) u v w
      → T (le (shape_of u v w (root (cross_squared x y z) ⊗ half)).aspect_ratio α) → T (lt (quality x y z).quality_score threshold)
  low_at x y z {u} {v} {w} eu ev ew o k = rw (← quality_is x y z, eu, ev, ew, area_is x y z) (refused u v w (root (cross_squared x y z) ⊗ half) o k)

  -- the lengths, either way
  back : (x y : Point3f) → distance x y ≡ root (squared y x)
  back x y = distance_turned x y ∙ distance_is y x

  low_each : LowEach threshold p q t
  low_each =
      let i = thin_at (cross_squared p q t) (cross_fits p q t) h.at_p in
      let j = thin_at (cross_squared q p t) (cross_fits q p t) h.at_q in
      let k = thin_at (cross_squared t p q) (cross_fits t p q) h.at_t in
      record {
        pqt = low_at p q t (back q p) (back t q) (distance_is p t) abc (i.abc.below α thins);
        ptq = low_at p t q (back t p) (distance_is q t) (distance_is p q) cba (rw (cross_squared_turned p t q) (i.cba.below α thins));
        qpt = low_at q p t (distance_is p q) (back t p) (distance_is q t) acb (j.acb.below α thins);
        qtp = low_at q t p (back t q) (distance_is p t) (back q p) bca (rw (cross_squared_turned q t p) (j.bca.below α thins));
        tpq = low_at t p q (distance_is p t) (back q p) (back t q) cab (k.cab.below α thins);
        tqp = low_at t q p (distance_is q t) (distance_is p q) (back t p) bac (rw (cross_squared_turned t q p) (k.bac.below α thins));
      }

-- ---- slivers

module _ (l : SliverFilter) (a b c : Interval) (cross : Float) (at_first : NarrowAngle l.narrow a c b cross) (at_last : NarrowAngle l.narrow c b a cross)
    (slim : ThinWithin l.thin a b c cross) where
  module _ (threshold : Float) (g : Filtering threshold l) (p q t : Point3f) (h : TriangleWithin a b c cross p q t) where
    abbrev A : Float
    A = root (squared p q)

    abbrev B : Float
    B = root (squared q t)

    abbrev C : Float
    C = root (squared p t)

    first_small : AtLeast g.cosine B A C
    first_small = at_first.cosine g.cosine g.narrows p q t h.p_held h.q_held h.t_held h.pq h.pt h.qt h.at_p

    last_small : AtLeast g.cosine A C B
    last_small = rw (squared_turned p t, squared_turned q t)
        (at_last.cosine g.cosine g.narrows t p q h.t_held h.p_held h.q_held (turned_in p t h.pt) (turned_in q t h.qt) h.pq h.at_t)

    small : SmallAngles g.cosine A B C
    small = record { abc = last_small.second; acb = last_small.first; bac = first_small.first; bca = first_small.second }

    sliver_each : LowEach threshold p q t
    sliver_each = low_each threshold slim g.thins p q t h (λ u v w area. g.refuses.below A B C u v w area small)

  pub slivers_along : SliversWithin l a b c cross
  slivers_along = record { low = sliver_each }

-- ---- needles

pub needles_along : (l : SliverFilter) (a b c : Interval) (cross : Float) {r : Interval} {k : NeedleClass} {limit : Float} → Joined b c r
    → OfClass a.lo a.hi r.lo r.hi k → ClassLimit l.needles k limit → ThinWithin limit a b c cross → SliversWithin l a b c cross
needles_along l a b c cross {r} joined class limits slim = record {
  low =
      λ threshold g p q t h.
      let x = squared p q in
      let y = squared q t in
      let z = squared p t in
      let n = limits.limits threshold g.needles in
      let o = joined.holds y z h.qt h.pt in
      let angle = class.angle.bound x y z (squared_fits p q) (squared_fits q t) (squared_fits p t) h.pq.least h.pq.most o.0.least o.0.most
      o.1.least o.1.most in
      let ratio = class.ratio.bound x y z (squared_fits p q) (squared_fits q t) (squared_fits p t) h.pq.least h.pq.most o.0.least o.0.most
      o.1.least o.1.most in
      low_each threshold slim n.thins p q t h (λ u v w area. n.refuses.below (root x) (root y) (root z) u v w area angle ratio);
}

-- ---- with another edge as the longest or the shortest

-- Q T
pub slivers_turned : {l : SliverFilter} {a b c : Interval} {cross : Float} → SliversWithin l a c b cross → SliversWithin l a b c cross
slivers_turned {l} {a} {b} {c} {cross} s = record {
  low =
      λ threshold g p q t h.
      let k = s.low threshold g q p t
      (record {
        p_held = h.q_held;
        q_held = h.p_held;
        t_held = h.t_held;
        pq = turned_in p q
            h.pq;
        qt = h.pt;
        pt = h.qt;
        at_p = h.at_q;
        at_q = h.at_p;
        at_t = rw (cross_squared_turned t q p) h.at_t;
      }) in
      record { pqt = k.qpt; ptq = k.qtp; qpt = k.pqt; qtp = k.ptq; tpq = k.tqp; tqp = k.tpq };
}

-- P Q
pub slivers_swapped : {l : SliverFilter} {a b c : Interval} {cross : Float} → SliversWithin l c b a cross → SliversWithin l a b c cross
slivers_swapped {l} {a} {b} {c} {cross} s = record {
  low =
      λ threshold g p q t h.
      let k = s.low threshold g p t q
      (record {
        p_held = h.p_held;
        q_held = h.t_held;
        t_held = h.q_held;
        pq = h.pt;
        qt = turned_in q t h.qt;
        pt = h.pq;
        at_p = rw
            (cross_squared_turned p t q) h.at_p;
        at_q = h.at_t;
        at_t = h.at_q;
      }) in
      record { pqt = k.ptq; ptq = k.pqt; qpt = k.tpq; qtp = k.tqp; tpq = k.qpt; tqp = k.qtp };
}
