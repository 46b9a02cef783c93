-- Three points whose squares are those of slivers are one (`sliver_is`), the score of others is out of reach
-- (`low_is`), and the settings refuse both in each order (`sliver_each`, `low_each`). Assumes nothing.
use mathlib.Core.Path.{◌≡◌, subst}
use mathlib.Core.Bool.{false, ◌&&◌}
use lib.Dec.{T}
use lib.Ieee.{Float, lt, le}
use lib.Ieee.Bits.{is_true}
use lib.Ieee.Fits.{and_l, and_r}
use Rattle.numbers.proofs.OrderLaws.{le_left, le_refl}
use Rattle.vector.specs.Vector.{squared}
use Rattle.vector.specs.declared.Point3f.{Point3f}
use Rattle.bounds.specs.declared.Interval.{Interval}
use Rattle.intervals.specs.Inner.Enclosed.{IntervalHolds}
use Rattle.quality.specs.declared.TriangleQuality.{TriangleQuality}
use Rattle.triangle.specs.Quality.{quality}
use Rattle.triangle.proofs.Acceptance.{low_refused}
use Rattle.area_bounds.specs.Inner.AreaBound.{cross_squared}
use Rattle.cosines.specs.Inner.Cosine.{Coordinates}
use Rattle.sliver_filters.specs.Inner.SliversWithin.{SliversWithin, LowEach}
use Rattle.euler.specs.Inner.OutOfReach.{is_out_of_reach, OutOfReach}
use Rattle.decisions.specs.declared.Scene.{Scene}
use Rattle.decisions.specs.Decisions.{accepts}
use Rattle.filters.specs.declared.Limits.{Limits}
use Rattle.filters.specs.Inner.Refused.{Limiting, RefusedEach, Only, Sliver}

only_holds : {i : Interval} (x k : Float) {y : Float} → x ≡ y → Only x i → T (le x k) → IntervalHolds i y
only_holds {i} x k e o h = subst (IntervalHolds i) e (o.own (le_refl x (le_left x k h)))

pub sliver_is : {l : Limits} {p q t : Point3f} {x y z a b c m : Float} {i j n : Interval} (k : Float) → x ≡ squared p q → y ≡ squared p t → z ≡ squared q t → a
    ≡ cross_squared p q t → b ≡ cross_squared q p t → c ≡ cross_squared t p q
    → Coordinates p × Coordinates q × Coordinates t → T (le x k && (le y k && le z k)) → T (le a m && (le b m && le c m)) → Only x i → Only z j → Only y n
    → SliversWithin l.slivers i j n m → Sliver l p q t
sliver_is {l} {p} {q} {t} {x} {y} {z} {a} {b} {c} {m} k ex ey ez ea eb ec f g h ox oz oy s =
    let u = and_r (le x k) _ g in
    let v = and_r (le a m) _ h in
    record {
      low =
          λ threshold d.
          s.low threshold d p q t
          (record {
            p_held = f.0;
            q_held = f.1;
            t_held = f.2;
            pq = only_holds x k ex ox (and_l (le x k) _ g);
            qt = only_holds z k ez oz (and_r (le y k) _ u);
            pt = only_holds y k ey oy (and_l (le y k) _ u);
            at_p = rw (← ea) (and_l (le a m) _ h);
            at_q = rw (← eb) (and_l (le b m) _ v);
            at_t = rw (← ec) (and_r (le b m) _ v);
          });
    }

pub low_is : {threshold : Float} {p q t : Point3f} {x y z : Float} {i j n : Interval} (k : Float) → T (is_out_of_reach threshold) → x ≡ squared p q → y
    ≡ squared p t → z ≡ squared q t → Coordinates p × Coordinates q × Coordinates t → T (le x k && (le y k && le z k))
    → Only x i → Only z j → Only y n → OutOfReach i j n → LowEach threshold p q t
low_is {threshold} {p} {q} {t} {x} {y} {z} k b ex ey ez f g ox oz oy s =
    let u = and_r (le x k) _ g in
    s.low threshold b p q t f.0 f.1 f.2 (only_holds x k ex ox (and_l (le x k) _ g)) (only_holds z k ez oz (and_r (le y k) _ u))
    (only_holds y k ey oy (and_l (le y k) _ u))

low_accepts : (s : Scene) (r : Float) (q : TriangleQuality) → T (lt q.quality_score s.quality_threshold) → accepts s r q ≡ false
unfolding accepts
low_accepts s r q h =
    low_refused q r s.min_triangle_area s.quality_threshold s.max_edge_factor (is_true (lt q.quality_score s.quality_threshold) h)

pub low_each : {p q t : Point3f} (s : Scene) (r : Float) → LowEach s.quality_threshold p q t → RefusedEach s r p q t
low_each {p} {q} {t} s r k = record {
  pqt = low_accepts s r (quality p q t) k.pqt;
  ptq = low_accepts s r (quality p t q) k.ptq;
  qpt = low_accepts s r (quality q p t) k.qpt;
  qtp = low_accepts s r (quality q t p) k.qtp;
  tpq = low_accepts s r (quality t p q) k.tpq;
  tqp = low_accepts s r (quality t q p) k.tqp;
}

pub sliver_each : {s : Scene} {r : Float} {l : Limits} {p q t : Point3f} → Limiting s r l → Sliver l p q t → RefusedEach s r p q t
sliver_each {s} {r} g h = low_each s r (h.low s.quality_threshold g.filters)
