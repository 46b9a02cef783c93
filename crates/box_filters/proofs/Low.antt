-- Scores below a threshold: by the roots of the ends (`low_by`), and so in each order of a point and of points in two
-- boxes (`low_each`). Assumes nothing.
use mathlib.Core.Path.{◌≡◌}
use mathlib.Core.Bool.{false, ◌&&◌}
use lib.Dec.{T}
use lib.Ieee.{Float, binary32, le, fits, of_bits}
use lib.Ieee.Bits.{is_true}
use lib.Ieee.Fits.{and_l, and_r}
use lib.Ieee.Scale.{finite}
use Rattle.numbers.specs.Order.{minimum}
use Rattle.numbers.specs.Rounded.{f32, ◌⊗◌}
use Rattle.numbers.specs.Root.{root}
use Rattle.numbers.proofs.OrderLaws.{le_left, le_trans}
use Rattle.numbers.proofs.Minimum.{minimum_either}
use Rattle.numbers.proofs.RootMonotone.{root_monotone}
use Rattle.vector.specs.Vector.{difference, cross, squared, distance}
use Rattle.vector.specs.Inner.Numbers.{Finite}
use Rattle.vector.specs.declared.Point3f.{Point3f}
use Rattle.vector.proofs.Distances.{squared_fits, squared_turned, distance_is, magnitude_nonnegative}
use Rattle.quality.specs.Measures.{half}
use Rattle.triangle.specs.Quality.{area, quality}
use Rattle.triangle.proofs.Quality.{quality_is}
use Rattle.triangle.proofs.Acceptance.{low_refused}
use Rattle.bounds.specs.declared.Bounds.{Bounds}
use Rattle.bounds.specs.declared.Interval.{Interval}
use Rattle.bounds.specs.Inner.Within.{within}
use Rattle.area_bounds.specs.Inner.AreaBound.{cross_squared}
use Rattle.area_bounds.proofs.AreaBound.{half_root_monotone, cross_squared_turned}
use Rattle.intervals.proofs.Ends.{finite_between}
use Rattle.six_orders.specs.Inner.SixOrders.{InOrder, abc, acb, bac, bca, cab, cba, OneUpTo, first, second, third, AllBelow, AllBelowFrom}
use Rattle.decisions.specs.declared.Scene.{Scene}
use Rattle.decisions.specs.Decisions.{accepts}
use Rattle.filters.specs.Inner.Refused.{RefusedEach}
use Rattle.area_bounds.proofs.AreaBound.{area_is, cross_fits}
use Rattle.box_filters.specs.declared.Edges.{Edges}
use Rattle.box_filters.specs.Inner.RefusedWithin.{EdgesOf, Points, AreasOf}
use Rattle.box_filters.specs.Inner.LowBy.{SquareIn, AnglesWithin, LowBy}
use Rattle.box_filters.proofs.Triangles.{to_q, to_t, from_q, edges_held, areas_of}

-- ---- by roots of ends

record RootIn (i : Interval) (a : Float) : Type 0 where
  low : T (le (root i.lo) (root a))
  high : T (le (root a) (root i.hi))
  root_finite : T (finite (root a))

root_in : (i : Interval) (a : Float) → SquareIn i a → RootIn i a
root_in i a s =
    let z = le_trans (f32 0) i.lo a s.above s.holds.least in
    record {
      low = root_monotone i.lo a s.ends.0 s.own s.above s.holds.least;
      high = root_monotone a i.hi s.own s.ends.1 z s.holds.most;
      root_finite =
          finite_between (root (f32 0)) (root a) (root (f32 0x7f7fffff)) (unfold root of_bits in tt) (unfold root of_bits in tt)
          (root_monotone (f32 0) a (unfold fits of_bits in tt) s.own (unfold le of_bits in tt) z)
          (root_monotone a (f32 0x7f7fffff) s.own (unfold fits of_bits in tt) z (le_trans a i.hi (f32 0x7f7fffff) s.holds.most s.bounded));
    }

pub low_by : (threshold x : Float) (e : Edges) {i m s a b c y g : Float} → AnglesWithin e.pq e.pt e.qt g → i ≡ minimum e.pq.hi e.pt.hi → m
    ≡ minimum i e.qt.hi → s ≡ root m → a ≡ root e.pq.lo → b ≡ root e.pt.lo → c ≡ root e.qt.lo → y ≡ root x
    → T (fits binary32 x) → AllBelowFrom threshold (y ⊗ half) g a b c s → LowBy threshold e x
low_by threshold x e {i} {m} {s} {a} {b} {c} {y} angles ei em es ea eb ec ey f h = record { held = f; all = held }
  where
    held : (u v w : Float) → SquareIn e.pq u → SquareIn e.pt v → SquareIn e.qt w → AllBelow threshold (root x ⊗ half) (root u) (root v) (root w)
    held u v w hu hv hw =
        let U = root_in e.pq u hu in
        let V₁ = root_in e.pt v hv in
        let W = root_in e.qt w hw in
        let P : Float → Type 0 = λ z. OneUpTo (root z) (root u) (root v) (root w) in
        let one : P m = rw em
        (minimum_either P i e.qt.hi (rw ei (minimum_either P e.pq.hi e.pt.hi (first U.high) (second V₁.high))) (third W.high)) in
        let k = h.longer (root u) (root v) (root w) U.root_finite V₁.root_finite W.root_finite (rw ea U.low) (rw eb V₁.low) (rw ec W.low)
        (rw es one) (angles.bound u v w hu.own hv.own hw.own hu.holds hv.holds hw.holds) in
        rw (← ey) k

-- ---- each order

area_up_to : (p q t : Point3f) (x : Float) → T (fits binary32 x) → T (le (cross_squared p q t) x) → T (le (area p q t) (root x ⊗ half))
area_up_to p q t x f h =
    rw (area_is p q t) (half_root_monotone (cross_squared p q t) x (cross_fits p q t) f
    (unfold cross_squared in magnitude_nonnegative (cross (difference q p) (difference t p)) (le_left (cross_squared p q t) x h)) h)

length_turned : (p q : Point3f) → distance q p ≡ root (squared p q)
length_turned p q = rw (distance_is q p, squared_turned q p)

module _ (s : Scene) (r X : Float) {A B C : Float} (h : AllBelow s.quality_threshold X A B C) where
  low_at : (p q t : Point3f) {u v w : Float} → InOrder A B C u v w → distance q p ≡ u → distance t q ≡ v → distance p t ≡ w → T (le (area p q t) X)
      → accepts s r (quality p q t) ≡ false
  unfolding accepts
  low_at p q t {u} {v} {w} o eu ev ew k =
      low_refused (quality p q t) r s.min_triangle_area s.quality_threshold s.max_edge_factor
      (rw (← quality_is p q t, eu, ev, ew) (is_true _ (h.below u v w (area p q t) o k)))

module _ {p : Point3f} {q t at : Bounds} {e : Edges} {r : Interval} (own : Finite p → T (within at p)) (edges : EdgesOf at q t e)
    (short : T (le e.pq.hi (f32 0x7f7fffff) && (le e.pt.hi (f32 0x7f7fffff) && le e.qt.hi (f32 0x7f7fffff)))) (areas : AreasOf at q t r) where
  squares_below : {threshold : Float} (b c : Point3f) → Points at q t p b c → LowBy threshold e r.hi
      → AllBelow threshold (root r.hi ⊗ half) (root (squared p b)) (root (squared p c)) (root (squared b c))
  squares_below b c k h =
      let A = le e.pq.hi (f32 0x7f7fffff) in
      let B = le e.pt.hi (f32 0x7f7fffff) in
      let C = le e.qt.hi (f32 0x7f7fffff) in
      let l = and_r A (B && C) short in
      let q₁ = edges_held k edges in
      h.all (squared p b) (squared p c) (squared b c)
      (record {
        ends = edges.pq_held.held;
        above = edges.pq_held.above (difference b p) (to_q k);
        bounded = and_l A
            (B && C) short;
        own = squared_fits p b;
        holds = q₁.pq_square;
      })
      (record {
        ends = edges.pt_held.held;
        above = edges.pt_held.above (difference c p)
            (to_t k);
        bounded = and_l B C l;
        own = squared_fits p c;
        holds = q₁.pt_square;
      })
      (record {
        ends = edges.qt_held.held;
        above = edges.qt_held.above (difference c b)
            (from_q k);
        bounded = and_r B C l;
        own = squared_fits b c;
        holds = q₁.qt_square;
      })

  pub low_each : {threshold : Float} → LowBy threshold e r.hi → (b c : Point3f) → Points at q t p b c → (s : Scene) (rad : Float) → s.quality_threshold
      ≡ threshold → RefusedEach s rad p b c
  low_each h b c m s rad es =
      let X = root r.hi ⊗ half in
      let l : AllBelow s.quality_threshold X (root (squared p b)) (root (squared p c)) (root (squared b c)) = rw es (squares_below b c m h) in
      let x = areas_of own edges short areas b c m in
      let up : (u v w : Point3f) → T (le (cross_squared u v w) r.hi) → T (le (area u v w) X) = λ u v w o. area_up_to u v w r.hi h.held o in
      record {
        pqt = low_at s rad X l p b c acb (length_turned p b) (length_turned b c) (distance_is p c) (up p b c x.0.most);
        ptq = low_at s rad X l p c b bca (length_turned p c) (distance_is b c) (distance_is p b) (up p c b (rw (cross_squared_turned p c b) x.0.most));
        qpt = low_at s rad X l b p c abc (distance_is p b) (length_turned p c) (distance_is b c) (up b p c x.1.most);
        qtp = low_at s rad X l b c p cba (length_turned b c) (distance_is p c) (length_turned p b) (up b c p (rw (cross_squared_turned b c p) x.1.most));
        tpq = low_at s rad X l c p b bac (distance_is p c) (length_turned p b) (length_turned b c) (up c p b x.2.most);
        tqp = low_at s rad X l c b p cab (distance_is b c) (distance_is p b) (length_turned p c) (up c b p (rw (cross_squared_turned c b p) x.2.most));
      }
