-- The triangles with a point in each of three boxes: what intervals hold of them (`edges_held`, `areas_held`,
-- `areas_of`). Assumes nothing.
use mathlib.Core.Bool.{◌&&◌}
use lib.Dec.{T}
use lib.Ieee.{le}
use lib.Ieee.Fits.{and_l, and_r}
use Rattle.numbers.specs.Rounded.{f32}
use Rattle.vector.specs.Vector.{difference, squared}
use Rattle.vector.specs.Inner.Numbers.{Finite}
use Rattle.vector.specs.declared.Point3f.{Point3f}
use Rattle.vector.proofs.Distances.{squared_turned}
use Rattle.bounds.specs.declared.Bounds.{Bounds}
use Rattle.bounds.specs.declared.Interval.{Interval}
use Rattle.bounds.specs.Inner.Within.{within}
use Rattle.area_bounds.specs.Inner.AreaBound.{cross_squared}
use Rattle.intervals.specs.Inner.Enclosed.{IntervalHolds, Joined, differences_of, CrossSquares}
use Rattle.intervals.proofs.Boxes.{differences_has, moderate_turned, magnitudes_moderate}
use Rattle.box_filters.specs.declared.Edges.{Edges}
use Rattle.box_filters.specs.Inner.RefusedWithin.{EdgesOf, Points, AreasOf}

-- ---- what intervals hold

pub record Squares (e : Edges) (a b c : Point3f) : Type 0 where
  pub pq_square : IntervalHolds e.pq (squared a b)
  pub pt_square : IntervalHolds e.pt (squared a c)
  pub qt_square : IntervalHolds e.qt (squared b c)

module _ {p q t : Bounds} {a b c : Point3f} (s : Points p q t a b c) where
  pub to_q : T (within (differences_of q p) (difference b a))
  to_q = differences_has q p b a s.b_finite s.a_finite s.b_within s.a_within

  pub to_t : T (within (differences_of t p) (difference c a))
  to_t = differences_has t p c a s.c_finite s.a_finite s.c_within s.a_within

  pub from_q : T (within (differences_of t q) (difference c b))
  from_q = differences_has t q c b s.c_finite s.b_finite s.c_within s.b_within

  pub edges_held : {e : Edges} → EdgesOf p q t e → Squares e a b c
  unfolding squared
  edges_held h = record {
    pq_square = rw (squared_turned a b) (h.pq_held.holds (difference b a) to_q);
    pt_square = rw (squared_turned a c) (h.pt_held.holds (difference c a) to_t);
    qt_square = rw (squared_turned b c) (h.qt_held.holds (difference c b) from_q);
  }

pub areas_held : (p q t : Bounds) {x y z yz r : Interval} → CrossSquares (differences_of q p) (differences_of t p) x
    → CrossSquares (differences_of p q) (differences_of t q) y → CrossSquares (differences_of p t) (differences_of q t) z
    → Joined y z yz → Joined x yz r → AreasOf p q t r
unfolding cross_squared
areas_held p q t hx hy hz j k = record {
  held = λ m n o a b c s.
      let u = hx.holds m n (difference b a) (difference c a) (to_q s) (to_t s) in
      let v = hy.holds (moderate_turned q p m) o (difference a b) (difference c b)
      (differences_has p q a b s.a_finite s.b_finite s.a_within s.b_within) (from_q s) in
      let w = hz.holds (moderate_turned t p n) (moderate_turned t q o) (difference a c) (difference b c)
      (differences_has p t a c s.a_finite s.c_finite s.a_within s.c_within)
      (differences_has q t b c s.b_finite s.c_finite s.b_within s.c_within) in
      let vw = j.holds _ _ v w in
      let uv = k.holds _ _ u vw.0 in
      (uv.0, uv.1, (k.holds _ _ u vw.1).1);
}

-- ---- of a point and of points in two boxes

module _ {p : Point3f} {q t at : Bounds} {e : Edges} (own : Finite p → T (within at p)) (edges : EdgesOf at q t e) where
  pub points : (b c : Point3f) → Finite p → Finite b → Finite c → T (within q b) → T (within t c) → Points at q t p b c
  points b c f g h i j = record { a_finite = f; b_finite = g; c_finite = h; a_within = own f; b_within = i; c_within = j }

  -- where no edge is too long
  pub areas_of : {r : Interval} → T (le e.pq.hi (f32 0x7f7fffff) && (le e.pt.hi (f32 0x7f7fffff) && le e.qt.hi (f32 0x7f7fffff))) → AreasOf at q t r
      → (b c : Point3f) → Points at q t p b c → IntervalHolds r (cross_squared p b c) × IntervalHolds r (cross_squared b p c)
      × IntervalHolds r (cross_squared c p b)
  areas_of short areas b c s =
      let k = and_r (le e.pq.hi (f32 0x7f7fffff)) (le e.pt.hi (f32 0x7f7fffff) && le e.qt.hi (f32 0x7f7fffff)) short in
      areas.held (magnitudes_moderate _ edges.pq_held
      (and_l (le e.pq.hi (f32 0x7f7fffff)) (le e.pt.hi (f32 0x7f7fffff) && le e.qt.hi (f32 0x7f7fffff)) short) (difference b p) (to_q s))
      (magnitudes_moderate _ edges.pt_held (and_l (le e.pt.hi (f32 0x7f7fffff)) (le e.qt.hi (f32 0x7f7fffff)) k) (difference c p) (to_t s))
      (magnitudes_moderate _ edges.qt_held (and_r (le e.pt.hi (f32 0x7f7fffff)) (le e.qt.hi (f32 0x7f7fffff)) k) (difference c b) (from_q s)) p b c s
