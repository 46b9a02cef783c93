-- What is known of all triangles with a point in each of three boxes. Definitions only.
use Rattle.std.specs.Prelude.{◌≡◌, T, Float}
use Rattle.std.specs.Float.Ieee.{le}
use Rattle.vector.specs.Inner.Numbers.{Finite}
use Rattle.vector.specs.declared.Point3f.{Point3f}
use Rattle.bounds.specs.declared.Bounds.{Bounds}
use Rattle.bounds.specs.declared.Interval.{Interval}
use Rattle.bounds.specs.Inner.Within.{within}
use Rattle.area_bounds.specs.Inner.AreaBound.{cross_squared}
use Rattle.intervals.specs.Inner.Enclosed.{IntervalHolds, differences_of, ModerateBox, Magnitudes}
use Rattle.cosines.specs.Inner.Cosine.{Coordinates}
use Rattle.sliver_filters.specs.Inner.SliversWithin.{ThinWithin, SliversWithin}
use Rattle.euler.specs.Inner.OutOfReach.{is_out_of_reach, OutOfReach}
use Rattle.decisions.specs.declared.Scene.{Scene}
use Rattle.filters.specs.declared.Limits.{Limits}
use Rattle.filters.specs.Inner.Refused.{RefusedThroughout, RefusedEach, Sliver}
use Rattle.box_filters.specs.declared.Edges.{Edges}
use Rattle.box_filters.specs.Inner.LowBy.{LowBy}

-- intervals hold the squared lengths of the edges
pub record EdgesOf (p q t : Bounds) (e : Edges) : Type 0 where
  pub pq_held : Magnitudes (differences_of q p) e.pq
  pub pt_held : Magnitudes (differences_of t p) e.pt
  pub qt_held : Magnitudes (differences_of t q) e.qt

-- a point in each of three boxes
pub record Points (p q t : Bounds) (a b c : Point3f) : Type 0 where
  pub a_finite : Finite a
  pub b_finite : Finite b
  pub c_finite : Finite c
  pub a_within : T (within p a)
  pub b_within : T (within q b)
  pub c_within : T (within t c)

-- an interval holds the squares of twice the area, whichever point comes first, unless an edge is too long
pub record AreasOf (p q t : Bounds) (r : Interval) : Type 0 where
  pub held : ModerateBox (differences_of q p) → ModerateBox (differences_of t p) → ModerateBox (differences_of t q)
      → (a b c : Point3f) → Points p q t a b c
      → IntervalHolds r (cross_squared a b c) × IntervalHolds r (cross_squared b a c)
      × IntervalHolds r (cross_squared c a b)

-- all triangles with such squares are refused: with an area that is too small or too large for limits, by being too
-- thin, as slivers, or by a score below a threshold
pub data RefusedBy (threshold : Float) (l : Limits) (e : Edges) (a : Interval) : Type 0 where
  small_areas : T (le a.hi l.small) → RefusedBy threshold l e a
  large_areas : T (le l.large a.lo) → RefusedBy threshold l e a
  thin_edges : ThinWithin l.thin e.pq e.pt e.qt a.hi → RefusedBy threshold l e a
  all_slivers : SliversWithin l.slivers e.pq e.qt e.pt a.hi → RefusedBy threshold l e a
  low_scores : LowBy threshold e a.hi → RefusedBy threshold l e a

-- a threshold is one that no score reaches with such edges
pub record Unreached (threshold : Float) (e : Edges) : Type 0 where
  pub beyond : T (is_out_of_reach threshold)
  pub plain : OutOfReach e.pq e.qt e.pt

-- the triangle of p, b and c is refused, whichever of them comes first: by limits, as a sliver, or at every radius by
-- settings with a threshold
pub data RefusedPoints (threshold : Float) (l : Limits) (p b c : Point3f) : Type 0 where
  by_limits : RefusedThroughout l p b c → RefusedPoints threshold l p b c
  as_sliver : Sliver l p b c → RefusedPoints threshold l p b c
  by_score : ((s : Scene) (r : Float) → s.quality_threshold ≡ threshold → RefusedEach s r p b c)
      → RefusedPoints threshold l p b c

-- a point whose coordinates are f32 and numbers
pub record Located (p : Point3f) : Type 0 where
  pub held : Coordinates p
  pub numbers : Finite p

-- the triangles of p with a point of q and one of t are refused
pub record RefusedWithin (threshold : Float) (l : Limits) (p : Point3f) (q t : Bounds) : Type 0 where
  pub each : Located p → (b c : Point3f) → Located b → Located c → T (within q b) → T (within t c)
      → RefusedPoints threshold l p b c
