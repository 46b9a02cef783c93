-- Triangles with squares in intervals whose score is below a threshold. Definitions only.
use Rattle.std.specs.Prelude.{T, Float}
use Rattle.std.specs.Float.{binary32}
use Rattle.std.specs.Float.Ieee.{le, fits}
use Rattle.numbers.specs.Rounded.{f32, ◌⊗◌}
use Rattle.numbers.specs.Root.{root}
use Rattle.quality.specs.Measures.{half}
use Rattle.bounds.specs.declared.Interval.{Interval}
use Rattle.intervals.specs.Inner.Enclosed.{IntervalHolds}
use Rattle.six_orders.specs.Inner.SixOrders.{AngleBound, AllBelow}
use Rattle.box_filters.specs.declared.Edges.{Edges}

-- an interval holds the square a of a length, and its ends are such squares
pub record SquareIn (i : Interval) (a : Float) : Type 0 where
  pub ends : T (fits binary32 i.lo) × T (fits binary32 i.hi)
  pub above : T (le (f32 0) i.lo)
  pub bounded : T (le i.hi (f32 0x7f7fffff))
  pub own : T (fits binary32 a)
  pub holds : IntervalHolds i a

-- unless m is a NaN, no triangle with the squares of its edges in intervals has a larger least angle
pub record AnglesWithin (i j k : Interval) (m : Float) : Type 0 where
  pub bound : (a b c : Float) → T (fits binary32 a) → T (fits binary32 b) → T (fits binary32 c)
      → IntervalHolds i a → IntervalHolds j b → IntervalHolds k c → AngleBound (root a) (root b) (root c) m

-- the score of all triangles with such squares is below a threshold in each order, with areas whose square is up to x
pub record LowBy (threshold : Float) (e : Edges) (x : Float) : Type 0 where
  pub held : T (fits binary32 x)
  pub all : (a b c : Float) → SquareIn e.pq a → SquareIn e.pt b → SquareIn e.qt c
      → AllBelow threshold (root x ⊗ half) (root a) (root b) (root c)
