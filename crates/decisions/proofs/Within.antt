-- All neighbours are points of the cloud, so that what the searches find is too. Assumes nothing.
use mathlib.Core.List.{List}
use lib.Ieee.{Float}
use Rattle.points.specs.Points.{point_at}
use Rattle.grid.proofs.Near.{neighbors_below}
use Rattle.patch.specs.Fair.{NeighborsWithin}
use Rattle.decisions.specs.declared.Scene.{Scene}
use Rattle.decisions.specs.Decisions.{reach, middle, around, floats_of}

pub within : (s : Scene) (pts : List Float) → NeighborsWithin s.n (floats_of s pts)
unfolding floats_of around
within s pts = record {
  near_below = λ r i. neighbors_below s.indexed s.grid pts s.n (point_at pts i) (reach r);
  around_below = λ r e. neighbors_below s.indexed s.grid pts s.n (middle (point_at pts e.v1) (point_at pts e.v2)) r;
}
