-- `measure` meets its contract: a distance a spot, one behind the other. Assumes nothing.
use mathlib.Core.Path.{ap, ap₂, ◌∙◌}
use Prim.Native.Nat.{ℕ, ◌/◌}
use native.Mathlib.Omega.{arith}
use lib.Ieee.{nan}
use lib.ListN.{length}
use Rattle.vector.specs.Vector.{distance}
use Rattle.points.specs.Points.{point_at}
use Rattle.nearest_points.proofs.Filled.{filled_start, filled_step, filled_end}
use Rattle.nearest_distances.specs.Measured.{distance_at}
use Rattle.nearest_distances.proofs.Scanned.{nearest_length, nearest_number}
use Rattle.nearest_distances.proofs.measure.Goals as goal

pub loop-i-init : goal.loop-i-init
loop-i-init c =
    let a = c.args in filled_start (distance_at a.points.now a.spots.now) (length a.spots.now / 3)
    a.distances.now c.requires.room.2

pub bounds-found-i : goal.bounds-found-i
bounds-found-i c = omega (arith, c.requires.room.1, c.loop-i-test.true)

pub overflow_cast-found : goal.overflow_cast-found
overflow_cast-found c = omega (arith, c.type_inv.found c.loop-i.i)

pub point_at-p-requires : goal.point_at-p-requires
point_at-p-requires c =
    let a = c.args in let i = c.loop-i.i in let
    p = c.requires in
    omega (arith, p.found_nearest i c.loop-i-test.true, nearest_number a.points.now (length a.points.now / 3) (point_at a.spots.now i) p.room.0)

pub point_at-spot-requires : goal.point_at-spot-requires
point_at-spot-requires c = omega (arith, c.loop-i-test.true)

pub bounds-distances-i : goal.bounds-distances-i
bounds-distances-i c =
    omega (
      arith,
      c.loop-i.invariant.size,
      c.loop-i.invariant.room,
      c.loop-i-test.true,
    )

pub loop-i-preserved : goal.loop-i-preserved
loop-i-preserved c =
    let a = c.args in let
    i = c.loop-i.i in
    filled_step nan c.loop-i.invariant c.loop-i-test.true
    (c.distance.ensures ∙ ap₂ distance c.point_at-p.ensures c.point_at-spot.ensures
    ∙ ap (λ (k : ℕ). distance (point_at a.points.now k) (point_at a.spots.now i))
    (c.requires.found_nearest i c.loop-i-test.true)
    ∙ nearest_length a.points.now (length a.points.now / 3) (point_at a.spots.now i))

pub shape_of-distances : goal.shape_of-distances
shape_of-distances c = c.loop-i.invariant.size

pub returns : goal.returns
returns c = filled_end c.loop-i.invariant c.loop-i-test.false
