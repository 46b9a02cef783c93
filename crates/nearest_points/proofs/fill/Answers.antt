use mathlib.Core.Path.{ap, ◌∙◌, subst⁻¹}
use Prim.Native.Nat.{◌/◌}
use native.Mathlib.Omega.{arith}
use lib.ListN.{length}
use Rattle.vector.specs.Inner.Numbers.{Finite}
use Rattle.vector.specs.declared.Point3f.{Point3f}
use Rattle.nearest.specs.Scan.{Near, nearest}
use Rattle.nearest_points.specs.Found.{number_at}
use Rattle.nearest_points.proofs.Refused.{spots_finite}
use Rattle.nearest_points.proofs.Filled.{filled_start, filled_step, filled_end}
use Rattle.nearest_points.proofs.fill.Goals as goal

pub loop-i-init : goal.loop-i-init
loop-i-init c =
    let a = c.args in filled_start (number_at a.points.now a.spots.now) (length a.spots.now / 3) a.found.now
    c.requires.values_within.1

pub point_at-spot-requires : goal.point_at-spot-requires
point_at-spot-requires c = omega (arith, c.loop-i-test.true)

pub nearest_in-best-requires : goal.nearest_in-best-requires
nearest_in-best-requires c = (
  c.requires.own_index.0,
  c.requires.own_index.1,
  c.requires.own_index.2,
  subst⁻¹ Finite c.point_at-spot.ensures
      (spots_finite c.args.spots.now
      c.requires.values_within.0 c.loop-i.i
      (omega (arith, c.loop-i-test.true))),
)

pub bounds-found-i : goal.bounds-found-i
bounds-found-i c = omega (arith, c.loop-i.invariant.size, c.loop-i.invariant.room, c.loop-i-test.true)

pub loop-i-preserved : goal.loop-i-preserved
loop-i-preserved c =
    let a = c.args in filled_step 0 c.loop-i.invariant
    c.loop-i-test.true
    (ap (λ (x : Near). x.number) c.nearest_in-best.ensures
    ∙ ap (λ (p : Point3f). (nearest a.points.now (length a.points.now / 3) p).number) c.point_at-spot.ensures)

pub shape_of-found : goal.shape_of-found
shape_of-found c = c.loop-i.invariant.size

pub returns : goal.returns
returns c = filled_end c.loop-i.invariant c.loop-i-test.false
