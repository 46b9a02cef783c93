-- `list_around` meets its contract. Assumes nothing.
use mathlib.Core.Path.{sym, subst}
use native.Mathlib.Omega.{arith}
use Rattle.vector.specs.declared.Point3f.{Point3f}
use Rattle.vector.specs.Inner.Numbers.{Finite}
use Rattle.spatial_hash.specs.Inner.Near.{NearPlace}
use Rattle.nearby.proofs.Keeping.{held_kept}
use Rattle.nearby.proofs.Narrowing.{below_listed}
use Rattle.seedless.proofs.list_around.Goals as goal

pub gather_within-found-requires : goal.gather_within-found-requires
gather_within-found-requires c =
    let start = c in
    (start.requires.1.linked, subst Finite (sym c.point_at-place.ensures) (start.requires.1.linked.ready.numbers start.args.i start.requires.2))

pub count_near-near-requires : goal.count_near-near-requires
count_near-near-requires c =
    let g = c.gather_within-found in
    let held = held_kept g.new.w c.requires.0 g.auto.w in
    (held, below_listed held.work_long g.ensures.most g.ensures.surrounds.below)

pub work_of-work-requires : goal.work_of-work-requires
work_of-work-requires c =
    let g = c.gather_within-found in
    (omega (arith, g.ensures.most, c.requires.0.few), omega (arith, c.count_near-near.ensures, g.ensures.most, c.requires.0.few))

pub returns : goal.returns
returns c =
    let a = c.args in
    let g = c.gather_within-found in
    subst (λ (q : Point3f). NearPlace a.points.now a.p.scene.n q a.far a.w.now g.new.w g.result) c.point_at-place.ensures g.ensures
