-- `search_unused` meets its contract: of the unused points after i those that are not looked at are too far away.
-- Assumes nothing.
use mathlib.Core.Path.{sym, ◌∙◌, subst}
use Rattle.vector.specs.declared.Point3f.{Point3f}
use Rattle.vector.specs.Inner.Numbers.{Finite}
use Rattle.spatial_hash.specs.Inner.Near.{NearPlace}
use Rattle.nearby.proofs.Keeping.{kept_self}
use Rattle.seedless.proofs.Listed.{around_ready, around_seedless, around_kept}
use Rattle.lists.proofs.Bools.{true_not_false}
use Rattle.std.proofs.lemmas.Option.{IfSome_then}
use Rattle.seedless.proofs.search_unused.Goals as goal

pub is_unused-requires : goal.is_unused-requires
is_unused-requires c =
    let start = c in
    (start.requires.0.work_long, start.requires.0.few, start.requires.2)

pub returns-then-not-is_unused : goal.returns-then-not-is_unused
returns-then-not-is_unused c =
    let start = c in
    let u = c.is_unused in
    (λ free. absurd (true_not_false free (sym u.ensures ∙ c.if-not-is_unused.true)), kept_self start.args.p.scene start.args.w.now)

pub gather_within-found-requires : goal.gather_within-found-requires
gather_within-found-requires c =
    let start = c in
    (start.requires.1.linked, subst Finite (sym c.point_at-place.ensures) (start.requires.1.linked.ready.numbers start.args.i start.requires.2))

pub search_found-requires : goal.search_found-requires
search_found-requires c =
    let a = c.args in
    let r = c.requires in
    let g = c.gather_within-found in
    let near = subst (λ (q : Point3f). NearPlace a.points.now a.p.scene.n q a.p.limits.far a.w.now g.new.w g.result)
    c.point_at-place.ensures g.ensures in
    around_ready {p = a.p} r.0 r.1 r.2 r.3 near g.auto.w

pub shape_of-w : goal.shape_of-w
shape_of-w c = c.search_found.auto.w ∙ c.gather_within-found.auto.w

pub returns : goal.returns
returns c =
    let a = c.args in
    let r = c.requires in
    let g = c.gather_within-found in
    let f = c.search_found in
    let near = subst (λ (q : Point3f). NearPlace a.points.now a.p.scene.n q a.p.limits.far a.w.now g.new.w g.result)
    c.point_at-place.ensures g.ensures in (
      IfSome_then f.result f.ensures.0 (λ _ h _. around_seedless {p = a.p} r.0 r.1 r.2 r.3 near g.auto.w 0 h),
      around_kept {p = a.p} r.0 r.1 r.2 r.3 near g.auto.w f.ensures.1,
    )
