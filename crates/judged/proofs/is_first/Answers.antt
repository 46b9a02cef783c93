-- `is_first` meets its contract: whoever makes a triple with point i is gathered. Assumes nothing.
use mathlib.Core.Path.{sym, ◌∙◌, subst}
use Rattle.vector.specs.Inner.Numbers.{Finite}
use Rattle.vector.specs.declared.Point3f.{Point3f}
use Rattle.decisions.specs.Decisions.{reach}
use Rattle.nearby.specs.Inner.Narrow.{Filters}
use Rattle.nearby.proofs.Keeping.{held_kept, cells_kept}
use Rattle.nearby.proofs.Narrowing.{collected_listed}
use Rattle.judged.proofs.Triples.{first_told}
use Rattle.judged.proofs.is_first.Goals as goal

pub gather_near-count-requires : goal.gather_near-count-requires
gather_near-count-requires c =
    let p = c.requires in (
      p.0.hashed,
      subst Finite (sym (c.filter_of-f.ensures.center_is ∙ c.point_at-place.ensures))
          (p.0.hashed.linked.ready.numbers c.args.i p.1),
    )

pub find_second-requires : goal.find_second-requires
find_second-requires c =
    let filter-of = c.filter_of-f in
    let point_at_lem = c.point_at-place in
    let a = c.args in
    let p = c.requires in
    let g = c.gather_near-count in
    let h = held_kept g.new.w p.0.held g.auto.w in (
      record {
        held = h;
        cells = cells_kept a.s.grid a.points.now a.s.n a.w.now g.new.w p.0.cells g.ensures.kept.before;
        inside = p.1;
        filters = subst (λ (q : Point3f). Filters a.s q q (reach a.radius) filter-of.result) point_at_lem.ensures filter-of.ensures;
      },
      collected_listed h.work_long g.ensures,
    )

pub returns : goal.returns
returns c =
    let gather-near = c.gather_near-count in
    let filter-of = c.filter_of-f in
    let point_at_lem = c.point_at-place in
    let a = c.args in
    let p = c.requires in
    let g = gather-near in
    let fs = subst (λ (q : Point3f). Filters a.s q q (reach a.radius) filter-of.result) point_at_lem.ensures filter-of.ensures in
    (first_told a.radius a.i p.0 p.1 p.2 fs g.ensures c.find_second.ensures, g.ensures.kept)
