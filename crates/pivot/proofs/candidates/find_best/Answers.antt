-- `find_best` meets its contract: what is gathered has every neighbour that has a score, and the best of them is the
-- definition's. Assumes nothing.
use mathlib.Core.Path.{sym, ap, ◌∙◌, subst}
use Rattle.vector.specs.Inner.Numbers.{Finite}
use Rattle.nearby.proofs.Keeping.{held_kept, cells_kept}
use Rattle.nearby.proofs.Narrowing.{collected_listed}
use Rattle.lists.specs.Inner.Found.{option_found}
use Rattle.pivot.proofs.State.{best_around}
use Rattle.pivot.proofs.candidates.find_best.Goals as goal

pub gather_both-found-requires : goal.gather_both-found-requires
gather_both-found-requires c =
    let point_at_lem = c.point_at-p in
    let start = c in
    let n = start in
    (n.requires.2, subst Finite (sym (c.filter_of-f.ensures.center_is ∙ point_at_lem.ensures)) (n.requires.2.linked.ready.numbers n.args.a n.requires.3))

pub best_of-requires : goal.best_of-requires
best_of-requires c =
    let n = c in
    let g = c.gather_both-found in
    let h = held_kept g.new.w n.requires.0 g.auto.w in (
      h,
      cells_kept n.args.s.grid n.args.points.now n.args.s.n n.args.w.now g.new.w n.requires.1.cells g.ensures.kept.before,
      collected_listed h.work_long g.ensures,
      n.requires.3,
      n.requires.4,
    )

pub shape_of-w : goal.shape_of-w
shape_of-w c = c.gather_both-found.auto.w

pub returns : goal.returns
returns c =
    let gather-both = c.gather_both-found in
    let filter-of = c.filter_of-f in
    let middle_of = c.middle_of-place in
    let point-at2 = c.point_at-q in
    let point_at_lem = c.point_at-p in
    let start = c in
    let n = start in
    let a = n.args in
    let g = gather-both in
    let f = filter-of in
    let m = middle_of in
    let q = point-at2 in
    let p = point_at_lem in (
      c.best_of.ensures ∙ ap option_found
          (best_around a.s a.points.now a.radius f.result a.w.now g.new.w g.result a.a a.b p.ensures q.ensures
          m.ensures f.ensures g.ensures),
      g.ensures.kept,
    )
