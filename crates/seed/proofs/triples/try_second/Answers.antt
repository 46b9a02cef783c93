-- `try_second` meets its contract. Assumes nothing.
use mathlib.Core.Path.{sym, ◌∙◌}
use Rattle.decisions.specs.Decisions.{floats_of}
use Rattle.nearby.specs.Inner.Ready.{used_in_scene, neighbors_listed}
use Rattle.seedless.proofs.Nothing.{close_second}
use Rattle.seed.proofs.Laws.{second_not, second_is}
use Rattle.seed.proofs.triples.try_second.Goals as goal

pub is_second-requires : goal.is_second-requires
is_second-requires c = (c.requires.0, c.requires.2, c.requires.3)

pub returns-then-not-is_second : goal.returns-then-not-is_second
returns-then-not-is_second c =
    let start = c in
    second_not (floats_of start.args.p.scene start.args.points.now) start.args.p.radius
    (used_in_scene start.args.p.scene start.args.w.now)
    start.args.i start.args.j (neighbors_listed start.args.p.scene start.args.w.now start.args.count)
    (sym c.is_second.ensures ∙ c.if-not-is_second.true)

pub find_third-requires : goal.find_third-requires
find_third-requires c =
    let start = c in
    let x = start.args in
    let t = c.is_second in (
      start.requires.0,
      start.requires.1,
      start.requires.2,
      start.requires.3,
      start.requires.4,
      close_second x.p.scene x.points.now x.p.radius
          (used_in_scene x.p.scene x.w.now) x.i x.j (sym t.ensures ∙ c.if-not-is_second.false),
    )

pub returns : goal.returns
returns c =
    let start = c in
    let t = c.is_second in
    c.find_third.ensures
    ∙ second_is (floats_of start.args.p.scene start.args.points.now) start.args.p.radius
    (used_in_scene start.args.p.scene start.args.w.now)
    start.args.i start.args.j (neighbors_listed start.args.p.scene start.args.w.now start.args.count)
    (sym t.ensures ∙ c.if-not-is_second.false)
