-- `try_seconds` meets its contract: what is left of the points near point i are those that pass its filter. Assumes
-- nothing.
use mathlib.Core.Path.{refl, sym, ◌∙◌, subst}
use native.Mathlib.Omega.{arith}
use Rattle.vector.specs.Inner.Numbers.{Finite}
use Rattle.nearby.proofs.Keeping.{kept_on, held_kept, cells_kept}
use Rattle.nearby.proofs.Narrowing.{collected_listed, sought}
use Rattle.seed.proofs.State.{listed_points}
use Rattle.seed.proofs.Seconds.{seconds_tried}
use Rattle.seed.proofs.triples.try_seconds.Goals as goal

pub gather_near-found-requires : goal.gather_near-found-requires
gather_near-found-requires c =
    let start = c in (
      start.requires.0.hashed,
      subst Finite (sym start.requires.1.center_is)
          (start.requires.0.hashed.linked.ready.numbers start.args.i start.requires.0.inside),
    )

pub narrow-count-requires : goal.narrow-count-requires
narrow-count-requires c =
    let start = c in
    let a = start.args in
    let g = c.gather_near-found in
    let h = held_kept g.new.w start.requires.0.held g.auto.w in (
      h,
      cells_kept a.p.scene.grid a.points.now a.p.scene.n a.w.now g.new.w start.requires.0.indexed.cells
          g.ensures.kept.before,
      collected_listed h.work_long g.ensures,
    )

pub find_second-requires : goal.find_second-requires
find_second-requires c =
    let narrow = c.narrow-count in
    let gather-near = c.gather_near-found in
    let start = c in
    let g = gather-near in
    let n = narrow in
    let h = held_kept n.new.w start.requires.0.held (n.auto.w ∙ g.auto.w) in (
      h,
      listed_points h.work_long (sought refl start.requires.1 g.ensures n.ensures),
      start.requires.0.inside,
      record { numbers = start.requires.0.hashed.linked.ready.numbers; limits = start.requires.0.limiting },
      omega (arith, c.min.ensures),
    )

pub returns : goal.returns
returns c =
    let narrow = c.narrow-count in
    let gather-near = c.gather_near-found in
    let g = gather-near.ensures in
    let n = narrow.ensures in
    let e = c.min.ensures in
    (seconds_tried g n (omega (arith, e)) (omega (arith, e)) (λ h. omega (arith, e)) c.find_second.ensures, kept_on g.kept n.kept)
