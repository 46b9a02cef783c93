-- The roots of the least squares are the least distances. Assumes nothing.
use mathlib.Core.Path.{◌≡◌, ap, ◌∙◌}
use mathlib.Core.List.{map}
use native.Mathlib.Omega.{arith}
use Rattle.numbers.specs.Root.{root}
use Rattle.lists.specs.Lists.{up_from}
use Rattle.grid.proofs.Near.{indexed_kept}
use Rattle.neighbor_squares.specs.declared.Around.{Around}
use Rattle.radii.specs.Inner.Steps.{around_of}
use Rattle.neighbor_squares.specs.Inner.Squares.{is_neighbor_cell, least_squares}
use Rattle.radii.proofs.Distances.{nearest_is}
use Rattle.radii.proofs.nearest.find_nearest.Goals as goal

pub find_squares-kept-requires : goal.find_squares-kept-requires
find_squares-kept-requires c =
    let clear-tenth = c.clear_tenth in
    (record { inside = c.requires.0; room = omega (arith, c.requires.1, clear-tenth.auto.f); hashed = c.requires.2 }, c.requires.3)

pub take_roots-requires : goal.take_roots-requires
take_roots-requires c =
    let find-squares = c.find_squares-kept in
    let clear-tenth = c.clear_tenth in
    let q = find-squares in
    omega (arith, c.requires.1, clear-tenth.auto.f, q.ensures.few, q.auto.f)

pub returns : goal.returns
returns c =
    let find-squares = c.find_squares-kept in
    let clear-tenth = c.clear_tenth in
    let around-of = c.around_of-around in
    let point_at_lem = c.point_at in
    let q = find-squares in
    let u = q.new.w in
    let t = c.take_roots.ensures in
    let k = q.ensures.kept in
    let is : around-of.result ≡ around_of c.args.config c.args.grid _ = around-of.ensures ∙ ap (around_of c.args.config c.args.grid)
    point_at_lem.ensures in (
      t.0
          ∙ ap (map root) (q.ensures.decided ∙ ap
          (λ (a : Around). least_squares (is_neighbor_cell a u c.args.n) c.args.points.now c.args.i (up_from 0 c.args.n)) is)
          ∙ nearest_is c.args.config c.args.grid c.args.points.now c.args.n c.args.i u c.requires.0 c.requires.2.linked.ready.numbers
          (indexed_kept u c.requires.3 q.auto.w k.before),
      q.ensures.few,
      t.1 ∙ k.front ∙ clear-tenth.ensures,
      k.before,
      k.after,
    )
