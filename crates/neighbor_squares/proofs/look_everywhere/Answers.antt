-- What is in hand, with the points to come, always gives the ten least squares. Assumes nothing.
use mathlib.Core.Path.{◌≡◌, refl, sym, ap, ◌∙◌}
use native.Mathlib.Omega.{arith}
use lib.ListN.{take, drop}
use lib.Ieee.{Float}
use borrow.Author.Rules.{rules}
use Rattle.neighbor_squares.specs.Inner.Squares.{is_neighbor_cell, within_limit, with_square}
use Rattle.neighbor_squares.proofs.Looking.{with_tenth, with_ordered, all_start, all_step, all_end}
use Rattle.neighbor_squares.proofs.look_everywhere.Goals as goal

pub loop-j-init : goal.loop-j-init
loop-j-init c = (
  refl,
  search rules,
  all_start (is_neighbor_cell c.args.around c.args.w.now c.args.n) c.args.points.now c.args.i
      c.args.n (drop c.args.n c.args.f.now),
  refl,
  (tt, tt),
)

pub tenth-requires : goal.tenth-requires
tenth-requires c =
    let l = c.loop-j in
    (c.requires.1, omega (arith, l.invariant.0, c.requires.4))

pub look_at-kept-requires : goal.look_at-kept-requires
look_at-kept-requires c =
    let loop = c.loop-j in
    let l = loop in
    (c.requires.0, c.loop-j-test.true, c.requires.1, c.requires.2, c.requires.3, omega (arith, l.invariant.0, c.requires.4), l.invariant.1, l.invariant.4.0)

pub loop-j-preserved : goal.loop-j-preserved
loop-j-preserved c =
    let l = c.loop-j in
    let inside = c.loop-j-test.true in
    let e = c.look_at-kept in
    let near = is_neighbor_cell c.args.around c.args.w.now c.args.n in
    let kept = take l.kept (drop c.args.n l.f) in
    let next : take e.result (drop c.args.n e.new.f) ≡ with_square near c.args.points.now c.args.i l.j kept =
    e.ensures.0
    ∙ ap (λ (limit : Float). with_square (within_limit limit near c.args.points.now c.args.i) c.args.points.now c.args.i l.j kept)
    c.tenth.ensures
    ∙ with_tenth near c.args.points.now c.args.i l.j c.args.n l.f l.kept c.requires.0 inside c.requires.5
    (omega (arith, l.invariant.0, c.requires.4)) l.invariant.1 l.invariant.4 in (
      e.auto.f ∙ l.invariant.0,
      e.ensures.1,
      l.invariant.2 ∙ all_step near c.args.points.now c.args.i c.args.n l.j kept
          (take e.result (drop c.args.n e.new.f)) inside next,
      e.ensures.2 ∙ l.invariant.3,
      with_ordered near c.args.points.now c.args.i l.j c.args.n kept (take e.result (drop c.args.n e.new.f))
          c.requires.0 inside c.requires.5 next l.invariant.4,
    )

pub returns : goal.returns
returns c =
    let l = c.loop-j in (
      sym (l.invariant.2 ∙ all_end (is_neighbor_cell c.args.around c.args.w.now c.args.n) c.args.points.now c.args.i c.args.n l.j
          (drop c.args.n l.f) l.kept c.loop-j-test.false l.invariant.1),
      l.invariant.1,
      l.invariant.3,
    )
