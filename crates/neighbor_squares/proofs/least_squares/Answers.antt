-- What is in hand, with the points to come, always gives the ten least squares. Assumes nothing.
use mathlib.Core.Path.{refl, sym, ◌∙◌}
use Prim.Native.Nat.{◌+◌, ◌*◌}
use native.Mathlib.Omega.{arith}
use lib.ListN.{take, drop}
use borrow.Author.Rules.{rules}
use Rattle.lists.proofs.Members.{below_part}
use Rattle.neighbor_squares.specs.Inner.Squares.{is_neighbor_cell, within_limit, least_squares}
use Rattle.neighbor_squares.proofs.Looking.{with_ordered, look_step, look_end}
use Rattle.neighbor_squares.proofs.least_squares.Goals as goal

pub loop-k-init : goal.loop-k-init
unfolding least_squares
loop-k-init c = (refl, search rules, refl, refl, (tt, tt))

pub overflow_cast-w : goal.overflow_cast-w
overflow_cast-w c =
    let l = c.loop-k in
    omega (arith, c.type_inv.w (4 * c.args.n + l.k))

pub look_at-kept-requires : goal.look_at-kept-requires
look_at-kept-requires c =
    let l = c.loop-k in (
      c.requires.0,
      below_part c.args.n c.args.w.now (4 * c.args.n) c.args.found l.k c.requires.6 c.loop-k-test.true
          (omega (arith, c.requires.2, c.requires.4)),
      c.requires.1,
      c.requires.3,
      omega (arith, c.requires.4),
      omega (arith, l.invariant.0, c.requires.5),
      l.invariant.1,
      l.invariant.4.0,
    )

pub loop-k-preserved : goal.loop-k-preserved
loop-k-preserved c =
    let l = c.loop-k in
    let e = c.look_at-kept in (
      e.auto.f ∙ l.invariant.0,
      e.ensures.1,
      l.invariant.2
          ∙ look_step (within_limit c.args.limit (is_neighbor_cell c.args.around c.args.w.now c.args.n) c.args.points.now c.args.i)
          c.args.points.now c.args.i c.args.w.now (4 * c.args.n) c.args.found (omega (arith, c.requires.2, c.requires.4)) l.k
          (take l.kept (drop c.args.n l.f)) (take e.result (drop c.args.n e.new.f))
          c.loop-k-test.true e.ensures.0,
      e.ensures.2 ∙ l.invariant.3,
      with_ordered (within_limit c.args.limit (is_neighbor_cell c.args.around c.args.w.now c.args.n) c.args.points.now c.args.i)
          c.args.points.now c.args.i _ c.args.n (take l.kept (drop c.args.n l.f))
          (take e.result (drop c.args.n e.new.f)) c.requires.0
          (below_part c.args.n c.args.w.now (4 * c.args.n) c.args.found l.k c.requires.6 c.loop-k-test.true
          (omega (arith, c.requires.2, c.requires.4))) c.requires.7 e.ensures.0 l.invariant.4,
    )

pub returns : goal.returns
returns c =
    let l = c.loop-k in (
      sym (l.invariant.2 ∙ look_end
          (within_limit c.args.limit (is_neighbor_cell c.args.around c.args.w.now c.args.n) c.args.points.now c.args.i)
          c.args.points.now c.args.i c.args.w.now (4 * c.args.n) c.args.found (omega (arith, c.requires.2, c.requires.4)) l.k
          (drop c.args.n l.f) l.kept c.loop-k-test.false l.invariant.1),
      l.invariant.1,
      l.invariant.3,
    )
