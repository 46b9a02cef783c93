-- The loop's invariant: the marks are those of the numbers that were passed. Assumes nothing.
use mathlib.Core.Path.{◌∙◌}
use native.Mathlib.Omega.{arith}
use lib.ListN.{length}
use borrow.Author.Rules.{rules}
use Rattle.lists.proofs.Bytes.{byte_bit, byte_le}
use Rattle.coverage.proofs.Marks.{reached_start, reached_step}
use Rattle.coverage.proofs.mark_reached.Goals as goal

pub loop-point-init : goal.loop-point-init
loop-point-init c =
    let s = reached_start (length c.args.reached.now) _ c.clear.ensures in
    (search rules, s.1, s.2)

pub loop-point-preserved : goal.loop-point-preserved
loop-point-preserved c =
    let l = c.loop-point in
    let m = c.mark_point.ensures in
    let b = c.mark_point.result in (
      omega (arith, l.invariant.0, c.from-total.ensures, byte_le b),
      m.0 ∙ reached_step _ _ l.point-index _ c.loop-point-test.true l.invariant.1,
      omega (arith, m.1, l.invariant.2, c.from-total.ensures, byte_bit b),
    )
