-- `cloud::read_points` meets its contract: each way out is a case of `judged`. Assumes nothing.
use mathlib.Core.Path.{sym}
use native.Mathlib.Omega.{arith}
use Rattle.cloud.specs.Answers.{read_of}
use Rattle.cloud.specs.Inner.Ready.{laid_out}
use Rattle.cloud.proofs.Answer.{answer_refused, answer_accepted, outcome_wrong, outcome_fits, outcome_long, outcome_long_normals}
use Rattle.cloud.proofs.Lines.{counted_good, counted_wrong, body_within}
use Rattle.cloud.proofs.read_points.Goals.{then-points-count-via-then-points-count as short-points}
use Rattle.cloud.proofs.read_points.Goals.{then-points-count-via-else-points-count+then-normals-count as short-normals}
use Rattle.cloud.proofs.read_points.Goals as goal

pub overflow_add-malformed : goal.overflow_add-malformed
overflow_add-malformed c =
    let h = body_within c.args.bytes.now c.args.from _ (counted_wrong _ _ (sym c.in-Err.ensures)) in omega arith

pub returns-in-Err : goal.returns-in-Err
returns-in-Err c = answer_refused _ _ _ _ _ _ (outcome_wrong _ _ _ _ _ (counted_wrong _ _ (sym c.in-Err.ensures))) c.refused.ensures

pub returns-then-points-count : goal.returns-then-points-count
returns-then-points-count c =
    let ps = counted_good _ _ (sym c.in-Ok.ensures) in let len = ps.1.1 in
    elim c.then-points-count.branch [
      | short-points w ↦ answer_refused _ 11 0 _ _ _ (outcome_long _ _ _ _ ps.0 ps.1.0 (omega (arith, w.if-points-count.true)))
          c.refused-then-points-count.ensures
      | short-normals w ↦ answer_refused _ 11 0 _ _ _
          (outcome_long_normals _ _ _ _ ps.0 ps.1.0 (omega (arith, w.if-points-count.false)) (omega (arith, w.if-normals-count.true)))
          c.refused-then-points-count.ensures
    ]

pub store_points-requires : goal.store_points-requires
store_points-requires c =
    let ps = counted_good _ _ (sym c.in-Ok.ensures) in let len = ps.1.1 in
    let h = c.if-points-count.false in
    let g = c.if-normals-count.false in
    record { read = ps.0; lines_good = ps.1.0; as_many = len; points_fit = omega arith; normals_fit = omega arith }

pub returns : goal.returns
unfolding read_of laid_out
returns c =
    let ps = counted_good _ _ (sym c.in-Ok.ensures) in let len = ps.1.1 in
    let h = c.if-points-count.false in
    let g = c.if-normals-count.false in
    let w = c.store_points.ensures in
    answer_accepted _ _ ps.0 _ _ _ _ _ (outcome_fits _ _ _ _ ps.0 ps.1.0 (omega arith) (omega arith)) (rw len) (rw ps.1.0 at w.0)
    (rw ps.1.0 at w.1)
