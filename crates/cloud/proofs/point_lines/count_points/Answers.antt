-- `cloud::point_lines::count_points` meets its contract: the lines that were counted and those that are left are all.
-- The measure is the bytes left. Assumes nothing.
use native.Mathlib.Omega.{arith}
use lib.ListN.{drop}
use Rattle.cloud_lines.specs.Format.{point_fields}
use Rattle.cloud.proofs.Lines.{counting_start, counting_end, counting_wrong, counting_next}
use Rattle.cloud_lines.proofs.Bare.{skipped, skipped_not}
use Rattle.cloud_lines.proofs.Shorter.{point_shorter}
use Rattle.cloud.proofs.point_lines.count_points.Goals as goal

pub loop-at-init : goal.loop-at-init
loop-at-init c = counting_start _ _

pub overflow_add-result : goal.overflow_add-result
overflow_add-result c = let i = c.loop-at.invariant.few in omega arith

pub returns-in_default : goal.returns-in_default
returns-in_default c =
    counting_wrong _ _ _ _ c.loop-at.invariant c.loop-at-test.true (skipped_not _ _ c.in_default.ensures)

pub overflow_add-count : goal.overflow_add-count
overflow_add-count c = let i = c.loop-at.invariant.few in omega arith

pub loop-at-smaller : goal.loop-at-smaller
loop-at-smaller c =
    let s = c.args.s.now in
    let p = skipped s _ (point_fields (drop c.loop-at.at s)) c.in-Some.ensures in
    let h = point_shorter s c.loop-at.at c.in-Some.next p.0 p.1 in
    omega arith

pub loop-at-preserved : goal.loop-at-preserved
loop-at-preserved c =
    let s = c.args.s.now in
    let p = skipped s _ (point_fields (drop c.loop-at.at s)) c.in-Some.ensures in
    counting_next _ _ _ _ c.loop-at.invariant c.loop-at-test.true p.0 _ p.1

pub returns : goal.returns
returns c = counting_end _ _ _ _ c.loop-at.invariant c.loop-at-test.false
