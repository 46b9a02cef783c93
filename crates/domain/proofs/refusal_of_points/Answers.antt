-- `domain::refusal_of_points` meets its contract. Assumes nothing.
use mathlib.Core.List.{[], ◌∷◌}
use mathlib.Core.Path.{refl}
use Prim.Native.Nat.{◌/◌}
use native.Mathlib.Omega.{arith}
use lib.ListN.{length}
use Rattle.std.proofs.lemmas.Result.{err_from_is_err_and}
use Rattle.ranges.specs.Range.{first_outside, farthest}
use Rattle.ranges.proofs.Number.{below_some}
use Rattle.domain.specs.Refusals.{first_refusal, size_checks, point_check}
use Rattle.domain.proofs.Refusals.{numbered, row_refused, size_sized, point_refused, points_passed}
use Rattle.domain.proofs.refusal_of_points.Goals as goal

pub returns-in_err-refusal_of_lengths : goal.returns-in_err-refusal_of_lengths
unfolding numbered
returns-in_err-refusal_of_lengths c =
    let a = c.args in
    let p = length a.points.now in
    let r = err_from_is_err_and c.from_residual.result c.from_residual.ensures.1 in
    rw (r.1, r.2)
    (row_refused (size_checks p p) (point_check (p / 3) (first_outside farthest a.points.now) ∷ []) refl _ c.in_err-refusal_of_lengths.ensures)

pub overflow_cast-result : goal.overflow_cast-result
overflow_cast-result c =
    let p = length c.args.points.now in
    let sized = size_sized p p c.in_ok-refusal_of_lengths.ensures in
    let b = below_some c.in-Some.ensures in
    omega arith

pub returns-in-Some : goal.returns-in-Some
returns-in-Some c =
    let a = c.args in
    let p = length a.points.now in
    rw (point_refused p p (p / 3) (first_outside farthest a.points.now) [] c.in_ok-refusal_of_lengths.ensures _ c.in-Some.ensures)

pub returns : goal.returns
unfolding first_refusal
returns c =
    let a = c.args in
    let p = length a.points.now in
    rw (points_passed p p (p / 3) (first_outside farthest a.points.now) [] c.in_ok-refusal_of_lengths.ensures c.in_default.ensures)
