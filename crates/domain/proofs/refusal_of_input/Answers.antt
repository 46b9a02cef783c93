-- `domain::refusal_of_input` meets its contract. Assumes nothing.
use mathlib.Core.List.{List, [], ◌∷◌}
use mathlib.Core.Path.{◌≡◌, refl, ◌∙◌}
use Prim.Native.Nat.{ℕ, ◌/◌}
use native.Mathlib.Omega.{arith}
use lib.Ieee.{Float}
use lib.ListN.{length}
use borrow.Author.Tests.{eq-eqb, ne_eqb}
use Rattle.std.specs.Prelude.{Ok, Option}
use Rattle.std.proofs.lemmas.Result.{err_from_is_err_and}
use Rattle.ranges.specs.Range.{first_outside, first_bad_point, farthest, largest_finite}
use Rattle.ranges.specs.Inner.Number.{some_below, first_there}
use Rattle.ranges.proofs.Number.{below_some, number_some, number_none, first_there_below}
use Rattle.settings.specs.Settings.{first_bad_setting}
use Rattle.domain.specs.Refusals.{first_refusal, size_checks, point_check, setting_check}
use Rattle.domain.specs.Inner.Outcome.{result_of}
use Rattle.domain.proofs.Refusals.{check_passed, check_failed, numbered, row_refused, size_sized, point_refused, points_passed}
use Rattle.domain.proofs.refusal_of_input.Goals as goal

-- where the lengths agree, the first point and the first normal outside are counted alike
module _ (points normals : List Float) (sized : Ok tt ≡ result_of (first_refusal (size_checks (length points) (length normals)))) where
  abbrev first_bad : Option ℕ
  first_bad =
      first_there (some_below (length points / 3) (first_outside farthest points))
      (some_below (length normals / 3) (first_outside largest_finite normals))

  one_bad : first_bad ≡ some_below (length points / 3) (first_bad_point points normals)
  unfolding first_bad_point
  one_bad =
      let z = size_sized (length points) (length normals) sized in
      rw z.as_long (first_there_below (length points / 3) (first_outside farthest points) (first_outside largest_finite normals))

pub returns-in_err-refusal_of_lengths : goal.returns-in_err-refusal_of_lengths
unfolding numbered
returns-in_err-refusal_of_lengths c =
    let a = c.args in
    let p = length a.points.now in
    let q = length a.normals.now in
    let r = err_from_is_err_and c.from_residual.result c.from_residual.ensures.1 in
    rw (r.1, r.2)
    (row_refused (size_checks p q)
    (point_check (p / 3) (first_bad_point a.points.now a.normals.now) ∷ setting_check (first_bad_setting a.settings) ∷ [])
    refl _ c.in_err-refusal_of_lengths.ensures)

pub overflow_cast-result : goal.overflow_cast-result
overflow_cast-result c =
    let a = c.args in
    let e = c.in_ok-refusal_of_lengths.ensures in
    let sized = size_sized (length a.points.now) (length a.normals.now) e in
    let b = below_some (c.in-Some.ensures ∙ one_bad a.points.now a.normals.now e) in
    omega arith

pub returns-in-Some : goal.returns-in-Some
returns-in-Some c =
    let a = c.args in
    let e = c.in_ok-refusal_of_lengths.ensures in
    rw (point_refused (length a.points.now) (length a.normals.now) _ (first_bad_point a.points.now a.normals.now) _ e _
    (c.in-Some.ensures ∙ one_bad a.points.now a.normals.now e))

pub returns-in-Some-first_bad_setting : goal.returns-in-Some-first_bad_setting
returns-in-Some-first_bad_setting c =
    let a = c.args in
    let e = c.in_ok-refusal_of_lengths.ensures in
    let s = number_some c.in-Some-first_bad_setting.ensures in
    rw (
      points_passed (length a.points.now) (length a.normals.now) _ (first_bad_point a.points.now a.normals.now) _ e
          (c.in_default.ensures ∙ one_bad a.points.now a.normals.now e),
      check_failed (setting_check (first_bad_setting a.settings)) [] (ne_eqb _ 0 s.1),
      s.0,
    )

pub returns : goal.returns
unfolding first_refusal
returns c =
    let a = c.args in
    let e = c.in_ok-refusal_of_lengths.ensures in
    rw (
      points_passed (length a.points.now) (length a.normals.now) _ (first_bad_point a.points.now a.normals.now) _ e
          (c.in_default.ensures ∙ one_bad a.points.now a.normals.now e),
      check_passed (setting_check (first_bad_setting a.settings)) [] (eq-eqb _ 0 (number_none c.in_default-first_bad_setting.ensures)),
    )
