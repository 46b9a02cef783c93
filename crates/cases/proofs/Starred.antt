-- The starred table holds, from the definitions: one theorem. Assumes nothing.
use Prim.Native.Nat.{ℕ, ◌*◌, ◌/◌}
use mathlib.Core.Path.{◌≡◌, refl, sym, ap, ◌∙◌}
use mathlib.Core.Bool.{cond}
use mathlib.Core.List.{List, ◌∷◌, [], ◌++◌}
use native.Mathlib.Omega.{arith}
use lib.Count.{count_trailing_zeros}
use lib.Dec.{eqb}
use lib.ListN.{length}
use lib.Ieee.{Float, span, climb, size, odd, units, round, neg, sum, add, sub, mul, div, lt, eq, le, ne, of_int, to_unsigned, is_nan, of_fields, of_bits, to_bits}
use Rattle.numbers.specs.Rounded.{f32}
use Rattle.settings.specs.declared.BallPivotingConfig.{BallPivotingConfig}
use Rattle.domain.specs.declared.Refusal.{Refusal}
use Rattle.domain.specs.Inner.Outcome.{result_of}
use Rattle.domain.proofs.Refusals.{size_good, size_many, numbered, row_refused, row_passed}
use Rattle.answers.proofs.Outcome.{ok_outcome, outcome_err}
use Rattle.std.specs.Prelude.{Err}
use Rattle.estimate.specs.Estimate.{nearer, nearest_from, least_distance, least_distances, scaled, optimal_radius, estimate, estimate_of}
use Rattle.patch.specs.Lay.{same, push, marked, with_face, cleared as cleared-patch, seeded, popped, met, pivoted, looked_at, look, next, run, begun, lay_one}
use Rattle.patch.specs.Lay.{lay_all, patch}
use Rattle.numbers.specs.Acos.{R, abs, high_part, acos_middle, acos_low, acos_high, acos_inside, acos}
use Rattle.numbers.specs.Cut.{ceil}
use Rattle.numbers.specs.Order.{minimum, maximum, clamp}
use Rattle.numbers.specs.Root.{isqrt, nearest_root, root_of_units, root}
use Rattle.quality.specs.Measures.{radius_of, angle, least, largest, aspect_ratio, edge_ratio, score, measures, degenerate}
use Rattle.triangle.specs.Quality.{area, circumradius, quality, source_acceptable, acceptable}
use Rattle.vector.specs.Vector.{difference, magnitude_squared, magnitude, cross, squared, distance}
use Rattle.points.specs.Points.{point_at}
use Rattle.lists.specs.Lists.{up_from, any}
use Rattle.sorting.specs.Insertion.{insert_before}
use Rattle.sorting.specs.Inner.Places.{place}
use Rattle.sorting.specs.Sorted.{insert_all, percentile_of}
use Rattle.ranges.specs.Range.{inside, leading, first_outside, first_bad_point, farthest, percentile_inside}
use Rattle.domain.specs.Refusals.{Check, check, refusal, first_refusal, size_checks, point_check, setting_check, roomy, estimate_refusal, reconstruct_refusal}
use Rattle.settings.specs.Settings.{list_inside, first_failing, setting_tests, first_bad_setting, defaults}
use Rattle.grid.specs.Grid.{least_from, bounds_min, cell_on, cell_of, before, precedes_by_cell, by_cell, within_range, in_range, range_of, keep, neighbors}
use Rattle.grid.specs.Inner.Looking.{order_of}
use Rattle.radii.specs.Radii.{distances_to, total, average, near_of, nearest_distances, densities_from, spaced, dedup, radius_candidates, radii_from, adaptive_radii}
use Rattle.patch.specs.Frontier.{sift, after_pop, waiting_after}
use Rattle.patch.specs.Search.{is_second, is_third, third_of, second_of, first_of, score_of, best_of, searching}
use Rattle.decisions.specs.Decisions.{apart, quality_at, is_close, accepts, middle, around, pivotable, score_at, floats_of}
use Rattle.decisions.specs.Inner.Completes.{completes}
use Rattle.plain.specs.Plain.{candidate, candidates as candidates-plain, sound, valid, faces_over, faces_at, plain_faces_from, plain_faces}
use Rattle.plain.specs.Reached.{paired, plain_reached}
use Rattle.reaching.specs.Reaching.{accept_all, reaches}
use Rattle.ball_pivoting.specs.Reconstruct.{spatial_index_of, scene_of, radii_of, laid_of, laid, plainly, found_at, found, reached_at, judged_at, reason_by, reason}
use Rattle.ball_pivoting.specs.Reconstruct.{slots, refused, accepted, delivered, reconstructed, faces_after}
use Rattle.clearing.specs.Swept.{swept}
use Rattle.cases.specs.Starred.{later_checks, later_checks_of_estimate, StarredCases}

-- ---- the lengths: 4,096 points pass, 4,097 do not, whatever is checked behind them
module _ (p q : ℕ) (long : q ≡ p) (rest : List Check) where
  passes : p ≡ 3 * 4096 → first_refusal (size_checks p q ++ rest) ≡ first_refusal rest
  unfolding numbered
  passes h =
      let good = size_good p q (record { some = omega arith; threes = omega arith; as_long = long; few = omega arith }) in
      row_passed (size_checks p q) rest refl (ok_outcome _ (first_refusal (size_checks p q)) (ap (λ (r : Refusal). r.answer) good))

  too_many_lem : p ≡ 3 * 4097 → first_refusal (size_checks p q ++ rest) ≡ refusal 3 0
  unfolding numbered
  too_many_lem h =
      let many = size_many p q (λ z. omega arith) (omega arith) long (omega arith) in
      let told : Err (refusal 3 0) ≡ result_of (first_refusal (size_checks p q)) = rw many in
      sym (outcome_err _ (first_refusal (size_checks p q ++ rest)) (row_refused (size_checks p q) rest refl (refusal 3 0) told)).0

module _ (points normals : List Float) (s : BallPivotingConfig) (words floats : ℕ) (long : length normals ≡ length points) where
  abbrev later : ℕ → List Check
  later n = point_check n (first_bad_point points normals) ∷ setting_check (first_bad_setting s) ∷ check (roomy n words floats) 7 0 ∷ []

  most : length points ≡ 3 * 4096 → reconstruct_refusal points normals s words floats ≡ first_refusal (later_checks points normals s words floats)
  unfolding reconstruct_refusal
  most h =
      let n : length points / 3 ≡ 4096 = omega arith in
      passes (length points) (length normals) long (later (length points / 3)) h ∙ ap (λ (k : ℕ). first_refusal (later k)) n

  three : (room : ℕ) → length points ≡ 3 * 4097 → reconstructed points normals s room words floats ≡ refused 3 0
  unfolding reconstructed reconstruct_refusal
  three room h =
      ap (λ (r : Refusal). cond (eqb r.answer 0) (delivered (reason s points) (found s points) (radii_of s points) room) (refused r.answer r.detail))
      (too_many_lem (length points) (length normals) long (later (length points / 3)) h)

module _ (points : List Float) (percentile : Float) (words floats : ℕ) where
  abbrev later_of_estimate : ℕ → List Check
  later_of_estimate n = point_check n (first_outside farthest points) ∷ check (percentile_inside percentile) 6 0 ∷ check (roomy n words floats) 7 0 ∷ []

  most_estimate : length points ≡ 3 * 4096 → estimate_refusal points percentile words floats
      ≡ first_refusal (later_checks_of_estimate points percentile words floats)
  unfolding estimate_refusal
  most_estimate h =
      let n : length points / 3 ≡ 4096 = omega arith in
      passes (length points) (length points) refl (later_of_estimate (length points / 3)) h ∙ ap (λ (k : ℕ). first_refusal (later_of_estimate k)) n

  three_estimate : length points ≡ 3 * 4097 → estimate_of points percentile words floats ≡ estimate 3 0 (f32 0)
  unfolding estimate_of estimate_refusal
  three_estimate h =
      ap (λ (r : Refusal). cond (eqb r.answer 0) (estimate 0 0 (optimal_radius points (length points / 3) percentile))
      (estimate r.answer r.detail (f32 0)))
      (too_many_lem (length points) (length points) refl (later_of_estimate (length points / 3)) h)

pub starred_cases : StarredCases
unfolding count_trailing_zeros span climb size odd units round neg sum add sub mul div lt eq le ne of_int to_unsigned is_nan of_fields of_bits to_bits R abs high_part
    acos_middle acos_low acos_high acos_inside acos ceil minimum maximum clamp isqrt nearest_root root_of_units root area radius_of circumradius angle least largest
    aspect_ratio edge_ratio score measures degenerate quality source_acceptable acceptable difference magnitude_squared magnitude cross squared distance point_at
    up_from insert_before place insert_all percentile_of inside leading first_outside list_inside first_refusal first_bad_point roomy reconstruct_refusal first_failing
    setting_tests first_bad_setting defaults least_from bounds_min cell_on cell_of before precedes_by_cell by_cell order_of within_range in_range range_of keep neighbors
    distances_to total average near_of nearest_distances densities_from spaced dedup radius_candidates radii_from adaptive_radii any sift after_pop waiting_after
    same push marked with_face cleared-patch seeded popped met pivoted looked_at look next run begun lay_one lay_all patch is_second is_third third_of second_of
    first_of score_of best_of searching apart quality_at is_close accepts middle around pivotable score_at completes floats_of candidate candidates-plain sound
    valid faces_over faces_at plain_faces_from plain_faces spatial_index_of scene_of radii_of laid_of laid plainly found_at found accept_all reaches paired plain_reached
    reached_at judged_at reason_by reason slots refused accepted delivered reconstructed swept faces_after percentile_inside estimate_refusal nearer nearest_from
    least_distance least_distances scaled optimal_radius estimate_of
starred_cases = record {
  no_points_lem = λ a b c s room words floats. refl;
  four_numbers = λ a b c d normals s room words floats. refl;
  four_numbers_estimate = λ a b c d percentile words floats. refl;
  most_pass = refl;
  most_points = λ points normals s words floats h long. most points normals s words floats long h;
  most_points_estimate = most_estimate;
  too_many_points_lem = λ points normals s room words floats h long. three points normals s words floats long room h;
  too_many_points_estimate = three_estimate;
  farthest-passes = refl;
  farther_refused = λ s room words floats. refl;
  farthest_passes_estimate = refl;
  farther_refused_estimate = λ percentile words floats. refl;
  percentile_one_passes = refl;
  percentile_nan_refused = λ words floats. refl;
  one_point_anywhere = λ x y z percentile. refl;
  one_point = refl;
  two_points = refl;
  fewer_samples = refl;
  more_samples = refl;
  three_radii = refl;
  frontier = refl;
  equal_without_area = refl;
  equal_refused = refl;
}
