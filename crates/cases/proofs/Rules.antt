-- The cases of the frontier's two rules. Assumes nothing.
use Prim.Native.Nat.{ℕ}
use mathlib.Core.Path.{◌≡◌, refl, ap}
use mathlib.Core.List.{List}
use lib.Count.{count_trailing_zeros}
use lib.Ieee.{Float, span, climb, size, odd, units, round, neg, sum, add, sub, mul, div, lt, eq, le, ne, of_int, to_unsigned, is_nan, of_fields, of_bits, to_bits}
use Rattle.settings.specs.declared.BallPivotingConfig.{BallPivotingConfig}
use Rattle.patch.specs.Lay.{same, push, marked, with_face, cleared as cleared-patch, seeded, popped, met, pivoted, looked_at, look, next, run, begun, lay_one}
use Rattle.patch.specs.Lay.{lay_all, patch}
use Rattle.ball_pivoting.specs.Reconstruct.{spatial_index_of, scene_of, radii_of, laid_of, laid, plainly, found_at, found, reached_at, judged_at, reason_by, reason}
use Rattle.ball_pivoting.specs.Reconstruct.{slots, refused, accepted, delivered, reconstructed, faces_after}
use Rattle.numbers.specs.Acos.{R, abs, high_part, acos_middle, acos_low, acos_high, acos_inside, acos}
use Rattle.numbers.specs.Cut.{ceil}
use Rattle.numbers.specs.Order.{minimum, maximum, clamp}
use Rattle.numbers.specs.Root.{isqrt, nearest_root, root_of_units, root}
use Rattle.quality.specs.Measures.{radius_of, angle, least, largest, aspect_ratio, edge_ratio, score, measures, degenerate}
use Rattle.triangle.specs.Quality.{area, circumradius, quality, source_acceptable, acceptable}
use Rattle.vector.specs.Vector.{difference, magnitude_squared, magnitude, cross, squared, distance}
use Rattle.points.specs.Points.{point_at}
use Rattle.lists.specs.Lists.{up_from, any}
use Rattle.sorting.specs.Insertion.{insert_before}
use Rattle.sorting.specs.Inner.Places.{place}
use Rattle.sorting.specs.Sorted.{insert_all, percentile_of}
use Rattle.ranges.specs.Range.{inside, leading, first_outside, first_bad_point}
use Rattle.domain.specs.Refusals.{first_refusal, roomy, reconstruct_refusal}
use Rattle.settings.specs.Settings.{list_inside, first_failing, setting_tests, first_bad_setting, defaults}
use Rattle.grid.specs.Grid.{least_from, bounds_min, cell_on, cell_of, before, precedes_by_cell, by_cell, within_range, in_range, range_of, keep, neighbors}
use Rattle.grid.specs.Inner.Looking.{order_of}
use Rattle.radii.specs.Radii.{distances_to, total, average, near_of, nearest_distances, densities_from, spaced, dedup, radius_candidates, radii_from, adaptive_radii}
use Rattle.patch.specs.Frontier.{sift, after_pop, waiting_after, heap_of, queue_of, pop_of}
use Rattle.patch.specs.Search.{is_second, is_third, third_of, second_of, first_of, score_of, best_of, searching}
use Rattle.decisions.specs.Decisions.{apart, quality_at, is_close, accepts, middle, around, pivotable, score_at, floats_of}
use Rattle.decisions.specs.Inner.Completes.{completes}
use Rattle.plain.specs.Plain.{candidate, candidates as candidates-plain, sound, valid, faces_over, faces_at, plain_faces_from, plain_faces}
use Rattle.plain.specs.Reached.{paired, plain_reached}
use Rattle.reaching.specs.Reaching.{accept_all, reaches}
use Rattle.clearing.specs.Swept.{swept}
use Rattle.cases.specs.Rules.{laid_with, RuleCases}
use Rattle.cases.proofs.Refused.{alike}

module _ (c : BallPivotingConfig) (pts : List Float) where
  heap_is : c.frontier_rule ≡ 1 → laid_of c pts ≡ laid_with heap_of c pts
  unfolding laid_of waiting_after
  heap_is e = ap (λ (rule : ℕ). laid_with (pop_of rule) c pts) e

  queue_is : c.frontier_rule ≡ 2 → laid_of c pts ≡ laid_with queue_of c pts
  unfolding laid_of waiting_after
  queue_is e = ap (λ (rule : ℕ). laid_with (pop_of rule) c pts) e

pub rule_cases : RuleCases
unfolding count_trailing_zeros span climb size odd units round neg sum add sub mul div lt eq le ne of_int to_unsigned is_nan of_fields of_bits to_bits R abs high_part
    acos_middle acos_low acos_high acos_inside acos ceil minimum maximum clamp isqrt nearest_root root_of_units root area radius_of circumradius angle least largest
    aspect_ratio edge_ratio score measures degenerate quality source_acceptable acceptable difference magnitude_squared magnitude cross squared distance point_at
    up_from insert_before place insert_all percentile_of inside leading first_outside list_inside first_refusal first_bad_point roomy reconstruct_refusal first_failing
    setting_tests first_bad_setting defaults least_from bounds_min cell_on cell_of before precedes_by_cell by_cell order_of within_range in_range range_of keep neighbors
    distances_to total average near_of nearest_distances densities_from spaced dedup radius_candidates radii_from adaptive_radii any sift after_pop waiting_after
    same push marked with_face cleared-patch seeded popped met pivoted looked_at look next run begun lay_one lay_all patch is_second is_third third_of second_of
    first_of score_of best_of searching apart quality_at is_close accepts middle around pivotable score_at completes floats_of candidate candidates-plain sound
    valid faces_over faces_at plain_faces_from plain_faces spatial_index_of scene_of radii_of laid_of laid plainly found_at found accept_all reaches paired plain_reached
    reached_at judged_at reason_by reason slots refused accepted delivered reconstructed swept faces_after
rule_cases = record {
  heap = heap_is;
  queue = queue_is;
  refused_alike = λ a b c pts normals room words floats known-a known-b. alike a b c pts known-a known-b normals words floats room;
  heap_empties = refl;
  queue_empties = refl;
  heap_lays = refl;
  queue_lays = refl;
  heap_passes = refl;
  queue_passes = refl;
  zero_refused = λ room words floats. refl;
  three_refused = λ room words floats. refl;
}
