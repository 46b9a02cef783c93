-- The texts of whole files, by computation. Assumes nothing.
use mathlib.Core.Path.{refl}
use lib.Count.{count_trailing_zeros}
use lib.Ieee.{span, climb, size, odd, units, round, neg, sum, add, sub, mul, div, lt, eq, le, ne, of_int, to_unsigned, is_nan, of_fields, of_bits, to_bits}
use Rattle.numbers.specs.Acos.{R, abs, high_part, acos_middle, acos_low, acos_high, acos_inside, acos}
use Rattle.numbers.specs.Cut.{ceil}
use Rattle.numbers.specs.Order.{minimum, maximum, clamp}
use Rattle.numbers.specs.Root.{isqrt, nearest_root, root_of_units, root}
use Rattle.quality.specs.Measures.{radius_of, angle, least, largest, aspect_ratio, edge_ratio, score, measures, degenerate}
use Rattle.triangle.specs.Quality.{area, circumradius, quality, source_acceptable, acceptable}
use Rattle.vector.specs.Vector.{difference, magnitude_squared, magnitude, cross, squared, distance}
use Rattle.points.specs.Points.{point_at}
use Rattle.sorting.specs.Insertion.{insert_before}
use Rattle.sorting.specs.Inner.Places.{place}
use Rattle.sorting.specs.Sorted.{insert_all, percentile_of}
use Rattle.ranges.specs.Range.{inside, leading, first_outside, first_bad_point}
use Rattle.domain.specs.Refusals.{first_refusal, roomy, reconstruct_refusal}
use Rattle.settings.specs.Settings.{list_inside, first_failing, setting_tests, first_bad_setting, defaults}
use Rattle.grid.specs.Grid.{least_from, bounds_min, cell_on, cell_of, before, precedes_by_cell, by_cell, within_range, in_range, range_of, keep, neighbors}
use Rattle.grid.specs.Inner.Looking.{order_of}
use Rattle.radii.specs.Radii.{distances_to, total, average, near_of, nearest_distances, densities_from, spaced, dedup, radius_candidates, radii_from, adaptive_radii}
use Rattle.patch.specs.Frontier.{sift, after_pop, waiting_after}
use Rattle.patch.specs.Lay.{same, push, marked, with_face, cleared as cleared-patch, seeded, popped, met, pivoted, looked_at, look, next, run, begun, lay_one}
use Rattle.patch.specs.Lay.{lay_all, patch}
use Rattle.patch.specs.Search.{is_second, is_third, third_of, second_of, first_of, score_of, best_of, searching}
use Rattle.decisions.specs.Decisions.{apart, quality_at, is_close, accepts, middle, around, pivotable, score_at, floats_of}
use Rattle.decisions.specs.Inner.Completes.{completes}
use Rattle.plain.specs.Plain.{candidate, candidates as candidates-plain, sound, valid, faces_over, faces_at, plain_faces_from, plain_faces}
use Rattle.plain.specs.Reached.{paired, plain_reached}
use Rattle.reaching.specs.Reaching.{accept_all, reaches}
use Rattle.ball_pivoting.specs.Reconstruct.{spatial_index_of, scene_of, radii_of, laid_of, laid, plainly, found_at, found, reached_at, judged_at, reason_by, reason}
use Rattle.ball_pivoting.specs.Reconstruct.{slots, refused, accepted, delivered, reconstructed, faces_after}
use Rattle.patch.specs.View as view
use Rattle.cloud.specs.Format as format
use Rattle.cloud.specs.Answers as answers
use Rattle.listing.specs.Listing as listing
use Rattle.patch_text.specs.Text.{patch_text, laid_text, outcome_text, file_text, printed}
use Rattle.cases.specs.Texts.{TextCases}
use Rattle.lists.specs.Lists.{up_from, any}
use Rattle.clearing.specs.Swept.{swept}

pub text_cases : TextCases
unfolding count_trailing_zeros span climb size odd units round neg sum add sub mul div lt eq le ne of_int to_unsigned is_nan of_fields of_bits to_bits R abs high_part
    acos_middle acos_low acos_high acos_inside acos ceil minimum maximum clamp isqrt nearest_root root_of_units root area radius_of circumradius angle least largest
    aspect_ratio edge_ratio score measures degenerate quality source_acceptable acceptable difference magnitude_squared magnitude cross squared distance point_at
    up_from insert_before place insert_all percentile_of inside leading first_outside list_inside first_refusal first_bad_point roomy reconstruct_refusal first_failing
    setting_tests first_bad_setting defaults least_from bounds_min cell_on cell_of before precedes_by_cell by_cell order_of within_range in_range range_of keep neighbors
    distances_to total average near_of nearest_distances densities_from spaced dedup radius_candidates radii_from adaptive_radii any sift after_pop waiting_after
    same push marked with_face cleared-patch seeded popped met pivoted looked_at look next run begun lay_one lay_all patch is_second is_third third_of second_of
    first_of score_of best_of searching apart quality_at is_close accepts middle around pivotable score_at completes floats_of candidate candidates-plain sound
    valid faces_over faces_at plain_faces_from plain_faces spatial_index_of scene_of radii_of laid_of laid plainly found_at found accept_all reaches paired plain_reached
    reached_at judged_at reason_by reason slots refused accepted delivered reconstructed swept faces_after view.flat format.then format.starts_with
    format.starts_digit format.digits format.few format.digits_value format.decimal format.fraction format.unsigned_number format.number format.field
    format.triple format.point_fields format.point_ahead format.lines_of_points format.body format.under format.file answers.outcome_of answers.outcome
    answers.coordinates_of listing.text listing.spelled listing.digits_of listing.field_text listing.face_line listing.face_lines listing.counts_line
    listing.listing listing.refusal_text patch_text laid_text outcome_text file_text printed
text_cases = record { listing = refl; five_counts = refl; empty = refl; malformed = refl; two_points = refl }
