-- The definitions computed: three equal points, three in a line, and a cloud at which the faces differ but a call with
-- too short a slice does not. Assumes nothing.
use mathlib.Core.Path.{◌≡◌, refl}
use mathlib.Core.Bool.{true}
use mathlib.Core.List.{List, [], ◌∷◌, map}
use lib.Count.{count_trailing_zeros}
use lib.ListN.{replicate}
use lib.Ieee.{Float, span, climb, size, odd, units, round, neg, sum, add, sub, mul, div, lt, eq, le, ne, of_int, to_unsigned, is_nan, of_fields, of_bits, to_bits}
use Rattle.numbers.specs.Rounded.{f32}
use Rattle.settings.specs.declared.BallPivotingConfig.{BallPivotingConfig}
use Rattle.numbers.specs.Acos.{R, abs, high_part, acos_middle, acos_low, acos_high, acos_inside, acos}
use Rattle.numbers.specs.Cut.{ceil}
use Rattle.numbers.specs.Order.{minimum, maximum, clamp}
use Rattle.numbers.specs.Root.{isqrt, nearest_root, root_of_units, root}
use Rattle.quality.specs.Measures.{radius_of, angle, least, largest, aspect_ratio, edge_ratio, score, measures, degenerate}
use Rattle.triangle.specs.Quality.{area, circumradius, quality, source_acceptable, acceptable}
use Rattle.vector.specs.Vector.{difference, magnitude_squared, magnitude, cross, squared, distance}
use Rattle.points.specs.Points.{point_at}
use Rattle.lists.specs.Lists.{any, up_from}
use Rattle.sorting.specs.Insertion.{insert_before}
use Rattle.sorting.specs.Inner.Places.{place}
use Rattle.sorting.specs.Sorted.{insert_all, percentile_of}
use Rattle.ranges.specs.Range.{inside, leading, first_outside, first_bad_point}
use Rattle.domain.specs.Refusals.{first_refusal, roomy, reconstruct_refusal}
use Rattle.settings.specs.Settings.{list_inside, first_failing, setting_tests, first_bad_setting, defaults}
use Rattle.grid.specs.Grid.{least_from, bounds_min, cell_on, cell_of, before, precedes_by_cell, by_cell, within_range, in_range, range_of, keep, neighbors}
use Rattle.grid.specs.Inner.Looking.{order_of}
use Rattle.radii.specs.Radii.{distances_to, total, average, near_of, nearest_distances, densities_from, spaced, dedup, radius_candidates, radii_from, adaptive_radii}
use Rattle.patch.specs.Frontier.{sift, after_pop, waiting_after}
use Rattle.patch.specs.Lay.{same, push, marked, with_face, cleared as cleared-patch, seeded, popped, met, pivoted, looked_at, look, next, run, begun, lay_one}
use Rattle.patch.specs.Lay.{lay_all, patch}
use Rattle.patch.specs.Search.{is_second, is_third, third_of, second_of, first_of, score_of, best_of, searching}
use Rattle.decisions.specs.Decisions.{apart, quality_at, is_close, accepts, middle, around, pivotable, score_at, floats_of}
use Rattle.decisions.specs.Inner.Completes.{completes}
use Rattle.plain.specs.Plain.{candidate, candidates as candidates-plain, sound, valid, faces_over, faces_at, plain_faces_from, plain_faces}
use Rattle.ball_pivoting.specs.Reconstruct.{spatial_index_of, scene_of, radii_of, laid_of, laid, plainly, found_at, found, slots, refused, accepted, delivered}
use Rattle.ball_pivoting.specs.Reconstruct.{reconstructed, faces_after, reached_at, judged_at, reason_by, reason}
use Rattle.plain.specs.Reached.{paired, plain_reached}
use Rattle.reaching.specs.Reaching.{accept_all, reaches}
use Rattle.clearing.specs.Swept.{swept}
use Rattle.patch.specs.Lay.{face}
use Rattle.arealess.specs.Source.{source_accepts, source_score, source_floats, source_laid, source_found_at, source_found, source_reconstructed}

-- radius 1, empty lists, adaptive on, threshold 0, factors 3 and 2, and a least area
abbrev with_area : Float → BallPivotingConfig
with_area least = record {
  radius = f32 0x3f800000;
  additional_radii = map f32 (0 ∷ 0 ∷ 0 ∷ 0 ∷ 0 ∷ 0 ∷ 0 ∷ 0 ∷ []);
  additional_count = 0;
  adaptive_radius = true;
  adaptive_percentiles = map f32 (0 ∷ 0 ∷ 0 ∷ 0 ∷ 0 ∷ 0 ∷ 0 ∷ 0 ∷ []);
  percentile_count = 0;
  quality_threshold = f32 0;
  max_edge_factor = f32 0x40400000;
  min_triangle_area = least;
  use_spatial_index = true;
  spatial_cell_factor = f32 0x40000000;
  frontier_rule = 1;
}

abbrev equal_points : List Float
equal_points = replicate 9 (f32 0x3f800000)

-- 0, 1 and 2 on the first axis
abbrev in_line : List Float
in_line = map f32 (0 ∷ 0 ∷ 0 ∷ 0x3f800000 ∷ 0 ∷ 0 ∷ 0x40000000 ∷ 0 ∷ 0 ∷ [])

-- two points at 0, and 1 on the first and on the second axis
abbrev two_equal : List Float
two_equal = map f32 (0 ∷ 0 ∷ 0 ∷ 0 ∷ 0 ∷ 0 ∷ 0x3f800000 ∷ 0 ∷ 0 ∷ 0 ∷ 0x3f800000 ∷ 0 ∷ [])

pub record AreaCases : Type 0 where
  -- the source lays a face of area zero, the call finds no triangle
  pub equal_source : (source_found (with_area (f32 0)) equal_points).faces ≡ face 0 1 2 ∷ []
  pub equal_ours : (found (with_area (f32 0)) equal_points).faces ≡ []
  pub line_source : (source_found (with_area (f32 0)) in_line).faces ≡ face 0 1 2 ∷ []
  pub line_ours : (found (with_area (f32 0)) in_line).faces ≡ []
  -- here both find faces, and not the same; with no room for any, both calls answer 9 and are the same
  pub two_source : (source_found (with_area (f32 0)) two_equal).faces ≡ face 0 1 2 ∷ []
  pub two_ours : (found (with_area (f32 0)) two_equal).faces ≡ face 0 2 3 ∷ face 2 3 1 ∷ []
  pub two_nine : reconstructed two_equal two_equal (with_area (f32 0)) 0 160 80 ≡ source_reconstructed two_equal two_equal (with_area (f32 0)) 0 160 80

pub area_cases : AreaCases
unfolding count_trailing_zeros span climb size odd units round neg sum add sub mul div lt eq le ne of_int to_unsigned is_nan of_fields of_bits to_bits R abs high_part
    acos_middle acos_low acos_high acos_inside acos ceil minimum maximum clamp isqrt nearest_root root_of_units root area radius_of circumradius angle least largest
    aspect_ratio edge_ratio score measures degenerate quality source_acceptable acceptable difference magnitude_squared magnitude cross squared distance point_at
    up_from insert_before place insert_all percentile_of inside leading first_outside list_inside first_refusal first_bad_point roomy reconstruct_refusal first_failing
    setting_tests first_bad_setting defaults least_from bounds_min cell_on cell_of before precedes_by_cell by_cell order_of within_range in_range range_of keep neighbors
    distances_to total average near_of nearest_distances densities_from spaced dedup radius_candidates radii_from adaptive_radii any sift after_pop waiting_after
    same push marked with_face cleared-patch seeded popped met pivoted looked_at look next run begun lay_one lay_all patch is_second is_third third_of second_of
    first_of score_of best_of searching apart quality_at is_close accepts middle around pivotable score_at completes floats_of candidate candidates-plain sound
    valid faces_over faces_at plain_faces_from plain_faces spatial_index_of scene_of radii_of laid_of laid plainly found_at found accept_all reaches paired plain_reached
    reached_at judged_at reason_by reason slots refused accepted delivered reconstructed swept faces_after source_accepts source_score source_floats source_laid
    source_found_at source_found source_reconstructed
area_cases = record {
  equal_source = refl;
  equal_ours = refl;
  line_source = refl;
  line_ours = refl;
  two_source = refl;
  two_ours = refl;
  two_nine = refl;
}
