-- The definition of the main call computed on small clouds: the answer, counts, radii and faces are those that the Rust
-- gave. Assumes nothing.
use Prim.Native.Nat.{ℕ, ◌+◌, ◌*◌}
use mathlib.Core.Path.{◌≡◌, refl}
use mathlib.Core.Bool.{Bool, true, false}
use mathlib.Core.List.{List, [], ◌∷◌, map}
use lib.Count.{count_trailing_zeros}
use lib.ListN.{length, replicate}
use lib.Ieee.{Float, span, climb, size, odd, units, round, neg, sum, add, sub, mul, div, lt, eq, le, ne, of_int, to_unsigned, is_nan, of_fields, of_bits, to_bits}
use Rattle.numbers.specs.Rounded.{f32}
use Rattle.settings.specs.declared.BallPivotingConfig.{BallPivotingConfig}
use Rattle.patch.specs.Lay.{Face, face, same, push, marked, with_face, cleared as cleared-patch, seeded, popped, met, pivoted, looked_at, look, next, run, begun}
use Rattle.patch.specs.Lay.{lay_one, lay_all, patch}
use Rattle.ball_pivoting.specs.declared.Patch.{Patch}
use Rattle.ball_pivoting.specs.Reconstruct.{point_count, spatial_index_of, scene_of, radii_of, laid_of, laid, plainly, found_at, found, reached_at, judged_at, reason_by}
use Rattle.ball_pivoting.specs.Reconstruct.{reason, slots, refused, accepted, delivered, reconstructed, faces_after}
use Rattle.numbers.specs.Acos.{R, abs, high_part, acos_middle, acos_low, acos_high, acos_inside, acos}
use Rattle.numbers.specs.Cut.{ceil}
use Rattle.numbers.specs.Order.{minimum, maximum, clamp}
use Rattle.numbers.specs.Root.{isqrt, nearest_root, root_of_units, root}
use Rattle.quality.specs.Measures.{radius_of, angle, least, largest, aspect_ratio, edge_ratio, score, measures, degenerate}
use Rattle.triangle.specs.Quality.{area, circumradius, quality, source_acceptable, acceptable}
use Rattle.vector.specs.Vector.{difference, magnitude_squared, magnitude, cross, squared, distance}
use Rattle.points.specs.Points.{point_at}
use Rattle.lists.specs.Lists.{up_from, any}
use Rattle.sorting.specs.Insertion.{insert_before}
use Rattle.sorting.specs.Inner.Places.{place}
use Rattle.sorting.specs.Sorted.{insert_all, percentile_of}
use Rattle.ranges.specs.Range.{inside, leading, first_outside, first_bad_point}
use Rattle.domain.specs.Refusals.{first_refusal, roomy, reconstruct_refusal}
use Rattle.settings.specs.Settings.{list_inside, first_failing, setting_tests, first_bad_setting, defaults}
use Rattle.grid.specs.Grid.{least_from, bounds_min, cell_on, cell_of, before, precedes_by_cell, by_cell, within_range, in_range, range_of, keep, neighbors}
use Rattle.grid.specs.Inner.Looking.{order_of}
use Rattle.radii.specs.Radii.{distances_to, total, average, near_of, nearest_distances, densities_from, spaced, dedup, radius_candidates, radii_from, adaptive_radii}
use Rattle.patch.specs.Frontier.{sift, after_pop, waiting_after}
use Rattle.patch.specs.Search.{is_second, is_third, third_of, second_of, first_of, score_of, best_of, searching}
use Rattle.decisions.specs.Decisions.{apart, quality_at, is_close, accepts, middle, around, pivotable, score_at, floats_of}
use Rattle.decisions.specs.Inner.Completes.{completes}
use Rattle.plain.specs.Plain.{candidate, candidates as candidates-plain, sound, valid, faces_over, faces_at, plain_faces_from, plain_faces}
use Rattle.plain.specs.Reached.{paired, plain_reached}
use Rattle.reaching.specs.Reaching.{accept_all, reaches}
use Rattle.clearing.specs.Swept.{swept}

-- the answer, with the counts and the radii
abbrev answer : ℕ → ℕ → ℕ → ℕ → ℕ → List ℕ → Patch
answer number faces seeds looks pivots radii = record {
  answer = number;
  detail = 0;
  faces = faces;
  seeds = seeds;
  looks = looks;
  pivots = pivots;
  radii_count = length radii;
  radii = slots (map f32 radii);
}

-- what comes back over a cloud, whose normals all point up, and the faces in their order
abbrev Gives : BallPivotingConfig → List Float → ℕ → Patch → List Face → Type 0
Gives c pts room p faces =
    (reconstructed pts (replicate (length pts) (f32 0x3f800000)) c room (24 * point_count pts + 64) (4 * point_count pts + 64) ≡ p) × ((found c pts).faces ≡ faces)

abbrev listing_settings : BallPivotingConfig
listing_settings = record {
  radius = f32 0x3f800000;
  additional_radii = map f32 (0x3d4ccccd ∷ 0x3e19999a ∷ 0x3e4ccccd ∷ 0 ∷ 0 ∷ 0 ∷ 0 ∷ 0 ∷ []);
  additional_count = 3;
  adaptive_radius = true;
  adaptive_percentiles = map f32 (0x3e800000 ∷ 0x3f000000 ∷ 0x3f400000 ∷ 0x3f666666 ∷ 0 ∷ 0 ∷ 0 ∷ 0 ∷ []);
  percentile_count = 4;
  quality_threshold = f32 0x3dcccccd;
  max_edge_factor = f32 0x40400000;
  min_triangle_area = f32 0x322bcc77;
  use_spatial_index = true;
  spatial_cell_factor = f32 0x40000000;
  frontier_rule = 1;
}

abbrev listing_points : List Float
listing_points = map f32 (0 ∷ 0 ∷ 0 ∷ 0x3f800000 ∷ 0 ∷ 0 ∷ 0 ∷ 0x3f800000 ∷ 0 ∷ [])

abbrev two_points_settings : BallPivotingConfig
two_points_settings = listing_settings

abbrev two_points_points : List Float
two_points_points = map f32 (0 ∷ 0 ∷ 0 ∷ 0x3f800000 ∷ 0 ∷ 0 ∷ [])

abbrev two_radii_settings : BallPivotingConfig
two_radii_settings = record {
  radius = f32 0x3ff5d345;
  additional_radii = map f32 (0x7fc00000 ∷ 0x7fc00000 ∷ 0x7fc00000 ∷ 0x7f800000 ∷ 0x7fc00000 ∷ 0xbf800000 ∷ 0x7fc00000 ∷ 0x3f000000 ∷ []);
  additional_count = 0;
  adaptive_radius = true;
  adaptive_percentiles = map f32 (0x3d3b0f46 ∷ 0x1 ∷ 0x3f4ae7a7 ∷ 0x3eefface ∷ 0x7f800000 ∷ 0 ∷ 0 ∷ 0 ∷ []);
  percentile_count = 4;
  quality_threshold = f32 0x3dcccccd;
  max_edge_factor = f32 0x40871693;
  min_triangle_area = f32 0x3eac123f;
  use_spatial_index = true;
  spatial_cell_factor = f32 0x3f000000;
  frontier_rule = 1;
}

abbrev two_radii_points : List Float
two_radii_points =
    map f32 (0 ∷ 0xc0000000 ∷ 0xbf800000 ∷ 0x80000000 ∷ 0x3f800000 ∷ 0x3f800000 ∷ 0x3f800000 ∷ 0x40000000 ∷ 0x3f800000 ∷ 0x3f800000 ∷ 0x3f800000 ∷ 0x80000000 ∷
    0x3f800000 ∷ 0x80000000 ∷ 0 ∷ 0xbf800000 ∷ 0x3f800000 ∷ 0 ∷ 0 ∷ 0xc0000000 ∷ 0x40000000 ∷ 0x40000000 ∷ 0x40000000 ∷ 0x80000000 ∷ [])

abbrev two_seeds_settings : BallPivotingConfig
two_seeds_settings = record {
  radius = f32 0x4006bcc8;
  additional_radii = map f32 (0x4006bcc7 ∷ 0x403d470c ∷ 0x7f800000 ∷ 0x4e6e6b28 ∷ 0x7f800000 ∷ 0x7fc00000 ∷ 0x7f800000 ∷ 0x3f000000 ∷ []);
  additional_count = 2;
  adaptive_radius = true;
  adaptive_percentiles = map f32 (0x3e8bc2d9 ∷ 0x3f800000 ∷ 0x3f800000 ∷ 0x3e800000 ∷ 0x7f800000 ∷ 0x4e6e6b28 ∷ 0x7f800000 ∷ 0x4e6e6b28 ∷ []);
  percentile_count = 4;
  quality_threshold = f32 0x3dcccccd;
  max_edge_factor = f32 0x40400000;
  min_triangle_area = f32 0x322bcc77;
  use_spatial_index = true;
  spatial_cell_factor = f32 0x40000000;
  frontier_rule = 1;
}

abbrev two_seeds_points : List Float
two_seeds_points =
    map f32 (0x80000000 ∷ 0x3f800000 ∷ 0xc0000000 ∷ 0x40000000 ∷ 0x3f800000 ∷ 0 ∷ 0x3f800000 ∷ 0 ∷ 0xc0000000 ∷ 0x40000000 ∷ 0x40000000 ∷ 0x80000000 ∷ 0 ∷
    0x40000000 ∷ 0 ∷ 0x40000000 ∷ 0 ∷ 0 ∷ [])

abbrev pivots_settings : BallPivotingConfig
pivots_settings = record {
  radius = f32 0x41b51984;
  additional_radii = map f32 (0x41b51984 ∷ 0x41b51985 ∷ 0x41ccf105 ∷ 0x4e6e6b28 ∷ 0x4e6e6b28 ∷ 0 ∷ 0 ∷ 0x7f800000 ∷ []);
  additional_count = 3;
  adaptive_radius = true;
  adaptive_percentiles = map f32 (0x3e85802a ∷ 0x3ec8cf71 ∷ 0x3e1db222 ∷ 0x3f593125 ∷ 0xbf800000 ∷ 0 ∷ 0 ∷ 0x7f800000 ∷ []);
  percentile_count = 4;
  quality_threshold = f32 0;
  max_edge_factor = f32 0x40400000;
  min_triangle_area = f32 0x80000000;
  use_spatial_index = true;
  spatial_cell_factor = f32 0x40000000;
  frontier_rule = 1;
}

abbrev pivots_points : List Float
pivots_points =
    map f32 (0x80000000 ∷ 0x3f800000 ∷ 0x3f800000 ∷ 0x3f800000 ∷ 0x80000000 ∷ 0x80000000 ∷ 0x3f800000 ∷ 0 ∷ 0 ∷ 0xbf800000 ∷ 0 ∷ 0x3f800000 ∷ 0x80000000 ∷
    0x3f800000 ∷ 0 ∷ 0xbf800000 ∷ 0 ∷ 0x3f800000 ∷ [])

abbrev unindexed_settings : BallPivotingConfig
unindexed_settings = record {
  radius = f32 0x3e0a0370;
  additional_radii = map f32 (0x3e0a0370 ∷ 0x3e54362b ∷ 0x4e6e6b28 ∷ 0 ∷ 0x7f800000 ∷ 0x7f800000 ∷ 0 ∷ 0x4e6e6b28 ∷ []);
  additional_count = 2;
  adaptive_radius = true;
  adaptive_percentiles = map f32 (0x3ca55ddb ∷ 0x3f000000 ∷ 0x7fc00000 ∷ 0xbf800000 ∷ 0x7f800000 ∷ 0xbf800000 ∷ 0x3f000000 ∷ 0 ∷ []);
  percentile_count = 1;
  quality_threshold = f32 0x3dcccccd;
  max_edge_factor = f32 0x40400000;
  min_triangle_area = f32 0;
  use_spatial_index = false;
  spatial_cell_factor = f32 0x3f8e8ceb;
  frontier_rule = 1;
}

abbrev unindexed_points : List Float
unindexed_points =
    map f32 (0 ∷ 0 ∷ 0xc3ade623 ∷ 0x3d449524 ∷ 0 ∷ 0xc3ade623 ∷ 0x3dc49524 ∷ 0 ∷ 0xc3ade623 ∷ 0 ∷ 0x3d449524 ∷ 0xc3ade623 ∷ 0x3d449524 ∷ 0x3d449524 ∷ 0xc3ade623
    ∷ [])

abbrev plain_settings : BallPivotingConfig
plain_settings = record {
  radius = f32 0x3f8f7e4b;
  additional_radii = map f32 (0x3f8f7e54 ∷ 0 ∷ 0x7fc00000 ∷ 0xbf800000 ∷ 0 ∷ 0 ∷ 0xbf800000 ∷ 0x7fc00000 ∷ []);
  additional_count = 1;
  adaptive_radius = false;
  adaptive_percentiles = map f32 (0x3ef8dcf4 ∷ 0x3ef725d9 ∷ 0xbf800000 ∷ 0x7f800000 ∷ 0 ∷ 0x7fc00000 ∷ 0 ∷ 0xbf800000 ∷ []);
  percentile_count = 2;
  quality_threshold = f32 0x3e6df18e;
  max_edge_factor = f32 0x40a3f976;
  min_triangle_area = f32 0x322bcc77;
  use_spatial_index = false;
  spatial_cell_factor = f32 0x41800000;
  frontier_rule = 1;
}

abbrev plain_points : List Float
plain_points =
    map f32 (0x3f800000 ∷ 0xbf800000 ∷ 0x80000000 ∷ 0x3f800000 ∷ 0x3f800000 ∷ 0 ∷ 0 ∷ 0x3f800000 ∷ 0xbf800000 ∷ 0x3f800000 ∷ 0x3f800000 ∷ 0x3f800000 ∷
    0x3f800000 ∷ 0 ∷ 0 ∷ [])

-- a radius and a cell factor alone, with a least area that turns every triangle down; with no radii where `adaptive` is
-- false
abbrev judging : ℕ → ℕ → Bool → BallPivotingConfig
judging r factor adaptive = record {
  radius = f32 r;
  additional_radii = map f32 (0 ∷ 0 ∷ 0 ∷ 0 ∷ 0 ∷ 0 ∷ 0 ∷ 0 ∷ []);
  additional_count = 0;
  adaptive_radius = adaptive;
  adaptive_percentiles = map f32 (0 ∷ 0 ∷ 0 ∷ 0 ∷ 0 ∷ 0 ∷ 0 ∷ 0 ∷ []);
  percentile_count = 0;
  quality_threshold = f32 0;
  max_edge_factor = f32 0x40400000;
  min_triangle_area = f32 0x49742400;
  use_spatial_index = true;
  spatial_cell_factor = f32 factor;
  frontier_rule = 1;
}

-- points on the first axis
abbrev axis : List ℕ → List Float
axis [] = []
axis (x ∷ xs) = f32 x ∷ f32 0 ∷ f32 0 ∷ axis xs

pub record CloudCases : Type 0 where
  -- the scope's listing: three points, radius 1
  pub listing : Gives listing_settings listing_points 10 (answer 0 1 1 3 3 (0x3d4ccccd ∷ 0x3e19999a ∷ 0x3e4ccccd ∷ 0x3f800000 ∷ 0x40000000 ∷ 0x401a827a ∷ []))
      (face 0 1 2 ∷ [])
  -- two points: 8
  pub two_points : Gives two_points_settings two_points_points 7 (answer 8 0 0 0 0 ([])) ([])
  -- two seeds at two radii, each with a pivot
  pub two_radii : Gives two_radii_settings two_radii_points 42 (answer 0 4 2 12 10 (0x3ff5d345 ∷ 0x4082c055 ∷ 0x40a25122 ∷ 0x40b84cd0 ∷ []))
      (face 0 5 6 ∷ face 1 4 3 ∷ face 1 4 7 ∷ face 4 3 2 ∷ [])
  -- two seeds
  pub two_seeds : Gives two_seeds_settings two_seeds_points 8 (answer 0 2 2 6 6 (0x4006bcc7 ∷ 0x403d470c ∷ 0x408ccccd ∷ 0x409fba3b ∷ []))
      (face 0 1 2 ∷ face 3 4 5 ∷ [])
  -- a seed and three pivots; points 1 and 2 are equal, so that 0, 1, 2 has no area and is no seed
  pub pivots : Gives pivots_settings pivots_points 16 (answer 0 4 1 12 9 (0x403ab052 ∷ 0x404307f3 ∷ 0x41b51984 ∷ 0x41b51985 ∷ 0x41ccf105 ∷ []))
      (face 0 1 3 ∷ face 0 1 5 ∷ face 1 3 4 ∷ face 5 0 2 ∷ [])
  -- without the index
  pub unindexed : Gives unindexed_settings unindexed_points 10 (answer 0 3 1 9 7 (0x3dd8f07b ∷ 0x3e0a0370 ∷ 0x3e54362b ∷ []))
      (face 0 1 3 ∷ face 0 1 4 ∷ face 4 0 2 ∷ [])
  -- the plain path
  pub plain : Gives plain_settings plain_points 28 (answer 0 8 0 0 0 ([]))
      (face 3 0 1 ∷ face 3 0 2 ∷ face 3 1 2 ∷ face 4 0 2 ∷ face 4 0 3 ∷ face 4 1 2 ∷ face 4 1 3 ∷ face 4 2 3 ∷ [])
  -- two points on one spot: 8, on either path
  pub few : reason (judging 0x3f800000 0x40000000 true) (axis (0 ∷ 0 ∷ [])) ≡ 8
  pub few_plain : reason (judging 0x3f800000 0x40000000 false) (axis (0 ∷ 0 ∷ [])) ≡ 8
  -- three points of which one is twice the radius away: 16; one step farther: 15
  pub at_reach : reason (judging 0x3f800000 0x40000000 true) (axis (0 ∷ 0 ∷ 0x40000000 ∷ [])) ≡ 16
  pub beyond : reason (judging 0x3f800000 0x40000000 true) (axis (0 ∷ 0 ∷ 0x40000001 ∷ [])) ≡ 15
  -- at radius 0.5 they are not judged: the first of several radii does not decide
  pub at_half : reached_at (judging 0x3f800000 0x40000000 true) (axis (0 ∷ 0 ∷ 0x40000000 ∷ [])) (f32 0x3f000000) ≡ false
  -- on the plain path two points at twice the radius on either side are judged with the one between them, but only if that comes last
  pub plain_between : reason (judging 0x3f800000 0x40000000 false) (axis (0x40000000 ∷ 0xc0000000 ∷ 0 ∷ [])) ≡ 16
  pub plain_beyond : reason (judging 0x3f800000 0x40000000 false) (axis (0x40000001 ∷ 0xc0000000 ∷ 0 ∷ [])) ≡ 15
  pub plain_first : reason (judging 0x3f800000 0x40000000 false) (axis (0 ∷ 0x40000000 ∷ 0xc0000000 ∷ [])) ≡ 15
  -- with radii the two are too far from each other
  pub between : reason (judging 0x3f800000 0x40000000 true) (axis (0x40000000 ∷ 0xc0000000 ∷ 0 ∷ [])) ≡ 15
  -- within twice the radius, but no neighbours by their cells
  pub no_neighbours : reason (judging 0x3f440ac4 0x3f000000 true) (axis (0 ∷ 0x3ff50d74 ∷ 0x405c8c1c ∷ 0x405c8c1c ∷ [])) ≡ 15

pub cloud_cases : CloudCases
unfolding count_trailing_zeros span climb size odd units round neg sum add sub mul div lt eq le ne of_int to_unsigned is_nan of_fields of_bits to_bits R abs high_part
    acos_middle acos_low acos_high acos_inside acos ceil minimum maximum clamp isqrt nearest_root root_of_units root area radius_of circumradius angle least largest
    aspect_ratio edge_ratio score measures degenerate quality source_acceptable acceptable difference magnitude_squared magnitude cross squared distance point_at
    up_from insert_before place insert_all percentile_of inside leading first_outside list_inside first_refusal first_bad_point roomy reconstruct_refusal first_failing
    setting_tests first_bad_setting defaults least_from bounds_min cell_on cell_of before precedes_by_cell by_cell order_of within_range in_range range_of keep neighbors
    distances_to total average near_of nearest_distances densities_from spaced dedup radius_candidates radii_from adaptive_radii any sift after_pop waiting_after
    same push marked with_face cleared-patch seeded popped met pivoted looked_at look next run begun lay_one lay_all patch is_second is_third third_of second_of
    first_of score_of best_of searching apart quality_at is_close accepts middle around pivotable score_at completes floats_of candidate candidates-plain sound
    valid faces_over faces_at plain_faces_from plain_faces spatial_index_of scene_of radii_of laid_of laid plainly found_at found accept_all reaches paired plain_reached
    reached_at judged_at reason_by reason slots refused accepted delivered reconstructed swept faces_after
cloud_cases = record {
  listing = (refl, refl);
  two_points = (refl, refl);
  two_radii = (refl, refl);
  two_seeds = (refl, refl);
  pivots = (refl, refl);
  unindexed = (refl, refl);
  plain = (refl, refl);
  few = refl;
  few_plain = refl;
  at_reach = refl;
  beyond = refl;
  at_half = refl;
  plain_between = refl;
  plain_beyond = refl;
  plain_first = refl;
  between = refl;
  no_neighbours = refl;
}
