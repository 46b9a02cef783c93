-- The searches worked out from their definitions on the corners of a square, 1 apart. Assumes nothing.
use mathlib.Core.Path.{◌≡◌, refl}
use mathlib.Core.Bool.{Bool, true, false}
use mathlib.Core.List.{List, [], ◌∷◌}
use mathlib.Core.Option.{none, some}
use lib.Ieee.{Float, neg, add, sub, mul, div, lt, le, eq, is_nan, of_bits, to_bits, to_unsigned, odd}
use Rattle.numbers.specs.Rounded.{f32}
use Rattle.numbers.specs.Root.{root}
use Rattle.numbers.specs.Order.{minimum, maximum, clamp}
use Rattle.numbers.specs.Cut.{ceil}
use Rattle.numbers.specs.Acos.{R, abs, high_part, acos_middle, acos_low, acos_high, acos_inside, acos}
use Rattle.vector.specs.Vector.{point, difference, magnitude_squared, magnitude, cross, squared, distance}
use Rattle.quality.specs.Measures.{radius_of, angle, least, largest, aspect_ratio, edge_ratio, score, measures, degenerate}
use Rattle.triangle.specs.Quality.{area, circumradius, quality, source_acceptable, acceptable}
use Rattle.points.specs.Points.{point_at}
use Rattle.lists.specs.Lists.{up_from}
use Rattle.sorting.specs.Insertion.{insert_before}
use Rattle.grid.specs.Grid.{cell_on, cell_of, before, precedes_by_cell, by_cell, within_range, in_range, range_of, keep, neighbors}
use Rattle.grid.specs.Inner.Looking.{order_of}
use Rattle.patch.specs.Lay.{edge}
use Rattle.patch.specs.Search.{is_second, is_third, third_of, second_of, first_of, score_of, best_of, searching}
use Rattle.decisions.specs.declared.Scene.{Scene}
use Rattle.decisions.specs.Decisions.{apart, quality_at, is_close, accepts, middle, around, pivotable, score_at, floats_of}

-- (0, 0), (1, 0), (0, 1), (1, 1)
abbrev corners : List Float
corners = f32 0 ∷ f32 0 ∷ f32 0 ∷ f32 0x3f800000 ∷ f32 0 ∷ f32 0 ∷ f32 0 ∷ f32 0x3f800000 ∷ f32 0 ∷ f32 0x3f800000 ∷ f32 0x3f800000 ∷ f32 0 ∷ []

-- cells of side 0.75; area at least 1e-8, score at least 0.1, edges at most 3 radii
abbrev scene : Bool → Scene
scene indexed = record {
  n = 4;
  indexed = indexed;
  grid = record { cell_size = f32 0x3f400000; bounds_min = point (f32 0) (f32 0) (f32 0) };
  min_triangle_area = f32 0x322bcc77;
  quality_threshold = f32 0x3dcccccd;
  max_edge_factor = f32 0x40400000;
}

-- seeds at radius 1.5 with no point used: in number order, and by cell, which puts (0, 1) before (1, 0);
-- pivots over the edge 0, 2: point 3 at radius 1.5, none at radius 1, none where all are used
square :
    ((searching (floats_of (scene false) corners) 4).seed_of (f32 0x3fc00000) (0 ∷ 0 ∷ 0 ∷ 0 ∷ []) ≡ some (0, 1, 2))
    × ((searching (floats_of (scene true) corners) 4).seed_of (f32 0x3fc00000) (0 ∷ 0 ∷ 0 ∷ 0 ∷ []) ≡ some (0, 2, 1))
    × ((searching (floats_of (scene true) corners) 4).pivot_of (f32 0x3fc00000) (1 ∷ 1 ∷ 1 ∷ 0 ∷ []) (edge 0 2) ≡ some 3)
    × ((searching (floats_of (scene true) corners) 4).pivot_of (f32 0x3f800000) (1 ∷ 1 ∷ 1 ∷ 0 ∷ []) (edge 0 2) ≡ none)
    × ((searching (floats_of (scene true) corners) 4).pivot_of (f32 0x3fc00000) (1 ∷ 1 ∷ 1 ∷ 1 ∷ []) (edge 0 2) ≡ none)
unfolding to_unsigned odd ceil area radius_of circumradius angle least largest aspect_ratio edge_ratio score measures degenerate quality source_acceptable
    acceptable difference magnitude_squared magnitude cross squared distance minimum maximum clamp R abs high_part acos_middle acos_low acos_high acos_inside acos
    root neg add sub mul div lt le eq is_nan of_bits to_bits point_at up_from insert_before cell_on cell_of before precedes_by_cell by_cell order_of within_range in_range
    range_of keep neighbors is_second is_third third_of second_of first_of score_of best_of searching apart quality_at is_close accepts middle around pivotable
    score_at floats_of
square = (refl, refl, refl, refl, refl)
