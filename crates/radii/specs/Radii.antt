-- The scope's Radii: `compute_adaptive_radii`. Definitions only.
use Rattle.std.specs.Prelude.{ℕ, zero, suc, ◌+◌, ◌/◌, min, cond, List, [], ◌∷◌, ◌++◌, map, eqb, length, take, Float}
use Rattle.std.specs.Float.Ieee.{lt}
use Rattle.numbers.specs.Rounded.{f32, ◌⊕◌, ◌⊖◌, ◌⊗◌, ◌⊘◌}
use Rattle.vector.specs.Vector.{distance}
use Rattle.points.specs.Points.{point_at, steps_from}
use Rattle.sorting.specs.Sorted.{sorted, whole, percentile_of}
use Rattle.settings.specs.declared.BallPivotingConfig.{BallPivotingConfig}
use Rattle.grid.specs.Grid.{neighbors}
use Rattle.grid.specs.declared.SpatialGrid.{SpatialGrid}

-- the distances from point i to the others among js
unfoldable pub distances_to : List Float → ℕ → List ℕ → List Float
distances_to pts i [] = []
distances_to pts i (j ∷ js) =
    let later = distances_to pts i js in
    cond (eqb j i) later (distance (point_at pts i) (point_at pts j) ∷ later)

-- added in turn
unfoldable pub total : Float → List Float → Float
total sum [] = sum
total sum (x ∷ xs) = total (sum ⊕ x) xs

-- added in rising order and divided by their count
unfoldable pub average : List Float → Float
average ds = total (f32 0) ds ⊘ whole (length ds)

-- the neighbours of point i at 3 × radius
unfoldable pub near_of : BallPivotingConfig → SpatialGrid → List Float → ℕ → ℕ → List ℕ
near_of c g pts n i = neighbors c.use_spatial_index g pts n (point_at pts i) (c.radius ⊗ f32 0x40400000)

-- the up to 10 least distances from point i to its other neighbours, in rising order
unfoldable pub nearest_distances : BallPivotingConfig → SpatialGrid → List Float → ℕ → ℕ → List Float
nearest_distances c g pts n i = take 10 (sorted (distances_to pts i (near_of c g pts n i)))

-- the densities at m samples, the first of them point i; a sample with no other neighbour gives none
unfoldable pub densities_from : BallPivotingConfig → SpatialGrid → List Float → ℕ → ℕ → ℕ → ℕ → List Float
densities_from c g pts n step i zero = []
densities_from c g pts n step i (suc m) =
    let later = densities_from c g pts n step (i + step) m in
    let ds = nearest_distances c g pts n i in
    cond (eqb (length ds) 0) later (average ds ∷ later)

-- every step-th of n points is sampled
abbrev pub step_of : ℕ → ℕ
step_of n = n / min n 1000

abbrev pub sample_count : ℕ → ℕ
sample_count n = steps_from n (step_of n) 0

-- each radius dropped that lies less than 1e-6 above the last one kept
unfoldable pub spaced : Float → List Float → List Float
spaced last [] = []
spaced last (x ∷ xs) =
    let dropped = spaced last xs in
    let kept = spaced x xs in
    cond (lt (x ⊖ last) (f32 0x358637bd)) dropped (x ∷ kept)

unfoldable pub dedup : List Float → List Float
dedup [] = []
dedup (x ∷ xs) = x ∷ spaced x xs

-- percentile radii, then the main radius, then the additional ones
unfoldable pub radius_candidates : BallPivotingConfig → List Float → List Float
radius_candidates c densities =
    map (λ p. percentile_of densities p ⊗ f32 0x40000000) (take c.percentile_count c.adaptive_percentiles)
    ++ (c.radius ∷ take c.additional_count c.additional_radii)

-- none where no sample has a neighbour
unfoldable pub radii_from : BallPivotingConfig → List Float → List Float
radii_from c [] = []
radii_from c (d ∷ ds) = dedup (sorted (radius_candidates c (sorted (d ∷ ds))))

unfoldable pub adaptive_radii : BallPivotingConfig → SpatialGrid → List Float → ℕ → List Float
adaptive_radii c g pts n =
    cond c.adaptive_radius (radii_from c (densities_from c g pts n (step_of n) 0 (sample_count n))) []
