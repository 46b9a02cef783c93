-- Cells and ranges cut to an i32 and places cut to a usize, as the Rust cuts them, beside those cut to a u32; and the
-- claim that inside the domain all of them are the same. Definitions only.
use Rattle.std.specs.Prelude.{ℕ, ◌-◌, ◌≤◌, ◌<◌, ◌≡◌, List, pos, T, length, get_or, Float}
use Rattle.std.specs.Float.{nan, binary32}
use Rattle.std.specs.Float.Ieee.{fits, to_unsigned, to_signed}
use Rattle.numbers.specs.Rounded.{f32, ◌⊖◌, ◌⊗◌, ◌⊘◌}
use Rattle.numbers.specs.Cut.{ceil}
use Rattle.vector.specs.declared.Point3f.{Point3f}
use Rattle.points.specs.Points.{point_at}
use Rattle.sorting.specs.Sorted.{sorted, whole, index_of}
use Rattle.sorting.specs.Each.{All}
use Rattle.settings.specs.declared.BallPivotingConfig.{BallPivotingConfig}
use Rattle.domain.specs.Refusals.{estimate_refusal, reconstruct_refusal}
use Rattle.grid.specs.Grid.{cell_on, range_of}
use Rattle.grid.specs.declared.SpatialGrid.{SpatialGrid}
use Rattle.decisions.specs.Decisions.{reach, middle}
use Rattle.ball_pivoting.specs.Reconstruct.{point_count, radii_of}
use Rattle.ball_pivoting.specs.Reconstruct as call
use Rattle.total_order.specs.TotalOrder.{Given, densities_of, samples_of}

-- `((v - least) / cell_size) as i32`: it is the definition's cell, which is at most 40,000,000
pub record SameOn (size least v : Float) : Type 0 where
  pub same : to_signed 31 ((v ⊖ least) ⊘ size) ≡ pos (cell_on size least v)
  pub most : cell_on size least v ≤ 40000000

-- the cell of a place, axis by axis
pub record SameCell (g : SpatialGrid) (p : Point3f) : Type 0 where
  pub on_x : SameOn g.cell_size g.bounds_min.x p.x
  pub on_y : SameOn g.cell_size g.bounds_min.y p.y
  pub on_z : SameOn g.cell_size g.bounds_min.z p.z

-- `(radius / cell_size).ceil() as i32`: the definition's range, at most 600,000,000, so that a cell and a range add up
-- to less than 2 ^ 31 and no sum of theirs overflows
pub record SameRange (g : SpatialGrid) (r : Float) : Type 0 where
  pub same : to_signed 31 (ceil (r ⊘ g.cell_size)) ≡ pos (range_of g r)
  pub most : range_of g r ≤ 600000000

-- `((len - 1) as f32 * percentile) as usize`: the definition's place among so many numbers
abbrev pub SamePlace : ℕ → Float → Type 0
SamePlace count p = to_unsigned 64 (whole (count - 1) ⊗ p) ≡ index_of count p

-- the coordinates are f32, as in every call
abbrev pub GivenPoints : List Float → Type 0
GivenPoints points = (k : ℕ) → k < length points → T (fits binary32 (get_or points k nan))

-- all that the main call cuts
pub record CutAlike (c : BallPivotingConfig) (points : List Float) : Type 0 where
  -- the cells of the points, and of the middles of edges
  pub cells : (i : ℕ) → i < point_count points → SameCell (call.spatial_index_of c points) (point_at points i)
  pub middles : (i j : ℕ) → i < point_count points → j < point_count points
      → SameCell (call.spatial_index_of c points) (middle (point_at points i) (point_at points j))
  -- the ranges: a pivot asks at r, a seed at 2r, a sample of the densities at 3 × radius
  pub ranges :
      All (λ (r : Float).
      SameRange (call.spatial_index_of c points) r × SameRange (call.spatial_index_of c points) (reach r))
      (radii_of c points)
  pub sample_range : SameRange (call.spatial_index_of c points) (c.radius ⊗ f32 0x40400000)
  -- the places of the percentiles among the densities, where there are any
  pub places : 0 < length (densities_of c points) → (k : ℕ) → k < c.percentile_count
      → SamePlace (length (sorted (densities_of c points))) (get_or c.adaptive_percentiles k nan)

-- The claims, for every accepted cloud: `cuts_alike` proves the first, `estimate_cuts_alike` the second.
abbrev pub CutsSame : Type 0
CutsSame =
    (points normals : List Float) (c : BallPivotingConfig) (words floats : ℕ)
    → (reconstruct_refusal points normals c words floats).answer ≡ 0 → Given c → GivenPoints points → CutAlike c points

abbrev pub EstimateCutsSame : Type 0
EstimateCutsSame =
    (points : List Float) (percentile : Float) (words floats : ℕ)
    → (estimate_refusal points percentile words floats).answer ≡ 0
    → 0 < length (samples_of points) → SamePlace (length (sorted (samples_of points))) percentile
