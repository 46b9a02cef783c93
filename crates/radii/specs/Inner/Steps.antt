-- What the contracts of the steps cite. Definitions only.
use Rattle.std.specs.Prelude.{ℕ, ◌-◌, ◌≤◌, ◌<◌, ◌≡◌, cond, List, [], ◌∷◌, ◌++◌, eqb, length, take, drop, get_or, replicate, Float}
use Rattle.std.specs.Float.{nan}
use Rattle.std.specs.Float.Ieee.{lt}
use Rattle.numbers.specs.Rounded.{f32, ◌⊖◌, ◌⊗◌}
use Rattle.sorting.specs.Sorted.{insert, percentile_of}
use Rattle.settings.specs.declared.BallPivotingConfig.{BallPivotingConfig}
use Rattle.grid.specs.declared.SpatialGrid.{SpatialGrid}
use Rattle.grid.specs.Grid.{cell_of, range_of}
use Rattle.grid.specs.Inner.Index.{CellsIndexed}
use Rattle.vector.specs.declared.Point3f.{Point3f}
use Rattle.neighbor_squares.specs.declared.Around.{Around}
use Rattle.spatial_hash.specs.declared.Hash.{Hash}
use Rattle.spatial_hash.specs.Inner.Near.{HashedAll}
use Rattle.regions.specs.Inner.Regions.{floats_length}
use Rattle.radii.specs.declared.Radii.{Radii}
use Rattle.radii.specs.Radii.{average}

-- what `compute_adaptive_radii` needs
pub record RadiiReady (c : BallPivotingConfig) (g : SpatialGrid) (h : Hash) (pts : List Float) (n : ℕ) (w : List ℕ)
    (f : List Float) : Type 0 where
  pub some : 0 < n
  pub indexed : CellsIndexed g pts n w
  pub hashed : HashedAll h pts n w
  pub room : floats_length n ≤ length f
  pub percentiles : c.percentile_count ≤ 8
  pub additional : c.additional_count ≤ 8

-- the neighbours of a place at 3 × radius
abbrev pub around_of : BallPivotingConfig → SpatialGrid → Point3f → Around
around_of c g p = record {
  indexed = c.use_spatial_index;
  range = range_of g (c.radius ⊗ f32 0x40400000);
  cell =
      cell_of g p;
}

-- the radii xs are in the first slots, and the others are 0
pub record RadiiListed (xs : List Float) (r : Radii) : Type 0 where
  pub few : r.count ≤ 17
  pub counted : r.count ≡ length xs
  pub kept : take r.count r.list ≡ xs
  pub zeros : drop r.count r.list ≡ replicate (17 - r.count) (f32 0)

-- the densities, once a sample with the least distances ds has been looked at
unfoldable pub with_sample : List Float → List Float → List Float
with_sample ds densities = cond (eqb (length ds) 0) densities (insert (average ds) densities)

-- twice the density at the percentile
abbrev pub radius_at_percentile : List Float → Float → Float
radius_at_percentile densities p = percentile_of densities p ⊗ f32 0x40000000

-- the radii kept, once the radius x has been looked at
unfoldable pub with_radius : List Float → Float → List Float
with_radius kept x = cond (lt (x ⊖ get_or kept (length kept - 1) nan) (f32 0x358637bd)) kept (kept ++ (x ∷ []))
