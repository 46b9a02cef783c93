-- Grids with the same cells have the same neighbours, densities and radii. Assumes nothing.
use Prim.Native.Nat.{ℕ, zero, suc, ◌+◌}
use mathlib.Core.Path.{◌≡◌, refl, ap, ap₂, ◌∙◌}
use mathlib.Core.Bool.{Bool, cond}
use mathlib.Core.List.{List, [], ◌∷◌}
use lib.Dec.{eqb}
use lib.ListN.{length, take}
use lib.Ieee.{Float}
use Rattle.numbers.specs.Rounded.{f32, ◌⊗◌, ◌⊘◌}
use Rattle.numbers.specs.Cut.{cut, ceil}
use Rattle.vector.specs.declared.Point3f.{Point3f}
use Rattle.points.specs.Points.{point_at}
use Rattle.sorting.specs.Insertion.{insert_before}
use Rattle.sorting.specs.Sorted.{sorted}
use Rattle.settings.specs.declared.BallPivotingConfig.{BallPivotingConfig}
use Rattle.grid.specs.Grid.{cell_of, before, precedes_by_cell, by_cell, in_range, range_of, keep, neighbors}
use Rattle.grid.specs.declared.SpatialGrid.{SpatialGrid}
use Rattle.grid.specs.declared.Cell.{Cell}
use Rattle.radii.specs.Radii.{distances_to, average, near_of, nearest_distances, densities_from, step_of, sample_count, radii_from}
use Rattle.radii.specs.Radii.{adaptive_radii}
use Rattle.lists.specs.Lists.{up_from}

module _ (g h : SpatialGrid) (size : g.cell_size ≡ h.cell_size)
    (cells : (p : Point3f) → cell_of g p ≡ cell_of h p) (pts : List Float) where
  precedes_same : (i : ℕ) → precedes_by_cell g pts i ≡ precedes_by_cell h pts i
  unfolding precedes_by_cell
  precedes_same i = λ t j. ap₂ before (cells (point_at pts i)) (cells (point_at pts j)) t

  order_same : (k : ℕ) → by_cell g pts k ≡ by_cell h pts k
  unfolding by_cell
  order_same zero = refl
  order_same (suc k) =
      ap₂ (λ (test : ℕ → Bool) (later : List ℕ). insert_before test k later) (precedes_same k) (order_same k)

  range_same : (r : Float) → range_of g r ≡ range_of h r
  unfolding range_of
  range_same r = ap (λ (s : Float). cut (ceil (r ⊘ s))) size

  keep_same : (range : ℕ) (c : Cell) (js : List ℕ) → keep g pts range c js ≡ keep h pts range c js
  unfolding keep
  keep_same range c [] = refl
  keep_same range c (j ∷ js) =
      ap₂ (λ (d : Cell) (later : List ℕ). cond (in_range range c d) (j ∷ later) later) (cells (point_at pts j))
      (keep_same range c js)

  pub neighbors_same : (indexed : Bool) (n : ℕ) (p : Point3f) (r : Float)
      → neighbors indexed g pts n p r ≡ neighbors indexed h pts n p r
  unfolding neighbors
  neighbors_same indexed n p r =
      ap (λ (near : List ℕ). cond indexed near (up_from 0 n))
      (keep_same (range_of g r) (cell_of g p) (by_cell g pts n)
      ∙ ap₂ (λ (range : ℕ) (c : Cell). keep h pts range c (by_cell g pts n)) (range_same r) (cells p)
      ∙ ap (keep h pts (range_of h r) (cell_of h p)) (order_same n))

  module _ (c : BallPivotingConfig) (n : ℕ) where
    nearest_same : (i : ℕ) → nearest_distances c g pts n i ≡ nearest_distances c h pts n i
    unfolding nearest_distances near_of
    nearest_same i =
        ap (λ (js : List ℕ). take 10 (sorted (distances_to pts i js)))
        (neighbors_same c.use_spatial_index n (point_at pts i) (c.radius ⊗ f32 0x40400000))

    densities_same : (step i m : ℕ) → densities_from c g pts n step i m ≡ densities_from c h pts n step i m
    unfolding densities_from
    densities_same step i zero = refl
    densities_same step i (suc m) =
        ap₂ (λ (ds later : List Float). cond (eqb (length ds) 0) later (average ds ∷ later)) (nearest_same i)
        (densities_same step (i + step) m)

    pub adaptive_same : adaptive_radii c g pts n ≡ adaptive_radii c h pts n
    unfolding adaptive_radii
    adaptive_same =
        ap (λ (ds : List Float). cond c.adaptive_radius (radii_from c ds) [])
        (densities_same (step_of n) 0 (sample_count n))
