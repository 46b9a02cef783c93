-- Rust's `total_cmp` on f32, sorting by it, and the claim that inside the domain every list that is sorted is sorted
-- by it as it is by `<`. Definitions only.
use Rattle.std.specs.Prelude.{ℕ, ◌+◌, ◌-◌, ◌<◌, ◌≡◌, Bool, cond, List, [], ◌∷◌, T, ltb, get_or, Float}
use Rattle.std.specs.Float.{nan, binary32}
use Rattle.std.specs.Float.Ieee.{fits, to_bits}
use Rattle.sorting.specs.Insertion.{insert_before}
use Rattle.sorting.specs.Sorted.{sorted}
use Rattle.settings.specs.declared.BallPivotingConfig.{BallPivotingConfig}
use Rattle.domain.specs.Refusals.{estimate_refusal, reconstruct_refusal}
use Rattle.radii.specs.Radii.{distances_to, near_of, densities_from, step_of, sample_count, radius_candidates}
use Rattle.estimate.specs.Estimate.{least_distances}
use Rattle.estimate.specs.Estimate as estimate
use Rattle.ball_pivoting.specs.Reconstruct.{point_count, spatial_index_of}

-- the bit patterns in the total order, numbered from 0 up: those with a sign bit run downwards, below all others
unfoldable pub rank : ℕ → ℕ
rank b = cond (ltb b 0x80000000) (b + 0x80000000) (0xffffffff - b)

-- `x.total_cmp(&y)` is `Less`
unfoldable pub total_below : Float → Float → Bool
total_below x y = ltb (rank (to_bits binary32 x)) (rank (to_bits binary32 y))

-- each number inserted in turn, before the first that a test says is above it
unfoldable pub insert_all_by : (Float → Float → Bool) → List Float → List Float → List Float
insert_all_by test sorted [] = sorted
insert_all_by test sorted (x ∷ xs) = insert_all_by test (insert_before (test x) x sorted) xs

-- `sort_by(|a, b| a.total_cmp(b))`
abbrev pub totally_sorted : List Float → List Float
totally_sorted xs = insert_all_by total_below [] xs

-- a list that comes out the same either way
abbrev pub SortsAlike : List Float → Type 0
SortsAlike xs = sorted xs ≡ totally_sorted xs

-- the settings' radii are f32, as in every call
pub record Given (c : BallPivotingConfig) : Type 0 where
  pub radius : T (fits binary32 c.radius)
  pub additional : (k : ℕ) → k < c.additional_count → T (fits binary32 (get_or c.additional_radii k nan))

-- `local_densities` of the main call, before they are sorted
abbrev pub densities_of : BallPivotingConfig → List Float → List Float
densities_of c points =
    let n = point_count points in
    densities_from c (spatial_index_of c points) points n (step_of n) 0 (sample_count n)

-- `distances` of the estimate, before they are sorted
abbrev pub samples_of : List Float → List Float
samples_of points =
    let n = point_count points in
    least_distances points n (estimate.estimate_step n) 0 (estimate.estimate_samples n)

-- what `compute_adaptive_radii` sorts: the distances of each sample, the densities, and the radii
pub record RadiiAlike (c : BallPivotingConfig) (points : List Float) : Type 0 where
  pub distances : (i : ℕ) → i < point_count points
      → SortsAlike (distances_to points i (near_of c (spatial_index_of c points) points (point_count points) i))
  pub densities : SortsAlike (densities_of c points)
  pub radii : SortsAlike (radius_candidates c (sorted (densities_of c points)))

-- The claims, for every accepted cloud: `radii_alike` proves the first, `estimate_alike` the second.
abbrev pub RadiiSorted : Type 0
RadiiSorted =
    (points normals : List Float) (c : BallPivotingConfig) (words floats : ℕ)
    → (reconstruct_refusal points normals c words floats).answer ≡ 0 → Given c → RadiiAlike c points

abbrev pub EstimateSorted : Type 0
EstimateSorted =
    (points : List Float) (percentile : Float) (words floats : ℕ)
    → (estimate_refusal points percentile words floats).answer ≡ 0 → SortsAlike (samples_of points)
