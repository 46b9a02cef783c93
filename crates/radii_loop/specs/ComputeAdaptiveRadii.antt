-- `compute_adaptive_radii`, step by step as the Rust has it, with the claim that it gives the definition's radii. The
-- definition sorts by `<`, adds from 0, cuts places to a u32 and keeps the sign of a difference; here lists are sorted
-- by `total_cmp`, a sum starts from 0 or from -0, a place is cut to a usize and a difference loses its sign.
-- Definitions only.
use Rattle.std.specs.Prelude.{ℕ, zero, suc, ◌+◌, ◌-◌, min, ◌≡◌, ◌⊎◌, false, cond, List, [], ◌∷◌, ◌++◌, map, ltb, length, get_or, take, Float}
use Rattle.std.specs.Float.{nan, inf, fin}
use Rattle.std.specs.Float.Ieee.{neg, lt, to_unsigned}
use Rattle.numbers.specs.Rounded.{f32, ◌⊖◌, ◌⊗◌, ◌⊘◌}
use Rattle.sorting.specs.Sorted.{whole}
use Rattle.settings.specs.declared.BallPivotingConfig.{BallPivotingConfig}
use Rattle.domain.specs.Refusals.{reconstruct_refusal}
use Rattle.radii.specs.Radii.{distances_to, near_of, total, step_of, sample_count}
use Rattle.ball_pivoting.specs.Reconstruct.{point_count, spatial_index_of, radii_of}
use Rattle.total_order.specs.TotalOrder.{totally_sorted, Given}

-- `abs`
abbrev pub absolute : Float → Float
absolute nan = nan
absolute (inf s) = inf false
absolute (fin s m e) = fin false m e

-- `dedup_by(|a, b| (*a - *b).abs() < 1e-6)`: a is a later radius, b the last one kept
unfoldable pub spaced_by : Float → List Float → List Float
spaced_by b [] = []
spaced_by b (a ∷ rest) =
    let dropped = spaced_by b rest in
    let kept = spaced_by a rest in
    cond (lt (absolute (a ⊖ b)) (f32 0x358637bd)) dropped (a ∷ kept)

-- the first radius stays
unfoldable pub dedup_by : List Float → List Float
dedup_by [] = []
dedup_by (b ∷ rest) = b ∷ spaced_by b rest

-- a sum starts at `start`, and `near i` lists the neighbours of the sample i
module _ (start : Float) (c : BallPivotingConfig) (points : List Float) (near : ℕ → List ℕ) where
  -- `distances` of the sample i, sorted
  unfoldable pub distances_of : ℕ → List Float
  distances_of i = totally_sorted (distances_to points i (near i))

  -- `let k = 10.min(distances.len()); if k > 0 { .. distances.iter().take(k).sum::<f32>() / k as f32 .. }`, at m
  -- samples
  unfoldable pub local_densities : ℕ → ℕ → ℕ → List Float
  local_densities step i zero = []
  local_densities step i (suc m) =
      let later = local_densities step (i + step) m in
      let distances = distances_of i in
      let k = min 10 (length distances) in
      cond (ltb 0 k) (total start (take k distances) ⊘ whole k ∷ later) later

  -- `let index = ((local_densities.len() - 1) as f32 * percentile) as usize; local_densities[index] * 2.0`
  unfoldable pub percentile_radius : List Float → Float → Float
  percentile_radius densities p =
      get_or densities (to_unsigned 64 (whole (length densities - 1) ⊗ p)) (f32 0) ⊗ f32 0x40000000

  -- the percentiles' radii, then the configured ones
  unfoldable pub pushed : List Float → List Float
  pushed densities =
      map (percentile_radius densities) (take c.percentile_count c.adaptive_percentiles)
      ++ (c.radius ∷ take c.additional_count c.additional_radii)

  -- `if local_densities.is_empty() { return Ok(()); }`, then the radii, sorted and spaced
  unfoldable pub chosen : List Float → List Float
  chosen [] = []
  chosen (d ∷ ds) = dedup_by (totally_sorted (pushed (totally_sorted (d ∷ ds))))

  -- the whole of it; every step-th point is a sample
  unfoldable pub compute_adaptive_radii : List Float
  compute_adaptive_radii =
      let n = point_count points in
      cond c.adaptive_radius (chosen (local_densities (step_of n) 0 (sample_count n))) []

-- The claim, for every accepted cloud, wherever a sum starts. `radii_loop` proves it.
abbrev pub RadiiLoop : Type 0
RadiiLoop =
    (points normals : List Float) (c : BallPivotingConfig) (words floats : ℕ) (start : Float)
    → (reconstruct_refusal points normals c words floats).answer ≡ 0 → Given c
    → (start ≡ f32 0) ⊎ (start ≡ neg (f32 0))
    → compute_adaptive_radii start c points (near_of c (spatial_index_of c points) points (point_count points))
    ≡ radii_of c points
