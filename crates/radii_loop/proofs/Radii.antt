-- `compute_adaptive_radii`, step by step, gives the definition's radii for every accepted cloud. Assumes nothing.
use Prim.Native.Nat.{ℕ, zero, suc, ◌+◌, ◌-◌, ◌*◌, ◌≤◌, ◌<◌, min}
use native.Mathlib.Nat.{div-mul-le_self}
use native.Mathlib.Omega.{arith}
use mathlib.Core.Path.{◌≡◌, refl, sym, ap, ap₂, ◌∙◌}
use mathlib.Core.Logic.{◌⊎◌}
use mathlib.Core.Bool.{true, cond}
use mathlib.Core.List.{List, [], ◌∷◌, ◌++◌, map}
use lib.Dec.{T, eqb, ltb}
use lib.ListN.{length, take, get_or, length-take}
use lib.Ieee.{Float, neg}
use lib.Ieee.Scale.{finite}
use Rattle.numbers.specs.Rounded.{f32, ◌⊗◌, ◌⊘◌}
use Rattle.ranges.specs.Range.{inside}
use Rattle.settings.specs.Inner.Settled.{Settled}
use Rattle.settings.specs.declared.BallPivotingConfig.{BallPivotingConfig}
use Rattle.domain.specs.Inner.Accepted.{Cloud}
use Rattle.domain.proofs.Accepted.{accepted_reconstruct}
use Rattle.sorting.specs.Sorted.{sorted, whole, percentile_of}
use Rattle.sorting.specs.Each.{All}
use Rattle.spatial_hash.proofs.Squares.{Good}
use Rattle.radii.specs.Radii.{distances_to, total, average, near_of, nearest_distances, densities_from, step_of, sample_count, dedup}
use Rattle.radii.specs.Radii.{radius_candidates, radii_from, adaptive_radii}
use Rattle.neighbor_squares.proofs.Rising.{sorted_rising}
use Rattle.ball_pivoting.specs.Reconstruct.{point_count, spatial_index_of, radii_of}
use Rattle.total_order.specs.TotalOrder.{totally_sorted, Given}
use Rattle.total_order.proofs.Order.{Fine}
use Rattle.total_order.proofs.Fine.{far, fine_finite}
use Rattle.total_order.proofs.Radii.{farther, far_finite, farther_finite, all_map, all_insert, all_first, fine_sorted}
use Rattle.total_order.proofs.Radii.{near_sorted, nearest_fine, step_some, all_fine, candidates_fine}
use Rattle.cuts.proofs.Cells.{within_range_lem}
use Rattle.cuts.proofs.Places.{place_same, sorted_length, densities_most, samples_few}
use Rattle.radii_loop.specs.ComputeAdaptiveRadii.{dedup_by, distances_of, local_densities, percentile_radius, pushed}
use Rattle.radii_loop.specs.ComputeAdaptiveRadii.{chosen, compute_adaptive_radii, RadiiLoop}
use Rattle.radii_loop.proofs.Steps.{total_start, dedup_same, take_min, some_none}

module _ (start : Float) (zero-start : (start ≡ f32 0) ⊎ (start ≡ neg (f32 0))) where
  -- ---- one density
  mean_same : (ds later : List Float) → All (Fine far) ds
      → cond (ltb 0 (length ds)) (total start ds ⊘ whole (length ds) ∷ later) later
      ≡ cond (eqb (length ds) 0) later (average ds ∷ later)
  unfolding average
  mean_same [] later a = refl
  mean_same (d ∷ ds) later a =
      some_none (length (d ∷ ds)) (total start (d ∷ ds) ⊘ whole (length (d ∷ ds)) ∷ later) later
      ∙ ap (λ (s : Float). cond (eqb (length (d ∷ ds)) 0) later (s ⊘ whole (length (d ∷ ds)) ∷ later))
      (total_start start zero-start d ds a.0.clear)

  density_same : (xs ys later : List Float) → xs ≡ ys → All (Fine far) (take 10 ys)
      → cond (ltb 0 (min 10 (length xs)))
      (total start (take (min 10 (length xs)) xs) ⊘ whole (min 10 (length xs)) ∷ later) later
      ≡ cond (eqb (length (take 10 ys)) 0) later (average (take 10 ys) ∷ later)
  density_same xs ys later e a =
      ap (λ (zs : List Float). cond (ltb 0 (min 10 (length zs)))
      (total start (take (min 10 (length zs)) zs) ⊘ whole (min 10 (length zs)) ∷ later) later) e
      ∙ ap₂ (λ (k : ℕ) (zs : List Float). cond (ltb 0 k) (total start zs ⊘ whole k ∷ later) later)
      (sym (length-take 10 ys)) (take_min 10 ys)
      ∙ mean_same (take 10 ys) later a

  module _ (c : BallPivotingConfig) (points : List Float) (cloud : Cloud (point_count points) points)
      (settled : Settled c) (given : Given c) where
    abbrev n : ℕ
    n = point_count points

    abbrev near : ℕ → List ℕ
    near = near_of c (spatial_index_of c points) points n

    densities_same : (step m i : ℕ) → i + m * step < n + step
        → local_densities start c points near step i m ≡ densities_from c (spatial_index_of c points) points n step i m
    unfolding local_densities densities_from distances_of nearest_distances
    densities_same step zero i h = refl
    densities_same step (suc m) i h =
        let l : i < n = omega arith in
        let ds : List Float = distances_to points i (near_of c (spatial_index_of c points) points n i) in
        density_same (totally_sorted ds) (sorted ds) (local_densities start c points near step (i + step) m)
        (sym (near_sorted c points n cloud settled given (spatial_index_of c points) i l))
        (nearest_fine c points n cloud settled given (spatial_index_of c points) i l)
        ∙ ap (λ (later : List Float). cond (eqb (length (take 10 (sorted ds))) 0) later
        (average (take 10 (sorted ds)) ∷ later))
        (densities_same step m (i + step) (omega arith))

    -- ---- the radii
    percentiles_same : (ds : List Float) → 1 ≤ length ds → length ds ≤ 4096 → (ps : List Float)
        → All (λ (p : Float). inside (f32 0) (f32 0x3f800000) p ≡ true) ps
        → map (percentile_radius start c points near ds) ps ≡ map (λ p. percentile_of ds p ⊗ f32 0x40000000) ps
    unfolding percentile_radius percentile_of
    percentiles_same ds some few [] a = refl
    percentiles_same ds some few (p ∷ ps) a =
        let r = within_range_lem (f32 0) (f32 0x3f800000) p a.0 in
        ap₂ (λ (k : ℕ) (rest : List Float). get_or ds k (f32 0) ⊗ f32 0x40000000 ∷ rest)
        (place_same (length ds) p some few r.0 r.1) (percentiles_same ds some few ps a.1)

    pushed_same : (ds : List Float) → 1 ≤ length ds → length ds ≤ 4096 → pushed start c points near ds ≡ radius_candidates c ds
    unfolding pushed radius_candidates
    pushed_same ds some few =
        ap (λ (rs : List Float). rs ++ (c.radius ∷ take c.additional_count c.additional_radii))
        (percentiles_same ds some few (take c.percentile_count c.adaptive_percentiles)
        (all_first (λ (p : Float). inside (f32 0) (f32 0x3f800000) p ≡ true) c.percentile_count
        c.adaptive_percentiles settled.percentiles.each))

    spaced_same : (xs : List Float) → All (Fine farther) xs → dedup_by (sorted xs) ≡ dedup (sorted xs)
    spaced_same xs a =
        dedup_same (sorted xs)
        (all_map (Fine farther) (λ (x : Float). T (finite x)) (λ x h. fine_finite farther x farther_finite h)
        (sorted xs) (all_insert (Fine farther) [] xs tt a))
        (sorted_rising xs (all_map (Fine farther) Good (λ x h. (h.held, h.clear)) xs a))

    chosen_same : (ds : List Float) → All (Fine far) ds → length ds ≤ 4096 → chosen start c points near ds ≡ radii_from c ds
    unfolding chosen radii_from
    chosen_same [] a few = refl
    chosen_same (d ∷ ds) a few =
        let xs : List Float = sorted (d ∷ ds) in
        let fine = candidates_fine c points n cloud settled given (spatial_index_of c points) xs
        (all_insert (Fine far) [] (d ∷ ds) tt a) in
        ap (λ (ys : List Float). dedup_by (totally_sorted (pushed start c points near ys)))
        (sym (fine_sorted far far_finite (d ∷ ds) a))
        ∙ ap (λ (ys : List Float). dedup_by (totally_sorted ys))
        (pushed_same xs (omega (arith, sorted_length (d ∷ ds))) (omega (arith, sorted_length (d ∷ ds))))
        ∙ ap dedup_by (sym (fine_sorted farther farther_finite (radius_candidates c xs) fine))
        ∙ spaced_same (radius_candidates c xs) fine

    radii_same : compute_adaptive_radii start c points near ≡ radii_of c points
    unfolding compute_adaptive_radii radii_of adaptive_radii
    radii_same =
        let g = spatial_index_of c points in
        let s = step_some c points n cloud settled given g in
        let k = div-mul-le_self (n + step_of n - 1 - 0) (step_of n) in
        let few : length (densities_from c g points n (step_of n) 0 (sample_count n)) ≤ 4096 =
        omega (
          arith,
          densities_most c g points n (step_of n) 0 (sample_count n),
          samples_few n (step_of n)
              cloud.some,
          cloud.few,
        ) in
        ap (λ (rs : List Float). cond c.adaptive_radius rs [])
        (ap (chosen start c points near) (densities_same (step_of n) (sample_count n) 0 (omega (arith, k, s, cloud.some)))
        ∙ chosen_same (densities_from c g points n (step_of n) 0 (sample_count n))
        (all_fine c points n cloud settled given g) few)

pub radii_loop : RadiiLoop
radii_loop points normals c words floats start e given zero-start =
    let a = accepted_reconstruct points normals c words floats e in
    radii_same start zero-start c points a.cloud a.settled given
