-- The scope's Estimate: `estimate_optimal_radius`. Definitions only.
use Rattle.std.specs.Prelude.{ℕ, zero, suc, ◌+◌, ◌/◌, min, max, Bool, false, cond, ◌≡◌, List, [], ◌∷◌, eqb, length, Float}
use Rattle.std.specs.Float.{inf}
use Rattle.std.specs.Float.Ieee.{lt}
use Rattle.numbers.specs.Rounded.{f32, ◌⊗◌}
use Rattle.vector.specs.Vector.{distance}
use Rattle.points.specs.Points.{point_at, steps_from}
use Rattle.sorting.specs.Sorted.{sorted, percentile_of}
use Rattle.domain.specs.Refusals.{estimate_refusal}
use Rattle.clearing.specs.Swept.{swept}
use Rattle.estimate.specs.declared.Estimate.{Estimate}

-- the lesser of d and the distance from point i to point j, which counts only where it is another point
unfoldable pub nearer : List Float → ℕ → ℕ → Float → Float
nearer pts i j d =
    let e = distance (point_at pts i) (point_at pts j) in
    cond (eqb i j) d (cond (lt e d) e d)

-- the least of d and of the distances from point i to m points from j on
unfoldable pub nearest_from : List Float → ℕ → Float → ℕ → ℕ → Float
nearest_from pts i d j zero = d
nearest_from pts i d j (suc m) = nearest_from pts i (nearer pts i j d) (j + 1) m

-- the least distance from point i to another of n points; infinity stands for no other point
unfoldable pub least_distance : List Float → ℕ → ℕ → Float
least_distance pts n i = nearest_from pts i (inf false) 0 n

-- the least distances at m samples, the first of them point i
unfoldable pub least_distances : List Float → ℕ → ℕ → ℕ → ℕ → List Float
least_distances pts n step i zero = []
least_distances pts n step i (suc m) =
    let later = least_distances pts n step (i + step) m in
    let d = least_distance pts n i in
    cond (lt d (inf false)) (d ∷ later) later

-- the sample size, n / 10, cut, held to 100..1,000, and the step, n / size, cut, at least 1
abbrev pub sample_size : ℕ → ℕ
sample_size n = min (max (n / 10) 100) 1000

abbrev pub estimate_step : ℕ → ℕ
estimate_step n = max (n / sample_size n) 1

abbrev pub estimate_samples : ℕ → ℕ
estimate_samples n = steps_from n (estimate_step n) 0

-- of sorted least distances the one at the percentile, times 2.5, or 0.1 if there is none
unfoldable pub scaled : List Float → Float → Float
scaled [] p = f32 0x3dcccccd
scaled (d ∷ ds) p = percentile_of (d ∷ ds) p ⊗ f32 0x40200000

-- the estimate for n points
unfoldable pub optimal_radius : List Float → ℕ → Float → Float
optimal_radius pts n p = scaled (sorted (least_distances pts n (estimate_step n) 0 (estimate_samples n))) p

-- whether the checks pass, for work slices of these lengths
abbrev pub estimate_accepted : List Float → Float → ℕ → ℕ → Bool
estimate_accepted pts p words floats = eqb (estimate_refusal pts p words floats).answer 0

abbrev pub estimate : ℕ → ℕ → Float → Estimate
estimate answer detail radius = record { answer = answer; detail = detail; radius = radius }

-- the call's result: the checks' refusal, with 0 for the estimate, or the estimate
unfoldable pub estimate_of : List Float → Float → ℕ → ℕ → Estimate
estimate_of pts p words floats =
    let r = estimate_refusal pts p words floats in
    cond (estimate_accepted pts p words floats) (estimate 0 0 (optimal_radius pts (length pts / 3) p))
    (estimate r.answer r.detail (f32 0))

-- what a call leaves: its result, and the two work slices whole
pub record Estimated
    (pts : List Float) (p : Float) (words : List ℕ) (floats : List Float)
    (r : Estimate) (words' : List ℕ) (floats' : List Float) : Type 0 where
  pub result : r ≡ estimate_of pts p (length words) (length floats)
  pub words_left : words' ≡ swept 0 (estimate_accepted pts p (length words) (length floats)) words
  pub floats_left : floats' ≡ swept (f32 0) (estimate_accepted pts p (length words) (length floats)) floats
