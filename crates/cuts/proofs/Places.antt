-- The place of a percentile cut to a usize is the one cut to a u32: there are at most 4,096 numbers. Assumes nothing.
use Prim.Native.Nat.{ℕ, zero, suc, ◌+◌, ◌-◌, ◌*◌, ◌/◌, ◌≤◌, ◌<◌}
use native.Mathlib.Nat.{div-le_self, div-lt_iff_lt-mul}
use native.Mathlib.Omega.{arith}
use mathlib.Core.Path.{◌≡◌}
use mathlib.Core.Bool.{Bool, true, false, cond}
use mathlib.Core.List.{List, [], ◌∷◌}
use lib.Dec.{T, eqb}
use lib.ListN.{length}
use lib.Ieee.{Float, inf, lt, le}
use Rattle.numbers.specs.Rounded.{f32, ◌⊗◌}
use Rattle.cutting.proofs.CutTypes.{usize_cut}
use Rattle.points.specs.Points.{steps_from}
use Rattle.sorting.specs.Sorted.{insert, insert_all, sorted, whole}
use Rattle.sorting.proofs.Insertion.{insert_length}
use Rattle.sorting.proofs.Percentile.{index_below}
use Rattle.settings.specs.declared.BallPivotingConfig.{BallPivotingConfig}
use Rattle.grid.specs.declared.SpatialGrid.{SpatialGrid}
use Rattle.radii.specs.Radii.{nearest_distances, average, densities_from}
use Rattle.estimate.specs.Estimate.{least_distance, least_distances}
use Rattle.cuts.specs.Cuts.{SamePlace}

pub place_same : (count : ℕ) (p : Float) → 1 ≤ count → count ≤ 4096 → T (le (f32 0) p) → T (le p (f32 0x3f800000))
    → SamePlace count p
place_same count p some few low high =
    usize_cut (whole (count - 1) ⊗ p) (let l = index_below count p some few low high in omega arith)

-- sorting leaves the length
all_length : (s xs : List Float) → length (insert_all s xs) ≡ length s + length xs
unfolding insert_all
all_length s [] = omega arith
all_length s (x ∷ xs) = omega (arith, all_length (insert x s) xs, insert_length (lt x) x s)

pub sorted_length : (xs : List Float) → length (sorted xs) ≡ length xs
sorted_length xs = omega (arith, all_length [] xs)

-- there are at most as many densities, and distances of the estimate, as samples
pub densities_most : (c : BallPivotingConfig) (g : SpatialGrid) (points : List Float) (n step i m : ℕ)
    → length (densities_from c g points n step i m) ≤ m
unfolding densities_from
densities_most c g points n step i zero = omega arith
densities_most c g points n step i (suc m) =
    go (eqb (length (nearest_distances c g points n i)) 0) (densities_most c g points n step (i + step) m)
  where
    go : (t : Bool) → length (densities_from c g points n step (i + step) m) ≤ m
        → length (cond t (densities_from c g points n step (i + step) m)
        (average (nearest_distances c g points n i) ∷ densities_from c g points n step (i + step) m)) ≤ suc m
    go true h = omega arith
    go false h = omega arith

pub samples_most : (points : List Float) (n step i m : ℕ) → length (least_distances points n step i m) ≤ m
unfolding least_distances
samples_most points n step i zero = omega arith
samples_most points n step i (suc m) =
    go (lt (least_distance points n i) (inf false)) (samples_most points n step (i + step) m)
  where
    go : (t : Bool) → length (least_distances points n step (i + step) m) ≤ m
        → length (cond t (least_distance points n i ∷ least_distances points n step (i + step) m)
        (least_distances points n step (i + step) m)) ≤ suc m
    go true h = omega arith
    go false h = omega arith

-- and no more samples than points, whatever the step
pub samples_few : (n step : ℕ) → 0 < n → steps_from n step 0 ≤ n
samples_few n zero h = omega (arith, div-le_self (n + 0 - 1 - 0) 0)
samples_few n (suc k) h =
    let l : n + suc k - 1 - 0 < suc n * suc k = omega arith in
    let d : (n + suc k - 1 - 0) / suc k < suc n = (div-lt_iff_lt-mul {k = suc k} (omega arith)).1 l in
    omega arith
