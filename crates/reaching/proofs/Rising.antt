-- The radii of an accepted cloud are numbers in rising order. Assumes nothing.
use Prim.Native.Nat.{ℕ, zero, suc, ◌+◌, ◌-◌, ◌*◌, ◌≤◌, ◌<◌, min}
use native.Mathlib.Nat.{div-mul-le_self, le-div_iff_mul-le, mul-le-mul_right}
use mathlib.Core.Path.{◌≡◌, refl, sym, subst}
use mathlib.Core.Bool.{Bool, true, false, cond}
use mathlib.Core.List.{List, [], ◌∷◌, ◌++◌, map}
use native.Mathlib.Omega.{arith}
use lib.Dec.{T, eqb}
use borrow.Author.Tests.{eqb-false}
use lib.ListN.{length, take, get_or, length-take}
use lib.Ieee.{Float, nan, lt, le, is_nan, of_bits}
use Rattle.numbers.specs.Rounded.{f32, ◌⊖◌, ◌⊗◌}
use Rattle.numbers.proofs.OrderLaws.{le_right}
use Rattle.vector.specs.Vector.{distance, squared}
use Rattle.vector.specs.Inner.Numbers.{Finite}
use Rattle.points.specs.Points.{point_at}
use Rattle.sorting.specs.Sorted.{insert, insert_all, sorted, percentile_of, index_of}
use Rattle.sorting.specs.Each.{All}
use Rattle.sorting.specs.Inner.Rising.{Rising}
use Rattle.sorting.proofs.Rising.{all_take}
use Rattle.settings.specs.declared.BallPivotingConfig.{BallPivotingConfig}
use Rattle.settings.specs.Inner.Settled.{Settled}
use Rattle.ranges.specs.Range.{inside}
use Rattle.lists.specs.Members.{Below}
use Rattle.lists.proofs.Members.{below_first, below_rest}
use Rattle.grid.specs.declared.SpatialGrid.{SpatialGrid}
use Rattle.grid.proofs.Near.{neighbors_below}
use Rattle.lists.proofs.Bools.{and_both}
use Rattle.spatial_hash.proofs.Squares.{Good, root_good, squared_good, distance_back}
use Rattle.radii.specs.Radii.{distances_to, average, near_of, nearest_distances, densities_from, step_of, sample_count, spaced, dedup, radius_candidates, radii_from}
use Rattle.radii.specs.Radii.{adaptive_radii}
use Rattle.neighbor_squares.proofs.Rising.{Number, Ascending, insert_ascending, sorted_good}
use Rattle.radii.proofs.Densities.{average_number}
use Rattle.decisions.proofs.Growth.{double_number}

-- ---- lists
all_append : (P : Float → Type 0) (xs ys : List Float) → All P xs → All P ys → All P (xs ++ ys)
all_append P [] ys a b = b
all_append P (x ∷ xs) ys a b = (a.0, all_append P xs ys a.1 b)

all_map : (P : Float → Type 0) (f : Float → Float) → ((x : Float) → P (f x)) → (xs : List Float) → All P (map f xs)
all_map P f h [] = tt
all_map P f h (x ∷ xs) = (h x, all_map P f h xs)

all_get : (P : Float → Type 0) (d : Float) → P d → (xs : List Float) (k : ℕ) → All P xs → P (get_or xs k d)
all_get P d h [] k a = h
all_get P d h (x ∷ xs) zero a = a.0
all_get P d h (x ∷ xs) (suc k) a = all_get P d h xs k a.1

-- ---- sorting numbers
sort_ascending : (ys xs : List Float) → Ascending ys → All Number xs → Ascending (insert_all ys xs)
unfolding insert_all
sort_ascending ys [] o a = o
sort_ascending ys (x ∷ xs) o a = sort_ascending (insert x ys) xs (insert_ascending x ys a.0 o) a.1

sorted_ascending : (xs : List Float) → All Number xs → Ascending (sorted xs)
sorted_ascending xs a = sort_ascending [] xs (tt, tt) a

-- leaving some out
spaced_all : (P : Float → Type 0) (last : Float) (xs : List Float) → All P xs → All P (spaced last xs)
unfolding spaced
spaced_all P last [] a = tt
spaced_all P last (x ∷ xs) a = go (lt (x ⊖ last) (f32 0x358637bd)) (spaced_all P last xs a.1) (spaced_all P x xs a.1)
  where
    go : (b : Bool) → All P (spaced last xs) → All P (spaced x xs) → All P (cond b (spaced last xs) (x ∷ spaced x xs))
    go true d k = d
    go false d k = (a.0, k)

spaced_rising : (last : Float) (xs : List Float) → Rising xs → Rising (spaced last xs)
unfolding spaced
spaced_rising last [] r = tt
spaced_rising last (x ∷ xs) r = go (lt (x ⊖ last) (f32 0x358637bd)) (spaced_rising last xs r.1) (spaced_rising x xs r.1)
  where
    go : (b : Bool) → Rising (spaced last xs) → Rising (spaced x xs) → Rising (cond b (spaced last xs) (x ∷ spaced x xs))
    go true d k = d
    go false d k = (spaced_all (λ (y : Float). T (le x y)) x xs r.0, k)

dedup_rising : (xs : List Float) → Rising xs → Rising (dedup xs)
unfolding dedup
dedup_rising [] r = tt
dedup_rising (x ∷ xs) r = (spaced_all (λ (y : Float). T (le x y)) x xs r.0, spaced_rising x xs r.1)

-- ---- densities
module _ (c : BallPivotingConfig) (g : SpatialGrid) (pts : List Float) (n : ℕ) (numbers : (j : ℕ) → j < n → Finite (point_at pts j)) where
  distances_good : (i : ℕ) → i < n → (js : List ℕ) → Below n js → All Good (distances_to pts i js)
  unfolding distances_to
  distances_good i h [] b = tt
  distances_good i h (j ∷ js) b = go (eqb j i) (distances_good i h js (below_rest n j js b))
    where
      here : Good (distance (point_at pts i) (point_at pts j))
      here = subst Good (sym (distance_back (point_at pts i) (point_at pts j)))
          (root_good (squared (point_at pts j) (point_at pts i)) (squared_good (point_at pts j) (point_at pts i) (numbers j (below_first n j js b)) (numbers i h)))

      go : (t : Bool) → All Good (distances_to pts i js)
          → All Good (cond t (distances_to pts i js) (distance (point_at pts i) (point_at pts j) ∷ distances_to pts i js))
      go true a = a
      go false a = (here, a)

  nearest_good : (i : ℕ) → i < n → All Good (nearest_distances c g pts n i)
  unfolding nearest_distances near_of
  nearest_good i h =
      let ds = distances_to pts i (near_of c g pts n i) in
      all_take Good 10 (sorted ds)
      (sorted_good ds (distances_good i h (near_of c g pts n i)
      (neighbors_below c.use_spatial_index g pts n (point_at pts i) (c.radius ⊗ f32 0x40400000))))

  few : (i : ℕ) → length (nearest_distances c g pts n i) ≤ 10
  unfolding nearest_distances
  few i = simp length-take (omega arith)

  -- m samples from i on are points
  abbrev Inside : ℕ → ℕ → ℕ → Type 0
  Inside step i zero = Unit {0}
  Inside step i (suc m) = (i < n) × Inside step (i + step) m

  densities_number : (step i m : ℕ) → Inside step i m → All Number (densities_from c g pts n step i m)
  unfolding densities_from
  densities_number step i zero h = tt
  densities_number step i (suc m) h = go (eqb (length (nearest_distances c g pts n i)) 0) refl (densities_number step (i + step) m h.1)
    where
      go : (b : Bool) → eqb (length (nearest_distances c g pts n i)) 0 ≡ b → All Number (densities_from c g pts n step (i + step) m)
          → All Number (cond b (densities_from c g pts n step (i + step) m) (average (nearest_distances c g pts n i) ∷ densities_from c g pts n step (i + step) m))
      go true e a = a
      go false e a = (
        average_number (nearest_distances c g pts n i) (let d = eqb-false (length (nearest_distances c g pts n i)) 0 e in omega arith) (few i)
            (nearest_good i h.0),
        a,
      )

  inside_all : (step i m : ℕ) → ((k : ℕ) → k < m → i + k * step < n) → Inside step i m
  inside_all step i zero h = tt
  inside_all step i (suc m) h = (omega (arith, h 0 (omega arith)), inside_all step (i + step) m (λ k l. omega (arith, h (suc k) (omega arith))))

  samples_inside : 0 < n → Inside (step_of n) 0 (sample_count n)
  samples_inside some =
      let step = step_of n in
      let m = sample_count n in
      let l : m * step ≤ n + step - 1 - 0 = div-mul-le_self (n + step - 1 - 0) step in
      let one : 1 ≤ step = (le-div_iff_mul-le {k = min n 1000} (omega arith)).1 (omega arith) in
      inside_all step 0 m (λ k b. let q : (k + 1) * step ≤ m * step = mul-le-mul_right step (omega arith) in omega arith)

  -- ---- the radii
  module _ (some : 0 < n) (settled : Settled c) where
    number_inside : (lo hi x : Float) → inside lo hi x ≡ true → Number x
    unfolding inside
    number_inside lo hi x t = le_right lo x (subst T (sym (and_both {p = le lo x} {q = le x hi} t).0) tt)

    slots_number : (lo hi : Float) (xs : List Float) (k : ℕ) → ((j : ℕ) → j < k → inside lo hi (get_or xs j nan) ≡ true) → All Number (take k xs)
    slots_number lo hi xs zero h = tt
    slots_number lo hi [] (suc k) h = tt
    slots_number lo hi (x ∷ xs) (suc k) h = (number_inside lo hi x (h 0 (omega arith)), slots_number lo hi xs k (λ j l. h (suc j) (omega arith)))

    zero_number : Number (f32 0)
    unfolding of_bits is_nan
    zero_number = tt

    candidates_number : (ds : List Float) → All Number ds → All Number (radius_candidates c ds)
    unfolding radius_candidates percentile_of
    candidates_number ds a =
        let ps = take c.percentile_count c.adaptive_percentiles in
        all_append Number (map (λ p. percentile_of ds p ⊗ f32 0x40000000) ps) (c.radius ∷ take c.additional_count c.additional_radii)
        (all_map Number (λ p. percentile_of ds p ⊗ f32 0x40000000)
        (λ p. double_number (percentile_of ds p) (all_get Number (f32 0) zero_number ds (index_of (length ds) p) a)) ps) (
          number_inside (f32 0x3a83126f) (f32 0x447a0000) c.radius settled.main,
          slots_number (f32 0x3a83126f) (f32 0x447a0000) c.additional_radii
              c.additional_count settled.additional.each,
        )

    radii_at_lem : (ds : List Float) → All Number ds → Rising (radii_from c ds)
    unfolding radii_from
    radii_at_lem [] a = tt
    radii_at_lem (d ∷ ds) a =
        let all = radius_candidates c (sorted (d ∷ ds)) in
        dedup_rising (sorted all) (sorted_ascending all (candidates_number (sorted (d ∷ ds)) (sorted_ascending (d ∷ ds) a).1)).0

    pub radii_rising : Rising (adaptive_radii c g pts n)
    unfolding adaptive_radii
    radii_rising = go c.adaptive_radius
      where
        go : (b : Bool) → Rising (cond b (radii_from c (densities_from c g pts n (step_of n) 0 (sample_count n))) [])
        go true = radii_at_lem (densities_from c g pts n (step_of n) 0 (sample_count n)) (densities_number (step_of n) 0 (sample_count n) (samples_inside some))
        go false = tt
