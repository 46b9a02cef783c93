-- All that the radii are made from is f32 from +0 up to 131,072, in an accepted cloud with settings in range: so each
-- list that is sorted is sorted by the total order. Assumes nothing.
use Prim.Native.Nat.{ℕ, zero, suc, ◌+◌, ◌-◌, ◌*◌, ◌≤◌, ◌<◌, min}
use native.Mathlib.Nat.{div-mul-le_self, min-le_left, le-div_iff_mul-le}
use native.Mathlib.Omega.{arith}
use mathlib.Core.Path.{◌≡◌, refl, sym, subst}
use mathlib.Core.Bool.{Bool, true, false, cond}
use mathlib.Core.List.{List, [], ◌∷◌, ◌++◌, map}
use lib.Count.{count_trailing_zeros}
use lib.Dec.{T, eqb}
use lib.ListN.{length, get_or, take, length-take}
use lib.Ieee.{Float, nan, binary32, span, climb, size, odd, units, round, mul, lt, eq, le, fits, of_fields, of_bits}
use lib.Ieee.Fits.{mul-fits}
use lib.Ieee.Scale.{finite}
use borrow.Author.Tests.{eqb-false}
use Rattle.numbers.specs.Rounded.{f32, ◌⊖◌, ◌⊗◌}
use Rattle.numbers.specs.Inner.Bounds.{unsigned}
use Rattle.numbers.proofs.OrderLaws.{positive_unsigned, le_trans, lt_le_trans}
use Rattle.numbers.proofs.ProductOrder.{mul_monotone_finite}
use Rattle.numbers.proofs.Bounded.{mul_unsigned}
use Rattle.vector.specs.Vector.{distance}
use Rattle.points.specs.Points.{point_at}
use Rattle.ranges.specs.Range.{inside}
use Rattle.lists.proofs.Bools.{and_both}
use Rattle.settings.specs.Inner.Settled.{Settled}
use Rattle.settings.specs.declared.BallPivotingConfig.{BallPivotingConfig}
use Rattle.domain.specs.Inner.Accepted.{Cloud}
use Rattle.sorting.specs.Sorted.{insert, insert_all, sorted, percentile_of, index_of}
use Rattle.sorting.specs.Each.{All}
use Rattle.sorting.proofs.Rising.{all_take}
use Rattle.lists.specs.Members.{Below}
use Rattle.lists.proofs.Members.{below_first, below_rest}
use Rattle.grid.specs.declared.SpatialGrid.{SpatialGrid}
use Rattle.grid.proofs.Near.{neighbors_below}
use Rattle.radii.specs.Radii.{distances_to, average, near_of, nearest_distances, densities_from, step_of, sample_count, spaced, dedup}
use Rattle.radii.specs.Radii.{radius_candidates, radii_from, adaptive_radii}
use Rattle.total_order.specs.TotalOrder.{totally_sorted, Given}
use Rattle.total_order.proofs.Order.{Plain, Fine, insert_keeps, sorted_total}
use Rattle.total_order.proofs.Fine.{far, fine_finite, apart_fine, average_fine}

-- 131,072
abbrev pub farther : Float
farther = f32 0x48000000

abbrev two : Float
two = f32 0x40000000

-- ---- what computes
product_top : T (le (far ⊗ two) farther)
unfolding count_trailing_zeros span climb size odd units round mul lt eq le of_fields of_bits
product_top = tt

plain_tops : T (finite far) × T (finite farther) × T (finite two) × T (unsigned two) × T (le (f32 0) two)
unfolding lt eq le of_bits
plain_tops = (tt, tt, tt, tt, tt)

pub far_finite : T (finite far)
far_finite = plain_tops.0

pub farther_finite : T (finite farther)
farther_finite = plain_tops.1

zero_fine : Fine far (f32 0)
unfolding lt eq le of_bits fits
zero_fine = record { held = tt; clear = tt; most = tt }

radius_tops : T (lt (f32 0) (f32 0x3a83126f)) × T (le (f32 0x447a0000) farther)
unfolding lt eq le of_bits
radius_tops = (tt, tt)

-- ---- lists
module _ (P : Float → Type 0) where
  pub all_insert : (s xs : List Float) → All P s → All P xs → All P (insert_all s xs)
  unfolding insert_all
  all_insert s [] a b = a
  all_insert s (x ∷ xs) a b = all_insert (insert x s) xs (insert_keeps P (lt x) x s b.0 a) b.1

  all_append : (xs ys : List Float) → All P xs → All P ys → All P (xs ++ ys)
  all_append [] ys a b = b
  all_append (x ∷ xs) ys a b = (a.0, all_append xs ys a.1 b)

  all_each : (xs : List Float) (d : Float) (k : ℕ) → P d → All P xs → P (get_or xs k d)
  all_each [] d k p a = p
  all_each (x ∷ xs) d zero p a = a.0
  all_each (x ∷ xs) d (suc k) p a = all_each xs d k p a.1

  pub all_first : (count : ℕ) (xs : List Float) → ((k : ℕ) → k < count → P (get_or xs k nan)) → All P (take count xs)
  all_first zero xs h = tt
  all_first (suc count) [] h = tt
  all_first (suc count) (x ∷ xs) h = (h 0 (omega arith), all_first count xs (λ k l. h (suc k) (omega arith)))

  all_spaced : (last : Float) (xs : List Float) → All P xs → All P (spaced last xs)
  unfolding spaced
  all_spaced last [] a = tt
  all_spaced last (x ∷ xs) a = go (lt (x ⊖ last) (f32 0x358637bd)) (all_spaced last xs a.1) (all_spaced x xs a.1)
    where
      go : (t : Bool) → All P (spaced last xs) → All P (spaced x xs) → All P (cond t (spaced last xs) (x ∷ spaced x xs))
      go true d k = d
      go false d k = (a.0, k)

  all_dedup : (xs : List Float) → All P xs → All P (dedup xs)
  unfolding dedup
  all_dedup [] a = tt
  all_dedup (x ∷ xs) a = (a.0, all_spaced x xs a.1)

pub all_map : (P Q : Float → Type 0) → ((x : Float) → P x → Q x) → (xs : List Float) → All P xs → All Q xs
all_map P Q h [] a = tt
all_map P Q h (x ∷ xs) a = (h x a.0, all_map P Q h xs a.1)

fine_plain : (top : Float) → T (finite top) → (x : Float) → Fine top x → Plain x
fine_plain top f x h = (h.held, h.clear, fine_finite top x f h)

-- a list of such is sorted by the total order
pub fine_sorted : (top : Float) → T (finite top) → (xs : List Float) → All (Fine top) xs → sorted xs ≡ totally_sorted xs
fine_sorted top f xs a = sorted_total xs (all_map (Fine top) Plain (fine_plain top f) xs a)

pub twice : (top most x : Float) → T (finite top) → T (le (top ⊗ two) most) → Fine top x → Fine most (x ⊗ two)
twice top most x f g h =
    let fx = fine_finite top x f h in
    record {
      held = mul-fits binary32 x two;
      clear = mul_unsigned x two fx plain_tops.2 h.clear plain_tops.3;
      most =
          le_trans (x ⊗ two) (top ⊗ two) most
          (mul_monotone_finite x top two fx f plain_tops.2 h.most plain_tops.4) g;
    }

-- ---- the settings' radii
pub set_fine : (x : Float) → T (fits binary32 x) → inside (f32 0x3a83126f) (f32 0x447a0000) x ≡ true
    → Fine (f32 0x447a0000) x
unfolding inside
set_fine x f e =
    let b = and_both {p = le (f32 0x3a83126f) x} {q = le x (f32 0x447a0000)} e in
    record {
      held = f;
      clear = positive_unsigned x
          (lt_le_trans (f32 0) (f32 0x3a83126f) x radius_tops.0 (subst T (sym b.0) tt));
      most = subst T
          (sym b.1) tt;
    }

fine_more : (top most x : Float) → T (le top most) → Fine top x → Fine most x
fine_more top most x g h = record { held = h.held; clear = h.clear; most = le_trans x top most h.most g }

percent_fine : (ds : List Float) (p : Float) → All (Fine far) ds → Fine far (percentile_of ds p)
unfolding percentile_of
percent_fine ds p a = all_each (Fine far) ds (f32 0) (index_of (length ds) p) zero_fine a

-- ---- over a cloud
module _ (c : BallPivotingConfig) (points : List Float) (n : ℕ) (cloud : Cloud n points) (settled : Settled c)
    (given : Given c) (g : SpatialGrid) where
  distances_fine : (i : ℕ) → i < n → (js : List ℕ) → Below n js → All (Fine far) (distances_to points i js)
  unfolding distances_to
  distances_fine i l [] b = tt
  distances_fine i l (j ∷ js) b = go (eqb j i) (distances_fine i l js (below_rest n j js b))
    where
      go : (t : Bool) → All (Fine far) (distances_to points i js)
          → All (Fine far)
          (cond t (distances_to points i js) (distance (point_at points i) (point_at points j) ∷ distances_to points i js))
      go true r = r
      go false r = (apart_fine n points cloud i j l (below_first n j js b), r)

  pub near_fine : (i : ℕ) → i < n → All (Fine far) (distances_to points i (near_of c g points n i))
  unfolding near_of
  near_fine i l =
      distances_fine i l _
      (neighbors_below c.use_spatial_index g points n (point_at points i) (c.radius ⊗ f32 0x40400000))

  -- the distances of a sample
  pub near_sorted : (i : ℕ) → i < n
      → sorted (distances_to points i (near_of c g points n i))
      ≡ totally_sorted (distances_to points i (near_of c g points n i))
  near_sorted i l = fine_sorted far plain_tops.0 _ (near_fine i l)

  pub nearest_fine : (i : ℕ) → i < n → All (Fine far) (nearest_distances c g points n i)
  unfolding nearest_distances
  nearest_fine i l =
      all_take (Fine far) 10 (sorted (distances_to points i (near_of c g points n i)))
      (all_insert (Fine far) [] (distances_to points i (near_of c g points n i)) tt (near_fine i l))

  nearest_few : (i : ℕ) → length (nearest_distances c g points n i) ≤ 10
  unfolding nearest_distances
  nearest_few i = simp length-take (omega arith)

  densities_fine : (step m i : ℕ) → i + m * step < n + step → All (Fine far) (densities_from c g points n step i m)
  unfolding densities_from
  densities_fine step zero i h = tt
  densities_fine step (suc m) i h =
      let l : i < n = omega arith in
      let later : i + step + m * step < n + step = omega arith in
      go (eqb (length (nearest_distances c g points n i)) 0) refl l (densities_fine step m (i + step) later)
    where
      go : (t : Bool) → eqb (length (nearest_distances c g points n i)) 0 ≡ t → i < n
          → All (Fine far) (densities_from c g points n step (i + step) m)
          → All (Fine far)
          (cond t (densities_from c g points n step (i + step) m)
          (average (nearest_distances c g points n i) ∷ densities_from c g points n step (i + step) m))
      go true e l r = r
      go false e l r = (
        average_fine (nearest_distances c g points n i)
            (let z = eqb-false (length (nearest_distances c g points n i)) 0 e in omega arith) (nearest_few i)
            (nearest_fine i l),
        r,
      )

  pub step_some : 0 < step_of n
  step_some =
      let some : 0 < min n 1000 = let s = cloud.some in omega arith in
      let once : 1 * min n 1000 ≤ n = let m = min-le_left n 1000 in omega arith in
      (le-div_iff_mul-le some).1 once

  abbrev pub densities : List Float
  densities = densities_from c g points n (step_of n) 0 (sample_count n)

  pub all_fine : All (Fine far) densities
  all_fine =
      let s = step_some in
      let k = div-mul-le_self (n + step_of n - 1 - 0) (step_of n) in
      densities_fine (step_of n) (sample_count n) 0 (omega (arith, k, s, cloud.some))

  -- the densities
  pub densities_sorted : sorted densities ≡ totally_sorted densities
  densities_sorted = fine_sorted far plain_tops.0 densities all_fine

  pub candidates_fine : (ds : List Float) → All (Fine far) ds → All (Fine farther) (radius_candidates c ds)
  unfolding radius_candidates
  candidates_fine ds a =
      let ps : List Float = take c.percentile_count c.adaptive_percentiles in
      all_append (Fine farther) (map (λ (p : Float). percentile_of ds p ⊗ two) ps)
      (c.radius ∷ take c.additional_count c.additional_radii) (percents ps) (
        fine_more (f32 0x447a0000) farther c.radius radius_tops.1
            (set_fine c.radius given.radius settled.main),
        all_first (Fine farther) c.additional_count c.additional_radii
            (λ k l. fine_more (f32 0x447a0000) farther (get_or c.additional_radii k nan) radius_tops.1
            (set_fine (get_or c.additional_radii k nan) (given.additional k l) (settled.additional.each k l))),
      )
    where
      percents : (ps : List Float) → All (Fine farther) (map (λ p. percentile_of ds p ⊗ two) ps)
      percents [] = tt
      percents (p ∷ ps) =
          (twice far farther (percentile_of ds p) plain_tops.0 product_top (percent_fine ds p a), percents ps)

  radii_at_fine : (ds : List Float) → All (Fine far) ds → All (Fine farther) (radii_from c ds)
  unfolding radii_from
  radii_at_fine [] a = tt
  radii_at_fine (d ∷ ds) a =
      all_dedup (Fine farther) (sorted (radius_candidates c (sorted (d ∷ ds))))
      (all_insert (Fine farther) [] (radius_candidates c (sorted (d ∷ ds))) tt
      (candidates_fine (sorted (d ∷ ds)) (all_insert (Fine far) [] (d ∷ ds) tt a)))

  -- the radii before those too near each other are dropped
  pub candidates_sorted : sorted (radius_candidates c (sorted densities)) ≡ totally_sorted (radius_candidates c (sorted densities))
  candidates_sorted =
      fine_sorted farther plain_tops.1 (radius_candidates c (sorted densities))
      (candidates_fine (sorted densities) (all_insert (Fine far) [] densities tt all_fine))

  pub radii_fine : All (Fine farther) (adaptive_radii c g points n)
  unfolding adaptive_radii
  radii_fine = go c.adaptive_radius
    where
      go : (t : Bool) → All (Fine farther) (cond t (radii_from c densities) [])
      go true = radii_at_fine densities all_fine
      go false = tt
