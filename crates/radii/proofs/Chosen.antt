-- The candidates, turn by turn of the loops, and the radii from the densities. Assumes nothing.
use mathlib.Core.Path.{◌≡◌, refl, sym, ap, ◌∙◌}
use mathlib.Core.Bool.{true, false, not}
use mathlib.Core.List.{List, [], ◌∷◌, ◌++◌, map}
use Prim.Native.Nat.{ℕ, suc, ◌+◌, ◌≤◌, ◌<◌}
use native.Mathlib.Omega.{arith}
use borrow.Author.Tests.{not-true, not-false}
use lib.ListN.{length, take, drop, get_or}
use lib.Seq.{length-take-le, take-suc, take-take}
use lib.Ieee.{Float, nan, lt}
use Rattle.numbers.specs.Rounded.{f32, ◌⊗◌}
use Rattle.sorting.specs.Inner.Places.{PartWritten}
use Rattle.sorting.specs.Sorted.{insert, insert_all, sorted, percentile_of}
use Rattle.sorting.proofs.Insertion.{insert_length}
use Rattle.settings.specs.declared.BallPivotingConfig.{BallPivotingConfig}
use Rattle.grid.specs.declared.SpatialGrid.{SpatialGrid}
use Rattle.radii.specs.Radii.{dedup, radius_candidates, radii_from, densities_from, step_of, sample_count, adaptive_radii}
use Rattle.radii.specs.Inner.Steps.{radius_at_percentile}

-- ---- insertion of a list
insert_append : (xs ys zs : List Float) → insert_all xs (ys ++ zs) ≡ insert_all (insert_all xs ys) zs
unfolding insert_all
insert_append xs [] zs = refl
insert_append xs (y ∷ ys) zs = insert_append (insert y xs) ys zs

insert_one : (xs ys : List Float) (z : Float) → insert_all xs (ys ++ (z ∷ [])) ≡ insert z (insert_all xs ys)
unfolding insert_all
insert_one xs ys z = insert_append xs ys (z ∷ [])

insert_count : (xs ys : List Float) → length (insert_all xs ys) ≡ length xs + length ys
unfolding insert_all
insert_count xs [] = omega arith
insert_count xs (y ∷ ys) = insert_count (insert y xs) ys ∙ omega (arith, insert_length (lt y) y xs)

map-append : (h : Float → Float) (xs ys : List Float) → map h (xs ++ ys) ≡ map h xs ++ map h ys
map-append h [] ys = refl
map-append h (x ∷ xs) ys = ap (λ (l : List Float). h x ∷ l) (map-append h xs ys)

-- the first k + 1 of a list
one_more : (ps : List Float) (k : ℕ) → k < length ps → take (k + 1) ps ≡ take k ps ++ (get_or ps k nan ∷ [])
one_more ps k h = let e : k + 1 ≡ suc k = omega arith in ap (λ (j : ℕ). take j ps) e ∙ take-suc ps k nan h

-- ---- the percentile radii
pub percentiles_start : (f ps : List Float) (at : ℕ) (h : Float → Float) → take 0 (drop at f) ≡ sorted (map h (take 0 ps))
unfolding insert_all
percentiles_start f ps at h = refl

pub percentiles_step : (f₀ f u ps : List Float) (at count k : ℕ) (p v : Float) → count ≤ at → k < length ps → p ≡ percentile_of (take count f) (get_or ps k nan)
    → v ≡ p ⊗ f32 0x40000000
    → take at f ≡ take at f₀ → take k (drop at f) ≡ sorted (map (radius_at_percentile (take count f₀)) (take k ps))
    → PartWritten f u at (k + 1) (insert v (take k (drop at f)))
    → (take (k + 1) (drop at u) ≡ sorted (map (radius_at_percentile (take count f₀)) (take (k + 1) ps))) × (take at u ≡ take at f₀)
percentiles_step f₀ f u ps at count k p v few inside hp hv same inv r =
    let front : take count f ≡ take count f₀ = sym (take-take count at f few) ∙ ap (take count) same ∙ take-take count at f₀ few in
    let e : v ≡ radius_at_percentile (take count f₀) (get_or ps k nan) = hv ∙ ap (λ (x : Float). x ⊗ f32 0x40000000)
    (hp ∙ ap (λ (l : List Float). percentile_of l (get_or ps k nan)) front) in (
      r.inside
          ∙ ap (λ (l : List Float). insert v l) inv
          ∙ ap (λ (x : Float). insert x (sorted (map (radius_at_percentile (take count f₀)) (take k ps)))) e
          ∙ sym (insert_one [] (map (radius_at_percentile (take count f₀)) (take k ps)) (radius_at_percentile (take count f₀) (get_or ps k nan)))
          ∙ ap sorted (sym (map-append (radius_at_percentile (take count f₀)) (take k ps) (get_or ps k nan ∷ [])))
          ∙ ap (λ (l : List Float). sorted (map (radius_at_percentile (take count f₀)) l)) (sym (one_more ps k inside)),
      r.below ∙ same,
    )

-- ---- the given radii
pub radii_start : (f₀ rs : List Float) (at start : ℕ) → take (start + 0) (drop at f₀) ≡ insert_all (take start (drop at f₀)) (take 0 rs)
unfolding insert_all
radii_start f₀ rs at start = let e : start + 0 ≡ start = omega arith in ap (λ (k : ℕ). take k (drop at f₀)) e

pub radii_step : (f₀ f u rs : List Float) (at start k : ℕ) → k < length rs → take (start + k) (drop at f) ≡ insert_all (take start (drop at f₀)) (take k rs)
    → PartWritten f u at (start + k + 1) (insert (get_or rs k nan) (take (start + k) (drop at f))) → take (start + (k + 1)) (drop at u)
    ≡ insert_all (take start (drop at f₀)) (take (k + 1) rs)
radii_step f₀ f u rs at start k inside inv r =
    let e : start + (k + 1) ≡ start + k + 1 = omega arith in
    ap (λ (j : ℕ). take j (drop at u)) e
    ∙ r.inside
    ∙ ap (λ (l : List Float). insert (get_or rs k nan) l) inv
    ∙ sym (insert_one (take start (drop at f₀)) (take k rs) (get_or rs k nan))
    ∙ ap (insert_all (take start (drop at f₀))) (sym (one_more rs k inside))

-- ---- all candidates
pub chosen : (c : BallPivotingConfig) (ds f₁ f₂ f₃ : List Float) (at : ℕ) → take c.percentile_count (drop at f₁)
    ≡ sorted (map (radius_at_percentile ds) (take c.percentile_count c.adaptive_percentiles))
    → PartWritten f₁ f₂ at (c.percentile_count + 1) (insert c.radius (take c.percentile_count (drop at f₁)))
    → take (c.percentile_count + 1 + c.additional_count) (drop at f₃)
    ≡ insert_all (take (c.percentile_count + 1) (drop at f₂)) (take c.additional_count c.additional_radii)
    → take (c.percentile_count + 1 + c.additional_count) (drop at f₃) ≡ sorted (radius_candidates c ds)
unfolding radius_candidates insert_all
chosen c ds f₁ f₂ f₃ at e₁ e₂ e₃ =
    e₃
    ∙ ap (λ (l : List Float). insert_all l (take c.additional_count c.additional_radii))
    (e₂.inside ∙ ap (λ (l : List Float). insert c.radius l) e₁)
    ∙ sym (insert_append [] (map (radius_at_percentile ds) (take c.percentile_count c.adaptive_percentiles))
    (c.radius ∷ take c.additional_count c.additional_radii))

-- ---- the radii
pub radii_none : (c : BallPivotingConfig) (f ds : List Float) → take 0 f ≡ sorted ds → [] ≡ radii_from c ds
unfolding radii_from insert_all
radii_none c f [] e = refl
radii_none c f (d ∷ ds) e = absurd (omega (arith, ap length e, insert_count (insert d []) ds, insert_length (lt d) d []))

pub radii_some : (c : BallPivotingConfig) (f ds : List Float) (count : ℕ) → 1 ≤ count → count ≤ length f → take count f ≡ sorted ds
    → dedup (sorted (radius_candidates c (take count f))) ≡ radii_from c ds
unfolding radii_from insert_all
radii_some c f [] count h long e = absurd (omega (arith, ap length e, length-take-le count f long))
radii_some c f (d ∷ ds) count h long e = ap (λ (l : List Float). dedup (sorted (radius_candidates c l))) e

pub radii_off : (c : BallPivotingConfig) (g : SpatialGrid) (pts : List Float) (n : ℕ) → not c.adaptive_radius ≡ true → [] ≡ adaptive_radii c g pts n
unfolding adaptive_radii
radii_off c g pts n e = rw (not-true c.adaptive_radius e)

pub radii_on : (c : BallPivotingConfig) (g : SpatialGrid) (pts : List Float) (n : ℕ) → not c.adaptive_radius ≡ false
    → radii_from c (densities_from c g pts n (step_of n) 0 (sample_count n)) ≡ adaptive_radii c g pts n
unfolding adaptive_radii
radii_on c g pts n e = rw (not-false c.adaptive_radius e)
