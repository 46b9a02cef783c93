-- The densities at the samples, turn by turn of the loop. Assumes nothing.
use mathlib.Core.Path.{◌≡◌, refl, sym, ap, ◌∙◌, subst}
use mathlib.Core.Bool.{Bool, true, false, cond, true≢false}
use mathlib.Core.List.{List, [], ◌∷◌}
use Prim.Native.Nat.{ℕ, zero, suc, ◌+◌, ◌/◌, ◌≤◌, ◌<◌, min}
use native.Mathlib.Nat.{div_self, mul-pos}
use native.Mathlib.Omega.{arith}
use borrow.Author.Tests.{eq-eqb, ne_eqb, eqb-false}
use lib.Dec.{T, eqb, lt→ltb}
use lib.ListN.{length, take, drop, length-drop, length-take}
use lib.Seq.{length-take-le, take-take}
use lib.Ieee.{Float, nan, inf, fin, binary32, of_int, of_bits}
use lib.Ieee.Fits.{down_pos}
use lib.Ieee.Positive.{positive}
use lib.Ieee.Exact.{HasValue}
use lib.Ieee.Back.{round_whole}
use Rattle.numbers.specs.Rounded.{f32, ◌⊕◌, ◌⊘◌}
use Rattle.numbers.specs.Inner.Bounds.{unsigned}
use Rattle.numbers.proofs.OrderLaws.{unsigned_number_lem}
use Rattle.numbers.proofs.SumOrder.{add_unsigned}
use Rattle.numbers.proofs.QuotientOrder.{div_number}
use Rattle.points.specs.Points.{point_at, steps_from}
use Rattle.points.proofs.Steps.{steps_more, steps_none}
use Rattle.sorting.specs.Inner.Places.{PartWritten}
use Rattle.sorting.specs.Sorted.{insert, insert_all, sorted, whole}
use Rattle.sorting.specs.Each.{All}
use Rattle.settings.specs.declared.BallPivotingConfig.{BallPivotingConfig}
use Rattle.grid.specs.declared.SpatialGrid.{SpatialGrid}
use Rattle.grid.specs.Inner.Index.{CellsIndexed}
use Rattle.vector.specs.Inner.Numbers.{Finite}
use Rattle.spatial_hash.proofs.Squares.{Good}
use Rattle.radii.specs.Radii.{total, average, nearest_distances, densities_from, step_of, sample_count}
use Rattle.radii.specs.Inner.Steps.{with_sample}
use Rattle.neighbor_squares.proofs.Rising.{Number, Ascending, insert_ascending}
use Rattle.radii.proofs.Distances.{nearest_good}

-- ---- the densities so far, before the region of the least distances
pub densities_kept : (f u : List Float) (n count : ℕ) → count < n → take n u ≡ take n f → take count u ≡ take count f
densities_kept f u n count inside same = let h : count ≤ n = omega arith in sym (take-take count n u h) ∙ ap (take count) same ∙ take-take count n f h

-- ---- one sample
module _ (f u : List Float) (n count kept : ℕ) (ds : List Float) (long : n + 10 ≤ length u) (few : kept ≤ 10) (inside : count < n)
    (e : take kept (drop n u) ≡ ds) (same : take n u ≡ take n f) where
  kept_count : length ds ≡ kept
  kept_count = ap length (sym e) ∙ length-take-le kept (drop n u) (simp length-drop (omega arith))

  front : take count u ≡ take count f
  front = densities_kept f u n count inside same

  pub sample_none : kept ≡ 0 → take count u ≡ with_sample ds (take count f)
  unfolding with_sample
  sample_none z = rw (eq-eqb (length ds) 0 (kept_count ∙ z)) front

  pub sample_some : (v : List Float) (s d : Float) → (kept ≡ 0 → ⊥) → s ≡ total (f32 0) (take kept (drop n u)) → d ≡ s ⊘ whole kept
      → PartWritten u v 0 (count + 1) (insert d (take count u)) → take (count + 1) v ≡ with_sample ds (take count f)
  unfolding with_sample average
  sample_some v s d z hs hd r =
      let a : d ≡ total (f32 0) ds ⊘ whole (length ds) =
      hd ∙ ap (λ (x : Float). x ⊘ whole kept) (hs ∙ ap (total (f32 0)) e) ∙ ap (λ (k : ℕ). total (f32 0) ds ⊘ whole k) (sym kept_count) in
      rw (ne_eqb (length ds) 0 (λ (q : length ds ≡ 0). z (sym kept_count ∙ q)))
      (r.inside ∙ ap (λ (xs : List Float). insert d xs) front ∙ ap (λ (x : Float). insert x (take count f)) a)

-- ---- a density is a number, so that the densities stay in rising order
total_unsigned : (s : Float) (xs : List Float) → T (unsigned s) → All Good xs → T (unsigned (total s xs))
unfolding total
total_unsigned s [] u a = u
total_unsigned s (x ∷ xs) u a = total_unsigned (s ⊕ x) xs (add_unsigned s x u a.0.1) a.1

valued_positive : (x : Float) (k : ℕ) → 1 ≤ k → HasValue x false k 1 → T (positive x)
valued_positive nan k h v = absurd v
valued_positive (inf s) k h v = absurd v
valued_positive (fin true m e) k h v = absurd (true≢false v.0)
valued_positive (fin false zero e) k h v = absurd (omega (arith, v.1, mul-pos h (down_pos e)))
valued_positive (fin false (suc m) e) k h v = lt→ltb 0 (suc m) (omega arith)

pub average_number : (ds : List Float) → 1 ≤ length ds → length ds ≤ 10 → All Good ds → Number (average ds)
unfolding average of_int
average_number ds some few a =
    div_number (total (f32 0) ds) (whole (length ds))
    (valued_positive (whole (length ds)) (length ds) some (round_whole binary32 false (length ds) (omega arith)))
    (unsigned_number_lem (total (f32 0) ds) (total_unsigned (f32 0) ds (unfold of_bits in tt) a))

module _ (c : BallPivotingConfig) (g : SpatialGrid) (pts : List Float) (n i : ℕ) (w : List ℕ) (inside : i < n)
    (numbers : (j : ℕ) → j < n → Finite (point_at pts j)) (x : CellsIndexed g pts n w) where
  at_most_ten : length (nearest_distances c g pts n i) ≤ 10
  unfolding nearest_distances
  at_most_ten = simp length-take (omega arith)

  pub sample_ascending : (xs ys : List Float) → ys ≡ with_sample (nearest_distances c g pts n i) xs → Ascending xs → Ascending ys
  unfolding with_sample
  sample_ascending xs ys e o = subst (λ (l : List Float). Ascending l) (sym e) (go (eqb (length ds) 0) refl)
    where
      ds : List Float
      ds = nearest_distances c g pts n i

      go : (b : Bool) → eqb (length ds) 0 ≡ b → Ascending (cond b xs (insert (average ds) xs))
      go true h = o
      go false h = insert_ascending (average ds) xs
          (average_number ds (let d = eqb-false (length ds) 0 h in omega arith) at_most_ten (nearest_good c g pts n i w inside numbers x)) o

-- ---- the samples: those in hand, and those to come
abbrev pub to_come : BallPivotingConfig → SpatialGrid → List Float → ℕ → ℕ → ℕ → List Float
to_come c g pts n step i = densities_from c g pts n step i (steps_from n step i)

module _ (c : BallPivotingConfig) (g : SpatialGrid) (pts : List Float) (n step i : ℕ) (some : 0 < step) where
  pub samples_step : (xs ys : List Float) → i < n → ys ≡ with_sample (nearest_distances c g pts n i) xs → insert_all xs (to_come c g pts n step i)
      ≡ insert_all ys (to_come c g pts n step (i + step))
  unfolding densities_from with_sample insert_all
  samples_step xs ys h e =
      ap (λ (m : ℕ). insert_all xs (densities_from c g pts n step i m)) (steps_more n step i some h)
      ∙ go (eqb (length (nearest_distances c g pts n i)) 0)
      ∙ ap (λ (l : List Float). insert_all l (to_come c g pts n step (i + step))) (sym e)
    where
      go : (b : Bool) → insert_all xs (cond b (to_come c g pts n step (i + step)) (average (nearest_distances c g pts n i) ∷ to_come c g pts n step (i + step)))
          ≡ insert_all (cond b xs (insert (average (nearest_distances c g pts n i)) xs)) (to_come c g pts n step (i + step))
      go true = refl
      go false = refl

  pub samples_end : (xs : List Float) → n ≤ i → insert_all xs (to_come c g pts n step i) ≡ xs
  unfolding densities_from insert_all
  samples_end xs h = ap (λ (m : ℕ). insert_all xs (densities_from c g pts n step i m)) (steps_none n step i some h)

pub samples_start : (c : BallPivotingConfig) (g : SpatialGrid) (pts f : List Float) (n step : ℕ) → step ≡ step_of n
    → sorted (densities_from c g pts n (step_of n) 0 (sample_count n)) ≡ insert_all (take 0 f) (to_come c g pts n step 0)
samples_start c g pts f n step e = ap (λ (s : ℕ). insert_all [] (to_come c g pts n s 0)) (sym e)

-- ---- the step
pub step_small : (n : ℕ) → 0 < n → n < 1000 → 1 ≡ step_of n
step_small n some h = let e : min n 1000 ≡ n = omega arith in rw e (sym (div_self some))

pub step_large : (n : ℕ) → 1000 ≤ n → n / 1000 ≡ step_of n
step_large n h = let e : min n 1000 ≡ 1000 = omega arith in rw e
