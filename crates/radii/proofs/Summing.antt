-- The roots of a sample's least squares and their sum, turn by turn of the loops. Assumes nothing.
use mathlib.Core.Path.{◌≡◌, refl, sym, ap, ◌∙◌}
use mathlib.Core.List.{List, [], ◌∷◌, ◌++◌, map}
use Prim.Native.Nat.{ℕ, suc, ◌+◌, ◌≤◌, ◌<◌}
use native.Mathlib.Omega.{arith}
use lib.ListN.{length, take, drop, get_or, set, length-set, drop_of_length-le}
use lib.Seq.{drop-cons, take_all, drop-set-lt, take-suc, take-suc-set, get_or-drop, drop-drop}
use lib.Ieee.{Float, nan}
use Rattle.numbers.specs.Rounded.{◌⊕◌}
use Rattle.numbers.specs.Root.{root}
use Rattle.radii.specs.Radii.{total}

-- ---- the sum
pub sum_step : (xs : List Float) (s : Float) (k : ℕ) → k < length xs → total s (drop k xs) ≡ total (s ⊕ get_or xs k nan) (drop (k + 1) xs)
unfolding total
sum_step xs s k h =
    let e : suc k ≡ k + 1 = omega arith in
    ap (total s) (drop-cons xs k nan h ∙ ap (λ (m : ℕ). get_or xs k nan ∷ drop m xs) e)

pub sum_end : (xs : List Float) (s : Float) (k : ℕ) → length xs ≤ k → total s (drop k xs) ≡ s
unfolding total
sum_end xs s k h = ap (total s) (drop_of_length-le xs h)

-- ---- the roots: the first k are taken, the others are as they were
pub record Rooted (xs₀ xs : List Float) (k : ℕ) : Type 0 where
  pub length_same : length xs ≡ length xs₀
  pub taken : take k xs ≡ map root (take k xs₀)
  pub rest : drop k xs ≡ drop k xs₀

pub roots_start : (xs : List Float) → Rooted xs xs 0
roots_start xs = record { length_same = refl; taken = refl; rest = refl }

pub roots_step : (xs₀ xs : List Float) (k : ℕ) (v : Float) → k < length xs₀ → Rooted xs₀ xs k → v ≡ root (get_or xs k nan)
    → Rooted xs₀ (set xs k v) (k + 1)
roots_step xs₀ xs k v h r hv =
    let same = r.length_same in
    let n : k + 1 ≡ suc k = omega arith in
    let z : k + 0 ≡ k = omega arith in
    let old : get_or xs k nan ≡ get_or xs₀ k nan =
    ap (λ (m : ℕ). get_or xs m nan) (sym z) ∙ sym (get_or-drop k xs 0 nan) ∙ ap (λ (ys : List Float). get_or ys 0 nan) r.rest ∙ get_or-drop k xs₀ 0 nan ∙ ap
    (λ (m : ℕ). get_or xs₀ m nan) z in
    record {
      length_same = length-set xs k v ∙ same;
      taken =
          ap (λ (m : ℕ). take m (set xs k v)) n
          ∙ take-suc-set xs k v (omega arith)
          ∙ ap (λ (ys : List Float). ys ++ (v ∷ [])) r.taken
          ∙ ap (λ (x : Float). map root (take k xs₀) ++ (x ∷ [])) (hv ∙ ap root old)
          ∙ sym (map-append (take k xs₀) (get_or xs₀ k nan ∷ []))
          ∙ ap (map root) (sym (take-suc xs₀ k nan h))
          ∙ ap (λ (m : ℕ). map root (take m xs₀)) (sym n);
      rest = drop-set-lt (k + 1) xs k v (omega arith) ∙ sym (drop-drop 1 k xs) ∙ ap (drop 1) r.rest ∙ drop-drop 1 k xs₀;
    }
  where
    map-append : (xs ys : List Float) → map root (xs ++ ys) ≡ map root xs ++ map root ys
    map-append [] ys = refl
    map-append (x ∷ xs) ys = ap (λ (l : List Float). root x ∷ l) (map-append xs ys)

pub roots_end : (xs₀ xs : List Float) (k : ℕ) → length xs₀ ≤ k → Rooted xs₀ xs k → xs ≡ map root xs₀
roots_end xs₀ xs k h r =
    let same = r.length_same in
    sym (take_all k xs (omega arith)) ∙ r.taken ∙ ap (map root) (take_all k xs₀ h)
