-- Writing a value for each spot, one behind the other. Assumes nothing.
use mathlib.Core.Path.{◌≡◌, refl, sym, ap, ◌∙◌}
use mathlib.Core.List.{List, [], ◌∷◌, ◌++◌, map, append_assoc}
use Prim.Native.Nat.{ℕ, zero, suc, ◌+◌, ◌≤◌, ◌<◌}
use native.Mathlib.Omega.{arith}
use lib.ListN.{length, get_or, drop, set, length-set}
use lib.Seq.{drop-cons, set-append_seam}
use Rattle.lists.specs.Lists.{up_from}
use Rattle.grid.proofs.Sequence.{snoc_up}
use Rattle.axis_sort.proofs.Floats.{map-append}

mapped_length : {A : Type 0} (f : ℕ → A) (i m : ℕ) → length (map f (up_from i m)) ≡ m
unfolding up_from
mapped_length f i zero = refl
mapped_length f i (suc m) = ap suc (mapped_length f (i + 1) m)

-- values for the first i spots stand in front of what was there
pub record Filled {A : Type 0} (f : ℕ → A) (m : ℕ) (found₀ : List A) (i : ℕ) (found : List A) : Type 0 where
  pub most : i ≤ m
  pub room : m ≤ length found₀
  pub size : length found ≡ length found₀
  pub is : found ≡ map f (up_from 0 i) ++ drop i found₀

pub filled_start : {A : Type 0} (f : ℕ → A) (m : ℕ) (found : List A) → m ≤ length found → Filled f m found 0 found
unfolding up_from
filled_start f m found h = record { most = omega arith; room = h; size = refl; is = refl }

pub filled_step : {A : Type 0} {f : ℕ → A} {m : ℕ} {found₀ : List A} {i : ℕ} {found : List A} {v : A} (d : A) → Filled f m found₀ i found → i < m → v ≡ f i
    → Filled f m found₀ (i + 1) (set found i v)
filled_step {A} {f} {m} {found₀} {i} {found} {v} d l h e =
    let a = map f (up_from 0 i) in
    let n : length a ≡ i = mapped_length f 0 i in
    let s : suc i ≡ i + 1 = omega arith in
    let up : a ++ (f i ∷ []) ≡ map f (up_from 0 (i + 1)) = sym (map-append f (up_from 0 i) (i ∷ []))
    ∙ ap (map f) (ap (λ (k : ℕ). up_from 0 i ++ (k ∷ [])) (let z : i ≡ 0 + i = omega arith in z) ∙ snoc_up 0 i ∙ ap (up_from 0) s) in
    record {
      most = omega arith;
      room = l.room;
      size = length-set found i v ∙ l.size;
      is = ap (λ (x : List A). set x i v) (l.is ∙ ap (λ (x : List A). a ++ x) (drop-cons found₀ i d (omega (arith, l.room))))
          ∙ ap (λ (k : ℕ). set (a ++ (get_or found₀ i d ∷ drop (suc i) found₀)) k v) (sym n) ∙ set-append_seam a (get_or found₀ i d) (drop (suc i) found₀) v
          ∙ ap (λ (x : A). a ++ (x ∷ drop (suc i) found₀)) e ∙ sym (append_assoc a (f i ∷ []) (drop (suc i) found₀))
          ∙ ap (λ (x : List A). x ++ drop (suc i) found₀) up ∙ ap (λ (k : ℕ). map f (up_from 0 (i + 1)) ++ drop k found₀) s;
    }

pub filled_end : {A : Type 0} {f : ℕ → A} {m : ℕ} {found₀ : List A} {i : ℕ} {found : List A} → Filled f m found₀ i found → m ≤ i → found ≡ map f (up_from 0 m)
    ++ drop m found₀
filled_end {A} {f} {m} {found₀} {i} {found} l h = let e : i ≡ m = omega (arith, l.most) in l.is ∙ ap (λ (k : ℕ). map f (up_from 0 k) ++ drop k found₀) e
