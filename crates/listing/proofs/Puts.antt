-- Laws of bytes that are put at a place of a buffer, as far as it goes. Assumes nothing.
use mathlib.Core.Path.{◌≡◌, refl, sym, ap, ◌∙◌, subst}
use mathlib.Core.List.{List, [], ◌∷◌, ◌++◌}
use Prim.Native.Nat.{ℕ, ◌+◌, ◌≤◌, ◌<◌}
use native.Mathlib.Omega.{arith}
use native.Mathlib.Nat.{add-zero}
use native.Mathlib.Numerals.{add-one}
use lib.ListN.{length, take, get_or, length-append}
use lib.Seq.{take-suc, take_all}
use Rattle.words.proofs.Laws.{sets_then}
use Rattle.listing.specs.Inner.Ready.{PutBytes}

pub put_none : (l : List ℕ) (at : ℕ) → PutBytes [] l l at at
put_none l at = record { holds = refl; next = sym (add-zero at) }

-- one after the other
pub put_then : (xs ys l₀ l₁ l₂ : List ℕ) (at r₁ r₂ : ℕ) → PutBytes xs l₀ l₁ at r₁ → PutBytes ys l₁ l₂ r₁ r₂ → PutBytes (xs ++ ys) l₀ l₂ at r₂
put_then xs ys l₀ l₁ l₂ at r₁ r₂ p q =
    let len : length (xs ++ ys) ≡ length xs + length ys = length-append xs ys in
    let first = p.next in
    let second = q.next in
    record {
      holds = sets_then xs ys l₀ l₁ l₂ at r₁ p.holds first q.holds;
      next = omega arith;
    }

-- ---- a text, byte by byte
pub put_more : (t l₀ l₁ l₂ : List ℕ) (at i r₁ r₂ : ℕ) → i < length t → PutBytes (take i t) l₀ l₁ at r₁ → PutBytes (get_or t i 0 ∷ []) l₁ l₂ r₁ r₂
    → PutBytes (take (i + 1) t) l₀ l₂ at r₂
put_more t l₀ l₁ l₂ at i r₁ r₂ h p q =
    let e : take (i + 1) t ≡ take i t ++ (get_or t i 0 ∷ []) = ap (λ (n : ℕ). take n t) (add-one i) ∙ take-suc t i 0 h in
    subst (λ (xs : List ℕ). PutBytes xs l₀ l₂ at r₂) (sym e) (put_then (take i t) (get_or t i 0 ∷ []) l₀ l₁ l₂ at r₁ r₂ p q)

pub put_all : (t l₀ l₁ : List ℕ) (at i r : ℕ) → length t ≤ i → PutBytes (take i t) l₀ l₁ at r → PutBytes t l₀ l₁ at r
put_all t l₀ l₁ at i r h p = subst (λ (xs : List ℕ). PutBytes xs l₀ l₁ at r) (take_all i t h) p
