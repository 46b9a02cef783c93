-- What the searches find is free, whatever the floats say. Assumes nothing.
use Prim.Native.Nat.{ℕ, zero, suc, ◌<◌}
use mathlib.Core.Path.{◌≡◌, refl, sym, subst}
use mathlib.Core.Logic.{◌≢◌}
use mathlib.Core.Bool.{Bool, true, false, not, ◌&&◌}
use mathlib.Core.List.{List, [], ◌∷◌}
use mathlib.Core.Option.{Option, none, some}
use native.Mathlib.Omega.{arith}
use lib.Dec.{eqb}
use borrow.Author.Tests.{eqb-true, eqb-false, not-true}
use lib.ListN.{get_or}
use lib.Ieee.{Float, binary32, of_bits, lt}
use Rattle.lists.specs.Lists.{unused, up_from}
use Rattle.patch.specs.Lay.{Edge}
use Rattle.patch.specs.Fair.{Free, FreeSeed, Fair, NeighborsWithin}
use Rattle.patch.specs.Search.{Floats, is_second, is_third, third_of, second_of, first_of, score_of, best_of, searching}
use Rattle.lists.specs.Members.{Below}
use Rattle.lists.proofs.Members.{below_first, below_rest, up_below}
use Rattle.lists.proofs.Bools.{and_both}

-- an answer that is as P asks, if there is one
abbrev pub All : {A : Type 0} → (A → Type 0) → Option A → Type 0
All P none = Unit {0}
All P (some x) = P x

-- by cases, where a search goes by cases
pub all_if : {A : Type 0} (P : A → Type 0) (b : Bool) (x y : Option A) → (b ≡ true → All P x) → (b ≡ false → All P y)
    → All P (elim b as (λ c. Option A) [ true ↦ x | false ↦ y ])
all_if P true x y h g = h refl
all_if P false x y h g = g refl

pub all_found : {A B : Type 0} (P : A → Type 0) (o : Option B) (x : Option A) (f : B → Option A) → (o ≡ none → All P x) → ((b : B) → o ≡ some b → All P (f b))
    → All P (elim o as (λ c. Option A) [ none ↦ x | some b ↦ f b ])
all_found P none x f h g = h refl
all_found P (some b) x f h g = g b refl

all_true : {A : Type 0} (P : A → Type 0) (o : Option A) → ((x : A) → P x) → All P o
all_true P none h = tt
all_true P (some x) h = h x

differ : (i k : ℕ) → not (eqb i k) ≡ true → i ≢ k
differ i k h = eqb-false i k (not-true (eqb i k) h)

module _ {R : Type 0} (n : ℕ) (floats : Floats R) (within : NeighborsWithin n floats) (r : R) (used : List ℕ) where
  free : (k : ℕ) → k < n → unused used k ≡ true → Free n used k
  free k l h = record { below = l; unused = eqb-true (get_or used k 0) 0 h }

  -- a point that may be met is unused
  scored : (e : Edge) (k : ℕ) → All (λ s. unused used k ≡ true) (score_of floats r used e k)
  unfolding score_of
  scored e k = all_if (λ s. unused used k ≡ true) (not (eqb k e.v1) && (not (eqb k e.v2) && unused used k)) (floats.score r e k) none
      (λ t. all_true (λ s. unused used k ≡ true) (floats.score r e k) (λ s. (and_both {p = not (eqb k e.v2)} (and_both {p = not (eqb k e.v1)} t).1).1))
      (λ t. tt)

  best_free : (e : Edge) (ks : List ℕ) (top : Float) (best : Option ℕ) → Below n ks → All (Free n used) best
      → All (Free n used) (best_of floats r used e ks top best)
  unfolding best_of
  best_free e [] top best b h = h
  best_free e (k ∷ ks) top best b h =
      let on = below_rest n k ks b in
      all_found (Free n used) (score_of floats r used e k) (best_of floats r used e ks top best)
      (λ s. elim (lt top s) [ true ↦ best_of floats r used e ks s (some k) | false ↦ best_of floats r used e ks top best ])
      (λ q. best_free e ks top best on h)
      (λ s q. all_if (Free n used) (lt top s) (best_of floats r used e ks s (some k)) (best_of floats r used e ks top best)
      (λ t. best_free e ks s (some k) on (free k (below_first n k ks b) (subst (All (λ s. unused used k ≡ true)) q (scored e k))))
      (λ t. best_free e ks top best on h))

  third_free : (i j : ℕ) (ks : List ℕ) → Free n used i → Free n used j → i ≢ j → Below n ks → All (FreeSeed n used) (third_of floats r used i j ks)
  unfolding third_of is_third
  third_free i j [] fi fj ne b = tt
  third_free i j (k ∷ ks) fi fj ne b = all_if (FreeSeed n used) (is_third floats r used i j k) (some (i, j, k)) (third_of floats r used i j ks)
      (λ t.
      let a = and_both t in
      let c = and_both a.1 in
      let d = and_both c.1 in
      record { first = fi; second = fj; third = free k (below_first n k ks b) d.0; differ = (ne, differ j k c.0, λ q. differ i k a.0 (sym q)) })
      (λ t. third_free i j ks fi fj ne (below_rest n k ks b))

  second_free : (i : ℕ) (ks js : List ℕ) → Free n used i → Below n ks → Below n js → All (FreeSeed n used) (second_of floats r used i ks js)
  unfolding second_of is_second
  second_free i ks [] fi bk b = tt
  second_free i ks (j ∷ js) fi bk b =
      let later : Option (ℕ × ℕ × ℕ) = second_of floats r used i ks js in
      let later-free = second_free i ks js fi bk (below_rest n j js b) in
      all_if (FreeSeed n used) (is_second floats r used i j) (elim (third_of floats r used i j ks) [ none ↦ later | some t ↦ some t ]) later
      (λ t.
      let a = and_both t in
      let here = third_free i j ks fi (free j (below_first n j js b) (and_both a.1).0) (differ i j a.0) bk in
      all_found (FreeSeed n used) (third_of floats r used i j ks) later some (λ q. later-free) (λ x q. subst (All (FreeSeed n used)) q here))
      (λ t. later-free)

  first_free : (is : List ℕ) (tries : ℕ) → Below n is → All (FreeSeed n used) (first_of floats r used is tries)
  unfolding first_of
  first_free [] tries b = tt
  first_free (i ∷ is) zero b = tt
  first_free (i ∷ is) (suc tries) b =
      let on = below_rest n i is b in
      let near : List ℕ = floats.near r i in
      all_if (FreeSeed n used) (unused used i) (elim (second_of floats r used i near near) [ none ↦ first_of floats r used is tries | some t ↦ some t ])
      (first_of floats r used is (suc tries))
      (λ t.
      let here = second_free i near near (free i (below_first n i is b) t) (within.near_below r i) (within.near_below r i) in
      all_found (FreeSeed n used) (second_of floats r used i near near) (first_of floats r used is tries) some (λ q. first_free is tries on)
      (λ x q. subst (All (FreeSeed n used)) q here))
      (λ t. first_free is (suc tries) on)

pub searching_fair : {R : Type 0} (n : ℕ) (floats : Floats R) → NeighborsWithin n floats → Fair n (searching floats n)
unfolding searching
searching_fair n floats within = record {
  seeds = λ r used t q. subst (All (FreeSeed n used)) q (first_free n floats within r used (up_from 0 n) 1000 (up_below n 0 n (omega arith)));
  pivots = λ r used e k q. subst (All (Free n used)) q
      (all_if (Free n used) (floats.pivotable r e) (best_of floats r used e (floats.around r e) (of_bits binary32 0) none) none
      (λ t. best_free n floats within r used e (floats.around r e) (of_bits binary32 0) none (within.around_below r e) tt) (λ t. tt));
}
