-- The search for a seed goes through the tried triples in their order. Assumes nothing.
use Prim.Native.Nat.{ℕ, zero, suc}
use mathlib.Core.Path.{◌≡◌, refl, sym, ap, ap₂, ◌∙◌, subst}
use mathlib.Core.Bool.{Bool, true, false, ◌&&◌}
use mathlib.Core.List.{List, [], ◌∷◌, ◌++◌, map}
use mathlib.Core.Option.{Option, none, some}
use lib.ListN.{take}
use native.Mathlib.Omega.{arith}
use Rattle.lists.specs.Lists.{bit, count, up_from, unused}
use Rattle.lists.proofs.Counts.{any_false, false_any}
use Rattle.lists.specs.Members.{only}
use Rattle.lists.proofs.Members.{only_skip, only_take}
use Rattle.patch.specs.Search.{Floats, is_second, is_third, third_of, second_of, first_of, searching}
use Rattle.sought.specs.Sought.{Triple, for_each, first_that, first_points, tried, triple_passes, SeedSought}

abbrev or_else : Option Triple → Option Triple → Option Triple
or_else o x = elim o as (λ d. Option Triple) [ none ↦ x | some t ↦ some t ]

abbrev choose : Bool → Option Triple → Option Triple → Option Triple
choose b x y = elim b as (λ d. Option Triple) [ true ↦ x | false ↦ y ]

first_cons : (p : Triple → Bool) (t : Triple) (ts : List Triple) → first_that p (t ∷ ts) ≡ choose (p t) (some t) (first_that p ts)
unfolding first_that
first_cons p t ts = refl

first_append : (p : Triple → Bool) (ts us : List Triple) → first_that p (ts ++ us) ≡ or_else (first_that p ts) (first_that p us)
unfolding first_that
first_append p [] us = refl
first_append p (t ∷ ts) us = go (p t) (first_append p ts us)
  where
    go : (b : Bool) → first_that p (ts ++ us) ≡ or_else (first_that p ts) (first_that p us)
        → choose b (some t) (first_that p (ts ++ us)) ≡ or_else (choose b (some t) (first_that p ts)) (first_that p us)
    go true e = refl
    go false e = e

module _ {R : Type 0} (floats : Floats R) (n : ℕ) (r : R) (used : List ℕ) where
  abbrev ps : Triple → Bool
  ps = triple_passes floats n r used

  thirds : (i j : ℕ) (ks : List ℕ) (b : Bool) → is_second floats r used i j ≡ b
      → first_that ps (map (λ k. (i, j, k)) ks) ≡ choose b (third_of floats r used i j ks) none
  unfolding first_that third_of triple_passes
  thirds i j [] true e = refl
  thirds i j [] false e = refl
  thirds i j (k ∷ ks) true e =
      ap₂ (λ (s : Bool) (o : Option Triple). choose (s && is_third floats r used i j k) (some (i, j, k)) o) e
      (thirds i j ks true e)
  thirds i j (k ∷ ks) false e =
      ap₂ (λ (s : Bool) (o : Option Triple). choose (s && is_third floats r used i j k) (some (i, j, k)) o) e
      (thirds i j ks false e)

  seconds : (i : ℕ) (ks js : List ℕ)
      → first_that ps (for_each (λ j. map (λ k. (i, j, k)) ks) js) ≡ second_of floats r used i ks js
  unfolding for_each second_of first_that
  seconds i ks [] = refl
  seconds i ks (j ∷ js) =
      first_append ps (map (λ k. (i, j, k)) ks) (for_each (λ j. map (λ k. (i, j, k)) ks) js)
      ∙ ap₂ or_else (thirds i j ks (is_second floats r used i j) refl) (seconds i ks js)
      ∙ go (is_second floats r used i j)
    where
      go : (b : Bool) → or_else (choose b (third_of floats r used i j ks) none) (second_of floats r used i ks js)
          ≡ choose b (or_else (third_of floats r used i j ks) (second_of floats r used i ks js)) (second_of floats r used i ks js)
      go true = refl
      go false = refl

  abbrev at : ℕ → List Triple
  at i = for_each (λ j. map (λ k. (i, j, k)) (floats.near r i)) (floats.near r i)

  firsts : (is : List ℕ) (tries : ℕ)
      → first_that ps (for_each at (take tries (only (unused used) is))) ≡ first_of floats r used is tries
  unfolding for_each first_of first_that only
  firsts [] zero = refl
  firsts [] (suc tries) = refl
  firsts (i ∷ is) zero = refl
  firsts (i ∷ is) (suc tries) = go (unused used i) refl (firsts is tries) (firsts is (suc tries))
    where
      go : (b : Bool) → unused used i ≡ b
          → first_that ps (for_each at (take tries (only (unused used) is))) ≡ first_of floats r used is tries
          → first_that ps (for_each at (take (suc tries) (only (unused used) is))) ≡ first_of floats r used is (suc tries)
          → first_that ps (for_each at (take (suc tries) (only (unused used) (i ∷ is))))
          ≡ choose b (or_else (second_of floats r used i (floats.near r i) (floats.near r i)) (first_of floats r used is tries))
          (first_of floats r used is (suc tries))
      go true e ih on =
          ap (λ (l : List ℕ). first_that ps (for_each at (take (suc tries) l))) (only_take (unused used) i is e)
          ∙ first_append ps (at i) (for_each at (take tries (only (unused used) is)))
          ∙ ap₂ or_else (seconds i (floats.near r i) (floats.near r i)) ih
      go false e ih on =
          ap (λ (l : List ℕ). first_that ps (for_each at (take (suc tries) l))) (only_skip (unused used) i is e) ∙ on

  first : (searching floats n).seed_of r used ≡ first_that ps (tried floats n r used)
  unfolding searching tried first_points
  first = sym (firsts (up_from 0 n) 1000)

-- none is found exactly where none passes
none_some : {t : Triple} → some t ≡ none → ⊥
none_some {t} q = subst told q tt
  where
    told : Option Triple → Type 0
    told none = ⊥
    told (some y) = Unit {0}

none_count : (p : Triple → Bool) (ts : List Triple) → first_that p ts ≡ none → count p ts ≡ 0
unfolding first_that
none_count p [] h = refl
none_count p (t ∷ ts) h = go (p t) refl h (none_count p ts)
  where
    go : (b : Bool) → p t ≡ b → choose b (some t) (first_that p ts) ≡ none → (first_that p ts ≡ none → count p ts ≡ 0)
        → count p (t ∷ ts) ≡ 0
    go true e k ih = absurd (none_some k)
    go false e k ih = let z : bit (p t) ≡ 0 = ap bit e in let c = ih k in omega arith

count_none : (p : Triple → Bool) (ts : List Triple) → count p ts ≡ 0 → first_that p ts ≡ none
unfolding first_that
count_none p [] h = refl
count_none p (t ∷ ts) h = go (p t) refl (count_none p ts)
  where
    go : (b : Bool) → p t ≡ b → (count p ts ≡ 0 → first_that p ts ≡ none) → choose b (some t) (first_that p ts) ≡ none
    go true e ih = let z : bit (p t) ≡ 1 = ap bit e in absurd (omega arith)
    go false e ih = ih (omega arith)

pub seed_sought : {R : Type 0} (floats : Floats R) (n : ℕ) (r : R) (used : List ℕ) → SeedSought floats n r used
seed_sought floats n r used =
    let e = first floats n r used in
    let p = triple_passes floats n r used in
    let ts = tried floats n r used in
    record {
      first = e;
      none_exactly = (
        λ h. false_any p ts (none_count p ts (sym e ∙ h)),
        λ h. e ∙ count_none p ts (any_false p ts h),
      );
    }
