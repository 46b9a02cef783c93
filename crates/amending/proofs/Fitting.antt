-- A seed that is found is a triangle that fits (`seed_fits`). Assumes nothing.
use Prim.Native.Nat.{ℕ, zero, suc}
use mathlib.Core.Path.{◌≡◌, refl, subst}
use mathlib.Core.Bool.{Bool, true, false, not}
use mathlib.Core.List.{List, [], ◌∷◌}
use mathlib.Core.Option.{Option, none, some}
use lib.Dec.{eqb}
use Rattle.lists.specs.Lists.{unused, up_from}
use Rattle.lists.proofs.Bools.{and_both}
use Rattle.patch.specs.Search.{Floats, is_second, is_third, third_of, second_of, first_of, searching}

-- ---- answers
abbrev pub All : {A : Type 0} → (A → Type 0) → Option A → Type 0
All P none = Unit {0}
All P (some x) = P x

pub all_if : {A : Type 0} (P : A → Type 0) (b : Bool) (x y : Option A) → (b ≡ true → All P x) → (b ≡ false → All P y)
    → All P (elim b as (λ c. Option A) [ true ↦ x | false ↦ y ])
all_if P true x y h g = h refl
all_if P false x y h g = g refl

abbrev pub Triple : Type 0
Triple = ℕ × ℕ × ℕ

abbrev pub or_else : Option Triple → Option Triple → Option Triple
or_else o x = elim o as (λ d. Option Triple) [ none ↦ x | some t ↦ some t ]

all_else : (P : Triple → Type 0) (o x : Option Triple) → All P o → All P x → All P (or_else o x)
all_else P none x h g = g
all_else P (some t) x h g = h

-- ---- seeds
module _ {R : Type 0} (a : Floats R) (r : R) (used : List ℕ) where
  abbrev Fits : Triple → Type 0
  Fits t = a.fits r t.0 t.1 t.2 ≡ true

  third : (i j k : ℕ) → is_third a r used i j k ≡ true → a.fits r i j k ≡ true
  unfolding is_third
  third i j k h =
      let x = (and_both {p = unused used k} (and_both {p = not (eqb j k)} (and_both {p = not (eqb i k)} h).1).1).1 in
      (and_both {p = a.close r j k} (and_both {p = a.close r i k} x).1).1

  third_fits : (i j : ℕ) (ks : List ℕ) → All Fits (third_of a r used i j ks)
  unfolding third_of
  third_fits i j [] = tt
  third_fits i j (k ∷ ks) = all_if Fits (is_third a r used i j k) (some (i, j, k)) (third_of a r used i j ks) (third i j k) (λ t. third_fits i j ks)

  second_fits : (i : ℕ) (ks js : List ℕ) → All Fits (second_of a r used i ks js)
  unfolding second_of
  second_fits i ks [] = tt
  second_fits i ks (j ∷ js) =
      let y = second_of a r used i ks js in
      let u = third_of a r used i j ks in
      all_if Fits (is_second a r used i j) (or_else u y) y (λ t. all_else Fits u y (third_fits i j ks) (second_fits i ks js)) (λ t. second_fits i ks js)

  first_fits : (is : List ℕ) (tries : ℕ) → All Fits (first_of a r used is tries)
  unfolding first_of
  first_fits [] tries = tt
  first_fits (i ∷ is) zero = tt
  first_fits (i ∷ is) (suc tries) =
      let near = a.near r i in
      let y = first_of a r used is tries in
      let u = second_of a r used i near near in
      all_if Fits (unused used i) (or_else u y) (first_of a r used is (suc tries)) (λ t. all_else Fits u y (second_fits i near near) (first_fits is tries))
      (λ t. first_fits is (suc tries))

  pub seed_fits : (n : ℕ) (t : Triple) → (searching a n).seed_of r used ≡ some t → Fits t
  unfolding searching
  seed_fits n t q = subst (All Fits) q (first_fits (up_from 0 n) 1000)
