-- The search for a seed step by step: what each turn of a loop does to the definition. Assumes nothing.
use Prim.Native.Nat.{ℕ, suc, ◌+◌, ◌-◌, ◌≤◌, ◌<◌}
use mathlib.Core.Path.{◌≡◌, refl, ap, ◌∙◌}
use mathlib.Core.Bool.{Bool, true, false}
use mathlib.Core.List.{List, [], ◌∷◌}
use mathlib.Core.Option.{Option, none, some}
use native.Mathlib.Omega.{arith}
use Rattle.patch.specs.Search.{Floats, is_second, is_third, third_of, second_of, first_of}
use Rattle.lists.specs.Lists.{unused, up_from}
use Rattle.nearby.proofs.Laws.{chosen, passed}
use Rattle.seedless.specs.Inner.Parts.{with_second, with_first}

-- ---- the numbers from i on

pub up_step : (n i : ℕ) → i < n → up_from i (n - i) ≡ i ∷ up_from (i + 1) (n - (i + 1))
unfolding up_from
up_step n i h = let e : n - i ≡ suc (n - (i + 1)) = omega arith in ap (up_from i) e

pub up_end : (n i : ℕ) → n ≤ i → up_from i (n - i) ≡ []
unfolding up_from
up_end n i h = let e : n - i ≡ 0 = omega arith in ap (up_from i) e

-- ---- the first answer, or else another
abbrev pub or_else : {A : Type 0} → Option A → Option A → Option A
or_else none y = y
or_else (some x) y = some x

else_is : {A : Type 0} (t x : Option A) → elim t as (λ c. Option A) [ none ↦ x | some u ↦ some u ] ≡ or_else t x
else_is none x = refl
else_is (some u) x = refl

else_if : {A : Type 0} (b : Bool) (t x : Option A)
    → elim b as (λ c. Option A) [ true ↦ elim t as (λ c. Option A) [ none ↦ x | some u ↦ some u ] | false ↦ x ]
    ≡ or_else (elim b as (λ c. Option A) [ true ↦ t | false ↦ none ]) x
else_if true t x = else_is t x
else_if false t x = refl

module _ {R : Type 0} (floats : Floats R) (r : R) (used : List ℕ) where
  -- ---- the third point
  pub third_hit : (i j k : ℕ) (ks : List ℕ) → is_third floats r used i j k ≡ true → third_of floats r used i j (k ∷ ks) ≡ some (i, j, k)
  unfolding third_of
  third_hit i j k ks h = chosen (is_third floats r used i j k) (some (i, j, k)) (third_of floats r used i j ks) h

  pub third_miss : (i j k : ℕ) (ks : List ℕ) → is_third floats r used i j k ≡ false → third_of floats r used i j (k ∷ ks) ≡ third_of floats r used i j ks
  unfolding third_of
  third_miss i j k ks h = passed (is_third floats r used i j k) (some (i, j, k)) (third_of floats r used i j ks) h

  pub third_end : (i j : ℕ) → third_of floats r used i j [] ≡ none
  unfolding third_of
  third_end i j = refl

  -- ---- the second point
  pub second_step : (i : ℕ) (ks : List ℕ) (j : ℕ) (js : List ℕ) → second_of floats r used i ks (j ∷ js)
      ≡ or_else (with_second floats r used i ks j) (second_of floats r used i ks js)
  unfolding second_of with_second
  second_step i ks j js = else_if (is_second floats r used i j) (third_of floats r used i j ks) (second_of floats r used i ks js)

  pub second_end : (i : ℕ) (ks : List ℕ) → second_of floats r used i ks [] ≡ none
  unfolding second_of
  second_end i ks = refl

  -- ---- the first point
  pub first_tried : (i : ℕ) (is : List ℕ) (tries : ℕ) → unused used i ≡ true → first_of floats r used (i ∷ is) (suc tries)
      ≡ or_else (with_first floats r used i) (first_of floats r used is tries)
  unfolding first_of with_first
  first_tried i is tries h =
      let t = second_of floats r used i (floats.near r i) (floats.near r i) in
      chosen (unused used i) (elim t as (λ c. Option (ℕ × ℕ × ℕ)) [ none ↦ first_of floats r used is tries | some u ↦ some u ])
      (first_of floats r used is (suc tries)) h
      ∙ else_is t (first_of floats r used is tries)

  pub first_used : (i : ℕ) (is : List ℕ) (tries : ℕ) → unused used i ≡ false → first_of floats r used (i ∷ is) (suc tries) ≡ first_of floats r used is (suc tries)
  unfolding first_of
  first_used i is tries h =
      let t = second_of floats r used i (floats.near r i) (floats.near r i) in
      passed (unused used i) (elim t as (λ c. Option (ℕ × ℕ × ℕ)) [ none ↦ first_of floats r used is tries | some u ↦ some u ])
      (first_of floats r used is (suc tries)) h

  pub first_spent : (i : ℕ) (is : List ℕ) → first_of floats r used (i ∷ is) 0 ≡ none
  unfolding first_of
  first_spent i is = refl

  pub first_end : (tries : ℕ) → first_of floats r used [] tries ≡ none
  unfolding first_of
  first_end tries = refl
