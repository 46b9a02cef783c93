-- The search for a pivot's point step by step: what each turn of a loop does to the definition. Assumes nothing.
use Prim.Native.Nat.{ℕ}
use mathlib.Core.Path.{◌≡◌, refl, sym, ap}
use mathlib.Core.Bool.{Bool, true, false, not, ◌&&◌, cond}
use mathlib.Core.List.{List, [], ◌∷◌}
use mathlib.Core.Option.{Option, none, some}
use lib.Dec.{eqb}
use lib.Ieee.{Float, lt}
use Rattle.std.specs.Prelude.{None}
use Rattle.lists.specs.Inner.Found.{option_found}
use Rattle.numbers.specs.Rounded.{f32}
use Rattle.patch.specs.Lay.{Edge}
use Rattle.patch.specs.Search.{Floats, score_of, best_of, searching}
use Rattle.lists.specs.Lists.{unused}
use Rattle.decisions.specs.Found.{at_least}
use Rattle.nearby.proofs.Laws.{chosen, passed}

-- a score, if it is above `top`
unfoldable pub above : Float → Option Float → Option Float
above top none = none
above top (some x) = cond (lt top x) (some x) none

module _ {R : Type 0} (floats : Floats R) (r : R) (used : List ℕ) where
  -- ---- the candidates
  pub unscored : (e : Edge) (k : ℕ) (top : Float) → score_of floats r used e k ≡ none → None ≡ option_found (at_least top (score_of floats r used e k))
  unfolding at_least
  unscored e k top h = ap (λ (o : Option Float). option_found (at_least top o)) (sym h)

  pub not_met : (e : Edge) (k : ℕ) → (not (eqb k e.v1) && (not (eqb k e.v2) && unused used k)) ≡ false → score_of floats r used e k ≡ none
  unfolding score_of
  not_met e k h = passed (not (eqb k e.v1) && (not (eqb k e.v2) && unused used k)) (floats.score r e k) none h

  pub met : (e : Edge) (k : ℕ) → (not (eqb k e.v1) && (not (eqb k e.v2) && unused used k)) ≡ true → floats.score r e k ≡ score_of floats r used e k
  unfolding score_of
  met e k h = sym (chosen (not (eqb k e.v1) && (not (eqb k e.v2) && unused used k)) (floats.score r e k) none h)

  -- what a score above `top`, or none, leads to
  abbrev pub after : Edge → ℕ → List ℕ → Float → Option ℕ → Option Float → Option ℕ
  after e k ks top best o = elim o as (λ c. Option ℕ) [ none ↦ best_of floats r used e ks top best | some s ↦ best_of floats r used e ks s (some k) ]

  pub best_step : (e : Edge) (k : ℕ) (ks : List ℕ) (top : Float) (best : Option ℕ) → best_of floats r used e (k ∷ ks) top best
      ≡ after e k ks top best (above top (score_of floats r used e k))
  unfolding best_of above
  best_step e k ks top best = go (score_of floats r used e k)
    where
      turn : (s : Float) (t : Bool) → elim t as (λ c. Option ℕ) [ true ↦ best_of floats r used e ks s (some k) | false ↦ best_of floats r used e ks top best ]
          ≡ after e k ks top best (cond t (some s) none)
      turn s true = refl
      turn s false = refl

      go : (o : Option Float)
          → elim o as (λ c. Option ℕ) [
            | none ↦ best_of floats r used e ks top best
            | some s ↦ elim (lt top s) as (λ c. Option ℕ) [ true ↦ best_of floats r used e ks s (some k) | false ↦ best_of floats r used e ks top best ]
          ]
          ≡ after e k ks top best (above top o)
      go none = refl
      go (some s) = turn s (lt top s)

  pub best_end : (e : Edge) (top : Float) (best : Option ℕ) → best_of floats r used e [] top best ≡ best
  unfolding best_of
  best_end e top best = refl

  -- ---- the pivot
  pub pivot_not : (n : ℕ) (e : Edge) → floats.pivotable r e ≡ false → None ≡ option_found ((searching floats n).pivot_of r used e)
  unfolding searching
  pivot_not n e h = ap option_found (sym (passed (floats.pivotable r e) (best_of floats r used e (floats.around r e) (f32 0) none) none h))

  pub pivot_is : (n : ℕ) (e : Edge) → floats.pivotable r e ≡ true → option_found (best_of floats r used e (floats.around r e) (f32 0) none)
      ≡ option_found ((searching floats n).pivot_of r used e)
  unfolding searching
  pivot_is n e h = ap option_found (sym (chosen (floats.pivotable r e) (best_of floats r used e (floats.around r e) (f32 0) none) none h))
