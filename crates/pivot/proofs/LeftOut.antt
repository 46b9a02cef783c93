-- A point that is used or too far away has no score. Assumes nothing.
use Prim.Native.Nat.{ℕ}
use mathlib.Core.Path.{◌≡◌, sym, ◌∙◌, subst}
use mathlib.Core.Logic.{◌⊎◌, ⊎_elim}
use mathlib.Core.Bool.{true, false, not, ◌&&◌}
use mathlib.Core.List.{List}
use mathlib.Core.Option.{none}
use lib.Dec.{T, eqb}
use lib.Ieee.{Float, lt, le}
use Rattle.numbers.proofs.OrderLaws.{le_not_lt}
use Rattle.patch.specs.Lay.{edge}
use Rattle.lists.specs.Lists.{unused}
use Rattle.patch.specs.Search.{score_of}
use Rattle.lists.proofs.Bools.{either, not-true, and_false}
use Rattle.decisions.specs.declared.Scene.{Scene}
use Rattle.decisions.specs.Decisions.{apart, score_at, floats_of}
use Rattle.pivot.proofs.Laws.{met, not_met}

module _ (s : Scene) (pts : List Float) (r : Float) (used : List ℕ) where
  -- a pivot's point is within the radius of both ends of the edge
  module _ (a b k : ℕ) where
    too_far : (i : ℕ) → lt r (apart pts k i) ≡ true → le (apart pts k i) r ≡ false
    too_far i h = not-true (λ e. le_not_lt (apart pts k i) r (subst T (sym e) tt) (subst T (sym h) tt))

    pub first_far : lt r (apart pts k a) ≡ true → score_at s pts r (edge a b) k ≡ none
    unfolding score_at
    first_far h = rw (too_far a h)

    pub second_far : lt r (apart pts k b) ≡ true → score_at s pts r (edge a b) k ≡ none
    unfolding score_at
    second_far h = rw (too_far b h, and_false (le (apart pts k a) r))

    unmet : score_at s pts r (edge a b) k ≡ none → score_of (floats_of s pts) r used (edge a b) k ≡ none
    unfolding floats_of
    unmet h = ⊎_elim
        (λ (t : (not (eqb k a) && (not (eqb k b) && unused used k)) ≡ true). sym (met (floats_of s pts) r used (edge a b) k t) ∙ h)
        (λ (t : (not (eqb k a) && (not (eqb k b) && unused used k)) ≡ false). not_met (floats_of s pts) r used (edge a b) k t)
        (either (not (eqb k a) && (not (eqb k b) && unused used k)))

    pub score_out : (i : ℕ) → (lt r (apart pts k i) ≡ true → score_at s pts r (edge a b) k ≡ none) → (unused used k ≡ false) ⊎ (lt r (apart pts k i) ≡ true)
        → score_of (floats_of s pts) r used (edge a b) k ≡ none
    score_out i far = ⊎_elim
        (λ (u : unused used k ≡ false). not_met (floats_of s pts) r used (edge a b) k (rw u (rw (and_false (not (eqb k b))) (and_false (not (eqb k a))))))
        (λ (f : lt r (apart pts k i) ≡ true). unmet (far f))
