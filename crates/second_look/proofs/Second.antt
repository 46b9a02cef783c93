-- Only acceptable triangles have a score, so whatever a search for the best score returns is acceptable.
-- Assumes nothing.
use Prim.Native.Nat.{ℕ}
use mathlib.Core.Path.{◌≡◌, refl, ap, subst}
use mathlib.Core.Bool.{Bool, true, false, not, cond, ◌&&◌}
use mathlib.Core.List.{List, [], ◌∷◌}
use mathlib.Core.Option.{Option, none, some}
use lib.Dec.{eqb}
use lib.Ieee.{Float, binary32, of_bits, lt, le}
use Rattle.settings.specs.declared.BallPivotingConfig.{BallPivotingConfig}
use Rattle.patch.specs.Lay.{Edge, Rules, patch}
use Rattle.patch.specs.Search.{Floats, score_of, best_of, searching}
use Rattle.patch.specs.Frontier.{pop_of}
use Rattle.decisions.specs.Decisions.{apart, quality_at, accepts, score_at, floats_of}
use Rattle.decisions.specs.declared.Scene.{Scene}
use Rattle.ball_pivoting.specs.Reconstruct.{point_count, scene_of, radii_of, laid_of}
use Rattle.patch.proofs.Searching.{All, all_if, all_found}
use Rattle.second_look.specs.SecondLook.{accepted_again, looked, call_rules, looking_again, laid_again, SecondLook}
use Rattle.lists.specs.Lists.{unused}

-- ---- the search, whatever the floats say: only what passes a test has a score
module _ {R : Type 0} (floats : Floats R) (r : R) (used : List ℕ) (e : Edge) (passes : ℕ → Bool)
    (scored : (k : ℕ) → All (λ (x : Float). passes k ≡ true) (floats.score r e k)) where
  abbrev pub Passing : ℕ → Type 0
  Passing k = passes k ≡ true

  score_passes : (k : ℕ) → All (λ (x : Float). Passing k) (score_of floats r used e k)
  unfolding score_of
  score_passes k =
      all_if (λ (x : Float). Passing k) (not (eqb k e.v1) && (not (eqb k e.v2) && unused used k))
      (floats.score r e k) none (λ b. scored k) (λ b. tt)

  best_passes : (ks : List ℕ) (top : Float) (best : Option ℕ) → All Passing best
      → All Passing (best_of floats r used e ks top best)
  unfolding best_of
  best_passes [] top best h = h
  best_passes (k ∷ ks) top best h =
      all_found Passing (score_of floats r used e k) (best_of floats r used e ks top best)
      (λ s. elim (lt top s)
      [ true ↦ best_of floats r used e ks s (some k) | false ↦ best_of floats r used e ks top best ])
      (λ q. best_passes ks top best h)
      (λ s q. all_if Passing (lt top s) (best_of floats r used e ks s (some k)) (best_of floats r used e ks top best)
      (λ b. best_passes ks s (some k) (subst (All (λ (x : Float). Passing k)) q (score_passes k)))
      (λ b. best_passes ks top best h))

  pub pivot_passes : (n : ℕ) → All Passing ((searching floats n).pivot_of r used e)
  unfolding searching
  pivot_passes n =
      all_if Passing (floats.pivotable r e)
      (best_of floats r used e (floats.around r e) (of_bits binary32 0) none) none
      (λ b. best_passes (floats.around r e) (of_bits binary32 0) none tt) (λ b. tt)

-- ---- our floats: a score is of an acceptable triangle
score_accepted : (s : Scene) (pts : List Float) (r : Float) (e : Edge) (k : ℕ)
    → All (λ (x : Float). accepts s r (quality_at pts e.v1 e.v2 k) ≡ true) (score_at s pts r e k)
unfolding score_at
score_accepted s pts r e k =
    go (le (apart pts k e.v1) r) (le (apart pts k e.v2) r) (accepts s r (quality_at pts e.v1 e.v2 k)) refl
  where
    go : (a b t : Bool) → accepts s r (quality_at pts e.v1 e.v2 k) ≡ t
        → All (λ (x : Float). accepts s r (quality_at pts e.v1 e.v2 k) ≡ true)
        (cond (a && (b && t)) (some (quality_at pts e.v1 e.v2 k).quality_score) none)
    go false b t h = tt
    go true false t h = tt
    go true true false h = tt
    go true true true h = h

-- ---- the call
module _ (c : BallPivotingConfig) (pts : List Float) where
  pivot_accepted : (r : Float) (used : List ℕ) (e : Edge)
      → All (λ (k : ℕ). accepted_again c pts r e k ≡ true) ((call_rules c pts).pivot_of r used e)
  unfolding accepted_again floats_of scene_of accepts quality_at
  pivot_accepted r used e =
      pivot_passes (floats_of (scene_of c pts) pts) r used e (accepted_again c pts r e)
      (λ k. score_accepted (scene_of c pts) pts r e k) (point_count pts)

  looked_same : (r : Float) (e : Edge) (o : Option ℕ)
      → All (λ (k : ℕ). accepted_again c pts r e k ≡ true) o → looked (accepted_again c pts r e) o ≡ o
  unfolding looked
  looked_same r e none h = refl
  looked_same r e (some k) h = rw h

  rules_same : looking_again c pts ≡ call_rules c pts
  unfolding looking_again
  rules_same = λ i. record {
    seed_of = λ r used. (call_rules c pts).seed_of r used;
    pivot_of = λ r used e. looked_same r e ((call_rules c pts).pivot_of r used e) (pivot_accepted r used e) i;
  }

  pub second_look : SecondLook c pts
  unfolding laid_again laid_of
  second_look = record {
    passes = λ r used e k q. subst (All (λ (j : ℕ). accepted_again c pts r e j ≡ true)) q (pivot_accepted r used e);
    same = ap (λ (rules : Rules Float). patch rules (pop_of c.frontier_rule) (point_count pts) (radii_of c pts)) rules_same;
  }
