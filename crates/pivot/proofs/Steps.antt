-- The loop over the candidates, turn by turn. Assumes nothing.
use Prim.Native.Nat.{ℕ, ◌+◌, ◌≤◌, ◌<◌}
use mathlib.Core.Path.{◌≡◌, refl, sym, ap, ◌∙◌, subst}
use mathlib.Core.Bool.{Bool}
use mathlib.Core.List.{List}
use mathlib.Core.Option.{Option, none, some}
use native.Mathlib.Omega.{arith}
use lib.Ieee.{Float}
use Rattle.std.specs.Prelude.{Option as Outcome, Some, None}
use Rattle.lists.specs.Inner.Found.{option_found, option_sought}
use Rattle.lists.proofs.Found.{found_sought}
use Rattle.numbers.specs.Rounded.{f32}
use Rattle.grid.specs.Inner.Index.{earlier}
use Rattle.patch.specs.Lay.{edge}
use Rattle.decisions.specs.declared.Scene.{Scene}
use Rattle.nearby.specs.Inner.Ready.{SceneHeld, NeighborsListed, used_in_scene, neighbors_listed, nth}
use Rattle.nearby.specs.declared.Filter.{Filter}
use Rattle.nearby.specs.Inner.Narrow.{cell_at}
use Rattle.nearby.proofs.Rest.{Rest, rest_start, rest_step, rest_end}
use Rattle.pivot.specs.Inner.Found.{MetPoint}
use Rattle.pivot.specs.Inner.Best.{score_ahead, leader, score_in}

-- the score of k, if it becomes the best
abbrev pub aheads : Scene → List Float → Float → Filter → List ℕ → ℕ → ℕ → Float → Outcome ℕ → ℕ → Option Float
aheads s pts r f w a b top best k =
    score_ahead (earlier s.indexed (cell_at s.grid pts)) top (option_sought best) k (score_in s pts r (used_in_scene s w) f (edge a b) k)

-- the best of ks, given the best so far
abbrev pub bests : Scene → List Float → Float → Filter → List ℕ → ℕ → ℕ → Float → Outcome ℕ → List ℕ → Option ℕ
bests s pts r f w a b top best ks =
    leader (earlier s.indexed (cell_at s.grid pts)) (score_in s pts r (used_in_scene s w) f (edge a b)) ks top (option_sought best)

-- what the score of k, or none, leads to
abbrev turn : (ℕ → ℕ → Bool) → (ℕ → Option Float) → ℕ → List ℕ → Float → Option ℕ → Option Float → Option ℕ
turn less score k ks top best o = elim o as (λ c. Option ℕ) [ none ↦ leader less score ks top best | some x ↦ leader less score ks x (some k) ]

turn_none : (less : ℕ → ℕ → Bool) (score : ℕ → Option Float) (k : ℕ) (ks : List ℕ) (top : Float) (best : Option ℕ) (o : Option Float) → option_found o ≡ None
    → turn less score k ks top best o ≡ leader less score ks top best
turn_none less score k ks top best none h = refl
turn_none less score k ks top best (some x) h = absurd (let z : ◌≡◌ {A = ℕ} 0 1 = cc in omega arith)

turn_more : (less : ℕ → ℕ → Bool) (score : ℕ → Option Float) (k : ℕ) (ks : List ℕ) (top x : Float) (best : Option ℕ) (o : Option Float)
    → option_found o ≡ Some x → turn less score k ks top best o ≡ leader less score ks x (some k)
turn_more less score k ks top x best none h = absurd (let z : ◌≡◌ {A = ℕ} 0 1 = cc in omega arith)
turn_more less score k ks top x best (some y) h = let q : y ≡ x = cc in ap (λ (v : Float). leader less score ks v (some k)) q

-- the loop of `best_of` at the m-th neighbour
pub record Best (s : Scene) (pts : List Float) (r : Float) (f : Filter) (w : List ℕ) (count a b : ℕ) (top : Float) (best : Outcome ℕ) (m : ℕ) : Type 0 where
  pub rest : Rest s w count (bests s pts r f w a b (f32 0) None (neighbors_listed s w count)) (bests s pts r f w a b top best) m
  pub met : MetPoint s best

module _ {s : Scene} {pts : List Float} {r : Float} {f : Filter} {w : List ℕ} {count a b : ℕ} where
  pub best_start : SceneHeld s pts w → NeighborsListed s w count → Best s pts r f w count a b (f32 0) None 0
  best_start h l = record { rest = rest_start h l (bests s pts r f w a b (f32 0) None); met = λ k e. absurd (let z : ◌≡◌ {A = ℕ} 0 1 = cc in omega arith) }

  module _ {top : Float} {best : Outcome ℕ} {m : ℕ} (k : Best s pts r f w count a b top best m) where
    pub best_skip : {z : ℕ} {o : Outcome Float} → m < count → z ≡ nth s w m → o ≡ option_found (aheads s pts r f w a b top best z) → o ≡ None
        → Best s pts r f w count a b top best (m + 1)
    unfolding leader
    best_skip {z = z} h q e t = record {
      rest = rest_step k.rest h q (bests s pts r f w a b top best)
          (λ (ks : List ℕ). turn_none (earlier s.indexed (cell_at s.grid pts)) (score_in s pts r (used_in_scene s w) f (edge a b)) z ks top (option_sought best)
          (aheads s pts r f w a b top best z) (sym e ∙ t));
      met = k.met;
    }

    pub best_taken : {z : ℕ} {o : Outcome Float} {x : Float} → z < s.n → m < count → z ≡ nth s w m → o ≡ option_found (aheads s pts r f w a b top best z)
        → o ≡ Some x → Best s pts r f w count a b x (Some z) (m + 1)
    unfolding leader
    best_taken {z = z} {x = x} l h q e t = record {
      rest = rest_step k.rest h q (bests s pts r f w a b x (Some z))
          (λ (ks : List ℕ). turn_more (earlier s.indexed (cell_at s.grid pts)) (score_in s pts r (used_in_scene s w) f (edge a b)) z ks top x
          (option_sought best) (aheads s pts r f w a b top best z) (sym e ∙ t));
      met = λ j e. let i : z ≡ j = cc in subst (λ (v : ℕ). v < s.n) i l;
    }

    pub best_all : count ≤ m → best ≡ option_found (bests s pts r f w a b (f32 0) None (neighbors_listed s w count))
    unfolding leader
    best_all h = sym (ap option_found (rest_end k.rest h) ∙ found_sought best)
