-- The loops over the listed points for the third and the second point of a seed, turn by turn. Assumes nothing.
use Prim.Native.Nat.{ℕ, ◌+◌, ◌*◌, ◌≤◌, ◌<◌}
use mathlib.Core.Path.{◌≡◌, refl, sym, ap, ◌∙◌}
use mathlib.Core.Bool.{Bool, true, false}
use mathlib.Core.List.{List}
use mathlib.Core.Option.{Option}
use native.Mathlib.Nat.{min-le_left}
use native.Mathlib.Omega.{arith}
use lib.ListN.{length, drop, length-take, drop_of_length-le}
use lib.Ieee.{Float}
use Rattle.std.specs.Prelude.{Option as Outcome, Some, None}
use Rattle.lists.specs.Inner.Found.{option_found}
use Rattle.patch.specs.Search.{is_third, third_of, second_of}
use Rattle.decisions.specs.Decisions.{floats_of}
use Rattle.decisions.specs.declared.Scene.{Scene}
use Rattle.nearby.specs.Inner.Ready.{SceneHeld, NeighborsListed, used_in_scene, neighbors_listed, nth}
use Rattle.nearby.proofs.Rest.{Rest, rest_start, rest_is, rest_step, rest_hit, rest_end}
use Rattle.seedless.specs.Inner.Parts.{with_second}
use Rattle.seedless.proofs.Laws.{third_hit, third_miss, third_end, second_step, second_end}
use Rattle.seed.proofs.Laws.{else_hit, else_miss}

-- ---- the third point

-- the first third point among ks
abbrev pub thirds : Scene → List Float → Float → List ℕ → ℕ → ℕ → List ℕ → Option (ℕ × ℕ × ℕ)
thirds s pts r w i j ks = third_of (floats_of s pts) r (used_in_scene s w) i j ks

-- the loop of `find_third` at the m-th neighbour
pub record Third (s : Scene) (pts : List Float) (r : Float) (w : List ℕ) (count i j m : ℕ) : Type 0 where
  pub rest : Rest s w count (thirds s pts r w i j (neighbors_listed s w count)) (thirds s pts r w i j) m

module _ {s : Scene} {pts : List Float} {r : Float} {w : List ℕ} {count i j : ℕ} where
  pub third_start : SceneHeld s pts w → NeighborsListed s w count → Third s pts r w count i j 0
  third_start h l = record { rest = rest_start h l (thirds s pts r w i j) }

  pub third_found : {m k : ℕ} {t : Bool} → Third s pts r w count i j m → m < count → k ≡ nth s w m → t ≡ is_third (floats_of s pts) r (used_in_scene s w) i j k → t
      ≡ true
      → Some (i, j, k) ≡ option_found (thirds s pts r w i j (neighbors_listed s w count))
  third_found {k = k} l h q e t = sym
      (ap option_found (rest_hit l.rest h q (λ (ks : List ℕ). third_hit (floats_of s pts) r (used_in_scene s w) i j k ks (sym e ∙ t))))

  pub third_on : {m k : ℕ} {t : Bool} → Third s pts r w count i j m → m < count → k ≡ nth s w m → t ≡ is_third (floats_of s pts) r (used_in_scene s w) i j k → t
      ≡ false → Third s pts r w count i j (m + 1)
  third_on {k = k} l h q e t = record {
    rest = rest_step l.rest h q (thirds s pts r w i j)
        (λ (ks : List ℕ). third_miss (floats_of s pts) r (used_in_scene s w) i j k ks (sym e ∙ t));
  }

  pub third_none : {m : ℕ} → Third s pts r w count i j m → count ≤ m → None ≡ option_found (thirds s pts r w i j (neighbors_listed s w count))
  third_none k h = sym (ap option_found (rest_end k.rest h ∙ third_end (floats_of s pts) r (used_in_scene s w) i j))

-- ---- the second point

-- the first second point among js that has a third one among ks
abbrev pub seconds : Scene → List Float → Float → List ℕ → ℕ → List ℕ → List ℕ → Option (ℕ × ℕ × ℕ)
seconds s pts r w i ks js = second_of (floats_of s pts) r (used_in_scene s w) i ks js

-- the loop of `find_second` at the m-th neighbour
pub record Second (s : Scene) (pts : List Float) (r : Float) (w : List ℕ) (count i from to m : ℕ) : Type 0 where
  pub long : 4 * s.n + to ≤ length w
  pub same : seconds s pts r w i (neighbors_listed s w count) (drop from (neighbors_listed s w to))
      ≡ seconds s pts r w i (neighbors_listed s w count) (drop m (neighbors_listed s w to))

module _ {s : Scene} {pts : List Float} {r : Float} {w : List ℕ} {count i from to : ℕ} where
  pub second_start : SceneHeld s pts w → NeighborsListed s w count → to ≤ count → Second s pts r w count i from to from
  second_start h l t = record { long = omega (arith, h.work_long, l.most); same = refl }

  abbrev second_rest : {m : ℕ} → Second s pts r w count i from to m → m < to
      → Rest s w to (seconds s pts r w i (neighbors_listed s w count) (drop from (neighbors_listed s w to))) (seconds s pts r w i (neighbors_listed s w count)) m
  second_rest k h = record { long = k.long; inside = omega arith; same = k.same }

  pub second_found : {m j : ℕ} {t : ℕ × ℕ × ℕ} {found : Outcome (ℕ × ℕ × ℕ)} → Second s pts r w count i from to m → m < to → j ≡ nth s w m → found
      ≡ option_found (with_second (floats_of s pts) r (used_in_scene s w) i (neighbors_listed s w count) j) → found ≡ Some t
      → Some t ≡ option_found (seconds s pts r w i (neighbors_listed s w count) (drop from (neighbors_listed s w to)))
  second_found {m = m} {j = j} {t = t} k h q e f =
      let ks = drop (m + 1) (neighbors_listed s w to) in
      sym (ap option_found (rest_is (second_rest k h) h q ∙ second_step (floats_of s pts) r (used_in_scene s w) i (neighbors_listed s w count) j ks) ∙ else_hit
      (with_second (floats_of s pts) r (used_in_scene s w) i (neighbors_listed s w count) j) (seconds s pts r w i (neighbors_listed s w count) ks) t
      (sym e ∙ f))

  pub second_on : {m j : ℕ} {found : Outcome (ℕ × ℕ × ℕ)} → Second s pts r w count i from to m → m < to → j ≡ nth s w m → found
      ≡ option_found (with_second (floats_of s pts) r (used_in_scene s w) i (neighbors_listed s w count) j) → found ≡ None → Second s pts r w count i from to (m + 1)
  second_on {j = j} k h q e t = record {
    long = k.long;
    same = (rest_step (second_rest k h) h q (seconds s pts r w i (neighbors_listed s w count))
        (λ (ks : List ℕ). second_step (floats_of s pts) r (used_in_scene s w) i (neighbors_listed s w count) j ks ∙ else_miss
        (with_second (floats_of s pts) r (used_in_scene s w) i (neighbors_listed s w count) j) (seconds s pts r w i (neighbors_listed s w count) ks)
        (sym e ∙ t))).same;
  }

  pub second_none : {m : ℕ} → Second s pts r w count i from to m → to ≤ m → None
      ≡ option_found (seconds s pts r w i (neighbors_listed s w count) (drop from (neighbors_listed s w to)))
  second_none {m = m} k h =
      let e = length-take to (drop (4 * s.n) w) in
      let l = min-le_left to (length (drop (4 * s.n) w)) in
      sym (ap option_found (k.same ∙ ap (seconds s pts r w i (neighbors_listed s w count))
      (drop_of_length-le (neighbors_listed s w to) {i = m} (omega arith)) ∙ second_end (floats_of s pts) r (used_in_scene s w) i (neighbors_listed s w count)))
