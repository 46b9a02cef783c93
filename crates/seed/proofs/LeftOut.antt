-- The search for a seed finds the same if points are left out that it can't choose, such as are used or too far away.
-- Assumes nothing.
use Prim.Native.Nat.{ℕ, ◌<◌}
use mathlib.Core.Path.{◌≡◌, refl, sym, ap, ◌∙◌}
use mathlib.Core.Logic.{◌⊎◌, ⊎_elim}
use mathlib.Core.Bool.{Bool, true, false, cond, not, ◌&&◌}
use mathlib.Core.List.{List, [], ◌∷◌}
use mathlib.Core.Option.{Option, none}
use lib.Dec.{eqb}
use lib.Ieee.{Float, lt}
use Rattle.lists.specs.Members.{Below, only}
use Rattle.lists.proofs.Members.{below_first, below_rest}
use Rattle.patch.specs.Search.{Floats, is_second, is_third, third_of, second_of}
use Rattle.lists.specs.Lists.{unused}
use Rattle.lists.proofs.Bools.{either, and_false}
use Rattle.decisions.specs.declared.Scene.{Scene}
use Rattle.decisions.specs.Decisions.{reach, apart, is_close, accepts, quality_at, floats_of}
use Rattle.three_points.proofs.Refused.{close_far}
use Rattle.seedless.specs.Inner.Parts.{with_second}
use Rattle.seedless.proofs.Laws.{or_else, third_hit, third_miss, second_step, second_end}
use Rattle.seed.proofs.Laws.{else_miss, second_not}

-- ---- whatever fails the test can't be chosen
module _ {R : Type 0} (floats : Floats R) (r : R) (used : List ℕ) (test : ℕ → Bool) where
  module _ (n : ℕ) where
    pub third_only : (i j : ℕ) → ((k : ℕ) → k < n → test k ≡ false → is_third floats r used i j k ≡ false) → (ks : List ℕ) → Below n ks
        → third_of floats r used i j (only test ks) ≡ third_of floats r used i j ks
    unfolding only
    third_only i j h [] b = refl
    third_only i j h (k ∷ ks) b = go (test k) refl (third_only i j h ks (below_rest n k ks b))
      where
        go : (t : Bool) → test k ≡ t → third_of floats r used i j (only test ks) ≡ third_of floats r used i j ks
            → third_of floats r used i j (cond t (k ∷ only test ks) (only test ks)) ≡ third_of floats r used i j (k ∷ ks)
        go true t ih = ⊎_elim
            (λ (y : is_third floats r used i j k ≡ true). third_hit floats r used i j k (only test ks) y ∙ sym (third_hit floats r used i j k ks y))
            (λ (y : is_third floats r used i j k ≡ false). third_miss floats r used i j k (only test ks) y ∙ ih ∙ sym (third_miss floats r used i j k ks y))
            (either (is_third floats r used i j k))
        go false t ih = ih ∙ sym (third_miss floats r used i j k ks (h k (below_first n k ks b) t))

    with_thirds : (i j : ℕ) (ks : List ℕ) → third_of floats r used i j (only test ks) ≡ third_of floats r used i j ks
        → with_second floats r used i (only test ks) j ≡ with_second floats r used i ks j
    unfolding with_second
    with_thirds i j ks e = ap (λ (o : Option (ℕ × ℕ × ℕ)). elim (is_second floats r used i j) as (λ c. Option (ℕ × ℕ × ℕ)) [ true ↦ o | false ↦ none ]) e

    -- as third points
    pub second_thirds : (i : ℕ) → ((j k : ℕ) → k < n → test k ≡ false → is_third floats r used i j k ≡ false) → (ks : List ℕ) → Below n ks → (js : List ℕ)
        → second_of floats r used i (only test ks) js ≡ second_of floats r used i ks js
    second_thirds i h ks b [] = second_end floats r used i (only test ks) ∙ sym (second_end floats r used i ks)
    second_thirds i h ks b (j ∷ js) =
        second_step floats r used i (only test ks) j js
        ∙ ap (λ (o : Option (ℕ × ℕ × ℕ)). or_else o (second_of floats r used i (only test ks) js)) (with_thirds i j ks (third_only i j (h j) ks b))
        ∙ ap (or_else (with_second floats r used i ks j)) (second_thirds i h ks b js)
        ∙ sym (second_step floats r used i ks j js)

    -- as second points
    pub second_only : (i : ℕ) → ((j : ℕ) → j < n → test j ≡ false → is_second floats r used i j ≡ false) → (ks js : List ℕ) → Below n js
        → second_of floats r used i ks (only test js) ≡ second_of floats r used i ks js
    unfolding only
    second_only i h ks [] b = refl
    second_only i h ks (j ∷ js) b = go (test j) refl (second_only i h ks js (below_rest n j js b))
      where
        go : (t : Bool) → test j ≡ t → second_of floats r used i ks (only test js) ≡ second_of floats r used i ks js
            → second_of floats r used i ks (cond t (j ∷ only test js) (only test js)) ≡ second_of floats r used i ks (j ∷ js)
        go true t ih = second_step floats r used i ks j (only test js) ∙ ap (or_else (with_second floats r used i ks j)) ih ∙ sym
            (second_step floats r used i ks j js)
        go false t ih = ih ∙ sym
            (second_step floats r used i ks j js ∙ else_miss (with_second floats r used i ks j) (second_of floats r used i ks js)
            (sym (second_not floats r used i j ks (h j (below_first n j js b) t))))

-- ---- which points can't be chosen

-- a conjunction of which a part fails
and_nothing : (x y u c z : Bool) → (u && c) ≡ false → (x && (y && (u && (c && z)))) ≡ false
and_nothing false y u c z h = refl
and_nothing true false u c z h = refl
and_nothing true true false c z h = refl
and_nothing true true true c z h = rw h

module _ (s : Scene) (pts : List Float) (r : Float) (used : List ℕ) where
  module _ (i k : ℕ) where
    not_close : (unused used k ≡ false) ⊎ (lt (reach r) (apart pts k i) ≡ true) → (unused used k && is_close pts r i k) ≡ false
    not_close = ⊎_elim (λ (u : unused used k ≡ false). rw u)
        (λ (f : lt (reach r) (apart pts k i) ≡ true). rw (close_far pts r i k f) (and_false (unused used k)))

    pub second_out : (unused used k ≡ false) ⊎ (lt (reach r) (apart pts k i) ≡ true) → is_second (floats_of s pts) r used i k ≡ false
    unfolding is_second floats_of
    second_out o = rw (not_close o) (and_false (not (eqb i k)))

    pub third_out : (j : ℕ) → (unused used k ≡ false) ⊎ (lt (reach r) (apart pts k i) ≡ true) → is_third (floats_of s pts) r used i j k ≡ false
    unfolding is_third floats_of
    third_out j o = and_nothing (not (eqb i k)) (not (eqb j k)) (unused used k) (is_close pts r i k) (is_close pts r j k && accepts s r (quality_at pts i j k))
        (not_close o)
