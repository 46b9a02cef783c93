-- What the passes and the largest radius tell the search for a seed. Assumes nothing.
use Prim.Native.Nat.{ℕ, ◌+◌}
use mathlib.Core.Path.{◌≡◌, refl, sym, ap, ◌∙◌, subst}
use mathlib.Core.Logic.{⊎_elim}
use mathlib.Core.Bool.{Bool, true, false}
use mathlib.Core.List.{List}
use mathlib.Core.Option.{none}
use native.Mathlib.Omega.{arith}
use lib.ListN.{take}
use lib.Ieee.{Float}
use Rattle.lists.specs.Lists.{unused, up_from}
use Rattle.lists.proofs.Bools.{either, true_not_false}
use Rattle.decisions.specs.declared.Scene.{Scene}
use Rattle.decisions.specs.Decisions.{floats_of}
use Rattle.nearby.specs.Inner.Ready.{SceneKept, used_in_scene}
use Rattle.patch.specs.Search.{searching, first_of}
use Rattle.known_radii.specs.declared.Upto.{Upto}
use Rattle.known_radii.specs.Inner.Known.{NothingTo, RadiusKnown}
use Rattle.known_radii.proofs.Larger.{known_nothing}
use Rattle.seedless.specs.Inner.Seedless.{SeedlessFrom, SeedlessBetween}
use Rattle.seedless.proofs.Threes.{seedless_next}
use Rattle.seed.specs.Inner.Found.{KnownFrom}

-- what is known after a point, either way
pub seedless_on : {s : Scene} {pts : List Float} {r : Float} {lo i : ℕ} {w₀ w : List ℕ} {seedless : Bool} {m : ℕ}
    → SeedlessBetween s pts r (used_in_scene s w₀) lo i → SceneKept s w₀ w → (seedless ≡ true → SeedlessFrom s pts r (used_in_scene s w) lo i)
    → KnownFrom lo i seedless m → SeedlessBetween s pts r (used_in_scene s w₀) m (i + 1)
seedless_on {s} {pts} {r} {i = i} {w₀ = w₀} {seedless = seedless} {m = m} b k f n = ⊎_elim
    (λ (t : seedless ≡ true). subst (λ (x : ℕ). SeedlessBetween s pts r (used_in_scene s w₀) x (i + 1)) (sym (n.same t)) (seedless_next {w₀ = w₀} b k (f t)))
    (λ (t : seedless ≡ false). λ a ha la. absurd (omega (arith, n.next t)))
    (either seedless)

pub unused_back : {s : Scene} {w v : List ℕ} {t : Bool} (i : ℕ) → SceneKept s w v → unused (used_in_scene s v) i ≡ t → unused (used_in_scene s w) i ≡ t
unused_back {s} i k h = ap (λ (l : List ℕ). unused (take s.n l) i) (sym k.after) ∙ h

-- ---- the largest radius

-- what is known of radii stays known while no point is used
pub nothing_kept : {s : Scene} (pts : List Float) {w v : List ℕ} (upto : Upto) → SceneKept s w v → NothingTo s pts (used_in_scene s w) upto
    → NothingTo s pts (used_in_scene s v) upto
nothing_kept {s} pts upto k = subst (λ (u : List ℕ). NothingTo s pts u upto) (sym (ap (take s.n) k.after))

pub nothing_back : {s : Scene} (pts : List Float) {w v : List ℕ} (upto : Upto) → SceneKept s w v → NothingTo s pts (used_in_scene s v) upto
    → NothingTo s pts (used_in_scene s w) upto
nothing_back {s} pts upto k = subst (λ (u : List ℕ). NothingTo s pts u upto) (ap (take s.n) k.after)

-- a radius up to which none has a seed is told while one of them is searched
pub told_nothing : (s : Scene) (pts : List Float) {r : Float} (used : List ℕ) {upto : Upto} → RadiusKnown s false r upto → NothingTo s pts used upto
    → first_of (floats_of s pts) r used (up_from 0 s.n) 1000 ≡ none
unfolding searching
told_nothing s pts used k n = known_nothing s pts used k (λ h. absurd (true_not_false h refl)) n
