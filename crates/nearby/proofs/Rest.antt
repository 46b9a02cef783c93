-- A loop over the points that are listed in the slice, turn by turn, whatever it looks for. Assumes nothing.
use Prim.Native.Nat.{ℕ, ◌+◌, ◌*◌, ◌≤◌, ◌<◌}
use mathlib.Core.Path.{◌≡◌, refl, ap, ◌∙◌}
use mathlib.Core.List.{List, [], ◌∷◌}
use native.Mathlib.Omega.{arith}
use lib.ListN.{length, drop}
use lib.Ieee.{Float}
use Rattle.decisions.specs.declared.Scene.{Scene}
use Rattle.nearby.specs.Inner.Ready.{SceneHeld, NeighborsListed, neighbors_listed, nth}
use Rattle.sifting.proofs.Parts.{part_step, part_end}

-- the answer is what f finds among the neighbours from the m-th on
pub record Rest {A : Type 0} (s : Scene) (w : List ℕ) (count : ℕ) (answer : A) (f : List ℕ → A) (m : ℕ) : Type 0 where
  pub long : 4 * s.n + count ≤ length w
  pub inside : m ≤ count
  pub same : answer ≡ f (drop m (neighbors_listed s w count))

module _ {A : Type 0} {s : Scene} {w : List ℕ} {count : ℕ} where
  pub rest_start : {pts : List Float} → SceneHeld s pts w → NeighborsListed s w count → (f : List ℕ → A) → Rest s w count (f (neighbors_listed s w count)) f 0
  rest_start h l f = record { long = omega (arith, h.work_long, l.most); inside = omega arith; same = refl }

  pub rest_is : {answer : A} {f : List ℕ → A} {m x : ℕ} → Rest s w count answer f m → m < count → x ≡ nth s w m → answer
      ≡ f (x ∷ drop (m + 1) (neighbors_listed s w count))
  rest_is {f = f} {m = m} k h q = k.same ∙ ap f (rw q (part_step w (4 * s.n) count m k.long h))

  pub rest_step : {answer : A} {f : List ℕ → A} {m x : ℕ} → Rest s w count answer f m → m < count → x ≡ nth s w m → (g : List ℕ → A)
      → ((ks : List ℕ) → f (x ∷ ks) ≡ g ks) → Rest s w count answer g (m + 1)
  rest_step {m = m} k h q g e = record { long = k.long; inside = omega arith; same = rest_is k h q ∙ e (drop (m + 1) (neighbors_listed s w count)) }

  pub rest_hit : {answer : A} {f : List ℕ → A} {m x : ℕ} → Rest s w count answer f m → m < count → x ≡ nth s w m → {hit : A}
      → ((ks : List ℕ) → f (x ∷ ks) ≡ hit) → answer ≡ hit
  rest_hit {m = m} k h q e = rest_is k h q ∙ e (drop (m + 1) (neighbors_listed s w count))

  pub rest_end : {answer : A} {f : List ℕ → A} {m : ℕ} → Rest s w count answer f m → count ≤ m → answer ≡ f []
  rest_end {f = f} {m = m} k h = k.same ∙ ap f (part_end w (4 * s.n) count m h)
