-- What is found, on whichever path, by whatever slice it was written into. Assumes nothing.
use Prim.Native.Nat.{ℕ, ◌≤◌, ◌<◌}
use mathlib.Core.Path.{◌≡◌, refl, sym, ap, ◌∙◌}
use mathlib.Core.Bool.{Bool, true, false}
use mathlib.Core.List.{List, [], ◌∷◌, ◌++◌}
use native.Mathlib.Omega.{arith}
use lib.ListN.{length, replicate, length-replicate}
use lib.Ieee.{Float}
use borrow.Author.Tests.{eq-eqb, ne_eqb}
use Rattle.settings.specs.declared.BallPivotingConfig.{BallPivotingConfig}
use Rattle.patch.proofs.View.{length_written}
use Rattle.radii.specs.Inner.Steps.{RadiiListed}
use Rattle.radii.specs.declared.Radii.{Radii}
use Rattle.ball_pivoting.specs.Reconstruct.{Found, point_count, scene_of, radii_of, laid_of, laid, found, reason}
use Rattle.ball_pivoting.specs.Inner.Parts.{marks_of, Finds}
use Rattle.ball_pivoting.specs.declared.Finding.{Finding}
use Rattle.origins_outcome.specs.Call.{turns_plain}
use Rattle.ball_pivoting.proofs.Found.{found_laid}
use Rattle.laying.proofs.Claim.{laid_few}
use Rattle.origins_outcome.specs.Inner.Parts.{FindsFor, FindingHeld}

-- ---- a turned plain patch, or not
turns_not : (b : Bool) (rs : List Float) → (length rs ≡ 0 → ⊥) → turns_plain b rs ≡ false
turns_not true rs some = ne_eqb (length rs) 0 some
turns_not false rs some = refl

turns_yes : (rs : List Float) → length rs ≡ 0 → turns_plain true rs ≡ true
turns_yes rs none = eq-eqb (length rs) 0 none

module _ (turn : Bool) (c : BallPivotingConfig) (pts : List Float) (lent : List ℕ) (r : Finding) (g : Radii) (h : RadiiListed (radii_of c pts) g) where
  pub for_laid : (slice : List ℕ) → (g.count ≡ 0 → ⊥) → Finds (reason c pts) (found c pts) (radii_of c pts) (marks_of c pts) lent r slice
      → FindsFor turn c pts lent r slice
  for_laid slice some f = record {
    room = lent;
    back = slice;
    finds = f;
    held = rw (turns_not turn (radii_of c pts) (λ q. some (h.counted ∙ q))) f.written_in;
  }

  pub for_plain : (slice : List ℕ) → turn ≡ false → Finds (reason c pts) (found c pts) (radii_of c pts) (marks_of c pts) lent r slice
      → FindsFor turn c pts lent r slice
  for_plain slice not f = record {
    room = lent;
    back = slice;
    finds = f;
    held = rw not f.written_in;
  }

  pub for_counted : (slice : List ℕ) → turn ≡ true → g.count ≡ 0 → Finds (reason c pts) (found c pts) (radii_of c pts) (marks_of c pts) [] r [] → slice ≡ lent
      → FindsFor turn c pts lent r slice
  for_counted slice on none f e = record {
    room = [];
    back = [];
    finds = f;
    held = rw (on, turns_yes (radii_of c pts) (sym h.counted ∙ none)) e;
  }

-- a slice without room comes back as it was
pub without_room : (why : ℕ) (f : Found) (rs : List Float) (ms : List ℕ) (r : Finding) (part whole : List ℕ) → Finds why f rs ms [] r part
    → (Finds why f rs ms [] r []) × (part ++ whole ≡ whole)
without_room why f rs ms r part whole h = go part h (ap length h.written_in ∙ length_written f.faces [])
  where
    go : (l : List ℕ) → Finds why f rs ms [] r l → length l ≡ 0 → (Finds why f rs ms [] r []) × (l ++ whole ≡ whole)
    go [] k e = (k, refl)
    go (x ∷ l) k e = absurd (omega arith)

-- what is found has room: over n points no more faces are laid than points
module _ (turn : Bool) (c : BallPivotingConfig) (pts : List Float) (lent : List ℕ) (r : Finding) (slice : List ℕ) (h : FindsFor turn c pts lent r slice) where
  no_more : 0 < r.radii.count → r.faces ≤ point_count pts
  unfolding laid_of scene_of laid
  no_more some =
      let there : radii_of c pts ≡ [] → ⊥ = λ q. omega (arith, some, h.finds.radii.counted, ap length q) in
      let f : found c pts ≡ laid (laid_of c pts) = found_laid c pts (radii_of c pts) refl there in
      omega (arith, h.finds.faces, ap (λ (g : Found). length g.faces) f, laid_few c.frontier_rule (scene_of c pts) pts (radii_of c pts))

  pub held_of : (words : List ℕ) → point_count pts ≤ length words → FindingHeld r (point_count pts) words
  held_of words room = record { few = h.finds.few; radii_few = h.finds.radii.few; laid_few = no_more; long = room }

pub zeros_again : (l : List ℕ) (k : ℕ) → l ≡ replicate k 0 → l ≡ replicate (length l) 0
zeros_again l k e = e ∙ ap (λ (j : ℕ). replicate j 0) (sym (ap length e ∙ length-replicate k 0))
