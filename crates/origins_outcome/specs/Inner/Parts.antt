-- What the parts of the call ask and give. Definitions only.
use Rattle.std.specs.Prelude.{ℕ, ◌≤◌, ◌<◌, ◌≡◌, Bool, cond, List, length, replicate, Float}
use Rattle.settings.specs.declared.BallPivotingConfig.{BallPivotingConfig}
use Rattle.patch.specs.View.{flat, written}
use Rattle.ball_pivoting.specs.Reconstruct.{point_count, radii_of, found, reason}
use Rattle.ball_pivoting.specs.Inner.Parts.{marks_of, Finds}
use Rattle.ball_pivoting.specs.declared.Finding.{Finding}
use Rattle.ball_pivoting.specs.declared.Patch.{Patch}
use Rattle.origins_outcome.specs.Call.{turns_plain, origins_of, faces_as, delivered_with, slice_after}

-- what is found before it is known whether it fits: the code's account r of it, with whatever slice it was written
-- into; plain faces that were to be turned are not written
pub record FindsFor
    (turn : Bool) (c : BallPivotingConfig) (pts : List Float) (lent : List ℕ) (r : Finding) (slice : List ℕ)
    : Type 0 where
  pub room : List ℕ
  pub back : List ℕ
  pub finds : Finds (reason c pts) (found c pts) (radii_of c pts) (marks_of c pts) room r back
  pub held : slice ≡ cond (turns_plain turn (radii_of c pts)) lent (written (found c pts).faces lent)

-- room for an account of what is found over n points: of the multi-radius path no more faces than points
pub record FindingHeld (r : Finding) (n : ℕ) (words : List ℕ) : Type 0 where
  pub few : r.faces ≤ 10000
  pub radii_few : r.radii.count ≤ 17
  pub laid_few : 0 < r.radii.count → r.faces ≤ n
  pub long : n ≤ length words

-- whatever was found comes back as the definition says, the work slice being zeros
abbrev pub DeliversWithOrigins : Bool → ℕ → Finding → List ℕ → List ℕ → List ℕ → Patch → List ℕ → List ℕ → Type 0
DeliversWithOrigins turn n r slice origins words p faces' origins' =
    (c : BallPivotingConfig) (pts : List Float) (lent : List ℕ) → FindsFor turn c pts lent r slice
    → n ≡ point_count pts → words ≡ replicate (length words) 0
    → (p ≡ delivered_with (reason c pts) (found c pts) (radii_of c pts) turn (length lent) (length origins))
    × (faces' ≡ slice_after p (flat (faces_as turn c pts)) lent)
    × (origins' ≡ slice_after p (origins_of c pts) origins)
