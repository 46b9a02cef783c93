-- The call with one answer, 8, where no triangle was found: as the Rust has it, and as it was before that answer was
-- split. What the two have in common is proved. Definitions only.
use Rattle.std.specs.Prelude.{ℕ, ◌≡◌, ◌⊎◌, ◌≢◌, ◌↔◌, cond, List, eqb, Float}
use Rattle.domain.specs.Refusals.{reconstruct_refusal}
use Rattle.settings.specs.declared.BallPivotingConfig.{BallPivotingConfig}
use Rattle.ball_pivoting.specs.Reconstruct.{radii_of, found, reason, refused, delivered, reconstructed, faces_after}
use Rattle.ball_pivoting.specs.declared.Patch.{Patch}

unfoldable pub reconstructed_unsplit : List Float → List Float → BallPivotingConfig → ℕ → ℕ → ℕ → Patch
reconstructed_unsplit pts normals c room words floats =
    let refusal = reconstruct_refusal pts normals c words floats in
    cond (eqb refusal.answer 0) (delivered 8 (found c pts) (radii_of c pts) room)
    (refused refusal.answer refusal.detail)

-- 8, 15 or 16
abbrev pub NoTriangle : ℕ → Type 0
NoTriangle answer = (answer ≡ 8) ⊎ ((answer ≡ 15) ⊎ (answer ≡ 16))

-- the same clouds are refused as before, and nothing else changed
pub record Split (pts normals : List Float) (c : BallPivotingConfig) (room words floats : ℕ) (old new : Patch)
    : Type 0 where
  pub old_is : old ≡ reconstructed_unsplit pts normals c room words floats
  pub new_is : new ≡ reconstructed pts normals c room words floats
  -- the old call answers 8 exactly where the new one answers 8, 15 or 16
  pub exactly : (old.answer ≡ 8) ↔ NoTriangle new.answer
  -- there the new one is a refusal by the reason, with detail 0
  pub split : old.answer ≡ 8 → new ≡ refused (reason c pts) 0
  -- everywhere else the two are the same
  pub same : old.answer ≢ 8 → new ≡ old
  -- and the face slice is the same everywhere; the work slices go by the checks alone
  pub slice_same : (slice : List ℕ) → faces_after new (found c pts) slice ≡ faces_after old (found c pts) slice
