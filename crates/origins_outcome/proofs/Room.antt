-- A face slice of 30,000 and an origins' slice of 20,000 are long enough: the answer is never 9. Assumes nothing.
use Prim.Native.Nat.{ℕ, ◌/◌, ◌≤◌}
use mathlib.Core.Path.{◌≡◌, refl}
use mathlib.Core.Logic.{◌≢◌}
use mathlib.Core.Bool.{Bool, true, false, cond}
use mathlib.Core.List.{List}
use native.Mathlib.Omega.{arith}
use lib.Dec.{eqb}
use lib.ListN.{length}
use lib.Ieee.{Float}
use borrow.Author.Tests.{eqb-true, le-ltb}
use Rattle.domain.specs.Refusals.{reconstruct_refusal}
use Rattle.domain.proofs.Accepted.{accepted_reconstruct}
use Rattle.settings.specs.declared.BallPivotingConfig.{BallPivotingConfig}
use Rattle.ball_pivoting.specs.Reconstruct.{Found, radii_of, found, reason, refused, accepted}
use Rattle.ball_pivoting.specs.Unsplit.{NoTriangle}
use Rattle.ball_pivoting.proofs.Reasons.{not_nine, reason_is}
use Rattle.ball_pivoting.proofs.Found.{found_most}
use Rattle.ball_pivoting.proofs.Outcome.{reconstruct_early}
use Rattle.origins_outcome.specs.Call.{turns_plain, delivered_with, reconstructed_with}

module _ (points normals : List Float) (c : BallPivotingConfig) (turn : Bool) (words floats : ℕ) where
  fitting : (why : ℕ) → NoTriangle why → (f : Found) (rs : List Float) (room places : ℕ) → length f.faces ≤ 10000
      → 30000 ≤ room → 20000 ≤ places → (delivered_with why f rs turn room places).answer ≢ 9
  unfolding delivered_with refused accepted
  fitting why named f rs room places most long wide =
      rw (le-ltb (room / 3) (length f.faces) (omega arith), le-ltb (places / 2) (length f.faces) (omega arith))
      (go (eqb (length f.faces) 0) (turns_plain turn rs))
    where
      go : (none plain : Bool) → (cond none (refused why 0) (cond plain (refused 18 0) (accepted f rs))).answer ≢ 9
      go true plain = not_nine why named
      go false true = λ e. omega arith
      go false false = λ e. omega arith

  pub never_nine_with : (room places : ℕ) → 30000 ≤ room → 20000 ≤ places
      → (reconstructed_with points normals c turn room places words floats).answer ≢ 9
  unfolding reconstructed_with refused
  never_nine_with room places long wide = go (eqb (reconstruct_refusal points normals c words floats).answer 0) refl
    where
      go : (passed : Bool) → eqb (reconstruct_refusal points normals c words floats).answer 0 ≡ passed
          → (cond passed (delivered_with (reason c points) (found c points) (radii_of c points) turn room places)
          (refused (reconstruct_refusal points normals c words floats).answer
          (reconstruct_refusal points normals c words floats).detail)).answer ≢ 9
      go true e =
          let a = accepted_reconstruct points normals c words floats (eqb-true _ 0 e) in
          fitting (reason c points) (reason_is c points) (found c points) (radii_of c points) room places
          (found_most c points a.cloud.few) long wide
      go false e = λ q. omega (arith, reconstruct_early points normals c words floats)
