-- The main call's whole result, turned away or taken. Assumes nothing.
use Prim.Native.Nat.{ℕ, ◌+◌, ◌*◌, ◌/◌, ◌≤◌, ◌<◌}
use mathlib.Core.Path.{◌≡◌, refl, sym, ap, ◌∙◌, subst}
use mathlib.Core.Logic.{◌≢◌}
use mathlib.Core.Bool.{Bool, true, false, cond}
use mathlib.Core.List.{List, [], ◌∷◌}
use native.Mathlib.Omega.{arith}
use lib.Dec.{eqb}
use lib.ListN.{length, replicate}
use lib.Ieee.{Float}
use borrow.Author.Tests.{eq-eqb, ne_eqb, le-ltb, eqb-true}
use Rattle.numbers.specs.Rounded.{f32}
use Rattle.domain.specs.Refusals.{Check, first_refusal, reconstruct_refusal}
use Rattle.domain.specs.Inner.Accepted.{Cloud}
use Rattle.settings.specs.declared.BallPivotingConfig.{BallPivotingConfig}
use Rattle.domain.specs.declared.Refusal.{Refusal}
use Rattle.domain.proofs.Accepted.{cloud_finite, accepted_reconstruct}
use Rattle.points.specs.Points.{point_at}
use Rattle.vector.specs.Inner.Numbers.{Finite}
use Rattle.ball_pivoting.specs.Reconstruct.{Found, radii_of, found, reason, refused, accepted, delivered, reconstructed, faces_after}
use Rattle.clearing.specs.Swept.{swept}
use Rattle.ball_pivoting.specs.Outcome.{Reconstructs}
use Rattle.ball_pivoting.specs.Unsplit.{NoTriangle}
use Rattle.ball_pivoting.specs.Inner.Parts.{WorkReady}
use Rattle.ball_pivoting.specs.declared.Patch.{Patch}
use Rattle.ball_pivoting.proofs.Reasons.{not_nine, reason_is}
use Rattle.ball_pivoting.proofs.Answered.{claimed}
use Rattle.ball_pivoting.proofs.Found.{found_most}

-- ---- a check that fails answers with a number of at most 7

abbrev Early : List Check → Type 0
Early [] = Unit {0}
Early (c ∷ cs) = (c.refusal.answer ≤ 7) × Early cs

refusal_early : (cs : List Check) → Early cs → (first_refusal cs).answer ≤ 7
unfolding first_refusal
refusal_early [] e = omega arith
refusal_early (c ∷ cs) e = go (refusal_early cs e.1) c.passes
  where
    go : (first_refusal cs).answer ≤ 7 → (b : Bool) → (cond b (first_refusal cs) c.refusal).answer ≤ 7
    go later true = later
    go later false = e.0

pub reconstruct_early : (points normals : List Float) (s : BallPivotingConfig) (words floats : ℕ) → (reconstruct_refusal points normals s words floats).answer ≤ 7
unfolding reconstruct_refusal
reconstruct_early points normals s words floats = refusal_early _ (omega arith, (omega arith, (omega arith, (omega arith, (omega arith, (omega arith, tt))))))

-- ---- what the checks leave

cloud_numbers : {n : ℕ} {points : List Float} → Cloud n points → (i : ℕ) → i < n → Finite (point_at points i)
unfolding point_at
cloud_numbers cloud i h = record {
  x_finite = cloud_finite cloud (3 * i) (omega (arith, cloud.threes));
  y_finite = cloud_finite cloud (3 * i + 1) (omega (arith, cloud.threes));
  z_finite = cloud_finite cloud (3 * i + 2) (omega (arith, cloud.threes));
}

pub ready_of : (c : BallPivotingConfig) (points normals : List Float) (words : List ℕ) (floats : List Float)
    → (reconstruct_refusal points normals c (length words) (length floats)).answer ≡ 0
    → WorkReady c points words floats
ready_of c points normals words floats e =
    let a = accepted_reconstruct points normals c (length words) (length floats) e in
    record {
      sized = record {
        some = a.cloud.some;
        few = a.cloud.few;
        threes = a.cloud.threes;
        numbers = cloud_numbers
            a.cloud;
        words_enough = a.room.words_enough;
      };
      floats_enough = a.room.floats_enough;
      percentiles = a.settled.percentiles.few;
      additional = a.settled.additional.few;
      settled = a.settled;
    }

-- ---- the result

module _ (points normals : List Float) (c : BallPivotingConfig) (faces words : List ℕ) (floats : List Float) (r : Refusal)
    (e : r ≡ reconstruct_refusal points normals c (length words) (length floats)) where
  pub turned_away : (p : Patch) → p ≡ refused r.answer r.detail → (r.answer ≡ 0 → ⊥)
      → Reconstructs points normals c faces words floats p faces words floats
  unfolding reconstructed swept faces_after refused
  turned_away p is bad =
      let early : r.answer ≤ 7 = subst (λ (q : Refusal). q.answer ≤ 7) (sym e) (reconstruct_early points normals c (length words) (length floats)) in
      let not_nine : r.answer ≡ 9 → ⊥ = λ q. omega arith in
      record {
        result = rw (sym e, ne_eqb r.answer 0 bad) is;
        faces_after_lem = rw (is, ne_eqb r.answer 0 bad, ne_eqb r.answer 9 not_nine);
        words_after = rw (sym e, ne_eqb r.answer 0 bad);
        floats_after = rw (sym e, ne_eqb r.answer 0 bad);
        shape = λ q some. absurd (bad (sym (ap (λ (x : Patch). x.answer) is) ∙ q));
      }

  pub taken : (p : Patch) (faces' words' : List ℕ) (floats' : List Float) → r.answer ≡ 0
      → (p ≡ delivered (reason c points) (found c points) (radii_of c points) (length faces)) × (faces' ≡ faces_after p (found c points) faces)
      → words' ≡ replicate (length words) 0 → floats' ≡ replicate (length floats) (f32 0)
      → Reconstructs points normals c faces words floats p faces' words' floats'
  unfolding reconstructed swept
  taken p faces' words' floats' good d zeros zero-floats = record {
    result = rw (sym e, eq-eqb r.answer 0 good) d.0;
    faces_after_lem = d.1;
    words_after = rw (sym e, eq-eqb r.answer 0 good) zeros;
    floats_after = rw (sym e, eq-eqb r.answer 0 good) zero-floats;
    shape = claimed c points faces p faces' d.0 d.1;
  }

-- a face slice of 30,000 is long enough: the answer is never 9
module _ (points normals : List Float) (c : BallPivotingConfig) (words floats : ℕ) where
  fitting : (why : ℕ) → NoTriangle why → (f : Found) (rs : List Float) (room : ℕ) → length f.faces ≤ 10000 → 30000 ≤ room
      → (delivered why f rs room).answer ≢ 9
  unfolding delivered refused accepted
  fitting why named f rs room most long = rw (le-ltb (room / 3) (length f.faces) (omega arith)) (go (eqb (length f.faces) 0))
    where
      go : (none : Bool) → (cond none (refused why 0) (accepted f rs)).answer ≢ 9
      go true = not_nine why named
      go false = λ e. omega arith

  pub never_nine : (room : ℕ) → 30000 ≤ room → (reconstructed points normals c room words floats).answer ≢ 9
  unfolding reconstructed refused
  never_nine room long = go (eqb (reconstruct_refusal points normals c words floats).answer 0) refl
    where
      go : (passed : Bool) → eqb (reconstruct_refusal points normals c words floats).answer 0 ≡ passed
          → (cond passed (delivered (reason c points) (found c points) (radii_of c points) room)
          (refused (reconstruct_refusal points normals c words floats).answer (reconstruct_refusal points normals c words floats).detail)).answer ≢ 9
      go true e =
          let a = accepted_reconstruct points normals c words floats (eqb-true _ 0 e) in
          fitting (reason c points) (reason_is c points) (found c points) (radii_of c points) room (found_most c points a.cloud.few) long
      go false e = λ q. omega (arith, reconstruct_early points normals c words floats)
