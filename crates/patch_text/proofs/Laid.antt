-- What the main call leaves is what the definition prints of it: the faces in front of the slice, and the counts.
-- Assumes nothing.
use Prim.Native.Nat.{ℕ, ◌*◌, ◌/◌, ◌≤◌}
use mathlib.Core.Path.{◌≡◌, sym, ap, ◌∙◌, subst}
use mathlib.Core.Bool.{Bool, true, false, cond}
use mathlib.Core.List.{List, ◌++◌}
use native.Mathlib.Omega.{arith}
use lib.Dec.{leb}
use lib.ListN.{length, take, drop, length-append}
use lib.Seq.{take_all, take-append_seam}
use lib.Ieee.{Float}
use borrow.Author.Tests.{eq-eqb, ne_eqb, le-leb}
use Rattle.settings.specs.Settings.{defaults}
use Rattle.domain.specs.Refusals.{reconstruct_refusal}
use Rattle.settings.specs.declared.BallPivotingConfig.{BallPivotingConfig}
use Rattle.domain.proofs.Accepted.{accepted_reconstruct}
use Rattle.patch.specs.Lay.{Face}
use Rattle.patch.specs.View as view
use Rattle.patch.proofs.View.{length_flat, length_written}
use Rattle.ball_pivoting.specs.Reconstruct.{found, reconstructed, accepted, faces_after}
use Rattle.ball_pivoting.specs.Outcome.{Reconstructs}
use Rattle.ball_pivoting.specs.declared.Patch.{Patch}
use Rattle.ball_pivoting.proofs.Answered.{answered_zero}
use Rattle.listing.specs.Listing.{refusal_text, listed, written_length, listed_length, filled}
use Rattle.listing.proofs.Whole.{listed_long}
use Rattle.std.specs.Prelude.{Option, Some, None}
use Rattle.patch_text.specs.Text.{counts_of, patch_text, laid_text, Prints}

-- the faces' points stand in front of the slice
written_front : (fs : List Face) (slice : List ℕ) → 3 * length fs ≤ length slice → take (3 * length fs) (view.written fs slice) ≡ view.flat fs
unfolding view.written
written_front fs slice h =
    let k : length fs ≤ length slice / 3 = omega arith in
    let all : take (length slice / 3) fs ≡ fs = take_all (length slice / 3) fs k in
    rw (all, sym (length_flat fs)) (take-append_seam (view.flat fs) (drop (length (view.flat fs)) slice))

-- ---- the main call, and what is printed of it
module _ (points normals : List Float) (c : BallPivotingConfig) (faces words : List ℕ) (floats : List Float) (p : Patch) (faces' words' : List ℕ)
    (floats' : List Float) (h : Reconstructs points normals c faces words floats p faces' words' floats') where
  accepts : p.answer ≡ 0 → ((reconstruct_refusal points normals c (length words) (length floats)).answer ≡ 0)
      × ((p.faces ≡ length (found c points).faces) × (3 * length (found c points).faces ≤ length faces))
  unfolding accepted
  accepts z =
      let a = answered_zero points normals c (length faces) (length words) (length floats) p h.result z in
      (a.0, (ap (λ (q : Patch). q.faces) a.1.0, a.1.1))

  pub few_points : p.answer ≡ 0 → length points / 3 ≤ 4096
  few_points z = (accepted_reconstruct points normals c (length words) (length floats) (accepts z).0).cloud.few

  faces_are : p.answer ≡ 0 → faces' ≡ view.written (found c points).faces faces
  unfolding faces_after
  faces_are z = rw (eq-eqb p.answer 0 z) at h.faces_after_lem

  pub faces_inside : p.answer ≡ 0 → 3 * p.faces ≤ length faces'
  faces_inside z = omega (arith, (accepts z).1.0, (accepts z).1.1, ap length (faces_are z), length_written (found c points).faces faces)

  pub faces_front : p.answer ≡ 0 → take (3 * p.faces) faces' ≡ view.flat (found c points).faces
  faces_front z =
      let a = (accepts z).1 in
      ap (λ (k : ℕ). take (3 * k) faces') a.0 ∙ ap (take (3 * length (found c points).faces)) (faces_are z) ∙ written_front (found c points).faces faces
      a.1

  -- the text of the faces in front is the definition's
  pub listed_front : p.answer ≡ 0 → listed (counts_of (length points / 3) p) (take (3 * p.faces) faces') ≡ patch_text (length points / 3) p (found c points)
  unfolding listed patch_text
  listed_front z =
      let e = faces_front z in
      let a = (accepts z).1 in
      let long : 3 * p.faces ≤ length (view.flat (found c points).faces) = omega (arith, a.0, length_flat (found c points).faces) in
      rw (e, eq-eqb p.answer 0 z, le-leb (3 * p.faces) (length (view.flat (found c points).faces)) long)

  pub listed_front_length : p.answer ≡ 0 → (out : List ℕ) → listed_length (counts_of (length points / 3) p) (take (3 * p.faces) faces') out
      ≡ written_length (listed (counts_of (length points / 3) p) (take (3 * p.faces) faces')) out
  listed_front_length z out =
      let e = faces_front z in
      let a = (accepts z).1 in
      let long : 3 * p.faces ≤ length (view.flat (found c points).faces) = omega (arith, a.0, length_flat (found c points).faces) in
      listed_long (counts_of (length points / 3) p) (take (3 * p.faces) faces') out (rw e (omega arith))

  pub refused_text : (p.answer ≡ 0 → ⊥) → refusal_text p.answer p.detail ≡ patch_text (length points / 3) p (found c points)
  unfolding patch_text
  refused_text bad = rw (ne_eqb p.answer 0 bad)

  pub laid_text_lem : (radius : Float) → c ≡ defaults radius → patch_text (length points / 3) p (found c points)
      ≡ laid_text radius (length points / 3) points normals (length faces) (length words) (length floats)
  unfolding laid_text
  laid_text_lem radius e = ap (λ (q : Patch). patch_text (length points / 3) q (found c points)) h.result ∙ ap
      (λ (d : BallPivotingConfig). patch_text (length points / 3) (reconstructed points normals d (length faces) (length words) (length floats))
      (found d points)) e

-- ---- a text written is the text printed
pub prints_as : {t t' out out' : List ℕ} {r : Option ℕ} → t ≡ t' → Prints t out r out' → Prints t' out r out'
prints_as {t} {t'} {out} {out'} {r} e w = subst (λ (u : List ℕ). Prints u out r out') e w

pub prints : {t t' out out' : List ℕ} {r : Option ℕ} → t ≡ t' → (r ≡ written_length t out) × (out' ≡ filled t out) → Prints t' out r out'
prints e w = prints_as e (record { bytes = w.0; holds = w.1 })

-- what is printed is inside the buffer
pub prints_within : {t out out' : List ℕ} {n : ℕ} → Prints t out (Some n) out' → n ≤ length out'
unfolding written_length filled
prints_within {t} {out} {out'} {n} w = go (leb (length t) (length out)) w.bytes w.holds
  where
    go : (fits : Bool) → Some n ≡ cond fits (Some (length t)) None → out' ≡ cond fits (t ++ drop (length t) out) out → n ≤ length out'
    go true e h = let m : n ≡ length t = cc in omega (arith, ap length h, length-append t (drop (length t) out))
    go false e h = cc
