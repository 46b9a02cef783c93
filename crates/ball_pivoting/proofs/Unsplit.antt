-- The old answer 8 is split in three, and nothing else is changed. Assumes nothing.
use Prim.Native.Nat.{ℕ, ◌/◌, ◌≤◌}
use mathlib.Core.Path.{◌≡◌, refl, sym, ap, ◌∙◌, subst}
use mathlib.Core.Logic.{◌⊎◌, inl, inr, ⊎_elim}
use mathlib.Core.Bool.{Bool, true, false, cond}
use mathlib.Core.List.{List}
use native.Mathlib.Omega.{arith}
use lib.Dec.{eqb, ltb}
use lib.ListN.{length}
use lib.Ieee.{Float}
use borrow.Author.Tests.{ne_eqb}
use Rattle.domain.specs.Refusals.{reconstruct_refusal}
use Rattle.settings.specs.declared.BallPivotingConfig.{BallPivotingConfig}
use Rattle.ball_pivoting.specs.Reconstruct.{radii_of, found, reason, refused, accepted, delivered, reconstructed, faces_after}
use Rattle.ball_pivoting.specs.Unsplit.{reconstructed_unsplit, NoTriangle, Split}
use Rattle.ball_pivoting.specs.declared.Patch.{Patch}
use Rattle.ball_pivoting.proofs.Reasons.{no_other, not_zero, not_nine, reason_is}
use Rattle.ball_pivoting.proofs.Outcome.{reconstruct_early}

module _ (pts normals : List Float) (c : BallPivotingConfig) (room words floats : ℕ) where
  abbrev old : Patch
  old = reconstructed_unsplit pts normals c room words floats

  abbrev new : Patch
  new = reconstructed pts normals c room words floats

  abbrev answer_of : Patch → ℕ
  answer_of p = p.answer

  -- no triangle was found
  abbrev None : Type 0
  None = (old ≡ refused 8 0) × (new ≡ refused (reason c pts) 0)

  -- or the answer is another
  abbrev Other : Type 0
  Other = (new ≡ old) × ((old.answer ≤ 7) ⊎ (old.answer ≡ 9))

  -- the call with an answer for 'no triangle', by the checks, by whether a face is found and by whether the slice is too short
  abbrev told : ℕ → Bool → Bool → Bool → Patch
  told why s t u =
      cond s (cond t (refused why 0) (cond u (refused 9 0) (accepted (found c pts) (radii_of c pts))))
      (refused (reconstruct_refusal pts normals c words floats).answer (reconstruct_refusal pts normals c words floats).detail)

  either_way : None ⊎ Other
  unfolding reconstructed reconstructed_unsplit delivered refused accepted
  either_way =
      let many = length (found c pts).faces in
      go (eqb (reconstruct_refusal pts normals c words floats).answer 0) (eqb many 0) (ltb (room / 3) many) (reconstruct_early pts normals c words floats)
    where
      go : (s t u : Bool) → (reconstruct_refusal pts normals c words floats).answer ≤ 7
          → ((told 8 s t u ≡ refused 8 0) × (told (reason c pts) s t u ≡ refused (reason c pts) 0))
          ⊎ ((told (reason c pts) s t u ≡ told 8 s t u) × (((told 8 s t u).answer ≤ 7) ⊎ ((told 8 s t u).answer ≡ 9)))
      go true true u h = inl (refl, refl)
      go true false true h = inr (refl, inr refl)
      go true false false h = inr (refl, inl (omega arith))
      go false t u h = inr (refl, inl h)

  not_eight : (old.answer ≤ 7) ⊎ (old.answer ≡ 9) → old.answer ≡ 8 → ⊥
  not_eight k h = ⊎_elim (λ (l : old.answer ≤ 7). omega arith) (λ (l : old.answer ≡ 9). omega arith) k

  none_told : None → NoTriangle new.answer
  unfolding refused
  none_told q = subst NoTriangle (sym (ap answer_of q.1)) (reason_is c pts)

  other_told : Other → NoTriangle new.answer → ⊥
  other_told q h =
      let e = ap answer_of q.0 in
      ⊎_elim
      (λ (l : old.answer ≤ 7). no_other new.answer h old.answer (λ z. omega arith) (λ z. omega arith) (λ z. omega arith) e)
      (λ (l : old.answer ≡ 9). not_nine new.answer h (e ∙ l))
      q.1

  slice_none : None → (slice : List ℕ) → faces_after new (found c pts) slice ≡ faces_after old (found c pts) slice
  unfolding refused faces_after
  slice_none q slice = rw
      (q.0, q.1, ne_eqb (reason c pts) 0 (not_zero (reason c pts) (reason_is c pts)), ne_eqb (reason c pts) 9 (not_nine (reason c pts) (reason_is c pts)))

  -- for all input
  pub eight_split : Split pts normals c room words floats old new
  unfolding refused
  eight_split = record {
    old_is = refl;
    new_is = refl;
    exactly = (
      λ h. ⊎_elim none_told (λ (q : Other). absurd (not_eight q.1 h)) either_way,
      λ h. ⊎_elim (λ (q : None). ap answer_of q.0) (λ (q : Other). absurd (other_told q h)) either_way,
    );
    split = λ h. ⊎_elim (λ (q : None). q.1) (λ (q : Other). absurd (not_eight q.1 h)) either_way;
    same = λ h. ⊎_elim (λ (q : None). absurd (h (ap answer_of q.0))) (λ (q : Other). q.0) either_way;
    slice_same = λ slice. ⊎_elim (λ (q : None). slice_none q slice) (λ (q : Other). ap (λ (p : Patch). faces_after p (found c pts) slice) q.0) either_way;
  }
