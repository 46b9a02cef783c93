-- What is found comes back as the definition says: nothing, too much, or the faces. Assumes nothing.
use Prim.Native.Nat.{ℕ, ◌-◌, ◌/◌, ◌≤◌, ◌<◌}
use mathlib.Core.Path.{◌≡◌, sym, ap, ◌∙◌, subst}
use mathlib.Core.List.{List, [], ◌∷◌, ◌++◌}
use native.Mathlib.Omega.{arith}
use lib.ListN.{length, drop, replicate, take-append-drop}
use lib.Ieee.{Float}
use borrow.Author.Tests.{eq-eqb, ne_eqb, lt-ltb, le-ltb}
use Rattle.numbers.specs.Rounded.{f32}
use Rattle.patch.specs.Lay.{Face}
use Rattle.patch.specs.View.{written}
use Rattle.patch.proofs.View.{written_none, length_written}
use Rattle.radii.specs.Inner.Steps.{RadiiListed}
use Rattle.radii.specs.declared.Radii.{Radii}
use Rattle.ball_pivoting.specs.Reconstruct.{Found, slots, refused, accepted, delivered, faces_after}
use Rattle.ball_pivoting.specs.Unsplit.{NoTriangle}
use Rattle.ball_pivoting.specs.Inner.Parts.{accepted_by, Finds}
use Rattle.ball_pivoting.specs.declared.Finding.{Finding}
use Rattle.ball_pivoting.specs.declared.Patch.{Patch}
use Rattle.ball_pivoting.proofs.Reasons.{not_zero, not_nine}

no_faces : (fs : List Face) (slice : List ℕ) → length fs ≡ 0 → written fs slice ≡ slice
no_faces [] slice e = written_none slice
no_faces (f ∷ fs) slice e = absurd (omega arith)

-- the radii fill the first slots
pub listed_slots : (rs : List Float) (r : Radii) → RadiiListed rs r → r.list ≡ slots rs
unfolding slots
listed_slots rs r h =
    sym (take-append-drop r.count r.list)
    ∙ ap (λ (l : List Float). l ++ drop r.count r.list) h.kept
    ∙ ap (λ (l : List Float). rs ++ l) h.zeros
    ∙ ap (λ (k : ℕ). rs ++ replicate (17 - k) (f32 0)) h.counted

module _ (why : ℕ) (f : Found) (rs : List Float) (ms lent slice : List ℕ) (r : Finding) (named : NoTriangle why) (h : Finds why f rs ms lent r slice) where
  room : length slice ≡ length lent
  room = ap length h.written_in ∙ length_written f.faces lent

  pub delivers_none : (p : Patch) → p ≡ refused r.reason 0 → r.faces ≡ 0 → (p ≡ delivered why f rs (length lent)) × (slice ≡ faces_after p f lent)
  unfolding delivered faces_after refused
  delivers_none p e nothing =
      let none : length f.faces ≡ 0 = sym h.faces ∙ nothing in
      let is : p ≡ refused why 0 = e ∙ ap (λ (x : ℕ). refused x 0) (h.reason nothing) in (
        rw (eq-eqb (length f.faces) 0 none) is,
        rw (is, ne_eqb why 0 (not_zero why named), ne_eqb why 9 (not_nine why named))
            (h.written_in ∙ no_faces f.faces lent none),
      )

  pub delivers_over : (p : Patch) (back : List ℕ) → p ≡ refused 9 0 → back ≡ replicate (length slice) 0 → (r.faces ≡ 0 → ⊥) → length slice / 3 < r.faces
      → (p ≡ delivered why f rs (length lent)) × (back ≡ faces_after p f lent)
  unfolding delivered faces_after refused
  delivers_over p back e cleared some over =
      let more : length lent / 3 < length f.faces = subst (λ (k : ℕ). k / 3 < length f.faces) room
      (subst (λ (k : ℕ). length slice / 3 < k) h.faces over) in
      let not_none : length f.faces ≡ 0 → ⊥ = λ q. some (h.faces ∙ q) in
      (rw (ne_eqb (length f.faces) 0 not_none, lt-ltb (length lent / 3) (length f.faces) more) e, rw e (cleared ∙ ap (λ (k : ℕ). replicate k 0) room))

  pub delivers_faces : (r.faces ≡ 0 → ⊥) → r.faces ≤ length slice / 3 → (p : Patch) → p ≡ accepted_by r → (p ≡ delivered why f rs (length lent))
      × (slice ≡ faces_after p f lent)
  unfolding delivered faces_after accepted accepted_by
  delivers_faces some fit p e =
      let fits : length f.faces ≤ length lent / 3 = subst (λ (k : ℕ). length f.faces ≤ k / 3) room
      (subst (λ (k : ℕ). k ≤ length slice / 3) h.faces fit) in
      let not_none : length f.faces ≡ 0 → ⊥ = λ q. some (h.faces ∙ q) in
      let same : p ≡ accepted f rs = cc (h.faces, h.seeds, h.looks, h.pivots, h.radii.counted, listed_slots rs r.radii h.radii) in
      (rw (ne_eqb (length f.faces) 0 not_none, le-ltb (length lent / 3) (length f.faces) fits) same, rw e h.written_in)
