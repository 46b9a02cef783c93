-- The whole call beside the source's: the same where the source finds no face of area zero; where its call is accepted
-- with one, the result or the face slice differs. So the claim holds (`arealess`). Assumes nothing.
use Prim.Native.Nat.{ℕ, ◌*◌, ◌/◌, ◌≤◌, ◌<◌}
use mathlib.Core.Path.{◌≡◌, refl, sym, ap, ◌∙◌}
use mathlib.Core.Logic.{◌≢◌}
use mathlib.Core.Bool.{Bool, true, false, cond}
use mathlib.Core.List.{List, [], ◌∷◌}
use native.Mathlib.Omega.{arith}
use lib.Dec.{eqb, ltb}
use borrow.Author.Tests.{eq-eqb, eqb-false, ltb-false}
use lib.ListN.{length, take, drop}
use lib.Seq.{take_all, take_at}
use lib.Ieee.{Float}
use Rattle.settings.specs.declared.BallPivotingConfig.{BallPivotingConfig}
use Rattle.domain.specs.Refusals.{reconstruct_refusal}
use Rattle.patch.specs.Lay.{Face, face}
use Rattle.patch.specs.View.{flat, written}
use Rattle.patch.proofs.View.{length_flat}
use Rattle.ball_pivoting.specs.Reconstruct.{radii_of, Found, found, refused, accepted, delivered, reconstructed, faces_after, point_count, judged_at, reason_by}
use Rattle.ball_pivoting.specs.Reconstruct.{reason}
use Rattle.ball_pivoting.specs.declared.Patch.{Patch}
use Rattle.arealess.specs.Source.{source_found, source_reconstructed}
use Rattle.arealess.specs.Arealess.{source_zeros, CallBeside, Arealess}
use Rattle.arealess.proofs.Claim.{beside, from_seeds}

-- ---- faces are told by the slice that they stand in
head_of : List ℕ → ℕ
head_of [] = 0
head_of (x ∷ xs) = x

tail_of : List ℕ → List ℕ
tail_of [] = []
tail_of (x ∷ xs) = xs

flat_injective : (fs gs : List Face) → flat fs ≡ flat gs → fs ≡ gs
unfolding flat head_of tail_of
flat_injective [] [] e = refl
flat_injective [] (g ∷ gs) e = absurd (omega (arith, ap length e))
flat_injective (f ∷ fs) [] e = absurd (omega (arith, ap length e))
flat_injective (f ∷ fs) (g ∷ gs) e =
    let a = ap head_of e in
    let b = ap (λ (l : List ℕ). head_of (tail_of l)) e in
    let c = ap (λ (l : List ℕ). head_of (tail_of (tail_of l))) e in
    let d = flat_injective fs gs (ap (λ (l : List ℕ). tail_of (tail_of (tail_of l))) e) in
    λ i. face (a i) (b i) (c i) ∷ d i

written_front : (fs : List Face) (slice : List ℕ) → length fs ≤ length slice / 3 → take (3 * length fs) (written fs slice) ≡ flat fs
unfolding written
written_front fs slice h =
    let front = flat (take (length slice / 3) fs) in
    let e : front ≡ flat fs = ap flat (take_all (length slice / 3) fs h) in
    take_at front (drop (length front) slice) (3 * length fs) (ap length e ∙ length_flat fs) ∙ e

written_injective : (fs gs : List Face) (slice : List ℕ) → length fs ≤ length slice / 3 → length gs ≡ length fs → written gs slice ≡ written fs slice → gs ≡ fs
written_injective fs gs slice h l e =
    flat_injective gs fs (
    sym (written_front gs slice (omega arith))
    ∙ ap (λ (k : ℕ). take (3 * k) (written gs slice)) l
    ∙ ap (take (3 * length fs)) e
    ∙ written_front fs slice h)

-- ---- accepted calls
record Taken (f : Found) (p : Patch) (room : ℕ) : Type 0 where
  fit : length f.faces ≤ room / 3
  as_many : p.faces ≡ length f.faces

-- a reason is never 0
reason_some : (c : BallPivotingConfig) (pts : List Float) → 0 < reason c pts
unfolding reason reason_by
reason_some c pts = go (ltb (point_count pts) 3) (judged_at c pts (radii_of c pts))
  where
    go : (few judged : Bool) → 0 < cond few 8 (cond judged 16 15)
    go true j = omega arith
    go false true = omega arith
    go false false = omega arith

delivered_taken : (why : ℕ) (f : Found) (rs : List Float) (room : ℕ) → 0 < why → (delivered why f rs room).answer ≡ 0 → Taken f (delivered why f rs room) room
unfolding delivered refused accepted
delivered_taken why f rs room some h = go (eqb (length f.faces) 0) (ltb (room / 3) (length f.faces)) refl h
  where
    go : (s t : Bool) → ltb (room / 3) (length f.faces) ≡ t → (cond s (refused why 0) (cond t (refused 9 0) (accepted f rs))).answer ≡ 0
        → Taken f (cond s (refused why 0) (cond t (refused 9 0) (accepted f rs))) room
    go true t e h = absurd (omega arith)
    go false true e h = absurd (omega arith)
    go false false e h = record { fit = ltb-false (room / 3) (length f.faces) e; as_many = refl }

module _ (pts normals : List Float) (c : BallPivotingConfig) (words floats : ℕ) (slice : List ℕ) where
  abbrev theirs : Patch
  theirs = source_reconstructed pts normals c (length slice) words floats

  abbrev ours : Patch
  ours = reconstructed pts normals c (length slice) words floats

  -- the call, by what is found and whether the checks pass
  abbrev called : Found → Bool → Patch
  called f s = cond s (delivered (reason c pts) f (radii_of c pts) (length slice))
      (refused (reconstruct_refusal pts normals c words floats).answer (reconstruct_refusal pts normals c words floats).detail)

  taken : (f : Found) → (called f (eqb (reconstruct_refusal pts normals c words floats).answer 0)).answer ≡ 0
      → Taken f (called f (eqb (reconstruct_refusal pts normals c words floats).answer 0)) (length slice)
  unfolding refused
  taken f h = go (eqb (reconstruct_refusal pts normals c words floats).answer 0) refl h
    where
      go : (s : Bool) → eqb (reconstruct_refusal pts normals c words floats).answer 0 ≡ s → (called f s).answer ≡ 0 → Taken f (called f s) (length slice)
      go true q k = delivered_taken (reason c pts) f (radii_of c pts) (length slice) (reason_some c pts) k
      go false q k = absurd (eqb-false (reconstruct_refusal pts normals c words floats).answer 0 q k)

  after : (f : Found) (p : Patch) → p.answer ≡ 0 → faces_after p f slice ≡ written f.faces slice
  unfolding faces_after
  after f p h = rw (eq-eqb p.answer 0 h)

  same : source_zeros c pts ≡ 0 → ours ≡ theirs
  unfolding reconstructed source_reconstructed
  same h = ap (λ (f : Found). called f (eqb (reconstruct_refusal pts normals c words floats).answer 0)) ((beside c pts).same h)

  differs : theirs.answer ≡ 0 → 1 ≤ source_zeros c pts → ours ≡ theirs → faces_after ours (found c pts) slice ≢ faces_after theirs (source_found c pts) slice
  unfolding reconstructed source_reconstructed
  differs h m equal slices =
      let hn : ours.answer ≡ 0 = ap (λ (p : Patch). p.answer) equal ∙ h in
      let a = taken (source_found c pts) h in
      let b = taken (found c pts) hn in
      let l : length (found c pts).faces ≡ length (source_found c pts).faces = sym b.as_many ∙ ap (λ (p : Patch). p.faces) equal ∙ a.as_many in
      let w = sym (after (found c pts) ours hn) ∙ slices ∙ after (source_found c pts) theirs h in
      (beside c pts).differs m (written_injective (source_found c pts).faces (found c pts).faces slice a.fit l w)

  pub call_beside : CallBeside c pts normals words floats slice
  call_beside = record { same = same; slice_same = λ h i. faces_after (same h i) ((beside c pts).same h i) slice; differs = differs }

pub arealess : Arealess
arealess c pts = (beside c pts, from_seeds c pts, λ normals words floats slice. call_beside pts normals c words floats slice)
