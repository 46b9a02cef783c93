-- The round trip of the two calls: what `write_stl` left in front of the slice is read as the corners, and written
-- again is the same. Assumes nothing.
use mathlib.Core.Path.{◌≡◌, refl, sym, ap, ◌∙◌, subst}
use mathlib.Core.Bool.{Bool, true, false, not, cond}
use mathlib.Core.List.{List, ◌++◌}
use Prim.Native.Nat.{ℕ, ◌+◌, ◌*◌, ◌/◌, ◌%◌, ◌^◌, ◌≤◌, ◌<◌}
use native.Mathlib.Omega.{arith}
use borrow.Author.Tests.{le-ltb, ltb-false, eqb-true, not-false}
use lib.Dec.{T, ltb, eqb}
use lib.ListN.{length, get_or, take, drop}
use lib.Seq.{take_at}
use lib.Ieee.{Float, nan, binary32, fits}
use Rattle.lists.specs.Lists.{up_from}
use Rattle.ranges.specs.Range.{first_outside, farthest}
use Rattle.facets.specs.Format.{stl, facet_count, corners, patch_corners}
use Rattle.facets.specs.Known.{all_below, NamesPoints}
use Rattle.stl_file.specs.Answers.{not_written, stl_outcome, Wrote, stl_found, Got}
use Rattle.stl_file.specs.declared.StlWritten.{StlWritten}
use Rattle.stl_file.specs.declared.StlRead.{StlRead}
use Rattle.facets.proofs.Puts.{stl_length}
use Rattle.stl_file.proofs.RoundTrip.{counted, accepted, read_back, same_again}
use Rattle.facets.proofs.Below.{below_known}
use Rattle.stl_file.proofs.Again.{again_accepted}

module _ (points : List Float) (faces : List ℕ) (small : length faces / 3 < 2 ^ 32) (held : (k : ℕ) → T (fits binary32 (get_or points k nan))) where
  -- reading the file into a slice with room for it
  pub read_of_written : (slice after : List Float) (told : StlRead) → 9 * (length faces / 3) ≤ length slice → Got (stl points faces) slice told after
      → (told ≡ record { answer = 0; detail = 0; faces = length faces / 3 }) × (after ≡ patch_corners points faces ++ drop (9 * (length faces / 3)) slice)
  unfolding stl_found
  read_of_written slice after told room got =
      let n = length faces / 3 in
      let whole = accepted points faces small in
      let says = counted points faces small in
      let fits_in : ltb (length slice) (9 * facet_count (stl points faces))
      ≡ false = ap (λ (k : ℕ). ltb (length slice) (9 * k)) says ∙ le-ltb (length slice) (9 * n) room in
      let is : told ≡ record { answer = 0; detail = 0; faces = n } = got.answer_is ∙ rw (whole, fits_in, says) in (
        is,
        got.after_is ∙ ap (λ (t : StlRead). cond (eqb t.answer 0) (corners (stl points faces) ++ drop (9 * t.faces) slice) slice) is ∙ ap
            (λ (l : List Float). l ++ drop (9 * n) slice) (read_back points faces held small),
      )

-- ---- an answer 0 is the last of the checks
abbrev told_of : Bool → Bool → Bool → Bool → Bool → Bool → ℕ → ℕ → StlWritten
told_of a b c d e f bad size =
    cond a (not_written 2 0)
    (cond b (not_written 2 0)
    (cond c (not_written 3 0)
    (cond d (not_written 4 bad) (cond e (not_written 14 0) (cond f (not_written 13 0) (record { answer = 0; detail = 0; length = size }))))))

settled : (a b c d e f : Bool) (bad size : ℕ) → (told_of a b c d e f bad size).answer ≡ 0 → (a ≡ false) × (c ≡ false) × (d ≡ false) × (e ≡ false)
    × ((told_of a b c d e f bad size).length ≡ size)
settled true b c d e f bad size h = absurd (omega (arith, h))
settled false true c d e f bad size h = absurd (omega (arith, h))
settled false false true d e f bad size h = absurd (omega (arith, h))
settled false false false true e f bad size h = absurd (omega (arith, h))
settled false false false false true f bad size h = absurd (omega (arith, h))
settled false false false false false true bad size h = absurd (omega (arith, h))
settled false false false false false false bad size h = (refl, refl, refl, refl, refl)

module _ (points : List Float) (faces bytes after : List ℕ) (told : StlWritten) (w : Wrote points faces bytes told after) (good : told.answer ≡ 0) where
  pub accepted_patch : (length points % 3 ≡ 0) × (length faces / 3 ≤ 1000000) × (length points / 3 ≤ first_outside farthest points) × NamesPoints points faces
      × (told.length ≡ 84 + 50 * (length faces / 3))
  unfolding stl_outcome
  accepted_patch =
      let is = w.answer_is in
      let n = length faces / 3 in
      let s = settled (not (eqb (length points % 3) 0)) (not (eqb (length faces % 3) 0)) (ltb 1000000 n)
      (ltb (first_outside farthest points) (length points / 3)) (not (all_below (length points / 3) faces)) (ltb (length bytes) (84 + 50 * n))
      (first_outside farthest points) (84 + 50 * n) (ap (λ (t : StlWritten). t.answer) (sym is) ∙ good) in (
        eqb-true (length points % 3) 0 (not-false (eqb (length points % 3) 0) s.0),
        ltb-false 1000000 n s.1,
        ltb-false (first_outside farthest points) (length points / 3) s.2,
        below_known points faces (not-false (all_below (length points / 3) faces) s.3),
        ap (λ (t : StlWritten). t.length) is ∙ s.4,
      )

  pub few : length faces / 3 ≤ 1000000
  few = accepted_patch.1

  -- the bytes in front of the slice are the file
  pub front_is_file : take told.length after ≡ stl points faces
  front_is_file =
      let is : after ≡ stl points faces
      ++ drop told.length bytes = w.after_is ∙ ap (λ (a : ℕ). cond (eqb a 0) (stl points faces ++ drop told.length bytes) bytes) good in
      ap (take told.length) is ∙ take_at (stl points faces) (drop told.length bytes) told.length (stl_length points faces ∙ sym accepted_patch.4)

  -- READING WHAT A CALL WROTE: accepted, and the corners of the faces, bit for bit and in order
  pub call_read_back : (slice corners-after : List Float) (read : StlRead) → 9 * (length faces / 3) ≤ length slice
      → Got (take told.length after) slice read corners-after
      → (read ≡ record { answer = 0; detail = 0; faces = length faces / 3 })
      × (corners-after ≡ patch_corners points faces ++ drop (9 * (length faces / 3)) slice)
  call_read_back slice corners-after read room got =
      let f = few in
      read_of_written points faces (omega arith) w.coordinates slice corners-after read room
      (subst (λ (l : List ℕ). Got l slice read corners-after) front_is_file got)

-- WRITING THOSE CORNERS AGAIN, into a slice with room, is accepted and gives the same bytes
pub call_same_again : (points : List Float) (faces bytes after : List ℕ) (told : StlWritten) → Wrote points faces bytes told after → told.answer ≡ 0
    → (bytes₂ after₂ : List ℕ) (told₂ : StlWritten) → 84 + 50 * (length faces / 3) ≤ length bytes₂
    → Wrote (patch_corners points faces) (up_from 0 (3 * (length faces / 3))) bytes₂ told₂ after₂
    → (told₂.answer ≡ 0) × (take told₂.length after₂ ≡ take told.length after)
call_same_again points faces bytes after told w good bytes₂ after₂ told₂ room w₂ =
    let a = accepted_patch points faces bytes after told w good in
    let good₂ : told₂.answer
    ≡ 0 = ap (λ (t : StlWritten). t.answer) (w₂.answer_is ∙ again_accepted points faces a.0 a.2 a.3 a.1 (length bytes₂) room) in (
      good₂,
      front_is_file (patch_corners points faces) (up_from 0 (3 * (length faces / 3))) bytes₂ after₂ told₂ w₂ good₂ ∙ same_again points faces ∙ sym
          (front_is_file points faces bytes after told w good),
    )
