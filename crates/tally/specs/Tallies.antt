-- Adding a patch to a tally. Definitions only.
use Rattle.std.specs.Prelude.{Bool, cond, ℕ, ◌+◌, ◌*◌, ltb, eqb}
use Rattle.answers.specs.Answers.{tally_full, bad_season_patch, bad_tally}
use Rattle.tally.specs.declared.SeasonPatch.{SeasonPatch}
use Rattle.tally.specs.declared.Tally.{Tally}
use Rattle.tally.specs.Checks.{max_patches, enterable, sound_tally}

-- more of a's points are covered than of b's, as fractions, by the cross product
unfoldable pub better : SeasonPatch → SeasonPatch → Bool
better a b = ltb (b.covered * a.scanned) (a.covered * b.scanned)

-- only a strictly better, or a strictly worse, patch takes the place of the one held
unfoldable pub better_patch : SeasonPatch → SeasonPatch → SeasonPatch
better_patch held p = cond (better p held) p held

unfoldable pub worst_of : SeasonPatch → SeasonPatch → SeasonPatch
worst_of held p = cond (better held p) p held

-- the sums with one patch more
unfoldable pub summed : Tally → SeasonPatch → SeasonPatch → SeasonPatch → Tally
summed t p best worst = record {
  patches = t.patches + 1;
  faces = t.faces + p.faces;
  face_squares = t.face_squares + p.faces * p.faces;
  scanned = t.scanned + p.scanned;
  covered = t.covered + p.covered;
  best = best;
  worst = worst;
}

-- the first patch of an empty tally is its best and its worst, whatever stood there
unfoldable pub with_patch : Tally → SeasonPatch → Tally
with_patch t p = cond (eqb t.patches 0) (summed t p p p) (summed t p (better_patch t.best p) (worst_of t.worst p))

-- an answer, 0 if the patch is accepted, and the tally from then on
pub record Added : Type 0 where
  pub answer : ℕ
  pub tally : Tally

abbrev pub answering : ℕ → Tally → Added
answering answer t = record { answer = answer; tally = t }

-- 24 a tally that is not taken, 20 a patch that may not be entered, 19 a full tally; a refusal changes nothing
unfoldable pub added_to : Tally → SeasonPatch → Added
added_to t p =
    cond (sound_tally t)
    (cond (enterable p)
    (cond (ltb t.patches max_patches)
    (answering 0 (with_patch t p))
    (answering tally_full t))
    (answering bad_season_patch t))
    (answering bad_tally t)
