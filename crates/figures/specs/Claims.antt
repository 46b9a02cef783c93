-- What is proved of tallies and figures, over the definitions that the calls' contracts name. Definitions only.
use Rattle.std.specs.Prelude.{◌≡◌, true, List, ◌+◌, ◌*◌, ◌-◌, ◌≤◌, ◌<◌, length}
use Rattle.answers.specs.Answers.{tally_empty}
use Rattle.fractions.specs.Terms.{Lowest}
use Rattle.tally.specs.declared.SeasonPatch.{SeasonPatch}
use Rattle.tally.specs.declared.Tally.{Tally}
use Rattle.figures.specs.declared.Figures.{Figures}
use Rattle.tally.specs.Checks.{max_patches, enterable, sound_tally}
use Rattle.tally.specs.Tallies.{added_to}
use Rattle.figures.specs.Working.{no_figures, figures_of}
use Rattle.figures.specs.Season.{EachPatch, Figured, EmptyTally, after, entered, PatchesReordered, Alike}

-- one addition
pub record Additions : Type 0 where
  -- a refusal changes nothing in the tally
  pub unchanged : (t : Tally) (p : SeasonPatch) → ((added_to t p).answer ≡ 0 → ⊥) → (added_to t p).tally ≡ t
  -- an accepted addition never makes a tally that 24 refuses
  pub taken_again : (t : Tally) (p : SeasonPatch) → (added_to t p).answer ≡ 0 → sound_tally (added_to t p).tally ≡ true

-- the fractions of a tally's figures are in lowest terms, and the variance's difference is not below zero
pub record InLowestTerms (t : Tally) (f : Figures) : Type 0 where
  pub mean : Lowest t.faces t.patches f.mean
  pub spread : t.faces * t.faces ≤ t.patches * t.face_squares
  pub variance :
      Lowest (t.patches * t.face_squares - t.faces * t.faces) (t.patches * t.patches) f.variance
  pub coverage : Lowest t.covered t.scanned f.coverage
  pub best_coverage : Lowest f.best.covered f.best.scanned f.best_coverage
  pub worst_coverage : Lowest f.worst.covered f.worst.scanned f.worst_coverage

-- the figures of any tally that has some
pub record FiguresGiven : Type 0 where
  pub lowest_terms : (t : Tally) → (figures_of t).answer ≡ 0 → InLowestTerms t (figures_of t)

-- a tally that began empty and was changed by additions only, refused ones among them
pub record Seasons : Type 0 where
  -- its figures are those worked out from the list of patches entered
  pub figures : (t : Tally) (calls : List SeasonPatch) → EmptyTally t → 0 < length (entered t calls)
      → Figured (entered t calls) (figures_of (after t calls))
  -- and there are no others
  pub only : (ps : List SeasonPatch) (f g : Figures) → Figured ps f → Figured ps g → f ≡ g
  -- with none entered it is empty
  pub empty : (t : Tally) (calls : List SeasonPatch) → EmptyTally t → length (entered t calls) ≡ 0
      → figures_of (after t calls) ≡ no_figures tally_empty
  -- it is never refused with 24
  pub taken : (t : Tally) (calls : List SeasonPatch) → EmptyTally t → sound_tally (after t calls) ≡ true
  -- in any order of entry the figures are the same but for which of two equally covered patches is named
  pub any_order : (t u : Tally) (calls others : List SeasonPatch) → EmptyTally t → EmptyTally u
      → PatchesReordered (entered t calls) (entered u others) → 0 < length (entered t calls)
      → Alike (figures_of (after t calls)) (figures_of (after u others))
  -- all patches that 20 lets through are entered, as long as there is room
  pub all : (ps : List SeasonPatch) (t : Tally) → sound_tally t ≡ true → EachPatch (λ p. enterable p ≡ true) ps
      → t.patches + length ps ≤ max_patches → entered t ps ≡ ps
