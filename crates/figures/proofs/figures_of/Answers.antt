-- `figures::figures_of` meets its contract. Assumes nothing.
use mathlib.Core.Path.{sym, ◌∙◌}
use borrow.Author.Tests.{eq-eqb, ne_eqb}
use Rattle.figures.specs.Working.{figures_of}
use Rattle.tally.proofs.Told.{sound_told, above_none}
use Rattle.figures.proofs.figures_of.Goals as goal

pub returns-then-not-is_sound : goal.returns-then-not-is_sound
unfolding figures_of
returns-then-not-is_sound c = rw (← c.is_sound.ensures, c.if-not-is_sound.true, c.no_figures.ensures)

pub returns-then-tally-eq0 : goal.returns-then-tally-eq0
unfolding figures_of
returns-then-tally-eq0 c =
    rw (
      ← c.is_sound.ensures,
      c.if-not-is_sound.false,
      eq-eqb _ _ c.if-tally-eq0.true,
      c.no_figures-then-tally-eq0.ensures,
    )

pub sound_figures-requires : goal.sound_figures-requires
sound_figures-requires c = (
  sound_told _ (sym c.is_sound.ensures ∙ c.if-not-is_sound.false),
  above_none _ c.if-tally-eq0.false,
)

pub returns : goal.returns
unfolding figures_of
returns c =
    rw (
      ← c.is_sound.ensures,
      c.if-not-is_sound.false,
      ne_eqb _ _ c.if-tally-eq0.false,
      c.sound_figures.ensures,
    )
