-- `added` meets its contract: each way out is a case of the definition, in its order, and the last two differ in
-- whether there is a best and a worst to compare with. Assumes nothing.
use mathlib.Core.Path.{sym, ap, ◌∙◌}
use borrow.Author.Tests.{lt-ltb, le-ltb, eq-eqb, ne_eqb}
use Rattle.std.specs.Prelude.{Ok}
use Rattle.tally.specs.Tallies.{with_patch, added_to}
use Rattle.tally.proofs.Told.{sound_told, enterable_told}
use Rattle.tally.proofs.added.Goals as goal

pub returns-then-not-is_sound : goal.returns-then-not-is_sound
unfolding added_to
returns-then-not-is_sound c =
    (rw (← c.is_sound.ensures, c.if-not-is_sound.true), rw (← c.is_sound.ensures, c.if-not-is_sound.true))

pub returns-then-not-is_enterable : goal.returns-then-not-is_enterable
unfolding added_to
returns-then-not-is_enterable c = (
  rw (← c.is_sound.ensures, c.if-not-is_sound.false, ← c.is_enterable.ensures, c.if-not-is_enterable.true),
  rw (← c.is_sound.ensures, c.if-not-is_sound.false, ← c.is_enterable.ensures, c.if-not-is_enterable.true),
)

pub returns-then-tally-ge-MAX_PATCHES : goal.returns-then-tally-ge-MAX_PATCHES
unfolding added_to
returns-then-tally-ge-MAX_PATCHES c =
    let full = le-ltb _ _ c.if-tally-ge-MAX_PATCHES.true in (
      rw (← c.is_sound.ensures, c.if-not-is_sound.false, ← c.is_enterable.ensures, c.if-not-is_enterable.false, full),
      rw (← c.is_sound.ensures, c.if-not-is_sound.false, ← c.is_enterable.ensures, c.if-not-is_enterable.false, full),
    )

pub summed-requires : goal.summed-requires
summed-requires c = (
  record {
    sums = (sound_told _ (sym c.is_sound.ensures ∙ c.if-not-is_sound.false)).sums;
    more = c.if-tally-ge-MAX_PATCHES.false;
  },
  enterable_told _ (sym c.is_enterable.ensures ∙ c.if-not-is_enterable.false),
)

pub returns-then-tally-eq0 : goal.returns-then-tally-eq0
unfolding added_to with_patch
returns-then-tally-eq0 c = (
  rw (
    ← c.is_sound.ensures,
    c.if-not-is_sound.false,
    ← c.is_enterable.ensures,
    c.if-not-is_enterable.false,
    lt-ltb _ _ c.if-tally-ge-MAX_PATCHES.false,
    eq-eqb _ _ c.if-tally-eq0.true,
  )
      (ap Ok c.summed.ensures),
  tt,
)

pub summed-requires-2 : goal.summed-requires-2
summed-requires-2 c = (
  record {
    sums = (sound_told _ (sym c.is_sound.ensures ∙ c.if-not-is_sound.false)).sums;
    more = c.if-tally-ge-MAX_PATCHES.false;
  },
  enterable_told _ (sym c.is_enterable.ensures ∙ c.if-not-is_enterable.false),
)

pub returns : goal.returns
unfolding added_to with_patch
returns c = (
  rw (
    ← c.is_sound.ensures,
    c.if-not-is_sound.false,
    ← c.is_enterable.ensures,
    c.if-not-is_enterable.false,
    lt-ltb _ _ c.if-tally-ge-MAX_PATCHES.false,
    ne_eqb _ _ c.if-tally-eq0.false,
    ← c.best_of.ensures,
    ← c.worst_of.ensures,
  )
      (ap Ok c.summed-2.ensures),
  tt,
)
