-- `tally::checks::is_sound` meets its contract: the sums within their limits keep each product below 2^64. Assumes
-- nothing.
use mathlib.Core.Path.{sym, ◌∙◌}
use borrow.Author.Tests.{le-leb, lt-leb, eq-eqb, ne_eqb}
use native.Mathlib.Omega.{arith}
use Rattle.tally.specs.Checks.{sound_tally}
use Rattle.tally.proofs.Told.{within_told, squares_fit, faces_fit}
use Rattle.tally.proofs.checks.is_sound.Goals as goal

pub returns-then-not-is_within : goal.returns-then-not-is_within
unfolding sound_tally
returns-then-not-is_within c = rw (← c.is_within.ensures, c.if-not-is_within.true)

pub overflow_mul-tally : goal.overflow_mul-tally
overflow_mul-tally c =
    let w = within_told _ (sym c.is_within.ensures ∙ c.if-not-is_within.false) in
    record { fits = omega (arith, squares_fit _ w) }

pub overflow_mul-tally-2 : goal.overflow_mul-tally-2
overflow_mul-tally-2 c =
    let w = within_told _
    (sym c.is_within.ensures ∙ c.if-not-is_within.false) in
    record { fits = omega (arith, faces_fit _ w) }

pub returns-then-tally : goal.returns-then-tally
unfolding sound_tally
returns-then-tally c =
    let is_within_lem = c.is_within in
    rw (← is_within_lem.ensures, c.if-not-is_within.false, lt-leb _ _ c.if-tally.true)

pub returns-then-tally-eq0 : goal.returns-then-tally-eq0
unfolding sound_tally
returns-then-tally-eq0 c =
    let if1 = c.if-not-is_within in
    let is_within_lem = c.is_within in
    rw (← is_within_lem.ensures, if1.false, le-leb _ _ c.if-tally.false, eq-eqb _ _ c.if-tally-eq0.true)

pub returns-then-is_enterable : goal.returns-then-is_enterable
unfolding sound_tally
returns-then-is_enterable c =
    let if2 = c.if-tally in
    let if1 = c.if-not-is_within in
    let is_within_lem = c.is_within in
    rw (
      ← is_within_lem.ensures,
      if1.false,
      le-leb _ _ if2.false,
      ne_eqb _ _ c.if-tally-eq0.false,
      ← c.is_enterable.ensures,
      c.if-is_enterable.true,
      ← c.is_enterable-then-is_enterable.ensures,
    )

pub returns-else-is_enterable : goal.returns-else-is_enterable
unfolding sound_tally
returns-else-is_enterable c =
    let if2 = c.if-tally in
    let if1 = c.if-not-is_within in
    let is_within_lem = c.is_within in
    rw (
      ← is_within_lem.ensures,
      if1.false,
      le-leb _ _ if2.false,
      ne_eqb _ _ c.if-tally-eq0.false,
      ← c.is_enterable.ensures,
      c.if-is_enterable.false,
    )
