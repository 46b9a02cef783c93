-- `plain::acceptance::is_sound_measured` meets its contract. Assumes nothing.
use mathlib.Core.Path.{sym}
use Rattle.plain.specs.Plain.{sound}
use Rattle.plain.proofs.acceptance.is_sound_measured.Goals as goal

pub returns-then-normal_length : goal.returns-then-normal_length
unfolding sound
returns-then-normal_length c = rw (sym c.normal_length.ensures, c.if-normal_length.true, sym c.compute_circumradius.ensures)

pub returns-else-normal_length : goal.returns-else-normal_length
unfolding sound
returns-else-normal_length c = rw (sym c.normal_length.ensures, c.if-normal_length.false)
