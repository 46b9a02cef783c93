-- The slices have the program's lengths. Assumes nothing.
use Rattle.patch_text.specs.Text.{printed}
use Rattle.patch_text.proofs.Room.{prints_file}
use Rattle.patch_text.proofs.program_text.Goals as goal

pub returns : goal.returns
unfolding printed
returns c = prints_file _ _ _ _ c.lay_text.ensures
