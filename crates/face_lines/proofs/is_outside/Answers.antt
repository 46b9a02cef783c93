-- `face_lines::is_outside` meets its contract: the tests are those of `outside`. Assumes nothing.
use native.Mathlib.Omega.{arith}
use Rattle.std.proofs.lemmas.Bool.Decides.{nat_tests}
use Rattle.face_lines.specs.Format.{outside}
use Rattle.face_lines.proofs.is_outside.Goals as goal

pub returns-then-n-b : goal.returns-then-n-b
unfolding outside
returns-then-n-b c = grind (arith, nat_tests)

pub returns-else-n-b : goal.returns-else-n-b
unfolding outside
returns-else-n-b c = grind (arith, nat_tests)
