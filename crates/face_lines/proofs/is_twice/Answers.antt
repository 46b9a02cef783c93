-- `face_lines::is_twice` meets its contract: the tests are those of `twice`. Assumes nothing.
use native.Mathlib.Omega.{arith}
use Rattle.std.proofs.lemmas.Bool.Decides.{nat_tests}
use Rattle.face_lines.specs.Format.{twice}
use Rattle.face_lines.proofs.is_twice.Goals as goal

pub returns-then-b-c : goal.returns-then-b-c
unfolding twice
returns-then-b-c c = grind (arith, nat_tests)

pub returns-else-b-c : goal.returns-else-b-c
unfolding twice
returns-else-b-c c = grind (arith, nat_tests)
