-- `known_from` meets its contract. Assumes nothing.
use mathlib.Core.Path.{refl}
use native.Mathlib.Omega.{arith}
use Rattle.lists.proofs.Bools.{true_not_false}
use Rattle.seed.proofs.triples.known_from.Goals as goal

pub returns-then-seedless : goal.returns-then-seedless
returns-then-seedless c = record { inside = omega (arith, c.requires.0); same = λ _. refl; next = λ h. absurd (true_not_false c.if-seedless.true h) }

pub returns : goal.returns
returns c = record { inside = omega arith; same = λ h. absurd (true_not_false h c.if-seedless.false); next = λ _. refl }
