-- `radii::nearest::tenth` meets its contract. Assumes nothing.
use borrow.Author.Tests.{eq-eqb, ne_eqb}
use Rattle.numbers.proofs.Compare.{infinite}
use Rattle.neighbor_squares.specs.Inner.Squares.{tenth_of}
use Rattle.neighbor_squares.proofs.tenth.Goals as goal

pub returns-then-kept-eq10 : goal.returns-then-kept-eq10
unfolding tenth_of
returns-then-kept-eq10 c = rw (eq-eqb c.args.kept 10 c.if-kept-eq10.true)

pub returns-else-kept-eq10 : goal.returns-else-kept-eq10
unfolding tenth_of
returns-else-kept-eq10 c = rw (ne_eqb c.args.kept 10 c.if-kept-eq10.false) infinite
