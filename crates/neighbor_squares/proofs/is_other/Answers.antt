-- `is_other` meets its contract. Assumes nothing.
use borrow.Author.Tests.{eq-eqb, ne_eqb}
use Rattle.neighbor_squares.specs.Inner.Squares.{is_neighbor_cell}
use Rattle.neighbor_squares.proofs.is_other.Goals as goal

pub returns-then-j-i : goal.returns-then-j-i
unfolding is_neighbor_cell
returns-then-j-i c = rw (ne_eqb c.args.j c.args.i c.if-j-i.true) c.is_near.ensures

pub returns-else-j-i : goal.returns-else-j-i
returns-else-j-i c = rw (eq-eqb c.args.j c.args.i c.if-j-i.false)
