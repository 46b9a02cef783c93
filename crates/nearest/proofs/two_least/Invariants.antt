use Rattle.nearest.specs.Least.{square_to}
use Rattle.nearest.proofs.Settling.{Seen}
use Rattle.nearest.proofs.two_least.Given as goal

abbrev pub invariant-loop-number : goal.invariant-loop-number
invariant-loop-number l = Seen (square_to l.points l.spot) l.order l.number-index l.least
