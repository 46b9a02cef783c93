use Rattle.nearest.specs.Scan.{length_to}
use Rattle.nearest.proofs.Scanning.{Left}
use Rattle.nearest.proofs.scan.Given as goal

abbrev pub invariant-loop-number : goal.invariant-loop-number
invariant-loop-number l = Left (length_to l.points l.spot) l.order l.initial.found l.number-index l.found
