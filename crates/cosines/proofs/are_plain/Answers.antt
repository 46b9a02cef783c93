-- `are_plain` meets its contract.
use Rattle.cosines.specs.Inner.Cosine.{are_plain}
use Rattle.cosines.proofs.are_plain.Goals as goal

pub returns-then-is_plain-2 : goal.returns-then-is_plain-2
unfolding are_plain
returns-then-is_plain-2 c =
    let second = c in
    let first = second in
    rw (← first.is_plain.ensures, second.if-is_plain.true, ← second.is_plain-then-is_plain.ensures, c.if-is_plain-2.true) c.is_plain-then-is_plain-2.ensures

pub returns-else-is_plain-2 : goal.returns-else-is_plain-2
unfolding are_plain
returns-else-is_plain-2 c =
    let second = c in
    let first = second in
    rw (← first.is_plain.ensures, second.if-is_plain.true, ← second.is_plain-then-is_plain.ensures, c.if-is_plain-2.false)

pub returns-else-is_plain : goal.returns-else-is_plain
unfolding are_plain
returns-else-is_plain c = rw (← c.is_plain.ensures, c.if-is_plain.false)
