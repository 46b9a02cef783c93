use borrow.Author.Tests.{lt-ltb, le-ltb}
use Rattle.nearest.proofs.Scanning.{root_taken, root_left, lower_taken, higher_left}
use Rattle.nearest.proofs.settled.Goals as goal

pub returns-then-distance-kept : goal.returns-then-distance-kept
returns-then-distance-kept c =
    root_taken c.args.best c.args.other c.requires.0
    c.requires.1 c.sqrt-kept.ensures c.sqrt-distance.ensures c.if-distance-kept.true

pub returns-then-kept-distance : goal.returns-then-kept-distance
returns-then-kept-distance c =
    root_left c.args.best c.args.other c.requires.0
    c.requires.1 c.sqrt-kept.ensures c.sqrt-distance.ensures c.if-distance-kept.false
    c.if-kept-distance.true

pub returns-then-other-best : goal.returns-then-other-best
returns-then-other-best c =
    lower_taken c.args.best c.args.other
    c.requires.0 c.requires.1
    c.sqrt-kept.ensures c.sqrt-distance.ensures
    c.if-distance-kept.false c.if-kept-distance.false (lt-ltb _ _ c.if-other-best.true)

pub returns : goal.returns
returns c =
    higher_left c.args.best c.args.other
    c.requires.0 c.requires.1
    c.sqrt-kept.ensures c.sqrt-distance.ensures
    c.if-distance-kept.false c.if-kept-distance.false (le-ltb _ _ c.if-other-best.false)
