-- `settings::all_in_range` meets its contract. The loop's invariant: no slot passed is outside. Assumes nothing.
use borrow.Author.Tests.{lt-leb, le-leb}
use Rattle.ranges.proofs.Range.{leading_found, leading_passed}
use Rattle.ranges.specs.Range.{leading}
use Rattle.settings.specs.Settings.{list_inside}
use native.Mathlib.Omega.{arith}
use Rattle.settings.proofs.all_in_range.Goals as goal

pub returns-then-count-gt8 : goal.returns-then-count-gt8
unfolding list_inside
returns-then-count-gt8 c = rw (lt-leb c.args.count 8 c.if-count-gt8.true)

pub returns-then-not-in_range : goal.returns-then-not-in_range
unfolding list_inside
returns-then-not-in_range c =
    let l = c.loop-k in
    let s = c.args in
    let e = leading_found _ _ _ l.k _ c.in_range.ensures l.invariant (c.if-not-in_range.true) in
    rw (le-leb s.count 8 c.if-count-gt8.false, lt-leb s.count (leading s.lo s.hi s.xs) (omega arith))

pub loop-k-preserved : goal.loop-k-preserved
loop-k-preserved c =
    let l = c.loop-k in
    leading_passed _ _ _ l.k _ c.in_range.ensures l.invariant (c.if-not-in_range.false)

pub returns : goal.returns
unfolding list_inside
returns c =
    let l = c.loop-k in
    let s = c.args in
    rw (le-leb s.count 8 c.if-count-gt8.false, le-leb s.count (leading s.lo s.hi s.xs) (omega arith))
