-- `is_refused` meets its contract. Assumes nothing.
use Rattle.filters.specs.Inner.Refused.{small, large, far, thin}
use Rattle.filters.proofs.is_refused.Goals as goal

pub returns-then-last-l : goal.returns-then-last-l
returns-then-last-l c = λ h. far (rw (← c.distance_squared-last.ensures, c.if-last-l.true) tt)

pub returns-then-cross-l : goal.returns-then-cross-l
returns-then-cross-l c = λ h. small (rw (← c.cross_squared-cross.ensures, c.if-cross-l.true) tt)

pub returns-then-cross-l-2 : goal.returns-then-cross-l-2
returns-then-cross-l-2 c = λ h. large (rw (← c.cross_squared-cross.ensures, c.if-cross-l-2.true) tt)

pub returns : goal.returns
returns c =
    let x = c in
    λ h. thin (rw (
      ← x.cross_squared-cross.ensures,
      ← x.distance_squared-last.ensures,
      ← c.distance_squared-first.ensures,
      ← c.distance_squared.ensures,
    ) (c.is_thin.ensures h).own)
