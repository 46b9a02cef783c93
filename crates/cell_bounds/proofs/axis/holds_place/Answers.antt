-- `cell_bounds::axis::holds_place` meets its contract. Assumes nothing.
use mathlib.Core.Path.{◌≡◌, sym, ◌∙◌}
use mathlib.Core.Bool.{true, false}
use Rattle.cell_bounds.specs.Inner.Axis.{ordinary, holds_place}
use Rattle.cell_bounds.proofs.axis.holds_place.Goals as goal

pub returns-then-lo-v : goal.returns-then-lo-v
unfolding holds_place
returns-then-lo-v c =
    let lo : ordinary c.args.lo ≡ true = sym c.is_ordinary.ensures ∙ c.if-is_ordinary.true in
    let hi : ordinary c.args.hi ≡ true = sym c.is_ordinary-then-is_ordinary.ensures ∙ c.if-is_ordinary-2.true in
    rw (lo, hi, c.if-lo-v.true)

pub returns-else-lo-v : goal.returns-else-lo-v
unfolding holds_place
returns-else-lo-v c =
    let lo : ordinary c.args.lo ≡ true = sym c.is_ordinary.ensures ∙ c.if-is_ordinary.true in
    let hi : ordinary c.args.hi ≡ true = sym c.is_ordinary-then-is_ordinary.ensures ∙ c.if-is_ordinary-2.true in
    rw (lo, hi, c.if-lo-v.false)

pub returns-else-is_ordinary-2 : goal.returns-else-is_ordinary-2
unfolding holds_place
returns-else-is_ordinary-2 c =
    let lo : ordinary c.args.lo ≡ true = sym c.is_ordinary.ensures ∙ c.if-is_ordinary.true in
    let hi : ordinary c.args.hi ≡ false = sym c.is_ordinary-then-is_ordinary.ensures ∙ c.if-is_ordinary-2.false in
    rw (lo, hi) c.if-is_ordinary-2.false

pub returns-else-is_ordinary : goal.returns-else-is_ordinary
unfolding holds_place
returns-else-is_ordinary c =
    let lo : ordinary c.args.lo ≡ false = sym c.is_ordinary.ensures ∙ c.if-is_ordinary.false in
    rw lo c.if-is_ordinary.false
