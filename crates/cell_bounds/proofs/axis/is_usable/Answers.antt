-- `cell_bounds::axis::is_usable` meets its contract. Assumes nothing.
use mathlib.Core.Path.{◌≡◌, sym, ◌∙◌}
use mathlib.Core.Bool.{true, false}
use Rattle.cell_bounds.specs.Inner.Axis.{ordinary, usable}
use Rattle.cell_bounds.proofs.axis.is_usable.Goals as goal

pub returns-then-is_ordinary-2 : goal.returns-then-is_ordinary-2
unfolding usable
returns-then-is_ordinary-2 c =
    let size : ordinary c.args.size ≡ true = sym c.is_ordinary.ensures ∙ c.if-is_ordinary.true in
    let least : ordinary c.args.least ≡ true = sym c.is_ordinary-then-is_ordinary.ensures ∙ c.if-is_ordinary-2.true in
    rw (c.if-size.true, size, least) c.is_ordinary-then-is_ordinary-2.ensures

pub returns-else-is_ordinary-2 : goal.returns-else-is_ordinary-2
unfolding usable
returns-else-is_ordinary-2 c =
    let size : ordinary c.args.size ≡ true = sym c.is_ordinary.ensures ∙ c.if-is_ordinary.true in
    let least : ordinary c.args.least ≡ false = sym c.is_ordinary-then-is_ordinary.ensures ∙ c.if-is_ordinary-2.false in
    rw (c.if-size.true, size, least) c.if-is_ordinary-2.false

pub returns-else-is_ordinary : goal.returns-else-is_ordinary
unfolding usable
returns-else-is_ordinary c =
    let size : ordinary c.args.size ≡ false = sym c.is_ordinary.ensures ∙ c.if-is_ordinary.false in
    rw (c.if-size.true, size) c.if-is_ordinary.false

pub returns-else-size : goal.returns-else-size
unfolding usable
returns-else-size c = rw c.if-size.false
