-- `passes_filter` meets its contract: each test that fails is one of the definition's. Assumes nothing.
use mathlib.Core.Path.{sym, ap, ◌∙◌}
use mathlib.Core.Bool.{not, ◌||◌}
use lib.Ieee.{lt}
use Rattle.vector.specs.declared.Point3f.{Point3f}
use Rattle.vector.specs.Vector.{squared}
use Rattle.grid.specs.declared.Cell.{Cell}
use Rattle.grid.specs.Grid.{in_range}
use Rattle.nearby.specs.Inner.Narrow.{passes_filter, in_reach, in_cells}
use Rattle.nearby.proofs.passes.Goals as goal

pub returns-then-not-is_unused : goal.returns-then-not-is_unused
unfolding passes_filter in_reach
returns-then-not-is_unused c = rw (sym c.is_unused.ensures ∙ c.if-not-is_unused.true)

pub returns-then-distance_squared-f : goal.returns-then-distance_squared-f
unfolding passes_filter in_reach
returns-then-distance_squared-f c =
    let a = c.args in
    let u = c.is_unused in
    let d = c.distance_squared in
    rw (
      sym u.ensures ∙ c.if-not-is_unused.false,
      ap (lt a.f.limit) (sym (d.ensures ∙ ap (λ (q : Point3f). squared q a.f.center) c.point_at.ensures)) ∙ c.if-distance_squared-f.true,
    )

pub returns : goal.returns
unfolding passes_filter in_reach in_cells
returns c =
    let s = c in
    let a = s.args in
    let u = c.is_unused in
    let d = c.distance_squared in
    rw (
      sym u.ensures ∙ c.if-not-is_unused.false,
      ap (lt a.f.limit)
          (sym (d.ensures ∙ ap (λ (q : Point3f). squared q a.f.center) c.point_at.ensures)) ∙ c.if-distance_squared-f.false,
    )
    (c.is_near.ensures ∙ ap (λ (e : Cell). not a.s.indexed || in_range a.f.range a.f.cell e) (s.requires.1 a.k s.requires.2))
