-- `is_flat` meets its contract. Assumes nothing.
use mathlib.Core.Path.{sym, ◌∙◌}
use native.Mathlib.Omega.{arith}
use Rattle.flatness.proofs.Extents.{axis_numbers, box_flat}
use Rattle.flatness.proofs.is_flat.Goals as goal

pub extent_on-x-requires : goal.extent_on-x-requires
extent_on-x-requires c =
    let s = c in
    (s.requires.0, s.requires.1, omega (arith, s.requires.2), (axis_numbers s.args.points.now s.args.s.n s.requires.3).0)

pub extent_on-y-requires : goal.extent_on-y-requires
extent_on-y-requires c =
    let s = c in
    (s.requires.0, s.requires.1, omega (arith, s.requires.2), (axis_numbers s.args.points.now s.args.s.n s.requires.3).1.0)

pub extent_on-z-requires : goal.extent_on-z-requires
extent_on-z-requires c =
    let s = c in
    (s.requires.0, s.requires.1, omega (arith, s.requires.2), (axis_numbers s.args.points.now s.args.s.n s.requires.3).1.1)

pub returns : goal.returns
returns c h =
    let s = c in
    box_flat s.args.s c.extent_on-x.ensures c.extent_on-y.ensures
    c.extent_on-z.ensures c.point-v.ensures (sym c.is_too_small.ensures ∙ h)
