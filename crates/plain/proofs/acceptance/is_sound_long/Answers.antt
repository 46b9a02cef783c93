-- `plain::acceptance::is_sound_long` meets its contract. Assumes nothing.
use mathlib.Core.Path.{sym}
use lib.Ieee.{binary32}
use lib.Ieee.Fits.{mul-fits}
use Rattle.plain.proofs.Judged.{narrow_given, wide_given}
use Rattle.plain.proofs.acceptance.is_sound_long.Goals as goal

pub returns-then-is_narrow : goal.returns-then-is_narrow
returns-then-is_narrow c =
    let g = c in
    let a = g.args in
    let h = g.requires in
    sym (narrow_given a.p1 a.p2 a.p3 _ _ a.radius h.1 h.2 g.distance_squared-edge.ensures h.3 h.0.widest_is
    g.guess_root-b.ensures (mul-fits binary32 _ _) h.4 h.5 (c.is_narrow.ensures c.if-is_narrow.true))

pub returns-then-is_wide : goal.returns-then-is_wide
returns-then-is_wide c =
    let g = c in
    let a = g.args in
    let h = g.requires in
    sym (wide_given a.p1 a.p2 a.p3 _ _ a.radius h.1 h.2 g.distance_squared-edge.ensures h.3 h.0.widest_is
    (mul-fits binary32 _ _) (mul-fits binary32 _ _) h.4 h.5 _ h.0.beyond_fits (c.is_wide.ensures c.if-is_wide.true))
