-- `plain::acceptance::is_sound_closer` meets its contract. Assumes nothing.
use mathlib.Core.Path.{sym}
use lib.Ieee.{binary32}
use lib.Ieee.Fits.{mul-fits}
use Rattle.plain.proofs.Judged.{narrow_given, wide_given}
use Rattle.plain.proofs.acceptance.is_sound_closer.Goals as goal

pub returns-then-is_narrow : goal.returns-then-is_narrow
returns-then-is_narrow c =
    let a = c.args in
    let h = c.requires in
    sym (narrow_given a.p1 a.p2 a.p3 _ _ a.radius h.1 h.2 h.3 h.4 h.0.widest_is (mul-fits binary32 _ _) (mul-fits binary32 _ _)
    h.5 h.6 (c.is_narrow.ensures c.if-is_narrow.true))

pub returns-then-is_wide : goal.returns-then-is_wide
returns-then-is_wide c =
    let start = c in
    let a = start.args in
    let h = start.requires in
    sym (wide_given a.p1 a.p2 a.p3 _ _ a.radius h.1 h.2 h.3 h.4 h.0.widest_is (mul-fits binary32 _ _) (mul-fits binary32 _ _)
    h.5 h.6 _ h.0.beyond_fits (c.is_wide.ensures c.if-is_wide.true))
