-- `needle_angle` meets its contract. Assumes nothing.
use Rattle.box_filters.proofs.Needles.{needles_within, angle_or_none}
use Rattle.numbers.proofs.RootSpecial.{no_number}
use Rattle.box_filters.proofs.needle_angle.Goals as goal

pub returns : goal.returns
returns c =
    let a = c.args in
    needles_within a.i a.j a.k c.min-short.ensures c.max-long.ensures (rw (c.unwrap_or.ensures, no_number) (angle_or_none _ c.needle_angle.ensures))
