-- `areas_of` meets its contract. Assumes nothing.
use Rattle.box_filters.proofs.Triangles.{areas_held}
use Rattle.box_filters.proofs.areas_of.Goals as goal

pub returns : goal.returns
returns c =
    let z = c in
    let y = z in
    let d = y in
    areas_held _ _ _ d.requires (rw (← y.differences.ensures, ← d.differences-tq.ensures) y.cross_squares-y.ensures)
    (rw (← z.differences-2.ensures, ← z.differences-3.ensures) z.cross_squares-z.ensures)
    c.joined.ensures c.joined-2.ensures
