-- `spatial_hash::walk::visit_row` meets its contract. Assumes nothing.
use native.Mathlib.Omega.{arith}
use Rattle.spatial_hash.proofs.Runs.{one_room, one_appended, first_room, second_room, two_appended}
use Rattle.spatial_hash.proofs.walk.visit_row.Goals as goal

pub visit_run-requires : goal.visit_run-requires
visit_run-requires c = (c.requires.0, omega arith, c.if-end-side.true, one_room _ _ _ _ _ _ c.requires.3)

pub returns-then-end-side : goal.returns-then-end-side
returns-then-end-side c =
    one_appended _ _ _ _ _ _ c.requires.3 _ _ c.visit_run.ensures

pub visit_run-total-requires : goal.visit_run-total-requires
visit_run-total-requires c =
    let l = c.requires.1 in
    (c.requires.0, omega arith, omega arith, first_room _ _ _ _ _ _ c.requires.3 l c.if-end-side.false)

pub visit_run-requires-2 : goal.visit_run-requires-2
visit_run-requires-2 c =
    let e = c.if-end-side.false in
    let l = c.requires.1 in
    let w = c.requires.2 in
    (c.requires.0, omega arith, omega arith, second_room _ _ _ _ _ _ c.requires.3 l e _ _ c.visit_run-total.ensures)

pub returns : goal.returns
returns c =
    two_appended _ _ _ _ _ _ c.requires.3 c.requires.1 c.if-end-side.false _ _ c.visit_run-total.ensures _ _ c.visit_run-2.ensures
