-- `plain::faces_at` meets its contract. Assumes nothing.
use mathlib.Core.Path.{ap}
use native.Mathlib.Omega.{arith}
use Rattle.plain.specs.Plain.{faces_at}
use Rattle.plain.proofs.Laid.{lays_full, lays_as}
use Rattle.plain.proofs.Reached.{listed_paired}
use Rattle.plain.proofs.faces_at.Goals as goal

pub returns-then-count-ge-MAX_TRIANGLES : goal.returns-then-count-ge-MAX_TRIANGLES
returns-then-count-ge-MAX_TRIANGLES c = (lays_full _ _ (omega arith) _ (omega arith), λ h. absurd (omega arith))

pub returns : goal.returns
returns c =
    let list-candidates = c.list_candidates-listed in
    let start = c in
    let l = list-candidates in
    let a = start.args in
    (lays_as (ap (faces_at a.points.now a.radius a.i) l.ensures.all) c.faces_among-laid.ensures, λ h. listed_paired l.ensures)
