-- `listing::rows::put_faces` meets its contract: the lines of the first i faces were put. Assumes nothing.
use native.Mathlib.Omega.{arith}
use borrow.Author.Rules.{rules}
use Rattle.listing.proofs.Faces.{rows_start, rows_next, rows_end}
use Rattle.listing.proofs.rows.put_faces.Goals as goal

pub loop-i-init : goal.loop-i-init
loop-i-init c = (search rules, rows_start _ _ _ _)

pub loop-i-preserved : goal.loop-i-preserved
loop-i-preserved c =
    let e = c.put_face-next.ensures in
    let near = e.1 in
    (omega arith, rows_next _ _ _ _ _ _ _ c.loop-i.invariant.1 c.loop-i-test.true _ _ e.0)

pub returns : goal.returns
returns c = rows_end _ _ _ _ _ _ _ c.loop-i.invariant.1 c.loop-i-test.false
