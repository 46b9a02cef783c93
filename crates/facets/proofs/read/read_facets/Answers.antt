-- `read::read_facets` meets its contract: the corners of the first i facets were stored. Assumes nothing.
use native.Mathlib.Omega.{arith}
use Prim.Native.Nat.{◌*◌}
use Rattle.words.proofs.Chunks.{lay_none, lay_more, lay_all_lem}
use Rattle.facets.specs.Format.{corners_of}
use Rattle.facets.proofs.Puts.{nine_length, read_nine}
use Rattle.facets.proofs.read.read_facets.Goals as goal

pub loop-i-init : goal.loop-i-init
loop-i-init c = lay_none (corners_of c.args.bytes.now) 0 c.args.corners.now

pub loop-i-preserved : goal.loop-i-preserved
loop-i-preserved c =
    let v = c.read_vertex in
    let w = c.read_vertex-in-loop-i in
    let x = c.read_vertex-in-loop-i-2 in
    let l = c.loop-i in
    let bytes = c.args.bytes.now in
    lay_more (corners_of bytes) 9 (nine_length bytes) 0 c.args.corners.now l.corners x.new.corners l.i (9 * l.i) l.invariant (omega arith)
    (read_nine bytes l.i l.corners v.new.corners w.new.corners x.new.corners (9 * l.i) v.ensures w.ensures x.ensures)

pub returns : goal.returns
returns c =
    lay_all_lem (corners_of c.args.bytes.now) 0 c.args.corners.now _ _ _ c.loop-i.auto.i-end c.loop-i-test.false c.loop-i.invariant
