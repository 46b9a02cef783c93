-- `write::put_facet` meets its contract: four points and two zeros, one after the other. Assumes nothing.
use native.Mathlib.Omega.{arith}
use lib.ListN.{length-set, set}
use Rattle.facets.proofs.Puts.{put_facet}
use mathlib.Core.Path.{◌∙◌}
use Prim.Native.Nat.{◌+◌}
use Rattle.facets.proofs.write.put_facet.Goals as goal

pub bounds-out-at-2 : goal.bounds-out-at-2
bounds-out-at-2 c = simp length-set (omega arith)

pub shape_of-out : goal.shape_of-out
shape_of-out c =
    let put-vertex3 = c.put_vertex-3 in
    let put-vertex2 = c.put_vertex-2 in
    let put_vertex = c.put_vertex in
    let start = c in
    let l = c.put_vertex-4.new.out in
    let at = start.args.at in
    length-set (set l (at + 48) 0) (at + 49) 0 ∙ length-set l
    (at + 48) 0 ∙ c.put_vertex-4.auto.out ∙ put-vertex3.auto.out ∙ put-vertex2.auto.out ∙ put_vertex.auto.out

pub returns : goal.returns
returns c =
    let put-vertex3 = c.put_vertex-3 in
    let put-vertex2 = c.put_vertex-2 in
    let put_vertex = c.put_vertex in
    let normal = c.normal-n in
    put_facet _ _ _ _ _ _ _ _ _ _ normal.ensures put_vertex.ensures put-vertex2.ensures put-vertex3.ensures
    c.put_vertex-4.ensures
