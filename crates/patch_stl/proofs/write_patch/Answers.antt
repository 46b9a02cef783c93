-- The faces found are written, or the main call's refusal is told. Assumes nothing.
use native.Mathlib.Omega.{arith}
use lib.ListN.{length-take}
use Rattle.patch_text.proofs.Laid.{faces_inside}
use Rattle.patch_stl.proofs.Outputs.{outputs_as, patch_refused, patch_accepted}
use Rattle.patch_stl.proofs.write_patch.Goals as goal

pub refuse-requires : goal.refuse-requires
refuse-requires c =
    c.requires

pub returns-then-patch-ne0 : goal.returns-then-patch-ne0
returns-then-patch-ne0 c =
    let h = c.reconstruct_with_normals-patch.ensures in
    outputs_as _ _ _ _ _ (patch_refused _ _ _ _ _ _ _ _ _ _ h _
    c.new-settings.ensures _
    c.if-patch-ne0.true) c.refuse.ensures

pub slice_bounds-write_faces-end : goal.slice_bounds-write_faces-end
slice_bounds-write_faces-end c =
    faces_inside _ _ _ _ _ _ _ _ _ _ c.reconstruct_with_normals-patch.ensures
    c.if-patch-ne0.false

pub slice_bounds-write_faces-end-2 : goal.slice_bounds-write_faces-end-2
slice_bounds-write_faces-end-2 c =
    let fit = faces_inside _ _ _ _ _ _ _ _ _ _
    c.reconstruct_with_normals-patch.ensures c.if-patch-ne0.false in
    simp length-take (omega arith)

pub write_faces-requires : goal.write_faces-requires
write_faces-requires c =
    c.requires

pub returns : goal.returns
returns c =
    let h = c.reconstruct_with_normals-patch.ensures
    in
    outputs_as _ _ _ _ _ (patch_accepted _ _ _ _ _ _ _ _ _ _ h _
    c.new-settings.ensures _ c.if-patch-ne0.false) c.write_faces.ensures
