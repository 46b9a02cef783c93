-- The patch, or the refusal, as the main call answers it. Assumes nothing.
use mathlib.Core.Path.{◌∙◌}
use native.Mathlib.Omega.{arith}
use lib.ListN.{length-take}
use Rattle.patch_text.proofs.Laid.{few_points, faces_inside, listed_front, listed_front_length, refused_text, laid_text_lem, prints}
use Rattle.patch_text.proofs.write_patch.Goals as goal

pub returns-then-patch-ne0 : goal.returns-then-patch-ne0
returns-then-patch-ne0 c =
    let h = c.reconstruct_with_normals-patch.ensures in
    prints
    (refused_text _ _ _ _ _ _ _ _ _ _ h c.if-patch-ne0.true ∙ laid_text_lem _ _ _ _ _ _ _ _ _ _ h _
    c.new-settings.ensures)
    c.write_refusal.ensures

pub overflow_cast-counts : goal.overflow_cast-counts
overflow_cast-counts c =
    let few = few_points _ _ _ _ _ _ _ _ _ _ c.reconstruct_with_normals-patch.ensures
    c.if-patch-ne0.false in
    omega arith

pub slice_bounds-write_listing-end : goal.slice_bounds-write_listing-end
slice_bounds-write_listing-end c =
    faces_inside _ _ _ _ _ _ _ _ _ _ c.reconstruct_with_normals-patch.ensures
    c.if-patch-ne0.false

pub slice_bounds-write_listing-end-2 : goal.slice_bounds-write_listing-end-2
slice_bounds-write_listing-end-2 c =
    let fit = faces_inside _ _ _ _ _ _ _ _ _ _
    c.reconstruct_with_normals-patch.ensures c.if-patch-ne0.false in
    simp length-take (omega arith)

pub returns : goal.returns
returns c =
    let h = c.reconstruct_with_normals-patch.ensures
    in
    prints
    (listed_front _ _ _ _ _ _ _ _ _ _ h c.if-patch-ne0.false ∙ laid_text_lem _ _ _ _ _ _ _ _ _ _ h _
    c.new-settings.ensures)
    (rw (listed_front_length _ _ _ _ _ _ _ _ _ _ h c.if-patch-ne0.false _) at c.write_listing.ensures)
