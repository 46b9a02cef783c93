-- A file that is too long, one that the reader refuses, and one whose cloud is laid. Assumes nothing.
use native.Mathlib.Omega.{arith}
use lib.ListN.{length, length-take}
use Rattle.patch_text.proofs.Told.{points_inside, normals_inside}
use Rattle.patch_stl.proofs.Outputs.{outputs_as, long_file, reader_refused, reader_accepted}
use borrow.Author.Rules.{rules}
use Rattle.patch_stl.proofs.lay_stl.Goals as goal

pub returns-then-input-gt-MOST_BYTES : goal.returns-then-input-gt-MOST_BYTES
returns-then-input-gt-MOST_BYTES c =
    let a = c.args in
    outputs_as _ _ _ _ _ (long_file a.input.now a.points.now a.normals.now (length a.faces.now) (length a.words.now)
    (length a.floats.now) (length a.out.now) c.if-input-gt-MOST_BYTES.true) c.refuse.ensures

pub returns-then-read-ne0 : goal.returns-then-read-ne0
returns-then-read-ne0 c =
    let a = c.args in
    outputs_as _ _ _ _ _ (reader_refused a.input.now a.points.now a.normals.now (length a.faces.now) (length a.words.now)
    (length a.floats.now) (length a.out.now) _ _ _
    c.read_cloud-read.ensures
    c.if-input-gt-MOST_BYTES.false
    c.if-read-ne0.true) c.refuse-then-read-ne0.ensures

pub overflow_mul-n : goal.overflow_mul-n
overflow_mul-n c =
    let a = c.args in
    let fit = points_inside a.input.now a.points.now a.normals.now 0 0 0 _ _ _
    c.read_cloud-read.ensures c.if-read-ne0.false in
    search rules

pub slice_bounds-write_patch-end : goal.slice_bounds-write_patch-end
slice_bounds-write_patch-end c =
    let a = c.args in
    points_inside a.input.now a.points.now a.normals.now 0 0 0 _ _ _
    c.read_cloud-read.ensures c.if-read-ne0.false

pub slice_bounds-write_patch-end-2 : goal.slice_bounds-write_patch-end-2
slice_bounds-write_patch-end-2 c =
    let a = c.args in
    let fit = points_inside a.input.now a.points.now a.normals.now 0 0 0 _ _ _
    c.read_cloud-read.ensures c.if-read-ne0.false in
    simp length-take (omega arith)

pub slice_bounds-write_patch-end-3 : goal.slice_bounds-write_patch-end-3
slice_bounds-write_patch-end-3 c =
    let a = c.args in
    normals_inside a.input.now a.points.now a.normals.now 0 0 0 _ _ _
    c.read_cloud-read.ensures c.if-read-ne0.false

pub slice_bounds-write_patch-end-4 : goal.slice_bounds-write_patch-end-4
slice_bounds-write_patch-end-4 c =
    let a = c.args in
    let fit = normals_inside a.input.now a.points.now a.normals.now 0 0 0 _ _ _
    c.read_cloud-read.ensures c.if-read-ne0.false in
    simp length-take (omega arith)

pub returns : goal.returns
returns c =
    let a = c.args in
    outputs_as _ _ _ _ _ (reader_accepted a.input.now a.points.now a.normals.now (length a.faces.now) (length a.words.now)
    (length a.floats.now) (length a.out.now) _ _ _
    c.read_cloud-read.ensures c.if-input-gt-MOST_BYTES.false c.if-read-ne0.false) c.write_patch.ensures
