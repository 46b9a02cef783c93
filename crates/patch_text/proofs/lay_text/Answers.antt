-- A file that is too long, one that the reader refuses, and one whose cloud is laid. Assumes nothing.
use native.Mathlib.Omega.{arith}
use lib.ListN.{length, length-take}
use Rattle.patch_text.proofs.Laid.{prints, prints_as}
use Rattle.patch_text.proofs.Told.{long_text, refused_text, points_inside, normals_inside, laid_file}
use borrow.Author.Rules.{rules}
use Rattle.patch_text.proofs.lay_text.Goals as goal

pub returns-then-input-gt-MOST_BYTES : goal.returns-then-input-gt-MOST_BYTES
returns-then-input-gt-MOST_BYTES c =
    let a = c.args in
    prints (long_text a.input.now a.points.now a.normals.now (length a.faces.now) (length a.words.now) (length a.floats.now)
    c.if-input-gt-MOST_BYTES.true) c.write_refusal.ensures

pub returns-then-read-ne0 : goal.returns-then-read-ne0
returns-then-read-ne0 c =
    let a = c.args in
    prints
    (refused_text a.input.now a.points.now a.normals.now (length a.faces.now) (length a.words.now) (length a.floats.now) _ _ _
    c.read_cloud-read.ensures
    c.if-input-gt-MOST_BYTES.false
    c.if-read-ne0.true)
    c.write_refusal-then-read-ne0.ensures

pub overflow_mul-n : goal.overflow_mul-n
overflow_mul-n c =
    let a = c.args in
    let fit = points_inside a.input.now a.points.now a.normals.now (length a.faces.now) (length a.words.now) (length a.floats.now) _ _ _
    c.read_cloud-read.ensures c.if-read-ne0.false in
    search rules

pub slice_bounds-write_patch-end : goal.slice_bounds-write_patch-end
slice_bounds-write_patch-end c =
    let a = c.args in
    let fit = points_inside a.input.now a.points.now a.normals.now (length a.faces.now) (length a.words.now) (length a.floats.now) _ _ _
    c.read_cloud-read.ensures c.if-read-ne0.false in
    fit

pub slice_bounds-write_patch-end-2 : goal.slice_bounds-write_patch-end-2
slice_bounds-write_patch-end-2 c =
    let a = c.args in
    let fit = points_inside a.input.now a.points.now a.normals.now (length a.faces.now) (length a.words.now) (length a.floats.now) _ _ _
    c.read_cloud-read.ensures c.if-read-ne0.false in
    simp length-take (omega arith)

pub slice_bounds-write_patch-end-3 : goal.slice_bounds-write_patch-end-3
slice_bounds-write_patch-end-3 c =
    let a = c.args in
    let fit = normals_inside a.input.now a.points.now a.normals.now (length a.faces.now) (length a.words.now)
    (length a.floats.now) _ _ _ c.read_cloud-read.ensures
    c.if-read-ne0.false in
    fit

pub slice_bounds-write_patch-end-4 : goal.slice_bounds-write_patch-end-4
slice_bounds-write_patch-end-4 c =
    let a = c.args in
    let fit = normals_inside a.input.now a.points.now a.normals.now (length a.faces.now) (length a.words.now)
    (length a.floats.now) _ _ _ c.read_cloud-read.ensures
    c.if-read-ne0.false in
    simp length-take (omega arith)

pub returns : goal.returns
returns c =
    let a = c.args in
    prints_as
    (laid_file a.input.now a.points.now a.normals.now (length a.faces.now) (length a.words.now) (length a.floats.now) _ _ _
    c.read_cloud-read.ensures c.if-input-gt-MOST_BYTES.false c.if-read-ne0.false)
    c.write_patch.ensures
