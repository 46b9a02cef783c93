-- The buffer is long enough, so what is handed on is the output, whole. Assumes nothing.
use native.Mathlib.Omega.{arith}
use lib.ListN.{length-take}
use Rattle.patch_stl.specs.Output.{output}
use Rattle.patch_stl.proofs.Outputs.{file_front, line_front}
use Rattle.stl.proofs.write_patch.Goals as goal

pub slice_bounds-out-end : goal.slice_bounds-out-end
slice_bounds-out-end c = (file_front _ _ _ _ c.in-Ok.ensures).within

pub slice_bounds-write_file-end : goal.slice_bounds-write_file-end
slice_bounds-write_file-end c =
    let inside = (file_front _ _ _ _ c.in-Ok.ensures).within in
    simp length-take (omega arith)

pub write_file-requires : goal.write_file-requires
unfolding output
write_file-requires c = let f = file_front _ _ _ _ c.in-Ok.ensures in (f.refused_is, f.front)

pub slice_bounds-out-end-in-Err : goal.slice_bounds-out-end-in-Err
slice_bounds-out-end-in-Err c = (line_front _ _ _ _ c.in-Err.ensures).within

pub slice_bounds-write_line-end : goal.slice_bounds-write_line-end
slice_bounds-write_line-end c =
    let inside = (line_front _ _ _ _ c.in-Err.ensures).within in
    simp length-take (omega arith)

pub write_line-requires : goal.write_line-requires
unfolding output
write_line-requires c = let f = line_front _ _ _ _ c.in-Err.ensures in (f.refused_is, f.front)
