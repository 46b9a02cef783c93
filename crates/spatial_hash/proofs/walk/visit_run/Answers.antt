-- `visit_run` meets its contract: the starts of the first bucket and of the end, read from the row, are where its
-- points begin and end in the order, so that they are copied in one piece. Assumes nothing.
use Prim.Native.Nat.{◌+◌, ◌*◌, ◌<◌}
use mathlib.Core.Path.{subst}
use Rattle.spatial_hash.specs.Inner.Buckets.{Appended}
use Rattle.spatial_hash.proofs.Sizes.{joined_below}
use Rattle.spatial_hash.proofs.Runs.{start_most, run_goes, run_is, run_room}
use native.Mathlib.Omega.{arith}
use Rattle.spatial_hash.proofs.walk.visit_run.Goals as goal

pub overflow_mul-starts-2 : goal.overflow_mul-starts-2
overflow_mul-starts-2 c = let l : c.args.at * (c.args.hash.side + 1) + c.args.end < 6 * c.args.n + 64 = let m = c.args.hash.side in
    let e = c.requires.2 in
    omega (arith, joined_below (m * m) (m + 1) c.args.at c.args.end c.requires.0 (omega arith), c.requires.3.linked.sound.fitting) in let r = c.requires.3.linked.ready in omega arith

pub overflow_add-starts-2 : goal.overflow_add-starts-2
overflow_add-starts-2 c = let l : c.args.at * (c.args.hash.side + 1) + c.args.end < 6 * c.args.n + 64 = let m = c.args.hash.side in
    let e = c.requires.2 in
    omega (arith, joined_below (m * m) (m + 1) c.args.at c.args.end c.requires.0 (omega arith), c.requires.3.linked.sound.fitting) in let r = c.requires.3.linked.ready in omega arith

pub overflow_add-from : goal.overflow_add-from
overflow_add-from c = let l : c.args.at * (c.args.hash.side + 1) + c.args.end < 6 * c.args.n + 64 = let m = c.args.hash.side in
    let e = c.requires.2 in
    omega (arith, joined_below (m * m) (m + 1) c.args.at c.args.end c.requires.0 (omega arith), c.requires.3.linked.sound.fitting) in let r = c.requires.3.linked.ready in omega arith

pub offset_bounds-w-starts : goal.offset_bounds-w-starts
offset_bounds-w-starts c = let l : c.args.at * (c.args.hash.side + 1) + c.args.end < 6 * c.args.n + 64 = let m = c.args.hash.side in
    let e = c.requires.2 in
    omega (arith, joined_below (m * m) (m + 1) c.args.at c.args.end c.requires.0 (omega arith), c.requires.3.linked.sound.fitting) in let r = c.requires.3.linked.ready in omega arith

pub bounds-w-starts : goal.bounds-w-starts
bounds-w-starts c = let l : c.args.at * (c.args.hash.side + 1) + c.args.end < 6 * c.args.n + 64 = let m = c.args.hash.side in
    let e = c.requires.2 in
    omega (arith, joined_below (m * m) (m + 1) c.args.at c.args.end c.requires.0 (omega arith), c.requires.3.linked.sound.fitting) in let r = c.requires.3.linked.ready in omega arith

pub overflow_cast-from : goal.overflow_cast-from
overflow_cast-from c =
    let o = c.requires.1 in let e = c.requires.2 in omega (
      arith,
      start_most _ _ _ _ _ c.args.first c.args.end c.requires.0 o e c.requires.3.linked c.args.first
          (omega arith),
      c.requires.3.linked.ready.few,
    )

pub overflow_add-to : goal.overflow_add-to
overflow_add-to c = let l : c.args.at * (c.args.hash.side + 1) + c.args.end < 6 * c.args.n + 64 = let m = c.args.hash.side in
    let e = c.requires.2 in
    omega (arith, joined_below (m * m) (m + 1) c.args.at c.args.end c.requires.0 (omega arith), c.requires.3.linked.sound.fitting) in let r = c.requires.3.linked.ready in omega arith

pub offset_bounds-w-starts-2 : goal.offset_bounds-w-starts-2
offset_bounds-w-starts-2 c = let l : c.args.at * (c.args.hash.side + 1) + c.args.end < 6 * c.args.n + 64 = let m = c.args.hash.side in
    let e = c.requires.2 in
    omega (arith, joined_below (m * m) (m + 1) c.args.at c.args.end c.requires.0 (omega arith), c.requires.3.linked.sound.fitting) in let r = c.requires.3.linked.ready in omega arith

pub bounds-w-starts-2 : goal.bounds-w-starts-2
bounds-w-starts-2 c = let l : c.args.at * (c.args.hash.side + 1) + c.args.end < 6 * c.args.n + 64 = let m = c.args.hash.side in
    let e = c.requires.2 in
    omega (arith, joined_below (m * m) (m + 1) c.args.at c.args.end c.requires.0 (omega arith), c.requires.3.linked.sound.fitting) in let r = c.requires.3.linked.ready in omega arith

pub overflow_cast-to : goal.overflow_cast-to
overflow_cast-to c =
    let o = c.requires.1 in let e = c.requires.2 in omega
    (arith, start_most _ _ _ _ _ c.args.first c.args.end c.requires.0 o e c.requires.3.linked c.args.end e, c.requires.3.linked.ready.few)

pub copy_points-requires : goal.copy_points-requires
copy_points-requires c =
    let r = c.requires.3 in
    let o = c.requires.1 in
    let e = c.requires.2 in (
      r.linked.ready.few,
      r.linked.ready.work_long,
      run_goes _ _ _ _ _ _ _ c.requires.0 o e r.linked,
      start_most _ _ _ _ _ c.args.first
          c.args.end c.requires.0 o e r.linked c.args.end e,
      run_room _ _ _ _ _ _ _ c.requires.0 o e _ r,
    )

pub returns : goal.returns
returns c =
    subst (Appended _ _ _ _ _) (run_is _ _ _ _ _ _ _ c.requires.0 c.requires.1 c.requires.2 c.requires.3.linked) c.copy_points.ensures
