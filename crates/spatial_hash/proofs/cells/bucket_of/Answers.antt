-- `spatial_hash::cells::bucket_of` meets its contract. Assumes nothing.
use Prim.Native.Nat.{◌+◌, ◌≤◌}
use native.Mathlib.Nat.{mul-le-mul}
use Rattle.spatial_hash.specs.Inner.Buckets.{bucket_of}
use Rattle.spatial_hash.proofs.Sizes.{square_few}
use native.Mathlib.Omega.{arith}
use Rattle.spatial_hash.proofs.cells.bucket_of.Goals as goal

pub overflow_mul-result : goal.overflow_mul-result
overflow_mul-result c =
    let q = square_few _ c.requires.1 in let l : c.row_of-row.result ≤ 576 = omega
    (arith, c.row_of-row.ensures.1) in let m : c.args.hash.side + 1 ≤ 25 = omega arith in omega (arith, mul-le-mul l m)

pub overflow_add-result-2 : goal.overflow_add-result-2
overflow_add-result-2 c =
    let q = square_few _ c.requires.1 in let l : c.row_of-row.result ≤ 576 = omega
    (arith, c.row_of-row.ensures.1) in let m : c.args.hash.side
    + 1 ≤ 25 = omega arith in omega (arith, mul-le-mul l m, c.place_in_row.ensures.1)

pub returns : goal.returns
unfolding bucket_of
returns c = cc
