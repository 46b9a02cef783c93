-- `spatial_hash::cells::row_of` meets its contract. Assumes nothing.
use Rattle.spatial_hash.specs.Inner.Buckets.{row_for}
use Rattle.spatial_hash.proofs.Sizes.{square_few, joined_below}
use native.Mathlib.Omega.{arith}
use Rattle.spatial_hash.proofs.cells.row_of.Goals as goal

pub overflow_mul-result : goal.overflow_mul-result
overflow_mul-result c =
    let l = joined_below _ _ _ _ c.residue-x.ensures.1 c.residue-y.ensures.1 in let q = square_few _
    c.requires.1 in omega arith

pub overflow_add-result : goal.overflow_add-result
overflow_add-result c =
    let l = joined_below _ _ _ _ c.residue-x.ensures.1 c.residue-y.ensures.1 in let q = square_few _
    c.requires.1 in omega arith

pub returns : goal.returns
unfolding row_for
returns c = (cc, joined_below _ _ _ _ c.residue-x.ensures.1 c.residue-y.ensures.1)
