-- Both by what is told, or by what is known of the parent. Assumes nothing.
use native.Mathlib.Omega.{arith}
use Rattle.looks.proofs.Laws.{out_seed, in_seed, out_child, in_child, told_out, known_in}
use Rattle.looks.proofs.+told_in_told_out.Goals as goal

pub told_in-returns-then-face-sides : goal.told_in-returns-then-face-sides
told_in-returns-then-face-sides t c = known_in _ _ _ _ c.requires c.if-face-sides.true

pub told_in-returns-then-face-parent : goal.told_in-returns-then-face-parent
told_in-returns-then-face-parent t c = in_seed _ _ _ c.parent_of-parent.ensures c.if-face-parent.true

pub told_in-told_out-requires : goal.told_in-told_out-requires
told_in-told_out-requires t c = (omega (arith, c.decreases), c.requires)

pub told_in-returns : goal.told_in-returns
told_in-returns t c = in_child _ _ _ c.parent_of-parent.ensures c.if-face-parent.false c.told_out.ensures

pub told_out-returns-then-face-sides : goal.told_out-returns-then-face-sides
told_out-returns-then-face-sides t c = told_out _ _ _ _ c.requires c.if-face-sides.true

pub told_out-returns-then-face-parent : goal.told_out-returns-then-face-parent
told_out-returns-then-face-parent t c = out_seed _ _ _ c.parent_of-parent.ensures c.if-face-parent.true

pub told_out-told_in-requires : goal.told_out-told_in-requires
told_out-told_in-requires t c = (omega (arith, c.decreases), c.requires)

pub told_out-returns : goal.told_out-returns
told_out-returns t c = out_child _ _ _ c.parent_of-parent.ensures c.if-face-parent.false c.told_in.ensures
