use native.Mathlib.Omega.{arith}
use Rattle.looks.proofs.Laws.{told_step, side_is, front_told}
use Rattle.looks.proofs.tell_sides.Goals as goal

pub told_in-requires : goal.told_in-requires
told_in-requires c = front_told _ _ _ c.loop-face.invariant.known

pub loop-face-preserved : goal.loop-face-preserved
loop-face-preserved c =
    let l = c.loop-face in
    told_step _ _ l.sides l.face _ (omega (arith, l.invariant.same)) (side_is _ l.face _ _ c.told_in.ensures c.from.ensures) l.invariant
