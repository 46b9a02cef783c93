-- The two call each other on the smaller parent number. Assumes nothing.
use Rattle.looks.proofs.+told_in_told_out.Given as goal

abbrev pub decreases-told_in : goal.decreases-told_in
decreases-told_in l = l.face

abbrev pub decreases-told_out : goal.decreases-told_out
decreases-told_out l = l.face
