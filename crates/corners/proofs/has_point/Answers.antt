-- `corners::has_point` meets its contract: the three words are asked one by one. Assumes nothing.
use mathlib.Core.Path.{sym}
use borrow.Author.Tests.{eq-eqb, ne_eqb}
use Rattle.corners.specs.Corners.{face_in}
use Rattle.corners.proofs.Chain.{touches_first, touches_second, touches_third}
use Rattle.corners.proofs.has_point.Goals as goal

pub returns-then-x-words : goal.returns-then-x-words
returns-then-x-words c = let a = c.args in sym (touches_first a.x (face_in a.words.now a.g) (eq-eqb _ _ c.if-x-words.true))

pub returns-then-x-words-2 : goal.returns-then-x-words-2
returns-then-x-words-2 c = let a = c.args in sym (touches_second a.x (face_in a.words.now a.g) (eq-eqb _ _ c.if-x-words-2.true))

pub returns : goal.returns
returns c =
    let a = c.args in sym
    (touches_third a.x (face_in a.words.now a.g) (ne_eqb _ _ c.if-x-words.false) (ne_eqb _ _ c.if-x-words-2.false))
