-- `face_lines::store_faces` meets its contract: the faces that stand in the slice and those left are all; a malformed
-- line is never met. The measure is the bytes left. Assumes nothing.
use mathlib.Core.Path.{refl, sym, ◌∙◌}
use native.Mathlib.Omega.{arith}
use Rattle.face_lines.specs.Inner.Answers.{line_means}
use Rattle.face_lines.proofs.Parts.{line_shorter}
use Rattle.face_lines.proofs.Storing.{storing_start, storing_few, storing_end, storing_never, storing_next}
use Rattle.face_lines.proofs.store_faces.Goals as goal

pub loop-at-init : goal.loop-at-init
loop-at-init c = (refl, λ r. storing_start _ _ r)

pub put_face-requires : goal.put_face-requires
put_face-requires c =
    let loop = c.loop-at in
    let start = c in
    let r = start.requires in
    storing_few _ _ r _ _ _ (loop.invariant.1 r)

pub overflow_add-count : goal.overflow_add-count
overflow_add-count c =
    let loop = c.loop-at in
    let start = c in
    let r = start.requires in
    let h = storing_few _ _ r _ _ _ (loop.invariant.1 r) in
    omega arith

pub loop-at-smaller : goal.loop-at-smaller
unfolding line_means
loop-at-smaller c =
    let loop = c.loop-at in
    let start = c in
    let h = line_shorter start.args.s.now loop.at c.in-Some.next _ (sym c.in-Some.ensures) in
    omega arith

pub loop-at-preserved : goal.loop-at-preserved
unfolding line_means
loop-at-preserved c =
    let loop-test = c.loop-at-test in
    let loop = c.loop-at in (
      c.put_face.auto.faces ∙ loop.invariant.0,
      λ r. storing_next _ _ r _ _ _ (loop.invariant.1 r) loop-test.true _ _ _ (sym c.in-Some.ensures)
          c.put_face.ensures,
    )

pub shape_of-words-in_default : goal.shape_of-words-in_default
shape_of-words-in_default c = c.loop-at.invariant.0

pub returns-in_default : goal.returns-in_default
unfolding line_means
returns-in_default c =
    let loop = c.loop-at in
    let start = c in
    let r = start.requires in
    absurd (storing_never _ _ r _ _ _ (loop.invariant.1 r) c.loop-at-test.true
    (sym c.in_default.ensures))

pub shape_of-words : goal.shape_of-words
shape_of-words c = c.loop-at.invariant.0

pub returns : goal.returns
returns c = let r = c.requires in
    storing_end _ _ r _ _ _ (c.loop-at.invariant.1 r) c.loop-at-test.false
