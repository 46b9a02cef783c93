-- `face_lines::scan_faces` meets its contract: what was found so far and the lines that are left come to the whole. The
-- measure is the bytes left. Assumes nothing.
use mathlib.Core.Path.{sym}
use native.Mathlib.Omega.{arith}
use Rattle.face_lines.specs.Inner.Answers.{line_means}
use Rattle.face_lines.proofs.Parts.{line_shorter}
use Rattle.face_lines.proofs.Scanning.{scanning_start, scanning_end, scanning_wrong, scanning_next}
use Rattle.face_lines.proofs.scan_faces.Goals as goal

pub loop-at-init : goal.loop-at-init
loop-at-init c = scanning_start _ _

pub overflow_add-count : goal.overflow_add-count
overflow_add-count c = let i = c.loop-at.invariant.few in
    omega arith

pub loop-at-smaller : goal.loop-at-smaller
unfolding line_means
loop-at-smaller c =
    let loop = c.loop-at in
    let start = c in
    let h = line_shorter start.args.s.now loop.at c.in-Some.next _ (sym c.in-Some.ensures) in
    omega arith

pub loop-at-preserved : goal.loop-at-preserved
unfolding line_means
loop-at-preserved c =
    let loop-test = c.loop-at-test in
    let loop = c.loop-at in
    scanning_next _ _ _ _ _ _ loop.invariant loop-test.true _ _ _ _ (sym c.in-Some.ensures) c.is_outside-outside.ensures c.is_twice-twice.ensures

pub overflow_add-result : goal.overflow_add-result
overflow_add-result c = let i = c.loop-at.invariant.few in
    omega arith

pub returns-in_default : goal.returns-in_default
unfolding line_means
returns-in_default c =
    let loop = c.loop-at in
    let start = c in
    scanning_wrong _ _ _ _ _ _ loop.invariant c.loop-at-test.true
    (sym c.in_default.ensures)

pub returns : goal.returns
returns c = scanning_end _ _ _ _ _ _ c.loop-at.invariant c.loop-at-test.false
