-- `plain::try_face` meets its contract. Assumes nothing.
use native.Mathlib.Omega.{arith}
use mathlib.Core.Path.{◌∙◌}
use Rattle.plain.proofs.Laid.{lays_full, lays_none, lays_one}
use Rattle.plain.proofs.Plain.{valid_is}
use Rattle.plain.proofs.try_face.Goals as goal

pub returns-then-count-ge-MAX_TRIANGLES : goal.returns-then-count-ge-MAX_TRIANGLES
returns-then-count-ge-MAX_TRIANGLES c = lays_full _ _ (omega arith) _ (omega arith)

pub returns-then-not-is_sound : goal.returns-then-not-is_sound
returns-then-not-is_sound c =
    let p = c in
    let a = p.args in
    rw (valid_is a.points.now a.radius a.i a.a a.b p.point_at-p1.ensures p.point_at-p2.ensures
    p.point_at-p3.ensures c.is_sound.ensures ∙ c.if-not-is_sound.true) (lays_none _ _ (omega arith))

pub returns : goal.returns
returns c =
    let e = c in
    let p = e in
    let a = p.args in
    rw (valid_is a.points.now a.radius a.i a.a a.b p.point_at-p1.ensures p.point_at-p2.ensures
    p.point_at-p3.ensures e.is_sound.ensures ∙ e.if-not-is_sound.false)
    (lays_one _ _ _ _ (omega arith) c.put_face.ensures)
