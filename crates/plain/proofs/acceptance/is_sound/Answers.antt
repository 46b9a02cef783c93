-- `plain::acceptance::is_sound` meets its contract. Assumes nothing.
use mathlib.Core.Path.{sym, subst}
use lib.Dec.{T}
use lib.Ieee.{Float, le}
use Rattle.plain.specs.Inner.Bounds.{thin}
use Rattle.plain.proofs.Judged.{thin_unsound, holds}
use Rattle.plain.proofs.acceptance.is_sound.Goals as goal

pub returns-then-s-3 : goal.returns-then-s-3
returns-then-s-3 c =
    let x = c in
    let a = x.args in
    sym (thin_unsound a.p1 a.p2 a.p3 a.radius (subst (λ (v : Float). T (le v thin)) x.cross_squared-s.ensures (holds c.if-s-3.true)))
