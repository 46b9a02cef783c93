-- `angle_limit` meets its contract.
use mathlib.Core.Path.{sym, subst}
use lib.Dec.{T}
use Rattle.numbers.proofs.RootSpecial.{no_number}
use Rattle.slivers.proofs.Angle.{angle_limit_is, no_angle_limit}
use Rattle.slivers.proofs.angle_limit.Goals as goal

pub returns-then-not-cosine : goal.returns-then-not-cosine
returns-then-not-cosine c = rw no_number (no_angle_limit _)

pub returns-then-not-cosine-2 : goal.returns-then-not-cosine-2
returns-then-not-cosine-2 c = rw no_number (no_angle_limit _)

pub returns : goal.returns
returns c =
    let s = c in
    let κ = s.args.cosine in
    rw c.sqrt-s.ensures
    (angle_limit_is κ (subst T (sym s.well_formed.0.1) tt) (rw (c.if-not-cosine.false) tt)
    (rw (c.if-not-cosine-2.false) tt))
