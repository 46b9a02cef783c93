-- `is_thin` meets its contract: what passes the test by squares has an aspect ratio below the bound.
use mathlib.Core.Path.{sym, subst}
use lib.Dec.{T}
use Rattle.thin.proofs.Thin.{thin_up_to}
use Rattle.thin.proofs.is_thin.Goals as goal

pub returns-then-not-limit : goal.returns-then-not-limit
returns-then-not-limit c = λ h. absurd (subst T (sym h) tt)

pub returns-then-not-is_plain : goal.returns-then-not-is_plain
returns-then-not-is_plain c = λ h. absurd (subst T (sym h) tt)

pub returns : goal.returns
returns c =
    let plain = c in
    let s = plain in
    λ h.
    thin_up_to s.args.a s.args.b s.args.c s.args.cross s.args.limit (subst T (sym s.well_formed.0.1) tt) (subst T (sym s.well_formed.1.0.1) tt)
    (subst T (sym s.well_formed.1.1.0.1) tt)
    (subst T (sym s.well_formed.1.1.1.0.1) tt) (subst T (sym s.well_formed.1.1.1.1.0.1) tt)
    (rw (plain.if-not-limit.false) tt)
    (rw (← plain.is_plain.ensures, c.if-not-is_plain.false) tt)
    (rw (← c.spread.ensures, h) tt)
