-- `is_long` meets its contract: the shortest and the longest edge are two of the three. Assumes nothing.
use mathlib.Core.Path.{sym, subst}
use lib.Dec.{T}
use Rattle.long_edges.proofs.Edges.{long_is}
use Rattle.long_edges.proofs.is_long.Goals as goal

pub returns-then-not-is_beyond : goal.returns-then-not-is_beyond
returns-then-not-is_beyond c = λ h. absurd (subst T (sym h) tt)

pub returns : goal.returns
returns c =
    let x = c in
    let a = x.args in
    λ h.
    long_is a.a a.b a.c a.cross a.limit x.min-short.result x.max-long.result
    (rw (← x.min.ensures) x.min-short.ensures)
    (rw (← x.max.ensures) x.max-long.ensures)
    (rw (← c.is_plain.ensures, h) tt) (rw (← x.is_beyond.ensures, c.if-not-is_beyond.false) tt)
