-- A look that finds a square not above its limit decides, and the last one always does. Assumes nothing.
use mathlib.Core.Path.{sym, ◌∙◌, subst}
use lib.Dec.{T}
use lib.Ieee.{Float, le}
use borrow.Author.Rules.{rules}
use Rattle.estimate.proofs.nearest.least_distance.Goals as goal

pub returns-then-s-limit : goal.returns-then-s-limit
returns-then-s-limit c =
    let r = c.look_within-s.ensures in
    (c.sqrt.ensures ∙ r.decides (subst T (sym c.if-s-limit.true) tt), r.hashed)

pub loop-look-preserved : goal.loop-look-preserved
loop-look-preserved c =
    let l = c.look_within-s in
    (l.ensures.hashed, search rules)

pub returns : goal.returns
returns c =
    let l = c.look_within-least in
    let top = c.infinity-everywhere in
    (c.sqrt-2.ensures ∙ l.ensures.decides (subst (λ (x : Float). T (le l.result x)) (sym top.ensures) l.ensures.number), l.ensures.hashed)
