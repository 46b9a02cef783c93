-- `are_refused` meets its contract. Assumes nothing.
use mathlib.Core.Path.{sym, ◌∙◌, subst}
use lib.Dec.{T}
use borrow.Author.Tests.{not-true}
use Rattle.three_points.proofs.are_refused.Goals as goal

pub returns-then-is_accepted : goal.returns-then-is_accepted
returns-then-is_accepted c = λ h. absurd (subst T (sym h) tt)

pub returns : goal.returns
returns c =
    let x = c.is_accepted in
    let y = c.is_accepted-2 in
    λ h. record { forward = sym x.ensures ∙ c.if-is_accepted.false; backward = sym y.ensures ∙ not-true y.result h }
