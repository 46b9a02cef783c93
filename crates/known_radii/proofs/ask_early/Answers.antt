-- `ask_early` meets its contract. Assumes nothing.
use mathlib.Core.Path.{sym, subst}
use native.Mathlib.Omega.{arith}
use lib.Dec.{T}
use Rattle.nearby.proofs.Keeping.{kept_self}
use Rattle.known_radii.proofs.ask_early.Goals as goal

pub returns-then-not-asks : goal.returns-then-not-asks
returns-then-not-asks c = (λ h. absurd (subst T (sym h) tt), kept_self c.args.p.scene c.args.w.now)

pub is_within_budget-requires : goal.is_within_budget-requires
is_within_budget-requires c =
    (c.requires.0.few, omega (arith, c.requires.2, c.requires.0.few))

pub returns-then-not-is_within_budget : goal.returns-then-not-is_within_budget
returns-then-not-is_within_budget c = (
  λ h. absurd (subst T (sym h) tt),
  kept_self c.args.p.scene
      c.args.w.now,
)

pub is_seedless_to-told-requires : goal.is_seedless_to-told-requires
is_seedless_to-told-requires c =
    (c.requires.0, c.requires.1)

pub returns : goal.returns
returns c = c.is_seedless_to-told.ensures
