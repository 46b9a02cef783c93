-- `settings::is_rule` meets its contract. Assumes nothing.
use mathlib.Core.Path.{refl}
use borrow.Author.Tests.{ne_eqb}
use Rattle.settings.proofs.is_rule.Goals as goal

pub returns-then-rule-eq1 : goal.returns-then-rule-eq1
returns-then-rule-eq1 c = rw c.if-rule-eq1.true refl

pub returns-else-rule-eq1 : goal.returns-else-rule-eq1
returns-else-rule-eq1 c = rw (ne_eqb c.args.rule 1 c.if-rule-eq1.false) refl
