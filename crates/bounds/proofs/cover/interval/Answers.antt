-- `bounds::cover::interval` meets its contract. Assumes nothing.
use mathlib.Core.Path.{sym, ◌∙◌}
use Rattle.bounds.proofs.Beyond.{covers_tested, covers_all}
use Rattle.bounds.proofs.cover.interval.Goals as goal

pub returns-then-is_covering : goal.returns-then-is_covering
returns-then-is_covering c = let s = c.before.before in covers_tested s.args.v s.args.limit _ _ s.requires (sym c.is_covering.ensures ∙ c.if-is_covering.true)

pub returns : goal.returns
returns c = let s = c.before.before in covers_all s.args.v s.args.limit
