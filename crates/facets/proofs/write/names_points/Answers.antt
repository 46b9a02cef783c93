-- `write::names_points` meets its contract: the chain's test of each number is the definition's. Assumes nothing.
use mathlib.Core.Path.{◌∙◌}
use lib.Dec.{ltb}
use borrow.Author.Rules.{rules}
use borrow.Author.Tests.{tests}
use Rattle.std.proofs.lemmas.Iterator.{YieldsList-from_slice}
use Rattle.std.proofs.lemmas.Iterator.Search.{all_from_yields_List}
use Rattle.facets.proofs.Below.{below_chain}
use Rattle.facets.proofs.write.names_points.Goals as goal

pub returns : goal.returns
returns c =
    let xs = c.args.faces.now in
    all_from_yields_List (λ f. ltb f c.args.bound) _ _ _ c.all.ensures.ran (YieldsList-from_slice xs cc) (λ x b q k. search (rules, tests))
    ∙ below_chain c.args.bound xs
