use mathlib.Core.Path.{◌≡◌, sym, ◌∙◌}
use lib.Dec.{leb}
use lib.ListN.{take}
use Rattle.std.specs.List.{count_by}
use borrow.Author.Rules.{rules}
use Rattle.tracing.proofs.Laws.{place_counts}
use Rattle.tracing.proofs.place_of.Goals as goal

pub returns : goal.returns
returns c =
    let e : c.count.result ≡ count_by (λ m. leb m c.args.k) (take c.args.radii c.args.marks) = search rules in
    e ∙ sym (place_counts c.args.k (take c.args.radii c.args.marks))
