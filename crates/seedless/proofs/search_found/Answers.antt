-- `search_found` meets its contract. Assumes nothing.
use Rattle.nearby.proofs.Keeping.{held_kept, kept_on}
use Rattle.seedless.proofs.Threes.{left_seedless}
use Rattle.std.proofs.lemmas.Option.{IfSome_then}
use Rattle.seedless.proofs.search_found.Goals as goal

pub search_pairs-requires : goal.search_pairs-requires
search_pairs-requires c =
    let order-listed = c.order_listed in
    let keep_left = c.keep_left-count in
    let start = c in
    let l = keep_left in
    let o = order-listed in
    let g = start.requires in
    let q = c.range_of-all.ensures.in_range_lem in
    record {
      held = held_kept o.new.w (held_kept l.new.w g.0 l.auto.w) o.auto.w;
      inside = g.2;
      judged = g.3;
      first_in = q;
      second_in = q;
    }

pub returns : goal.returns
returns c =
    let order-listed = c.order_listed in
    let keep_left = c.keep_left-count in
    let l = keep_left.ensures in
    let o = order-listed.ensures in
    (IfSome_then c.search_pairs.result c.search_pairs.ensures (λ _. left_seedless l o c.range_of-all.ensures), kept_on l.kept o.kept)
