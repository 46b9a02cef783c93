-- `is_lonely` meets its contract: a search leaves the index and the hash. Assumes nothing.
use mathlib.Core.Path.{sym, subst}
use Rattle.vector.specs.Inner.Numbers.{Finite}
use Rattle.laying.proofs.Kept.{all_searchable_searched}
use Rattle.cell_sizes.proofs.is_lonely.Goals as goal

pub gather_within-found-requires : goal.gather_within-found-requires
gather_within-found-requires c =
    let l = c.requires.0.hashed.linked in
    (l, subst Finite (sym c.point_at-place.ensures) (l.ready.numbers c.args.i c.requires.1))

pub returns : goal.returns
returns c =
    let g = c.gather_within-found in
    all_searchable_searched _ (record { before = g.ensures.before; after = g.ensures.after }) g.auto.w
    c.requires.0
