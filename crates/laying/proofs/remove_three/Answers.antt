-- `laying::remove_three` meets its contract. Assumes nothing.
use Rattle.laying.proofs.Pivots.{without_three}
use Rattle.laying.proofs.remove_three.Goals as goal

pub remove-requires : goal.remove-requires
remove-requires c = let s = c in (s.requires.0, s.requires.1)

pub remove-requires-2 : goal.remove-requires-2
remove-requires-2 c = let r = c in (r.remove.ensures.linked, r.requires.2)

pub remove-requires-3 : goal.remove-requires-3
remove-requires-3 c =
    let r = c in let q = r in (r.remove-2.ensures.linked, q.requires.3)

pub returns : goal.returns
returns c =
    let r = c in let q = r in let o = q in without_three o.remove.ensures
    q.remove-2.ensures r.remove-3.ensures
