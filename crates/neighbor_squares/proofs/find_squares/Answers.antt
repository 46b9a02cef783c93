-- A look that finds ten squares decides, and so does the last one. Assumes nothing.
use mathlib.Core.Path.{refl, ◌∙◌}
use Rattle.grid.proofs.Near.{indexed_kept}
use Rattle.neighbor_squares.proofs.Deciding.{prepared_kept, kept_start, kept_then}
use Rattle.neighbor_squares.proofs.find_squares.Goals as goal

pub loop-look-init : goal.loop-look-init
loop-look-init c = (refl, refl, kept_start c.args.n c.args.w.now c.args.f.now)

pub look_within-kept-requires : goal.look_within-kept-requires
look_within-kept-requires c =
    let l = c.loop-look in
    prepared_kept c.requires.0 l.invariant.0 l.invariant.1 l.invariant.2

pub returns-then-kept-eq10 : goal.returns-then-kept-eq10
returns-then-kept-eq10 c =
    let q = c.look_within-kept.ensures in
    record { few = q.few; decided = q.full c.if-kept-eq10.true; kept = kept_then c.loop-look.invariant.2 q.kept }

pub loop-look-preserved : goal.loop-look-preserved
loop-look-preserved c =
    let l = c.loop-look in
    let q = c.look_within-kept in (
      q.auto.w ∙ l.invariant.0,
      q.auto.f ∙ l.invariant.1,
      kept_then l.invariant.2 q.ensures.kept,
    )

pub look_further-requires : goal.look_further-requires
look_further-requires c =
    let l = c.loop-look in
    (prepared_kept c.requires.0 l.invariant.0 l.invariant.1 l.invariant.2, indexed_kept _ c.requires.1 l.invariant.0 l.invariant.2.before)

pub returns : goal.returns
returns c =
    let q = c.look_further.ensures in
    record { few = q.few; decided = q.decided; kept = kept_then c.loop-look.invariant.2 q.kept }
