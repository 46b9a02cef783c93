-- `try_rest` meets its contract: the second points before one give nothing, so the others give all. Assumes nothing.
use mathlib.Core.Path.{refl, ◌∙◌}
use Rattle.lists.proofs.Bools.{true_not_false}
use Rattle.nearby.specs.Inner.Ready.{used_in_scene}
use Rattle.nearby.proofs.Keeping.{kept_on}
use Rattle.seed.proofs.Seconds.{seconds_rest}
use Rattle.seed.proofs.First.{searchable_kept, seconds_back, first_seedless}
use Rattle.seed.proofs.triples.try_rest.Goals as goal

pub check_at_once-requires : goal.check_at_once-requires
check_at_once-requires c = let r = c.requires.0 in (r.held, r.hashed, r.inside, r.limiting)

pub returns-in-Ok : goal.returns-in-Ok
returns-in-Ok c = (first_seedless c.requires.0 c.requires.2 c.in-Ok.ensures.0, c.check_at_once.ensures.1)

pub try_seconds-found-requires : goal.try_seconds-found-requires
try_seconds-found-requires c =
    let k = c.check_at_once in
    (searchable_kept k.new.w c.requires.0 k.ensures.1 k.auto.w, c.requires.1)

pub shape_of-w-in-Err : goal.shape_of-w-in-Err
shape_of-w-in-Err c = c.try_seconds-found.auto.w ∙ c.check_at_once.auto.w

pub returns-in-Err : goal.returns-in-Err
returns-in-Err c =
    let a = c.args in
    let k = c.check_at_once.ensures.1 in
    let t = c.try_seconds-found.ensures in (
      record {
        same = seconds_rest a.p.scene a.points.now a.p.radius (used_in_scene a.p.scene a.w.now) a.f a.i c.requires.1
            (seconds_back k t.0) c.requires.3;
        told = λ h. absurd (true_not_false h refl);
      },
      kept_on k t.1,
    )
