-- `try_first` meets its contract: the first second points give a seed, or the others are all that may. Assumes nothing.
use mathlib.Core.Path.{refl, ◌∙◌}
use Rattle.lists.proofs.Bools.{true_not_false}
use Rattle.nearby.specs.Inner.Ready.{used_in_scene}
use Rattle.nearby.proofs.Keeping.{kept_on}
use Rattle.seed.proofs.Seconds.{seconds_all, seconds_hit, seconds_none}
use Rattle.seed.proofs.First.{searchable_kept, before_kept, seconds_kept, seconds_back, first_back, first_seedless}
use Rattle.seed.proofs.triples.try_first.Goals as goal

pub check_first-requires : goal.check_first-requires
check_first-requires c = let r = c.requires.0 in (r.held, r.hashed, r.inside, r.limiting)

pub returns-in-Told : goal.returns-in-Told
returns-in-Told c = (first_seedless c.requires.0 c.requires.1 c.in-Told.ensures.0, c.check_first.ensures.1)

pub filter_around-f-requires : goal.filter_around-f-requires
filter_around-f-requires c = (c.requires.0.held.points_long, c.requires.0.inside)

pub try_seconds-all-requires : goal.try_seconds-all-requires
try_seconds-all-requires c =
    let k = c.check_first in
    (searchable_kept k.new.w c.requires.0 k.ensures.1 k.auto.w, c.filter_around-f.ensures)

pub shape_of-w-in-Untold : goal.shape_of-w-in-Untold
shape_of-w-in-Untold c = c.try_seconds-all.auto.w ∙ c.check_first.auto.w

pub returns-in-Untold : goal.returns-in-Untold
returns-in-Untold c =
    let a = c.args in
    let k = c.check_first.ensures.1 in
    let t = c.try_seconds-all.ensures in
    let f = c.filter_around-f in (
      record {
        same = seconds_all a.p.scene a.points.now a.p.radius (used_in_scene a.p.scene a.w.now) f.result a.i f.ensures (seconds_back k t.0);
        told = λ h. absurd (true_not_false h refl);
      },
      kept_on k t.1,
    )

pub filter_around-f-requires-in-Later : goal.filter_around-f-requires-in-Later
filter_around-f-requires-in-Later c = (c.requires.0.held.points_long, c.requires.0.inside)

pub try_seconds-found-requires : goal.try_seconds-found-requires
try_seconds-found-requires c =
    let k = c.check_first in
    (searchable_kept k.new.w c.requires.0 k.ensures.1 k.auto.w, c.filter_around-f-in-Later.ensures)

pub shape_of-w-in-Some : goal.shape_of-w-in-Some
shape_of-w-in-Some c = c.try_seconds-found.auto.w ∙ c.check_first.auto.w

pub returns-in-Some : goal.returns-in-Some
returns-in-Some c =
    let a = c.args in
    let k = c.check_first.ensures.1 in
    let t = c.try_seconds-found.ensures in
    let f = c.filter_around-f-in-Later in (
      record {
        same = seconds_hit a.p.scene a.points.now a.p.radius (used_in_scene a.p.scene a.w.now) f.result a.i f.ensures (seconds_back k t.0)
            c.in-Some.is;
        told = λ h. absurd (true_not_false h refl);
      },
      kept_on k t.1,
    )

pub try_rest-requires : goal.try_rest-requires
try_rest-requires c =
    let k = c.check_first in
    let t = c.try_seconds-found in
    let v = t.new.w in
    let kept = kept_on k.ensures.1 t.ensures.1 in (
      searchable_kept v c.requires.0 kept (t.auto.w ∙ k.auto.w),
      c.filter_around-f-in-Later.ensures,
      before_kept c.requires.1 kept,
      seconds_none (seconds_kept t.ensures.1 t.ensures.0) c.in_default.is,
    )

pub shape_of-w-in_default : goal.shape_of-w-in_default
shape_of-w-in_default c = c.try_rest.auto.w ∙ c.try_seconds-found.auto.w ∙ c.check_first.auto.w

pub returns-in_default : goal.returns-in_default
returns-in_default c =
    let kept = kept_on c.check_first.ensures.1 c.try_seconds-found.ensures.1 in
    (first_back kept c.try_rest.ensures.0, kept_on kept c.try_rest.ensures.1)
