-- `find_seed_triangle` meets its contract: it is the search from point 0, and nothing where that is refuses-all or
-- known. Assumes nothing.
use mathlib.Core.Path.{sym, ap, ◌∙◌}
use Rattle.patch.specs.Search.{searching}
use Rattle.nearby.specs.Inner.Ready.{used_in_scene}
use Rattle.nearby.proofs.Keeping.{kept_self, kept_on, held_kept, hashed_search}
use Rattle.lists.specs.Inner.Found.{option_found}
use Rattle.seedless.proofs.Nothing.{refuses_all_nothing}
use Rattle.known_radii.specs.declared.Upto.TheVariants.{Radius}
use Rattle.known_radii.proofs.Larger.{nothing_yet}
use Rattle.seed.proofs.Known.{nothing_kept, nothing_back}
use Rattle.seed.proofs.WithArea.{seed_area}
use Rattle.seed.proofs.find_seed_triangle.Goals as goal

pub returns-then-t : goal.returns-then-t
returns-then-t c =
    let x = c.args in
    let e = sym (ap option_found (c.requires.3 c.if-t.true)) in
    (e, kept_self x.s x.w.now, seed_area x.s x.points.now x.radius (used_in_scene x.s x.w.now) e, c.requires.4)

pub returns-then-refuses_all : goal.returns-then-refuses_all
unfolding searching
returns-then-refuses_all c =
    let start = c in
    let x = start.args in
    let used = used_in_scene x.s x.w.now in
    let h = refuses_all_nothing x.s x.points.now x.radius used 1000 start.requires.2.linked.ready.numbers
    (c.refuses_all.ensures c.if-refuses_all.true) in
    let e = sym (ap option_found h) in
    (e, kept_self x.s x.w.now, seed_area x.s x.points.now x.radius used e, nothing_yet x.s x.points.now used)

pub find_from-tried-requires : goal.find_from-tried-requires
find_from-tried-requires c =
    let start = c in
    (start.requires.0, start.requires.1, start.requires.2, c.limits_of-limits.ensures)

pub known_to-upto-requires : goal.known_to-upto-requires
known_to-upto-requires c =
    let start = c in
    let x = start.args in
    let f = c.find_from-tried in
    let v = f.new.w in (
      held_kept v start.requires.0 f.auto.w,
      hashed_search {s = x.s} v start.requires.2 f.auto.w f.ensures.2,
      λ h. nothing_kept {s = x.s} x.points.now (Radius x.t.largest) f.ensures.2 (f.ensures.1 h),
    )

pub shape_of-w : goal.shape_of-w
shape_of-w c = c.known_to-upto.auto.w ∙ c.find_from-tried.auto.w

pub returns : goal.returns
unfolding searching
returns c =
    let find-from = c.find_from-tried in
    let start = c in
    let x = start.args in
    let f = find-from.ensures in
    let k = c.known_to-upto in (
      f.0,
      kept_on f.2 k.ensures.1,
      seed_area x.s x.points.now x.radius (used_in_scene x.s x.w.now) f.0,
      nothing_back {s = x.s}
          x.points.now k.result f.2 k.ensures.0,
    )
