-- `lay_one` meets its contract. Where a seed is found its three points leave the hash, its face is laid and the run
-- follows; the step of the definition is then the seed's. Where none is found nothing changes, and the search tells up
-- to which radius there is none. Assumes nothing.
use native.Mathlib.Omega.{arith}
use Rattle.nearby.specs.Inner.Ready.{used_in_scene}
use Rattle.known_radii.proofs.Larger.{nothing_yet}
use Rattle.seed.proofs.Known.{nothing_kept}
use Rattle.laying.proofs.Radii.{searched, free_seed, seed_room, seed_between_looks, seed_laid, no_seed}
use Rattle.laying.proofs.lay_one.Goals as goal

pub find_seed_triangle-search-requires : goal.find_seed_triangle-search-requires
find_seed_triangle-search-requires c =
    let s = c in
    let g = s.requires.0.searchable in
    (g.held, g.indexed, g.hashed, s.requires.1, s.requires.2)

pub remove_three-requires : goal.remove_three-requires
remove_three-requires c =
    let f = c in
    let t = f in
    let s = t in
    let g = free_seed s.args.p.rule s.args.p.radius s.requires.0 t.clear-c.ensures t.find_seed_triangle-search.ensures.0
    t.find_seed_triangle-search.ensures.1 t.find_seed_triangle-search.auto.w c.in-Some.is in (
      (searched s.args.p.rule s.args.p.radius s.requires.0 t.clear-c.ensures t.find_seed_triangle-search.ensures.0
          t.find_seed_triangle-search.ensures.1 t.find_seed_triangle-search.auto.w).hashed.linked,
      g.first.below,
      g.second.below,
      g.third.below,
    )

pub overflow_cast-i : goal.overflow_cast-i
overflow_cast-i c =
    let r = c in
    let f = r in
    let t = f in
    let s = t in
    omega (
      arith,
      (free_seed s.args.p.rule s.args.p.radius s.requires.0 t.clear-c.ensures t.find_seed_triangle-search.ensures.0
          t.find_seed_triangle-search.ensures.1 t.find_seed_triangle-search.auto.w c.in-Some.is).first.below,
      s.requires.0.searchable.held.few,
    )

pub overflow_cast-j : goal.overflow_cast-j
overflow_cast-j c =
    let r = c in
    let f = r in
    let t = f in
    let s = t in
    omega (
      arith,
      (free_seed s.args.p.rule s.args.p.radius s.requires.0 t.clear-c.ensures t.find_seed_triangle-search.ensures.0
          t.find_seed_triangle-search.ensures.1 t.find_seed_triangle-search.auto.w c.in-Some.is).second.below,
      s.requires.0.searchable.held.few,
    )

pub overflow_cast-k : goal.overflow_cast-k
overflow_cast-k c =
    let r = c in
    let f = r in
    let t = f in
    let s = t in
    omega (
      arith,
      (free_seed s.args.p.rule s.args.p.radius s.requires.0 t.clear-c.ensures t.find_seed_triangle-search.ensures.0
          t.find_seed_triangle-search.ensures.1 t.find_seed_triangle-search.auto.w c.in-Some.is).third.below,
      s.requires.0.searchable.held.few,
    )

pub lay_seed-first-requires : goal.lay_seed-first-requires
lay_seed-first-requires c =
    let r = c in
    let f = r in
    let t = f in
    let s = t in
    seed_room s.args.p.rule s.args.p.radius s.requires.0 t.clear-c.ensures t.find_seed_triangle-search.ensures.0
    t.find_seed_triangle-search.ensures.1 t.find_seed_triangle-search.auto.w c.in-Some.is r.remove_three.ensures r.remove_three.auto.w

pub run-last-requires : goal.run-last-requires
run-last-requires c =
    let l = c in
    let r = l in
    let f = r in
    let t = f in
    let s = t in
    seed_between_looks s.args.p.rule s.args.p.radius s.requires.0 t.clear-c.ensures t.find_seed_triangle-search.ensures.0
    t.find_seed_triangle-search.ensures.1 t.find_seed_triangle-search.auto.w c.in-Some.is r.remove_three.ensures r.remove_three.auto.w
    l.lay_seed-first.ensures.takes l.lay_seed-first.ensures.only_in

pub shape_of-w-in-Some : goal.shape_of-w-in-Some
shape_of-w-in-Some c =
    let u = c in
    let l = u in
    let r = l in
    let f = r in
    let t = f in
    let s = t in
    (seed_laid s.args.p.rule s.args.p.radius s.requires.0 t.clear-c.ensures t.find_seed_triangle-search.ensures.0
    t.find_seed_triangle-search.ensures.1 t.find_seed_triangle-search.auto.w c.in-Some.is r.remove_three.ensures r.remove_three.auto.w
    l.lay_seed-first.ensures.takes l.lay_seed-first.ensures.only_in u.run-last.ensures).length_same

pub returns-in-Some : goal.returns-in-Some
returns-in-Some c =
    let u = c in
    let l = u in
    let r = l in
    let f = r in
    let t = f in
    let s = t in (
      seed_laid s.args.p.rule s.args.p.radius s.requires.0 t.clear-c.ensures t.find_seed_triangle-search.ensures.0
          t.find_seed_triangle-search.ensures.1 t.find_seed_triangle-search.auto.w c.in-Some.is r.remove_three.ensures
          r.remove_three.auto.w
          l.lay_seed-first.ensures.takes l.lay_seed-first.ensures.only_in u.run-last.ensures,
      nothing_yet s.args.p.scene s.args.points.now
          (used_in_scene s.args.p.scene u.run-last.new.w),
    )

pub returns-in-None : goal.returns-in-None
returns-in-None c =
    let t = c in
    let s = t in (
      no_seed s.args.p.rule s.args.p.radius s.requires.0 t.clear-c.ensures t.find_seed_triangle-search.ensures.0
          t.find_seed_triangle-search.ensures.1 t.find_seed_triangle-search.auto.w c.in-None.is,
      nothing_kept {s = s.args.p.scene}
          s.args.points.now t.find_seed_triangle-search.result.upto t.find_seed_triangle-search.ensures.1 t.find_seed_triangle-search.ensures.3,
    )
