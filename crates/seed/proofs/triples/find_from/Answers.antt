-- `find_from` meets its contract. The loop's invariant: the points below i have been tried, `left` more unused ones may
-- be, and no three of which one is from lo on and below i make a seed. Assumes nothing.
use mathlib.Core.Path.{refl, sym, ap, ◌∙◌}
use native.Mathlib.Omega.{arith}
use Rattle.lists.proofs.Bools.{true_not_false}
use Rattle.nearby.specs.Inner.Ready.{used_in_scene}
use Rattle.nearby.proofs.Keeping.{kept_on}
use Rattle.lists.specs.Inner.Found.{option_found}
use Rattle.seed.proofs.State.{seek_start, seek_end, seek_spent, seek_used, seek_kept, seek_hit, seek_miss}
use Rattle.seedless.proofs.Threes.{seedless_used, unused_kept}
use Rattle.known_radii.specs.declared.Upto.TheVariants.{Radius}
use Rattle.seed.proofs.Known.{seedless_on, unused_back, nothing_back, told_nothing}
use Rattle.seed.proofs.First.{before_kept}
use Rattle.seed.proofs.triples.find_from.Goals as goal

pub loop-i-init : goal.loop-i-init
loop-i-init c = (
  seek_start c.requires.0 c.requires.1 c.requires.2,
  omega arith,
  λ x h. absurd
      (omega arith),
)

pub shape_of-w-then-left-eq0 : goal.shape_of-w-then-left-eq0
shape_of-w-then-left-eq0 c = c.loop-i.invariant.0.same

pub returns-then-left-eq0 : goal.returns-then-left-eq0
returns-then-left-eq0 c =
    let l = c.loop-i in
    let m = c.nothing_more.ensures in (
      m.0 ∙ sym (ap option_found (seek_spent l.invariant.0 c.loop-i-test.true c.if-left-eq0.true)),
      λ h. absurd
          (true_not_false h m.1),
      l.invariant.0.kept,
    )

pub is_unused-requires : goal.is_unused-requires
is_unused-requires c = let l = c.loop-i in (l.invariant.0.held.work_long, l.invariant.0.held.few, c.loop-i-test.true)

pub loop-i-preserved-then-not-is_unused : goal.loop-i-preserved-then-not-is_unused
loop-i-preserved-then-not-is_unused c =
    let loop-test = c.loop-i-test in
    let loop = c.loop-i in
    let start = c in
    let u = c.is_unused in
    let l = loop in
    let a = start.args in
    let used = sym u.ensures ∙ c.if-not-is_unused.true in (
      seek_used l.invariant.0 loop-test.true c.if-left-eq0.false used,
      omega (arith, l.invariant.1),
      seedless_used (used_in_scene a.p.scene a.w.now) l.invariant.2 (unused_back {s = a.p.scene} l.i l.invariant.0.kept used),
    )

pub ask_early-asked-requires : goal.ask_early-asked-requires
ask_early-asked-requires c =
    let loop-test = c.loop-i-test in
    let loop = c.loop-i in
    let l = loop in
    (l.invariant.0.held, l.invariant.0.hashed, loop-test.true)

pub shape_of-w-then-is_known_by : goal.shape_of-w-then-is_known_by
shape_of-w-then-is_known_by c =
    let ask-early = c.ask_early-asked in
    let loop = c.loop-i in
    ask-early.auto.w ∙ loop.invariant.0.same

pub returns-then-is_known_by : goal.returns-then-is_known_by
returns-then-is_known_by c =
    let ask-early = c.ask_early-asked in
    let loop = c.loop-i in
    let start = c in
    let a = start.args in
    let l = loop in
    let e = ask-early in
    let k = c.is_known_by.ensures c.if-is_known_by.true in
    let upto = nothing_back {s = a.p.scene} a.points.now (Radius a.largest) l.invariant.0.kept (e.ensures.0 k.0) in (
      c.nothing_more-then-is_known_by.ensures.0 ∙ sym (ap option_found (told_nothing a.p.scene a.points.now (used_in_scene a.p.scene a.w.now) k.1 upto)),
      λ _. upto,
      kept_on l.invariant.0.kept e.ensures.1,
    )

pub try_first-first-requires : goal.try_first-first-requires
try_first-first-requires c =
    let ask-early = c.ask_early-asked in
    let if2 = c.if-not-is_unused in
    let is-unused = c.is_unused in
    let loop-test = c.loop-i-test in
    let loop = c.loop-i in
    let start = c in
    let a = start.args in
    let u = is-unused in
    let l = loop in
    let e = ask-early in
    let q = seek_kept l.invariant.0 e.new.w e.ensures.1 e.auto.w in
    let free = unused_back {s = a.p.scene} l.i l.invariant.0.kept (sym u.ensures ∙ if2.false) in (
      record { held = q.held; indexed = q.indexed; hashed = q.hashed; limiting = start.requires.3; inside = loop-test.true },
      before_kept {p = a.p} {w = a.w.now} (record { between = l.invariant.2; order = l.invariant.1; free = free }) q.kept,
    )

pub shape_of-w-in-Some : goal.shape_of-w-in-Some
shape_of-w-in-Some c =
    let try-first = c.try_first-first in
    let ask-early = c.ask_early-asked in
    let loop = c.loop-i in
    try-first.auto.w ∙ ask-early.auto.w ∙ loop.invariant.0.same

pub returns-in-Some : goal.returns-in-Some
returns-in-Some c =
    let try-first = c.try_first-first in
    let ask-early = c.ask_early-asked in
    let if2 = c.if-not-is_unused in
    let is-unused = c.is_unused in
    let if1 = c.if-left-eq0 in
    let loop-test = c.loop-i-test in
    let loop = c.loop-i in
    let start = c in
    let a = start.args in
    let u = is-unused in
    let l = loop in
    let e = ask-early in
    let q = seek_kept l.invariant.0 e.new.w e.ensures.1 e.auto.w in
    let f = try-first in
    let free = unused_kept {s = a.p.scene} l.i e.ensures.1 (sym u.ensures ∙ if2.false) in (
      seek_hit q loop-test.true if1.false free f.ensures.0.same c.in-Some.is,
      λ h. absurd (true_not_false h refl),
      kept_on q.kept f.ensures.1,
    )

pub known_from-lo-requires : goal.known_from-lo-requires
known_from-lo-requires c =
    let loop-test = c.loop-i-test in
    let loop = c.loop-i in
    let l = loop in
    (l.invariant.1, omega (arith, l.invariant.0.held.few, loop-test.true))

pub loop-i-preserved : goal.loop-i-preserved
loop-i-preserved c =
    let try-first = c.try_first-first in
    let ask-early = c.ask_early-asked in
    let if2 = c.if-not-is_unused in
    let is-unused = c.is_unused in
    let if1 = c.if-left-eq0 in
    let loop-test = c.loop-i-test in
    let loop = c.loop-i in
    let start = c in
    let a = start.args in
    let u = is-unused in
    let l = loop in
    let e = ask-early in
    let q = seek_kept l.invariant.0 e.new.w e.ensures.1 e.auto.w in
    let f = try-first in
    let m = c.known_from-lo in
    let free = unused_kept {s = a.p.scene} l.i e.ensures.1 (sym u.ensures ∙ if2.false) in (
      seek_miss q f.new.w loop-test.true if1.false free f.ensures.0.same c.in_default.is f.ensures.1
          f.auto.w,
      m.ensures.inside,
      seedless_on {w₀ = a.w.now} l.invariant.2 q.kept f.ensures.0.told m.ensures,
    )

pub shape_of-w : goal.shape_of-w
shape_of-w c = c.loop-i.invariant.0.same

pub returns : goal.returns
returns c =
    let l = c.loop-i in
    let m = c.nothing_more-2.ensures in
    (m.0 ∙ sym (ap option_found (seek_end l.invariant.0 c.loop-i-test.false)), λ h. absurd (true_not_false h m.1), l.invariant.0.kept)
