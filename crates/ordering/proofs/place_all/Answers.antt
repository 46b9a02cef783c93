-- `ordering::place_all` meets its contract. The loop's invariant: for any faces that the words tell, the greedy order
-- so far. Assumes nothing.
use Rattle.regions.specs.Inner.Ordering.{tree_at, placed_at}
use Rattle.lists.proofs.Bytes.{byte_bit, byte_le}
use Rattle.ordering.proofs.Running.{runs_start, runs_astray, runs_refused, runs_step, runs_end, places_as, placed_bound}
use Rattle.ordering.specs.Inner.Ordering.{least_face}
use lib.ListN.{set, get_or}
use lib.Dec.{ltb}
use mathlib.Core.Bool.{true, false, not}
use mathlib.Core.Path.{ap, ◌∙◌}
use Prim.Native.Nat.{◌+◌}
use native.Mathlib.Omega.{arith}
use borrow.Author.Rules.{rules}
use Rattle.ordering.proofs.place_all.Goals as goal

pub loop-k-init : goal.loop-k-init
loop-k-init c = (search rules, c.requires.3, runs_start c.args.n c.args.count c.args.words.now)

pub returns-then-count-i : goal.returns-then-count-i
returns-then-count-i c =
    let a = c.args in
    let l = c.loop-k in
    runs_astray a.n a.count c.requires.1 a.words.now l.words l.k l.seeds l.invariant.2 l.words c.loop-k-test.true
    (omega (arith, c.face_of-i.ensures, c.if-count-i.true))

pub returns-then-not-place : goal.returns-then-not-place
returns-then-not-place c =
    let a = c.args in
    let l = c.loop-k in
    let f = c.face_of-i in
    let q = c.place in
    runs_refused a.n a.count c.requires.1 a.words.now l.words l.k l.seeds l.invariant.2 q.new.words c.loop-k-test.true
    (places_as a.n a.count f.result (least_face a.count (get_or l.words (tree_at a.n + 1) 0))
    (ltb (get_or l.words (tree_at a.n + 1) 0) a.count) q.result false l.words q.new.words f.ensures
    c.if-not-place.true q.ensures)

pub loop-k-preserved : goal.loop-k-preserved
loop-k-preserved c =
    let a = c.args in
    let p = c.requires in
    let l = c.loop-k in
    let f = c.face_of-i in
    let q = c.place in
    let s = c.from-seeds in
    let b = not (ltb (get_or l.words (tree_at a.n + 1) 0) a.count) in
    let z = q.new.words in (
      omega (arith, s.ensures, l.invariant.0, byte_le b),
      placed_bound a.n a.count p.1 f.result (ltb (get_or l.words (tree_at a.n + 1) 0) a.count) q.result l.words z l.k f.result
          q.ensures l.invariant.1,
      runs_step a.n a.count p.1 a.words.now l.words l.k l.seeds l.invariant.2 z c.loop-k-test.true (set z (placed_at a.n + l.k) f.result)
          s.result (places_as a.n a.count f.result (least_face a.count (get_or l.words (tree_at a.n + 1) 0))
          (ltb (get_or l.words (tree_at a.n + 1) 0) a.count) q.result true l.words q.new.words f.ensures
          c.if-not-place.false q.ensures) (ap (set z (placed_at a.n + l.k)) f.ensures)
          (omega (arith, q.auto.words, l.auto.words, p.0, p.1, p.2)) (s.ensures ∙ byte_bit b),
    )

pub returns : goal.returns
returns c =
    let a = c.args in
    let l = c.loop-k in
    runs_end a.n a.count c.requires.1 a.words.now l.words l.k l.seeds l.invariant.2 c.loop-k-test.false
