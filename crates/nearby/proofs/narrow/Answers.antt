-- `narrow` meets its contract. The loop's invariant: what is left of the list leads to the whole. Assumes nothing.
use native.Mathlib.Omega.{arith}
use Rattle.nearby.proofs.Keeping.{held_kept, cells_kept}
use Rattle.nearby.proofs.Narrowing.{narrow_start, narrow_below, narrow_skip, narrow_take, narrow_end}
use Rattle.nearby.proofs.narrow.Goals as goal
use Rattle.nearby.proofs.narrow.Goals.{then-passes, else-passes}

pub loop-m-init : goal.loop-m-init
loop-m-init c = narrow_start

pub overflow_cast-k : goal.overflow_cast-k
overflow_cast-k c =
    let a = c in
    let h = narrow_below a.requires.0 a.requires.2 c.loop-m.invariant c.loop-m-test.true in
    record { fits = omega (arith, h, a.requires.0.few) }

pub passes-requires : goal.passes-requires
passes-requires c =
    let l = c.loop-m in
    let a = c in (
      held_kept l.w a.requires.0 l.invariant.same,
      cells_kept a.args.s.grid a.args.points.now a.args.s.n a.args.w.now l.w a.requires.1 l.invariant.kept.before,
      narrow_below a.requires.0 a.requires.2 l.invariant c.loop-m-test.true,
    )

pub insert_point-requires : goal.insert_point-requires
insert_point-requires c =
    let l = c.loop-m in
    let a = c in (
      narrow_below a.requires.0 a.requires.2 l.invariant c.loop-m-test.true,
      a.requires.0.few,
      omega (arith, a.requires.0.work_long, l.invariant.same),
      omega (arith, a.requires.0.work_long, l.invariant.same, l.invariant.most, a.requires.2.most, c.loop-m-test.true),
      l.invariant.below,
    )

pub loop-m-preserved : goal.loop-m-preserved
loop-m-preserved c =
    let k = c.loop-m.invariant in
    let held = c.requires.0 in
    let t = c.loop-m-test.true in
    let e = c.passes.ensures in
    elim c.if-passes.branch [
      | then-passes w ↦
          let i = w.insert_point in
          rw (w.w-is, w.kept-is) (narrow_take held c.requires.2 k i.new.w t c.requires.1 e w.if-passes.true i.auto.w i.ensures)
      | else-passes w ↦ rw (w.w-is, w.kept-is) (narrow_skip held c.requires.2 k t e w.if-passes.false)
    ]

pub shape_of-w : goal.shape_of-w
shape_of-w c = c.loop-m.invariant.same

pub returns : goal.returns
returns c = let a = c in narrow_end a.requires.0 a.requires.2 c.loop-m.invariant c.loop-m-test.false
