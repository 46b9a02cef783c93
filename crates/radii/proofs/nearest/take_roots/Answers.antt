-- `radii::nearest::take_roots` meets its contract. Assumes nothing.
use mathlib.Core.Path.{◌≡◌, sym, ap, ◌∙◌}
use mathlib.Core.List.{map}
use Prim.Native.Nat.{ℕ, ◌+◌, ◌-◌}
use native.Mathlib.Omega.{arith}
use lib.ListN.{length, take, drop, length-drop}
use lib.Seq.{length-take-le}
use borrow.Rule.Slice.PartMut.{put_mid}
use Rattle.std.proofs.lemmas.Slice.{take-put_mid_below, between-put_mid}
use Rattle.numbers.specs.Root.{root}
use Rattle.radii.proofs.Summing.{roots_start, roots_step, roots_end}
use Rattle.radii.proofs.nearest.take_roots.Goals as goal

pub loop-x-init : goal.loop-x-init
loop-x-init c = roots_start _

pub loop-x-preserved : goal.loop-x-preserved
loop-x-preserved c = roots_step _ c.loop-x.x-items c.loop-x.x-index _ c.loop-x-test.true c.loop-x.invariant c.sqrt.ensures

pub returns : goal.returns
returns c =
    let at = c.args.at in
    let count = c.args.count in
    let f = c.args.f.now in
    let roots = c.loop-x.x-items in
    let e : at + count - at ≡ count = omega arith in
    let long : length (take (at + count - at) (drop at f)) ≡ at + count - at =
    length-take-le (at + count - at) (drop at f) (simp length-drop (omega arith)) in (
      ap (λ (m : ℕ). take m (drop at (put_mid at (at + count - at) f roots))) (sym e)
          ∙ between-put_mid at (at + count - at) f roots (at + count) (omega arith) (c.loop-x.auto.x-items ∙ long)
          ∙ roots_end _ roots c.loop-x.x-index c.loop-x-test.false c.loop-x.invariant
          ∙ ap (λ (m : ℕ). map root (take m (drop at f))) e,
      take-put_mid_below at (at + count - at) f roots at (omega arith) (omega arith),
    )
