-- `plain::near::list_candidates` meets its contract. The loop's invariant: what is listed, and what is to come, is all.
-- Assumes nothing.
use Prim.Native.Nat.{◌≤◌}
use mathlib.Core.Path.{sym, ap, ◌∙◌}
use mathlib.Core.List.{List, ◌++◌, append-nil}
use native.Mathlib.Omega.{arith}
use lib.ListN.{length, take}
use Rattle.plain.proofs.Plain.{from_none}
use Rattle.plain.proofs.Listing.{count_step, lists_step, all_step}
use Rattle.plain.proofs.near.list_candidates.Goals as goal

pub loop-j-preserved : goal.loop-j-preserved
loop-j-preserved c =
    let l = c.loop-j in
    let h = c.loop-j-test.true in
    let n : c.args.i ≤ length l.w = omega (arith, l.auto.w, c.requires.2) in
    let m : c.args.i ≤ length l.lengths = omega (arith, l.auto.lengths, c.requires.3) in
    let e = c.add_candidate-count.ensures in (
      count_step e h l.invariant.0 n m,
      lists_step e h l.invariant.0 n m l.invariant.1,
      all_step e h l.invariant.0 n m _ l.invariant.2,
    )

pub returns : goal.returns
returns c =
    let l = c.loop-j in
    record {
      ready = c.requires.0;
      few = omega (arith, l.auto.j-end, l.invariant.0);
      lists = l.invariant.1;
      all = sym (append-nil _) ∙ ap (λ (r : List _). take l.count l.w ++ r)
          (sym (from_none c.args.points.now c.args.radius c.args.i l.j c.loop-j-test.false)) ∙ l.invariant.2;
    }
