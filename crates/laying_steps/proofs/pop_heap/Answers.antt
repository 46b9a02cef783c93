-- `laying_steps::pop_heap` meets its contract. Assumes nothing.
use Prim.Native.Nat.{◌*◌}
use native.Mathlib.Omega.{arith}
use Rattle.laying_words.proofs.Slices.{only_wider}
use Rattle.laying_steps.proofs.Work.{pop_takes}
use Rattle.laying_steps.proofs.pop_heap.Goals as goal

pub returns : goal.returns
returns c =
    let s = c in
    let p = c.pop_frontier-entry in record {
      pops = pop_takes s.args.n s.args.c s.args.w.now p.new.w p.result p.ensures;
      only_in = only_wider (5 * s.args.n) (9 * s.args.n) (omega arith)
          (omega arith) p.ensures.only;
    }
