-- A face that looks in has its first two points swapped. Assumes nothing.
use mathlib.Core.Path.{sym, subst, ◌∙◌}
use Prim.Native.Nat.{ℕ, ◌*◌, ◌+◌}
use mathlib.Core.List.{List}
use native.Mathlib.Omega.{arith}
use Rattle.std.proofs.lemmas.List.Edits.{swap_is}
use Rattle.looks.specs.Inner.Looks.{parent_in}
use Rattle.looks.proofs.Turns.{Turning, told_in, told_out, turning_end}
use Rattle.looks.proofs.turn_told.Goals as goal
use Rattle.looks.proofs.turn_told.Goals.{then-sides-k-ne0, else-sides-k-ne0}

pub loop-k-preserved : goal.loop-k-preserved
loop-k-preserved c origins known =
    let t = c.loop-k.invariant origins known in
    elim c.if-sides-k-ne0.branch [
      | then-sides-k-ne0 w ↦
          told_in origins c.args.sides.now c.args.faces.now c.args.n known c.loop-k.faces c.loop-k.k c.loop-k-test.true t
          c.if-sides-k-ne0.faces w.if-sides-k-ne0.true
          (w.faces-is ∙ w.swap.ensures.after
          ∙ sym (swap_is c.loop-k.faces (3 * c.loop-k.k) (3 * c.loop-k.k + 1) 0 (omega arith) (omega arith)))
      | else-sides-k-ne0 w ↦
          subst (λ (l : List ℕ). Turning (parent_in origins) c.args.faces.now c.args.n l (c.loop-k.k + 1)) (sym w.faces-is)
          (told_out origins c.args.sides.now c.args.faces.now c.args.n known c.loop-k.faces c.loop-k.k c.loop-k-test.true t
          w.if-sides-k-ne0.false)
    ]

pub returns : goal.returns
returns c origins known =
    turning_end (parent_in origins) c.args.faces.now c.args.n _ _ c.loop-k-test.false (c.loop-k.invariant origins known)
