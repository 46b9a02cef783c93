-- `patch_order::is_too_many` meets its contract. Assumes nothing.
use native.Mathlib.Omega.{arith}
use borrow.Author.Tests.{lt-ltb, le-ltb}
use Prim.Native.Nat.{◌+◌}
use Rattle.patch_order.specs.Inner.Ready.{too_many}
use Rattle.patch_order.proofs.Each.{shifted}
use Rattle.patch_order.proofs.is_too_many.Goals as goal

pub returns-then-count-eq0 : goal.returns-then-count-eq0
unfolding too_many
returns-then-count-eq0 c = let a = c.args in let e = c.if-count-eq0.true in rw (le-ltb 0 a.count (omega arith))

pub returns-then-n-lt2 : goal.returns-then-n-lt2
unfolding too_many
returns-then-n-lt2 c =
    let a = c.args in let e = c.if-count-eq0.false in let h = c.if-n-lt2.true in rw
    (lt-ltb 0 a.count (omega arith), lt-ltb a.n (a.count + 2) (omega arith))

pub returns : goal.returns
unfolding too_many
returns c =
    let a = c.args in let e = c.if-count-eq0.false in let h = c.if-n-lt2.false in rw (lt-ltb 0 a.count (omega arith))
    (shifted a.n a.count (omega arith))
