-- `order` meets its contract, by induction on the depth: halving keeps the words' counts, and so does each call on a
-- half. Assumes nothing.
use native.Mathlib.Omega.{arith}
use Rattle.listed_boxes.proofs.Words.{same_self, same_on, parts_same}
use Prim.Native.Nat.{ℕ, ◌≤◌}
use mathlib.Core.Path.{sym, ◌∙◌, subst⁻¹}
use lib.ListN.{length}
use lib.Seq.{length-take-le}
use Rattle.axis_sort.proofs.Parts.{size_1, size_2}
use Rattle.listed_boxes.proofs.+order.Goals as goal

pub returns-then-list-le-FEW : goal.returns-then-list-le-FEW
returns-then-list-le-FEW t c = same_self _

pub returns-then-depth-eq0 : goal.returns-then-depth-eq0
returns-then-depth-eq0 t c = same_self _

pub slice_bounds-order-end : goal.slice_bounds-order-end
slice_bounds-order-end t c = let x = c.halve-half in omega (arith, x.ensures.0, x.auto.list)

pub slice_bounds-order-end-2 : goal.slice_bounds-order-end-2
slice_bounds-order-end-2 t c =
    let x = c.halve-half in let o = x.new.list in let m = x.result in let h : m ≤ length o = omega
    (arith, x.ensures.0, x.auto.list) in sym (length-take-le m o h)

pub order-requires : goal.order-requires
order-requires t c =
    let d = c.if-depth-eq0.false in
    (omega (arith, c.decreases), tt)

pub slice_bounds-order-count : goal.slice_bounds-order-count
slice_bounds-order-count t c =
    let x = c.halve-half in let o = x.new.list in let m = x.result in let h : m ≤ length o = omega
    (arith, x.ensures.0, x.auto.list) in let y = c.order in let a = y.new.list in subst⁻¹ (λ (n : ℕ). m ≤ n)
    (size_1 o a m h y.auto.list) h

pub order-requires-2 : goal.order-requires-2
order-requires-2 t c =
    let d = c.if-depth-eq0.false in
    (omega (arith, c.decreases), tt)

pub shape_of-list : goal.shape_of-list
shape_of-list t c =
    let x = c.halve-half in let o = x.new.list in let m = x.result in let
    h : m ≤ length o = omega (
      arith,
      x.ensures.0,
      x.auto.list,
    ) in let y = c.order in let a = y.new.list in let z = c.order-2
    in let b = z.new.list in size_2 o a m h y.auto.list b z.auto.list ∙ x.auto.list

pub returns : goal.returns
returns t c =
    let x = c.halve-half in let o = x.new.list in let m = x.result in let
    h : m ≤ length o = omega (
      arith,
      x.ensures.0,
      x.auto.list,
    ) in let y = c.order in let a = y.new.list in let z = c.order-2
    in let b = z.new.list in same_on x.ensures.1 (parts_same o a m h y.ensures b z.ensures)
