-- `copy_order` meets its contract. Assumes nothing.
use mathlib.Core.Path.{◌≡◌, refl, sym, ap, ◌∙◌}
use mathlib.Core.List.{List, ◌++◌}
use Prim.Native.Nat.{ℕ, ◌+◌}
use Rattle.std.proofs.Common.{arith, get_or, take, drop}
use Rattle.std.proofs.Math.ListN.{set, length-drop}
use Rattle.std.proofs.Math.Seq.{get_or-drop}
use Rattle.regions.specs.Inner.Ordering.{placed_at}
use Rattle.ordering.proofs.Slices.{copied_next}
use Rattle.ordering.proofs.copy_order.Goals as goal

pub loop-j-init : goal.loop-j-init
loop-j-init c = refl

pub loop-j-preserved : goal.loop-j-preserved
loop-j-preserved c =
    let l = c.loop-j in
    let a = c.args in
    let at = placed_at a.n in
    let placed = drop at a.words.now in
    let long = length-drop at a.words.now in
    ap (λ (t : List ℕ). set t l.j (get_or a.words.now (at + l.j) 0)) l.invariant
    ∙ ap (λ (v : ℕ). set (take l.j placed ++ drop l.j a.order.now) l.j v) (sym (get_or-drop at a.words.now l.j 0))
    ∙ copied_next a.order.now placed l.j (omega (arith, c.requires)) (omega (arith, c.requires, long))

pub returns : goal.returns
returns c =
    let a = c.args in
    let ended : c.loop-j.j ≡ a.count = omega arith in
    c.loop-j.invariant ∙ ap (λ (k : ℕ). take k (drop (placed_at a.n) a.words.now) ++ drop k a.order.now) ended
