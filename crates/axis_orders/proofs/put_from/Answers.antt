-- `put_from` meets its contract. Assumes nothing.
use mathlib.Core.Path.{◌≡◌, ap, ◌∙◌}
use mathlib.Core.List.{List, [], ◌++◌, append-nil}
use Prim.Native.Nat.{ℕ, ◌+◌, ◌-◌}
use Rattle.std.proofs.Common.{arith}
use Rattle.std.proofs.Math.ListN.{length, get_or, take, drop, set, drop_of_length-le}
use Rattle.std.proofs.Math.Seq.{paste}
use Rattle.std.proofs.lemmas.List.Edits.{paste_none, paste_more}
use Rattle.axis_orders.proofs.put_from.Goals as goal

pub loop-i-init : goal.loop-i-init
loop-i-init c = paste_none c.args.list.now c.args.from c.args.work.now

pub loop-i-preserved : goal.loop-i-preserved
loop-i-preserved c =
    let l = c.loop-i in
    let a = c.args in
    let r = c.requires in
    ap (λ (t : List ℕ). set t (a.from + l.i) (get_or a.work.now l.i 0)) l.invariant
    ∙ paste_more a.list.now a.from a.work.now l.i 0 (omega (arith, r.0)) (omega (arith, r.0, r.1))

pub returns : goal.returns
returns c =
    let a = c.args in
    let n : ℕ = length a.list.now - a.from in
    let ended : c.loop-i.i ≡ n = omega arith in
    let rest : drop (a.from + n) a.list.now ≡ [] = drop_of_length-le a.list.now {i = a.from + n} (omega (arith, c.requires.0)) in
    c.loop-i.invariant ∙ ap (paste a.list.now a.from a.work.now) ended
    ∙ ap (λ (t : List ℕ). (take a.from a.list.now ++ take n a.work.now) ++ t) rest ∙ append-nil (take a.from a.list.now ++ take n a.work.now)
