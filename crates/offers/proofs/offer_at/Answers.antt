-- `offers::offer_at` meets its contract. The loop's invariant: the corners from `next` on were passed. Assumes nothing.
use Prim.Native.Nat.{◌-◌}
use mathlib.Core.Path.{◌∙◌}
use Rattle.lists.proofs.Bytes.{byte_bit, byte_le}
use Rattle.offers.proofs.Walk.{walk_start, walk_bound, walk_step, walk_end}
use native.Mathlib.Omega.{arith}
use Rattle.offers.proofs.offer_at.Goals as goal

pub loop-next-init : goal.loop-next-init
loop-next-init c =
    let a = c.args in
    let low = c.requires.4.heads a.x c.requires.2 in
    (low, omega arith, walk_start a.n a.count a.x a.y a.words.now c.requires.2)

pub loop-next-preserved : goal.loop-next-preserved
loop-next-preserved c =
    let a = c.args in
    let l = c.loop-next in
    let o = c.offer_with in
    let f = c.from-met in
    let u = o.new.words in
    let w = walk_step a.n a.count a.x a.y a.words.now c.requires.1 l.words u l.met l.next f.result (omega arith) l.invariant.0
    l.invariant.2 o.result (f.ensures ∙ byte_bit o.result) o.ensures in
    let low = (walk_bound a.n a.count a.x a.y a.words.now c.requires.1 u w.outside c.requires.4).links (l.next - 1) (omega arith) in
    let b = byte_le o.result in
    (omega (arith, l.invariant.0), omega (arith, l.invariant.1, f.ensures), w)

pub returns : goal.returns
returns c =
    let a = c.args in
    let l = c.loop-next in
    walk_end a.n a.count a.x a.y a.words.now l.words l.met l.next (omega arith) l.invariant.2
