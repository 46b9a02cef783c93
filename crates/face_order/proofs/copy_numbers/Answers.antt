-- `copy_numbers` meets its contract. Assumes nothing.
use mathlib.Core.Path.{◌≡◌, refl, ap, ◌∙◌}
use mathlib.Core.List.{List, ◌++◌}
use Prim.Native.Nat.{ℕ}
use Rattle.std.proofs.Common.{arith, take, drop, get_or}
use Rattle.std.proofs.Math.ListN.{set, get_or-append}
use Rattle.std.proofs.Math.Seq.{take_all}
use Rattle.ordering.proofs.Slices.{copied_next}
use Rattle.face_order.proofs.copy_numbers.Goals as goal

pub loop-k-init : goal.loop-k-init
loop-k-init c = refl

pub loop-k-preserved : goal.loop-k-preserved
loop-k-preserved c =
    let l = c.loop-k in
    let a = c.args in
    ap (λ (t : List ℕ). set t l.k (get_or a.faces.now l.k 0)) l.invariant
    ∙ copied_next a.words.now a.faces.now l.k (omega (arith, c.requires)) (omega arith)

pub returns : goal.returns
returns c =
    let n = c.loop-k.k in
    let faces = c.args.faces.now in
    let rest = drop n c.args.words.now in
    let all : take n faces ≡ faces = take_all n faces (omega arith) in
    λ k h. ap (λ (t : List ℕ). get_or t k 0) (c.loop-k.invariant ∙ ap (λ (t : List ℕ). t ++ rest) all) ∙ get_or-append faces rest 0 k h
