-- `minima::renew` meets its contract. The loop's invariant: only the node that comes next may be wrong, and no word but
-- nodes changed. Assumes nothing.
use Rattle.minima.proofs.Trees.{beside, node_stored, inner_stored, renewed_all}
use Rattle.std.proofs.Common.{◌≡◌, ◌+◌, ◌*◌, ◌-◌, ◌/◌, ◌≤◌, min, ℕ, length, length-set, get_or, set, sym, ◌∙◌, arith, rules, get_or-set_same}
use Rattle.minima.proofs.renew.Goals as goal

pub loop-k-preserved : goal.loop-k-preserved
loop-k-preserved c =
    let l = c.loop-k in
    let a = c.args in
    let e = c.min-v in
    let up = l.k / 2 in
    let room : a.base + 2 * a.count ≤ length l.words = omega (arith, length-set {A = ℕ}) in
    let least : e.result ≡ min l.v (get_or l.words (a.base + (4 * (l.k / 2) + 1 - l.k)) 0) = search rules in (
      omega (arith, l.invariant.0),
      omega arith,
      sym (get_or-set_same l.words (a.base + l.k / 2) e.result 0 (omega (arith, l.invariant.0))),
      (λ h. node_stored a.base a.count l.words (l.k / 2) e.result (omega arith) (omega (arith, l.invariant.0)) room
          (least ∙ beside a.base l.k l.words l.v l.invariant.2) (l.invariant.3 h)),
      inner_stored a.base a.count (set a.words.now (a.base + a.count + a.element) a.value) l.words (l.k / 2) e.result
          (omega (arith, l.invariant.0)) l.invariant.4,
    )

pub returns : goal.returns
returns c =
    let l = c.loop-k in
    let a = c.args in
    let p = c.requires in
    let z : l.k / 2 ≡ 0 = omega (arith, l.invariant.1) in
    renewed_all a.base a.count a.element a.value a.words.now l.words p.0 p.1 (λ h. rw z at (l.invariant.3 h)) l.invariant.4
