-- `root_of` meets its contract. The scaled number has 47 or 48 digits, so no digit is shifted out; its root has 24, or
-- is 2^24, so the pattern has no overflow.
use mathlib.Core.Path.{◌≡◌, ap, ◌∙◌}
use Prim.Native.Nat.{ℕ, ◌+◌, ◌*◌, ◌/◌, ◌%◌, ◌^◌, ◌≤◌, ◌<◌}
use native.Mathlib.Nat.{lt_of_lt_of_le, mod-eq_of_lt}
use native.Mathlib.Omega.{arith}
use lib.Pow.{pow_pos}
use Rattle.numbers.specs.Root.{nearest_root}
use Rattle.numbers.proofs.RootWhole.{nearest_bounds}
use Rattle.numbers.proofs.RootUnits.{long}
use Rattle.numbers.proofs.root.root_of.Goals.{After-nearest_root}
use Rattle.numbers.proofs.root.root_of.Goals as goal

unmoved : (q k : ℕ) → 2 ^ 23 ≤ q → q < 2 ^ 24 → q * 2 ^ (23 + k % 2) % 2 ^ 64 ≡ q * 2 ^ (23 + k % 2)
unmoved q k lo hi = let h = (long q k lo hi).1 in mod-eq_of_lt (omega arith)

scaled_root : (c : After-nearest_root) → c.nearest_root.result ≡ nearest_root (c.args.q * 2 ^ (23 + c.args.k % 2))
scaled_root c = let p = c.requires in c.nearest_root.ensures ∙ ap nearest_root (unmoved c.args.q c.args.k p.0 p.1)

root_top : (c : After-nearest_root) → c.nearest_root.result ≤ 2 ^ 24
root_top c =
    let p = c.requires in
    let l = long c.args.q c.args.k p.0 p.1 in
    rw (scaled_root c) (nearest_bounds _ l.0 l.1).1

pub nearest_root-requires : goal.nearest_root-requires
nearest_root-requires c =
    let p = c.requires in
    let l = long c.args.q c.args.k p.0 p.1 in
    rw (unmoved c.args.q c.args.k p.0 p.1) (lt_of_lt_of_le (pow_pos 46) l.0, l.1)

pub overflow_cast-result : goal.overflow_cast-result
overflow_cast-result c = omega (arith, root_top c)

pub overflow_add-result : goal.overflow_add-result
overflow_add-result c = omega (arith, root_top c)

pub returns : goal.returns
returns c = ap (λ (r : ℕ). c.args.k / 2 * 8388608 + r) (scaled_root c)
