-- `is_within_budget` meets its contract: nothing grows too large. Assumes nothing.
use Prim.Native.Nat.{◌+◌, ◌*◌, ◌/◌, ◌≤◌}
use native.Mathlib.Nat.{mul-le-mul}
use native.Mathlib.Omega.{arith}
use Rattle.seedless.proofs.is_within_budget.Goals as goal

pub overflow_mul-result-2 : goal.overflow_mul-result-2
overflow_mul-result-2 c =
    let a = c.args in
    let h : a.n ≤ 4096 = c.requires.0 in
    let k : 4 * a.searched + 9 + a.n / 64 ≤ 16457 = omega (arith, c.requires.1) in
    omega (arith, mul-le-mul h k)

pub overflow_mul-result-3 : goal.overflow_mul-result-3
overflow_mul-result-3 c =
    let a = c.args in
    let h : a.n ≤ 4096 = c.requires.0 in
    let k : 4 * a.searched + 9 + a.n / 64 ≤ 16457 = omega (arith, c.requires.1) in
    omega (arith, mul-le-mul h (mul-le-mul h k))
