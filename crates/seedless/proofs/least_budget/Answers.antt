-- `least_budget` fits. Assumes nothing.
use Prim.Native.Nat.{◌*◌, ◌≤◌}
use native.Mathlib.Nat.{mul-le-mul}
use native.Mathlib.Omega.{arith}
use Rattle.seedless.proofs.least_budget.Goals as goal

pub overflow_mul-result-then-begun : goal.overflow_mul-result-then-begun
overflow_mul-result-then-begun c =
    let a = c.args in
    let h : a.count ≤ 4096 = c.requires in
    let k : 6 * a.count ≤ 24576 = omega arith in
    omega (arith, mul-le-mul h k)

pub overflow_mul-result-3 : goal.overflow_mul-result-3
overflow_mul-result-3 c =
    let a = c.args in
    let h : a.count ≤ 4096 = c.requires in
    let k : 13 * a.count ≤ 53248 = omega arith in
    omega (arith, mul-le-mul h k)
