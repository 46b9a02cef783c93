-- `work_of` fits. Assumes nothing.
use Prim.Native.Nat.{◌+◌, ◌*◌, ◌≤◌}
use native.Mathlib.Nat.{mul-le-mul}
use native.Mathlib.Omega.{arith}
use Rattle.seedless.proofs.work_of.Goals as goal

pub overflow_mul-result-2 : goal.overflow_mul-result-2
overflow_mul-result-2 c =
    let a = c.args in
    let h : a.count ≤ 4096 = c.requires.0 in
    let k : a.count + 16 * a.near ≤ 69632 = omega (arith, c.requires.0, c.requires.1) in
    omega (arith, mul-le-mul h k)
