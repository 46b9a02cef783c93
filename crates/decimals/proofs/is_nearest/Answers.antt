-- `decimals::is_nearest` meets its contract: it is the three tests. Assumes nothing.
use Prim.Native.Nat.{◌*◌, ◌≤◌}
use native.Mathlib.Nat.{mul-le-mul_right}
use native.Mathlib.Omega.{arith}
use Rattle.std.proofs.lemmas.Bool.Decides.{nat_tests}
use Rattle.decimals.proofs.is_nearest.Goals.{Start}
use Rattle.decimals.proofs.is_nearest.Goals as goal

product : (c : Start) → c.args.q * c.args.d ≤ 16777216 * 1000000
product c =
    let p = c.requires in let d = p.1 in let a : c.args.q * c.args.d ≤ 16777216 * c.args.d = mul-le-mul_right c.args.d
    (let q = p.2 in omega arith) in omega arith

pub overflow_mul-p : goal.overflow_mul-p
overflow_mul-p c = let b = product c in omega arith

pub overflow_mul-p-2 : goal.overflow_mul-p-2
overflow_mul-p-2 c = let b = product c in omega arith

pub overflow_mul-p-then-p-n : goal.overflow_mul-p-then-p-n
overflow_mul-p-then-p-n c = let b = product c.before in omega arith

pub overflow_add-p : goal.overflow_add-p
overflow_add-p c = let b = product c.before in omega arith

pub returns-then-n-p : goal.returns-then-n-p
returns-then-n-p c = grind (arith, nat_tests)

pub returns-else-n-p : goal.returns-else-n-p
returns-else-n-p c = grind (arith, nat_tests)
