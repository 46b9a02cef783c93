-- `decimals::nearest_quotient` meets its contract: twice the remainder is below the divisor or above it. Assumes
-- nothing.
use Prim.Native.Nat.{◌%◌, ◌/◌, ◌<◌, ◌≤◌}
use native.Mathlib.Nat.{mod-lt, div-le_self}
use native.Mathlib.Omega.{arith}
use Rattle.decimals.proofs.Closest.{closest_down, closest_up}
use Rattle.decimals.proofs.nearest_quotient.Goals as goal

pub overflow_mul-n : goal.overflow_mul-n
overflow_mul-n c = let p = c.requires in let r : c.args.n % c.args.d < c.args.d = mod-lt c.args.n p.0 in let l = p.1 in omega arith

pub overflow_add-result : goal.overflow_add-result
overflow_add-result c =
    let p = c.requires in let q : c.args.n / c.args.d ≤ c.args.n = div-le_self c.args.n
    c.args.d in let l = p.2 in omega arith

pub returns-then-n-d : goal.returns-then-n-d
returns-then-n-d c = closest_down c.args.n c.args.d c.if-n-d.true

pub returns-else-n-d : goal.returns-else-n-d
returns-else-n-d c = closest_up c.args.n c.args.d c.if-n-d.false c.requires.3
