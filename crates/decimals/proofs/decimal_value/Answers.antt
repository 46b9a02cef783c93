-- `decimals::decimal_value` meets its contract: the digits before the point and behind it, read as one, are below 10 ^
-- 11. Assumes nothing.
use Prim.Native.Nat.{◌+◌, ◌*◌}
use native.Mathlib.Omega.{arith}
use Rattle.decimals.specs.Decimal.{decimal}
use Rattle.decimals.specs.Inner.Ready.{Tenths}
use Rattle.decimals.proofs.Nearest.{at_most}
use Rattle.decimals.proofs.Decimal.{decimal_tenths}
use Rattle.decimals.proofs.decimal_value.Goals.{After-power_of_ten-ten}
use Rattle.decimals.proofs.decimal_value.Goals as goal

-- all digits over the power of ten
tenths : (c : After-power_of_ten-ten) → Tenths (c.args.units * c.power_of_ten-ten.result + c.args.parts) c.power_of_ten-ten.result
tenths c = rw c.power_of_ten-ten.ensures (decimal_tenths _ _ _ c.requires)

pub overflow_mul-m : goal.overflow_mul-m
overflow_mul-m c = let b = (tenths c).below in let l = at_most _ _ (tenths c) in omega arith

pub overflow_add-m : goal.overflow_add-m
overflow_add-m c = let b = (tenths c).below in let l = at_most _ _ (tenths c) in omega arith

pub quotient-v-requires : goal.quotient-v-requires
quotient-v-requires c = tenths c

pub returns-then-negative : goal.returns-then-negative
unfolding decimal
returns-then-negative c = rw (c.quotient-v.ensures, c.power_of_ten-ten.ensures, c.if-negative.true)

pub returns-else-negative : goal.returns-else-negative
unfolding decimal
returns-else-negative c = rw (c.quotient-v.ensures, c.power_of_ten-ten.ensures, c.if-negative.false)
