-- `numerals::digits_end` meets its contract: the digits before i and those from i on are those from `at` on. The
-- measure is how many are left. Assumes nothing.
use mathlib.Core.Bool.{true}
use mathlib.Core.Path.{◌≡◌, sym, ◌∙◌}
use native.Mathlib.Omega.{arith}
use lib.ListN.{drop}
use Rattle.numerals.specs.Format.{starts_digit}
use Rattle.numerals.proofs.Bytes.{digits_step, digits_end, digit_inside}
use Rattle.numerals.proofs.digits_end.Goals.{In-loop-i}
use Rattle.numerals.proofs.digits_end.Goals as goal

-- a digit stands at i where the loop goes on
met : (c : In-loop-i) → starts_digit (drop c.loop-i.i c.args.s.now) ≡ true
met c = sym c.is_digit.ensures ∙ c.loop-i-test.true

pub overflow_add-i : goal.overflow_add-i
overflow_add-i c = let s = c.args.s.now in let i = c.loop-i.i in let h = digit_inside s i (met c) in omega arith

pub loop-i-smaller : goal.loop-i-smaller
loop-i-smaller c = let s = c.args.s.now in let i = c.loop-i.i in let h = digits_step s i (met c) in omega arith

pub loop-i-preserved : goal.loop-i-preserved
loop-i-preserved c = let s = c.args.s.now in let i = c.loop-i.i in let h = digits_step s i (met c) in omega arith

pub returns : goal.returns
returns c = let h = digits_end _ (sym c.is_digit.ensures ∙ c.loop-i-test.false) in omega arith
