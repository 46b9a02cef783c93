-- `needle_class` meets its contract.
use mathlib.Core.Path.{◌≡◌}
use mathlib.Core.Bool.{true}
use lib.Ieee.{Float, le}
use Rattle.numbers.specs.Rounded.{f32, ◌⊗◌}
use Rattle.needle_angles.proofs.Squares.{Plain, needle_10, needle_16, needle_32, needle_64, needle_128}
use Rattle.needle_angles.proofs.needle_class.Goals as goal

plain : (least most long : Float) → le (f32 0x2b800000) least ≡ true → le most (f32 0x4c800000) ≡ true → le long (f32 0x4c800000) ≡ true
    → le long (least ⊗ f32 0x4c800000) ≡ true → Plain least most long
plain least most long h i j k = record { from = rw h tt; most_under = rw i tt; long_under = rw j tt; far = rw k tt }

pub returns-then-most-short : goal.returns-then-most-short
returns-then-most-short c =
    let a = c.args in
    needle_128 (plain a.least a.most a.long c.if-not-least.false c.if-not-most.false c.if-not-long.false
    c.if-not-long-least.false) (rw c.if-most-short.true tt)

pub returns-then-most-short-2 : goal.returns-then-most-short-2
returns-then-most-short-2 c =
    let a = c.args in
    needle_64 (plain a.least a.most a.long c.if-not-least.false c.if-not-most.false c.if-not-long.false c.if-not-long-least.false)
    (rw c.if-most-short-2.true tt)

pub returns-then-most-short-3 : goal.returns-then-most-short-3
returns-then-most-short-3 c =
    let a = c.args in
    needle_32 (plain a.least a.most a.long c.if-not-least.false c.if-not-most.false c.if-not-long.false c.if-not-long-least.false)
    (rw c.if-most-short-3.true tt)

pub returns-then-most-short-4 : goal.returns-then-most-short-4
returns-then-most-short-4 c =
    let a = c.args in
    needle_16 (plain a.least a.most a.long c.if-not-least.false c.if-not-most.false c.if-not-long.false c.if-not-long-least.false)
    (rw c.if-most-short-4.true tt)

pub returns-then-most-short-5 : goal.returns-then-most-short-5
returns-then-most-short-5 c =
    let a = c.args in
    needle_10 (plain a.least a.most a.long c.if-not-least.false c.if-not-most.false c.if-not-long.false c.if-not-long-least.false)
    (rw c.if-most-short-5.true tt)
