-- `acos_inside` meets its contract, case by case.
use Rattle.numbers.specs.Acos.{acos_inside}
use Rattle.numbers.proofs.RootSpecial.{no_number}
use Rattle.arc_cosine.proofs.arc.acos_inside.Goals as goal

pub returns-then-m : goal.returns-then-m
unfolding acos_inside
returns-then-m c = rw (← c.abs-m.ensures, c.if-m.true) no_number

pub returns-then-m-2 : goal.returns-then-m-2
unfolding acos_inside
returns-then-m-2 c = rw (← c.abs-m.ensures, c.if-m.false, c.if-m-2.true)

pub returns-then-m-3 : goal.returns-then-m-3
unfolding acos_inside
returns-then-m-3 c =
    rw (← c.abs-m.ensures, c.if-m.false, c.if-m-2.false, c.if-m-3.true)
    c.acos_middle.ensures

pub returns-then-v : goal.returns-then-v
unfolding acos_inside
returns-then-v c =
    rw (
      ← c.abs-m.ensures,
      c.if-m.false,
      c.if-m-2.false,
      c.if-m-3.false,
      c.if-v.true,
    ) c.acos_low.ensures

pub returns-else-v : goal.returns-else-v
unfolding acos_inside
returns-else-v c =
    rw (
      ← c.abs-m.ensures,
      c.if-m.false,
      c.if-m-2.false,
      c.if-m-3.false,
      c.if-v.false,
    ) c.acos_high.ensures
