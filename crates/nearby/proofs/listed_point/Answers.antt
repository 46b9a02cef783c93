-- `listed_point` meets its contract. Assumes nothing.
use mathlib.Core.Path.{refl}
use native.Mathlib.Omega.{arith}
use Rattle.nearby.proofs.listed_point.Goals as goal

pub overflow_cast-result : goal.overflow_cast-result
overflow_cast-result c =
    let s = c in
    record { fits = omega (arith, s.requires.2.below s.args.m s.requires.3, s.requires.0) }

pub returns : goal.returns
returns c = let s = c in (refl, s.requires.2.below s.args.m s.requires.3)
