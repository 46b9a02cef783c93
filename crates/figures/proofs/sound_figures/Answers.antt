-- `figures::sound_figures` meets its contract. Assumes nothing.
use native.Mathlib.Omega.{arith}
use Rattle.tally.proofs.Told.{squares_fit, faces_fit, product, square_some}
use Rattle.figures.specs.Working.{sound_figures, variance_of}
use Rattle.figures.proofs.sound_figures.Goals as goal

pub overflow_mul-patches : goal.overflow_mul-patches
overflow_mul-patches c = record { fits = omega (arith, squares_fit _ c.requires.0.sums) }

pub overflow_mul-faces : goal.overflow_mul-faces
overflow_mul-faces c = record { fits = omega (arith, faces_fit _ c.requires.0.sums) }

pub overflow_mul-patches-2 : goal.overflow_mul-patches-2
overflow_mul-patches-2 c = let m = c.requires.0.sums.patches in record { fits = omega (arith, product m m) }

pub lowest-requires-2 : goal.lowest-requires-2
lowest-requires-2 c = square_some _ c.requires.1

pub coverage_of-requires : goal.coverage_of-requires
coverage_of-requires c = (c.requires.0.ends c.requires.1).0.some

pub coverage_of-requires-2 : goal.coverage_of-requires-2
coverage_of-requires-2 c =
    (c.requires.0.ends c.requires.1).1.some

pub returns : goal.returns
unfolding sound_figures variance_of
returns c =
    rw (
      c.lowest.ensures,
      c.lowest-2.ensures,
      c.lowest-3.ensures,
      c.coverage_of.ensures,
      c.coverage_of-2.ensures,
    )
