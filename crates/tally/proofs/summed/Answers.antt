-- `tally::summed` meets its contract. Assumes nothing.
use native.Mathlib.Omega.{arith}
use Rattle.tally.proofs.Told.{product}
use Rattle.tally.specs.Checks.{max_faces}
use Prim.Native.Nat.{◌≤◌}
use Rattle.tally.specs.Tallies.{summed}
use Rattle.tally.proofs.summed.Goals as goal

pub overflow_mul-result : goal.overflow_mul-result
overflow_mul-result c =
    let f : c.wide-faces.result ≤ max_faces = omega
    (arith, c.wide-faces.ensures.0, c.requires.1.faces) in record { fits = omega (arith, product f f) }

pub overflow_add-result-3 : goal.overflow_add-result-3
overflow_add-result-3 c =
    let f : c.wide-faces.result ≤ max_faces = omega
    (arith, c.wide-faces.ensures.0, c.requires.1.faces) in record {
      fits = omega
          (arith, product f f, c.requires.0.sums.squares, c.requires.0.more);
    }

pub returns : goal.returns
unfolding summed
returns c =
    rw (c.wide-faces.ensures.0, c.wide.ensures.0, c.wide-2.ensures.0)
