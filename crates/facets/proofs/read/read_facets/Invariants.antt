-- `read::read_facets` meets its contract: the corners of the first i facets were stored. Assumes nothing.
use mathlib.Core.Path.{◌≡◌}
use lib.Seq.{sets}
use Rattle.words.specs.Chunks.{chunks}
use Rattle.facets.specs.Format.{corners_of}
use Rattle.facets.proofs.read.read_facets.Given as goal

abbrev pub invariant-loop-i : goal.invariant-loop-i
invariant-loop-i l = l.corners ≡ sets l.initial.corners 0 (chunks (corners_of l.bytes) 0 l.i)
