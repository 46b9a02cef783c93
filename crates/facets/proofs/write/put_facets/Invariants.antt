-- `write::put_facets` meets its contract: the first i facets were put. Assumes nothing.
use mathlib.Core.Path.{◌≡◌}
use lib.Seq.{sets}
use Rattle.words.specs.Chunks.{chunks}
use Rattle.facets.specs.Format.{facet_of, corner_at}
use Rattle.facets.proofs.write.put_facets.Given as goal

abbrev pub invariant-loop-i : goal.invariant-loop-i
invariant-loop-i l = l.out ≡ sets l.initial.out 84 (chunks (facet_of (corner_at l.points l.faces)) 0 l.i)
