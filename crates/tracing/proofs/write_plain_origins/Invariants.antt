-- The loop's invariant: the first k faces name themselves. Assumes nothing.
use mathlib.Core.Path.{◌≡◌}
use lib.Seq.{sets}
use Rattle.words.specs.Chunks.{chunks}
use Rattle.tracing.specs.Plain.{plain_origin}
use Rattle.tracing.proofs.write_plain_origins.Given as goal

abbrev pub invariant-loop-k : goal.invariant-loop-k
invariant-loop-k l = l.origins ≡ sets l.initial.origins 0 (chunks plain_origin 0 l.k)
