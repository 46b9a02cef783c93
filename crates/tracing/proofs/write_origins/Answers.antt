-- One face more, and none that is left. Assumes nothing.
use lib.ListN.{take}
use Rattle.tracing.proofs.Laws.{tracing_step, tracing_end}
use Rattle.tracing.proofs.write_origins.Goals as goal

pub loop-k-preserved : goal.loop-k-preserved
loop-k-preserved c =
    tracing_step
    (take c.args.radii c.args.marks) c.args.faces.now c.args.count
    c.args.words.now c.args.origins.now _ _ c.loop-k.origins
    c.loop-k.k _ _ c.loop-k-test.true c.trace_face-parent.ensures.0
    c.trace_face-parent.ensures.1 c.place_of-place.ensures c.loop-k.invariant

pub returns : goal.returns
returns c =
    tracing_end (take c.args.radii c.args.marks) c.args.faces.now c.args.count c.args.words.now
    c.args.origins.now _ _ _ c.loop-k-test.false c.loop-k.invariant
