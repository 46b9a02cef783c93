-- A seed brings in all its points and is its own parent; any other face brings in its third. Assumes nothing.
use Rattle.tracing.proofs.Laws.{trace_seed, trace_other}
use Rattle.tracing.proofs.trace_face.Goals as goal

pub returns-then-first-eq0 : goal.returns-then-first-eq0
returns-then-first-eq0 c =
    trace_seed _ _ _ _ _ _ c.word_at-first.ensures _ _ _ c.if-first-eq0.true c.put_word.ensures c.put_word-then-first-eq0.ensures
    c.put_word-then-first-eq0-2.ensures

pub returns : goal.returns
returns c =
    trace_other _ _ _ _ _ _ c.word_at-first.ensures _ _ _ c.if-first-eq0.false c.word_at.ensures c.max-last.ensures c.put_word-2.ensures
