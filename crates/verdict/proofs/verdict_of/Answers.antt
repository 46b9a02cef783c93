-- `verdict::verdict_of` meets its contract: each way out is a case of `verdict_of`. Assumes nothing.
use Rattle.verdict.specs.Verdict.{verdict_of}
use Rattle.verdict.proofs.verdict_of.Goals as goal

pub returns-then-area : goal.returns-then-area
unfolding verdict_of
returns-then-area c = rw c.if-area.true

pub returns-then-area-min_triangle_area : goal.returns-then-area-min_triangle_area
unfolding verdict_of
returns-then-area-min_triangle_area c = rw (c.if-area.false, c.if-area-min_triangle_area.true)

pub returns-then-score-quality_threshold : goal.returns-then-score-quality_threshold
unfolding verdict_of
returns-then-score-quality_threshold c = rw (c.if-area.false, c.if-area-min_triangle_area.false, c.if-score-quality_threshold.true)

pub returns-then-long-radius : goal.returns-then-long-radius
unfolding verdict_of
returns-then-long-radius c =
    rw (
      c.if-area.false,
      c.if-area-min_triangle_area.false,
      c.if-score-quality_threshold.false,
      ← c.stretch-long.ensures,
      c.if-long-radius.true,
    )

pub returns : goal.returns
unfolding verdict_of
returns c =
    rw (
      c.if-area.false,
      c.if-area-min_triangle_area.false,
      c.if-score-quality_threshold.false,
      ← c.stretch-long.ensures,
      c.if-long-radius.false,
    )
