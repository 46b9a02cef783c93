-- `refuses` meets its contract. Assumes nothing.
use Rattle.box_filters.specs.Inner.RefusedWithin.{small_areas, large_areas, thin_edges, all_slivers, low_scores}
use Rattle.box_filters.proofs.refuses.Goals as goal

pub returns-then-area-l : goal.returns-then-area-l
returns-then-area-l c = λ h. small_areas (rw c.if-area-l.true tt)

pub returns-then-area-l-2 : goal.returns-then-area-l-2
returns-then-area-l-2 c = λ h. large_areas (rw c.if-area-l-2.true tt)

pub returns-then-is_thin_within : goal.returns-then-is_thin_within
returns-then-is_thin_within c = λ _. thin_edges (c.is_thin_within.ensures c.if-is_thin_within.true)

pub returns-then-is_sliver : goal.returns-then-is_sliver
returns-then-is_sliver c = λ _. all_slivers (c.is_sliver.ensures c.if-is_sliver.true)

pub returns : goal.returns
returns c = λ h. low_scores (c.are_low.ensures h)
