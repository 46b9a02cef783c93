-- `is_needle` meets its contract.
use Rattle.sliver_filters.proofs.Triangles.{slivers_turned, slivers_swapped}
use Rattle.sliver_filters.proofs.is_needle.Goals as goal

pub returns-then-a-b : goal.returns-then-a-b
returns-then-a-b c = λ h. slivers_swapped (c.is_needle_along-then-a-b.ensures h)

pub returns-then-b-c : goal.returns-then-b-c
returns-then-b-c c = λ h. slivers_turned (slivers_swapped (c.is_needle_along-then-b-c.ensures h))

pub returns : goal.returns
returns c = λ h. slivers_swapped (c.is_needle_along-2.ensures h)
