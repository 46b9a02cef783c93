-- `is_sliver` meets its contract.
use Rattle.sliver_filters.proofs.Triangles.{slivers_turned, slivers_swapped}
use Rattle.sliver_filters.proofs.is_sliver.Goals as goal

pub returns-then-is_needle : goal.returns-then-is_needle
returns-then-is_needle c = λ h. c.is_needle.ensures c.if-is_needle.true

pub returns-then-a-c : goal.returns-then-a-c
returns-then-a-c c = λ h. slivers_turned (c.is_sliver_along-then-a-c.ensures h)

pub returns-then-a-b : goal.returns-then-a-b
returns-then-a-b c = λ h. slivers_turned (c.is_sliver_along-then-a-b.ensures h)

pub returns : goal.returns
returns c = λ h. slivers_swapped (c.is_sliver_along-2.ensures h)
