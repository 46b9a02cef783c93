-- `is_needle_along` meets its contract.
use Rattle.sliver_filters.proofs.Triangles.{needles_along}
use Rattle.sliver_filters.proofs.is_needle_along.Goals as goal

pub returns : goal.returns
returns c =
    let a = c.args in
    λ h. needles_along a.l a.a a.b a.c a.cross c.joined-others.ensures c.in-Some.ensures c.class_limit-limit.ensures (c.is_thin_within.ensures h)
