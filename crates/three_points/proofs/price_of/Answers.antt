-- `price_of` meets its contract: limits refuse every order, it is a sliver in each, the score is too low in each, or
-- each of the three points is tried as the first one. Assumes nothing.
use mathlib.Core.Path.{refl}
use Rattle.three_points.proofs.Points.{throughout_points, each_points}
use Rattle.filters.specs.Inner.Refused.{sliver}
use Rattle.filters.proofs.Slivers.{low_each}
use Rattle.three_points.proofs.Refused.{refused_seedless}
use Rattle.three_points.proofs.Measured.{measured_seedless, each_seedless}
use Rattle.three_points.proofs.price_of.Goals as goal

pub returns-then-is_out_of_reach : goal.returns-then-is_out_of_reach
returns-then-is_out_of_reach c =
    let point_at_lem = c.point_at-first in
    let start = c in
    let a = start.args in
    each_seedless (each_points a.s a.radius point_at_lem.ensures c.point_at-second.ensures
    c.point_at-third.ensures (low_each a.s a.radius (c.is_out_of_reach.ensures c.if-is_out_of_reach.true)))

pub returns-then-is_refused_throughout : goal.returns-then-is_refused_throughout
returns-then-is_refused_throughout c =
    let point-at3 = c.point_at-third in
    let point-at2 = c.point_at-second in
    let point_at_lem = c.point_at-first in
    let start = c in
    refused_seedless start.requires.4 start.requires.1 start.requires.2 start.requires.3
    (throughout_points point_at_lem.ensures point-at2.ensures point-at3.ensures (c.is_refused_throughout.ensures c.if-is_refused_throughout.true))

pub returns-then-is_long_throughout : goal.returns-then-is_long_throughout
returns-then-is_long_throughout c =
    let point-at3 = c.point_at-third in
    let point-at2 = c.point_at-second in
    let point_at_lem = c.point_at-first in
    let start = c in
    let a = start.args in
    each_seedless (each_points a.s a.radius point_at_lem.ensures point-at2.ensures point-at3.ensures
    (c.is_long_throughout.ensures c.if-is_long_throughout.true))

pub returns-then-is_sliver_throughout : goal.returns-then-is_sliver_throughout
returns-then-is_sliver_throughout c =
    let point-at3 = c.point_at-third in
    let point-at2 = c.point_at-second in
    let point_at_lem = c.point_at-first in
    let start = c in
    let t = point-at3 in
    let q = point-at2 in
    let p = point_at_lem in
    let x = start in
    refused_seedless x.requires.4 x.requires.1 x.requires.2 x.requires.3
    (throughout_points p.ensures q.ensures t.ensures (sliver (c.is_sliver_throughout.ensures c.if-is_sliver_throughout.true)))

pub returns-then-are_low : goal.returns-then-are_low
returns-then-are_low c =
    let distance = c.distance-a in
    let point-at3 = c.point_at-third in
    let point-at2 = c.point_at-second in
    let point_at_lem = c.point_at-first in
    let start = c in
    let a = start.args in
    let p = point_at_lem in
    let q = point-at2 in
    let t = point-at3 in
    let x = c.are_low.ensures c.if-are_low.true in
    measured_seedless p.result q.result t.result distance.ensures c.distance-b.ensures
    c.distance-c.ensures refl refl refl
    a.s a.points.now a.radius a.i a.j a.k p.ensures q.ensures t.ensures (x.first a.radius) (x.second a.radius)
    (x.third a.radius)

pub returns : goal.returns
returns c =
    let are-refused2 = c.are_refused-2 in
    let area-of2 = c.area_of-2 in
    let if6 = c.if-not-are_refused in
    let are-refused = c.are_refused in
    let area_of = c.area_of in
    let distance3 = c.distance-c in
    let distance2 = c.distance-b in
    let distance = c.distance-a in
    let point-at3 = c.point_at-third in
    let point-at2 = c.point_at-second in
    let point_at_lem = c.point_at-first in
    let start = c in
    let a = start.args in
    let p = point_at_lem in
    let q = point-at2 in
    let t = point-at3 in
    let x = are-refused in
    let y = are-refused2 in
    let z = c.are_refused-3 in
    measured_seedless p.result q.result t.result distance.ensures distance2.ensures distance3.ensures
    area_of.ensures area-of2.ensures c.area_of-3.ensures
    a.s a.points.now a.radius a.i a.j a.k p.ensures q.ensures t.ensures
    (x.ensures if6.false) (y.ensures (c.if-not-are_refused-2.false))
    (z.ensures (c.if-not-are_refused-3.false))
