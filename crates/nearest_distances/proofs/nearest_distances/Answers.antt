-- `nearest_distances` meets its contract: the search's answer, and a distance a spot where it is 0. Assumes nothing.
use Rattle.nearest_distances.proofs.Outcome.{unmeasured, some, room_found, room_distances, at_found, measured}
use Rattle.nearest_distances.proofs.nearest_distances.Goals as goal

pub measure-requires : goal.measure-requires
measure-requires c =
    let a = c.args in
    let room = c.min-room.ensures in
    let search = c.nearest_points-searched.ensures in
    let none = c.if-searched-eq0.true in
    record {
      room = (
        some a.points.now a.spots.now a.index.now a.found.now a.distances.now a.words.now a.floats.now _ room search none,
        room_found a.points.now a.spots.now a.index.now a.found.now a.distances.now a.words.now a.floats.now _ room search none,
        room_distances a.points.now a.spots.now a.index.now a.found.now a.distances.now a.words.now a.floats.now _ room search none,
      );
      found_nearest = at_found a.points.now a.spots.now a.index.now a.found.now a.distances.now a.words.now a.floats.now _ room search none;
    }

pub returns-then-searched-eq0 : goal.returns-then-searched-eq0
returns-then-searched-eq0 c =
    let a = c.args in
    let is = c.min-room.ensures in
    measured a.points.now a.spots.now a.index.now a.found.now a.distances.now a.words.now a.floats.now _ is c.nearest_points-searched.ensures
    c.if-searched-eq0.true c.measure.ensures

pub returns-else-searched-eq0 : goal.returns-else-searched-eq0
returns-else-searched-eq0 c =
    let a = c.args in
    let least = c.min-room.ensures in
    unmeasured a.points.now a.spots.now a.index.now a.found.now a.distances.now a.words.now a.floats.now _ least c.nearest_points-searched.ensures
    c.if-searched-eq0.false
