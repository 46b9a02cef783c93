use native.Mathlib.Omega.{arith}
use Rattle.point_index.proofs.Building.{matches_end}
use Rattle.point_index.proofs.matches.Goals as goal

pub build-requires : goal.build-requires
build-requires c =
    let start = c in
    record { cloud = start.requires.0.cloud; index_enough = start.requires.1; floats_enough = start.requires.0.floats_enough }

pub same_front-requires : goal.same_front-requires
same_front-requires c =
    let build = c.build in
    let start = c in
    (start.requires.0.index_enough, omega (arith, start.requires.1, build.auto.index))

pub returns : goal.returns
returns c =
    let build = c.build in
    let start = c in
    matches_end start.args.points.now start.args.index.now start.args.words.now build.new.index build.ensures c.same_front.ensures
