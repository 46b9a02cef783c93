use mathlib.Core.Path.{subst⁻¹}
use lib.Dec.{T}
use lib.Ieee.{Float, binary32, fits}
use Rattle.vector.proofs.Distances.{squared_fits}
use Rattle.nearest.proofs.Scanning.{passed, now_limited, nearer_taken, at_distance}
use Rattle.nearest.proofs.closer.Goals as goal

pub returns-then-best-square : goal.returns-then-best-square
returns-then-best-square c =
    passed c.args.best c.args.p c.args.spot
    c.args.number c.requires c.distance_squared-square.ensures c.if-best-square.true

pub limit_of-limit-requires : goal.limit_of-limit-requires
limit_of-limit-requires c =
    subst⁻¹ (λ (z : Float). T (fits binary32 z)) c.distance_squared-square.ensures
    (squared_fits c.args.p c.args.spot)

pub returns-then-limit-best : goal.returns-then-limit-best
returns-then-limit-best c =
    at_distance c.args.best c.args.p
    c.args.spot c.args.number
    c.distance_squared-square.ensures
    (nearer_taken c.args.best _ c.requires
    (now_limited c.args.p c.args.spot
    c.args.number c.distance_squared-square.ensures
    c.limit_of-limit.ensures) c.if-limit-best.true)

pub settled-requires : goal.settled-requires
settled-requires c = (
  c.requires,
  (now_limited c.args.p c.args.spot
      c.args.number c.distance_squared-square.ensures
      c.limit_of-limit.ensures),
)

pub returns : goal.returns
returns c =
    at_distance c.args.best c.args.p
    c.args.spot c.args.number
    c.distance_squared-square.ensures c.settled.ensures
