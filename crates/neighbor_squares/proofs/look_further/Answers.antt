-- Both looks decide. Assumes nothing.
use mathlib.Core.Path.{refl}
use native.Mathlib.Omega.{arith}
use Rattle.neighbor_squares.proofs.look_further.Goals as goal

pub look_everywhere-requires : goal.look_everywhere-requires
look_everywhere-requires c =
    let r = c.requires.0.hashed.linked.ready in
    (c.requires.0.inside, r.few, r.points_long, omega (arith, r.work_long), c.requires.0.room, r.numbers)

pub returns-then-is_wide : goal.returns-then-is_wide
returns-then-is_wide c =
    let q = c.look_everywhere in
    record { few = q.ensures.1; decided = q.ensures.0; kept = record { front = q.ensures.2; before = refl; after = refl } }
