-- The origins are written, and then the faces turned by them. Assumes nothing.
use mathlib.Core.Path.{sym}
use lib.Seq.{length-take-le}
use Rattle.origins_outcome.proofs.write_laid.Goals as goal

pub slice_bounds-write_origins-end-2 : goal.slice_bounds-write_origins-end-2
slice_bounds-write_origins-end-2 c =
    sym (length-take-le c.args.n
    c.args.words.now
    c.requires.3)

pub returns-then-turned : goal.returns-then-turned
returns-then-turned c = (
  c.write_origins.ensures,
  rw
      c.if-turned.true c.turn.ensures,
)

pub returns-else-turned : goal.returns-else-turned
returns-else-turned c = (c.write_origins.ensures, rw c.if-turned.false)
