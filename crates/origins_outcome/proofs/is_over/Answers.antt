-- One slice or the other is too short. Assumes nothing.
use Prim.Native.Nat.{◌/◌}
use borrow.Author.Tests.{lt-ltb, le-ltb}
use Rattle.origins_outcome.proofs.is_over.Goals as goal

pub returns-then-room-count : goal.returns-then-room-count
returns-then-room-count c = rw (lt-ltb (c.args.room / 3) c.args.count c.if-room-count.true)

pub returns : goal.returns
returns c = rw (le-ltb (c.args.room / 3) c.args.count c.if-room-count.false)
