-- `listing::put::put_text` meets its contract: the first i bytes of the text were put. Assumes nothing.
use Prim.Native.Nat.{◌+◌}
use mathlib.Core.Path.{◌≡◌}
use lib.ListN.{take}
use Rattle.listing.specs.Inner.Ready.{PutBytes}
use Rattle.listing.proofs.put.put_text.Given as goal

abbrev pub invariant-loop-b : goal.invariant-loop-b
invariant-loop-b l =
    (l.next ≡ l.at + l.b-index) × PutBytes (take l.b-index l.text) l.initial.out l.out l.at l.next
