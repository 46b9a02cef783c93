-- `listing::write_refusal` meets its contract: what a scratch buffer tells is the length, so the text is put only where
-- it fits. Assumes nothing.
use native.Mathlib.Omega.{arith}
use Rattle.listing.proofs.Whole.{whole, no_room_lem, told_length}
use Rattle.listing.proofs.write_refusal.Goals as goal

pub returns-then-out-n : goal.returns-then-out-n
returns-then-out-n c = let len = told_length _ _ _ _ c.put_refusal-n.ensures in let h = c.if-out-n.true in no_room_lem _ _ (omega arith)

pub returns : goal.returns
returns c =
    let len = told_length _ _ _ _
    c.put_refusal-n.ensures in let h = c.if-out-n.false in whole _ _ _ _
    c.put_refusal.ensures (omega arith)
