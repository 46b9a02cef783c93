-- `nearest_root` meets its contract: whichever way r was found, (r - 1/2)^2 < n < (r + 1/2)^2, and only one number is
-- such.
use Rattle.numbers.proofs.RootWhole.{nearest_is, near_up, near_stay}
use Rattle.numbers.proofs.root.nearest_root.Goals as goal

pub returns-then-n-p : goal.returns-then-n-p
returns-then-n-p c = nearest_is _ _ c.requires (c.if-p-n.true, c.if-n-p.true)

pub returns-then-s-n : goal.returns-then-s-n
returns-then-s-n c = let e = c.floor_root-s.ensures in nearest_is _ _ c.requires (near_up _ _ (e.0, e.1) c.if-s-n.true)

pub returns-else-s-n : goal.returns-else-s-n
returns-else-s-n c =
    let e = c.floor_root-s.ensures in let p = c.requires in nearest_is _ _ p
    (near_stay _ _ p.0 (e.0, e.1) c.if-s-n.false)
