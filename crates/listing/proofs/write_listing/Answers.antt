-- `listing::write_listing` meets its contract: what a scratch buffer tells is the length, so the text is put only where
-- it fits. Assumes nothing.
use native.Mathlib.Omega.{arith}
use Rattle.listing.proofs.Whole.{whole, no_room_lem, told_length, listed_all, listed_long, listed_none}
use Rattle.listing.proofs.write_listing.Goals as goal

pub returns-then-faces-counts : goal.returns-then-faces-counts
returns-then-faces-counts c = listed_none _ _ _ c.if-faces-counts.true

pub returns-then-out-n : goal.returns-then-out-n
returns-then-out-n c =
    let all = listed_all c.args.counts c.args.faces.now c.if-faces-counts.false in
    let long = listed_long c.args.counts c.args.faces.now c.args.out.now c.if-faces-counts.false in
    let len = told_length _ _ _ _ c.put_listing-n.ensures in
    let h = c.if-out-n.true in
    rw (long, all) (no_room_lem _ _ (omega arith))

pub returns : goal.returns
returns c =
    let all = listed_all c.args.counts c.args.faces.now c.if-faces-counts.false in
    let long = listed_long c.args.counts c.args.faces.now c.args.out.now c.if-faces-counts.false in
    let len = told_length _ _ _ _ c.put_listing-n.ensures in
    let h = c.if-out-n.false in
    rw (long, all) (whole _ _ _ _ c.put_listing.ensures (omega arith))
