-- `listing::put::put_text` meets its contract: the bytes before b of the text were put. Assumes nothing.
use native.Mathlib.Omega.{arith}
use borrow.Author.Rules.{rules}
use Rattle.listing.proofs.Puts.{put_none, put_more, put_all}
use Rattle.listing.proofs.put.put_text.Goals as goal

pub loop-b-init : goal.loop-b-init
loop-b-init c = (search rules, put_none _ _)

pub loop-b-preserved : goal.loop-b-preserved
loop-b-preserved c =
    let e = c.put_byte-next.ensures in
    let n = e.next in
    (omega arith, put_more _ _ _ _ _ _ _ _ c.loop-b-test.true c.loop-b.invariant.1 e)

pub returns : goal.returns
returns c = put_all _ _ _ _ _ _ c.loop-b-test.false c.loop-b.invariant.1
