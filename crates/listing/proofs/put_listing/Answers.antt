-- `listing::put_listing` meets its contract: its four parts, one after the other. Assumes nothing.
use Rattle.listing.specs.Listing.{text}
use Rattle.listing.proofs.Faces.{put_all_parts}
use Rattle.listing.proofs.put_listing.Goals as goal

pub returns : goal.returns
unfolding text
returns c =
    put_all_parts _ _ _ _ _ _ _ _ _ _
    c.args.counts c.args.faces.now c.put_text-a.ensures c.put_counts-b.ensures.0 c.put_text-c.ensures c.put_faces.ensures
