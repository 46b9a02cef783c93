-- `listing::put_refusal` meets its contract: its three parts, one after the other. Assumes nothing.
use Rattle.listing.specs.Listing.{text}
use Rattle.listing.proofs.Faces.{put_refused}
use Rattle.listing.proofs.put_refusal.Goals as goal

pub returns : goal.returns
unfolding text
returns c =
    put_refused _ _ _ _ _ _ _ _ _ _ c.put_text-a.ensures
    c.put_field-b.ensures.0 c.put_field.ensures.0
