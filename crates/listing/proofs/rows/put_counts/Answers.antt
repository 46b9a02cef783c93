-- `listing::rows::put_counts` meets its contract: five fields, one after the other. Assumes nothing.
use Rattle.listing.proofs.Faces.{put_counts_line}
use Rattle.listing.proofs.rows.put_counts.Goals as goal

pub returns : goal.returns
returns c =
    put_counts_line _ _ _ _ _ _ _ _ _ _ _ _
    c.args.counts c.put_field-a.ensures c.put_field-b.ensures c.put_field-c.ensures c.put_field-d.ensures c.put_field.ensures
