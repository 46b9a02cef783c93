-- `listing::rows::put_face` meets its contract: four fields, one after the other. Assumes nothing.
use Rattle.listing.proofs.Faces.{put_face_line}
use Rattle.listing.proofs.rows.put_face.Goals as goal

pub returns : goal.returns
returns c =
    put_face_line _ _ _ _ _ _ _ _ _ _ _ _ _ _
    c.put_field-p.ensures
    c.put_field-q.ensures
    c.put_field-r.ensures c.put_field.ensures
