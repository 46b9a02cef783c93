-- The file, or the refusal, as the writer answers it. Assumes nothing.
use Rattle.patch_stl.proofs.Outputs.{writer_refused, writer_wrote}
use Rattle.patch_stl.proofs.write_faces.Goals as goal

pub returns-then-told-ne0 : goal.returns-then-told-ne0
returns-then-told-ne0 c =
    writer_refused _ _ _ _ _ c.write_stl-told.ensures
    c.if-told-ne0.true _ _ c.refuse.ensures

pub returns : goal.returns
returns c = writer_wrote _ _ _ _ _ c.write_stl-told.ensures c.if-told-ne0.false
