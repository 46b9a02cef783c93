-- A slice without room is left as it was. Assumes nothing.
use Rattle.reconstruction_with_origins.proofs.Finding.{without_room}
use Rattle.reconstruction_with_origins.proofs.count_plain.Goals as goal

pub returns : goal.returns
returns c =
    let find-plain = c.find_plain in
    let start = c in
    without_room _ _ _ _ _ find-plain.new.faces start.args.faces.now find-plain.ensures
