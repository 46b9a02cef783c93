-- `write::put_file` meets its contract: header, count and facets, one after the other. Assumes nothing.
use Rattle.facets.proofs.Puts.{put_file}
use Rattle.facets.proofs.write.put_file.Goals as goal

pub returns : goal.returns
returns c =
    let put_word = c.put_word in
    let put-zeros = c.put_zeros in
    let start = c in
    put_file _ _ _ _ 0 start.args.points.now start.args.faces.now put-zeros.ensures put_word.ensures c.put_facets.ensures
