-- `write::put_vertex` meets its contract: three words, one after the other. Assumes nothing.
use Rattle.facets.proofs.Puts.{put_vertex}
use Rattle.facets.proofs.write.put_vertex.Goals as goal

pub returns : goal.returns
returns c =
    let put-word2 = c.put_word-2 in
    let bits-of2 = c.bits_of-2 in
    let put_word = c.put_word in
    let bits_of = c.bits_of in
    let start = c in
    put_vertex _ _ _ _ _ start.args.p _ _ _ bits_of.ensures bits-of2.ensures c.bits_of-3.ensures put_word.ensures
    put-word2.ensures c.put_word-3.ensures
