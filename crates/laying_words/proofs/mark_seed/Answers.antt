use Rattle.laying_words.proofs.Parts.{marked_three}
use Rattle.laying_words.proofs.mark_seed.Goals as goal

pub returns : goal.returns
returns c =
    let c3 = c in
    let c2 = c3 in
    let c1 = c2 in
    let s = c1 in
    marked_three s.args.n s.args.a s.args.b s.args.c s.args.w.now c1.mark_used.new.w c2.mark_used-2.new.w
    c3.mark_used-3.new.w c1.mark_used.ensures c2.mark_used-2.ensures c3.mark_used-3.ensures
