use Rattle.laying_words.proofs.Parts.{taken}
use Rattle.laying_words.proofs.pop_frontier.Goals as goal

pub returns : goal.returns
returns c =
    let s = c in
    let p = c.pop in
    taken s.args.n s.args.first s.args.count s.args.w.now p.new.w p.result s.requires.0 s.requires.1 s.requires.2 p.ensures.0
    p.ensures.1 p.ensures.2 p.auto.w
