-- `words::put_zeros` meets its contract: zeros in place of the first n bytes are a run of stores. Assumes nothing.
use lib.ListN.{replicate, length-replicate}
use lib.Seq.{length-take-le}
use mathlib.Core.Path.{sym}
use Rattle.words.proofs.Laws.{sets_front}
use Rattle.words.proofs.put_zeros.Goals as goal

pub returns : goal.returns
returns c =
    let e = c.fill.ensures.after (λ y h. h) in
    let n = length-take-le c.args.n c.args.out.now c.requires in
    rw (e, n) (sets_front c.args.out.now (replicate c.args.n 0) c.args.n (sym (length-replicate c.args.n 0)) c.requires)
