use Rattle.laying_words.proofs.Parts.{marked_one}
use Rattle.laying_words.proofs.mark_used.Goals as goal

pub returns : goal.returns
returns c = marked_one c.args.n c.args.k c.args.w.now c.requires.1
