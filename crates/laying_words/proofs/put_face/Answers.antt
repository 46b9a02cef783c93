use Rattle.laying_words.proofs.Parts.{wrote_more, wrote_full}
use Rattle.laying_words.proofs.put_face.Goals as goal

pub returns-then-i-faces : goal.returns-then-i-faces
returns-then-i-faces c = let s = c in wrote_more s.args.count s.args.a s.args.b s.args.k s.args.faces.now c.if-i-faces.true

pub returns-else-i-faces : goal.returns-else-i-faces
returns-else-i-faces c = let s = c in wrote_full s.args.count s.args.a s.args.b s.args.k s.args.faces.now c.if-i-faces.false
