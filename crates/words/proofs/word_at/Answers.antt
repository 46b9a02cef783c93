-- `words::word_at` meets its contract: four bytes that were read. Assumes nothing.
use native.Mathlib.Omega.{arith}
use Rattle.words.specs.Words.{word_at}
use Rattle.words.proofs.word_at.Goals as goal

pub returns : goal.returns
unfolding word_at
returns c = let e = c.from_le_bytes.ensures in omega arith
