-- `words::put_word` meets its contract: four bytes in place of those from a place on are a run of stores. Assumes
-- nothing.
use Prim.Native.Nat.{◌+◌, ◌-◌}
use mathlib.Core.Path.{◌≡◌, refl}
use native.Mathlib.Omega.{arith}
use Rattle.words.specs.Words.{word}
use Rattle.words.proofs.Laws.{sets_part}
use Rattle.words.proofs.put_word.Goals as goal

pub returns : goal.returns
unfolding word
returns c =
    let four : c.args.at + 4 - c.args.at ≡ 4 = omega arith in
    rw (c.copy_from_slice.ensures.after, c.to_le_bytes.ensures, four) (sets_part c.args.out.now (word c.args.n) c.args.at 4 refl c.requires)
