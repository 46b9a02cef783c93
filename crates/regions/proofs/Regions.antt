-- The regions don't overlap, end where the map says, and fit what is lent: 24n + 64 u32 and 4n + 64 f32. Assumes
-- nothing.
use Prim.Native.Nat.{ℕ, ◌≤◌}
use native.Mathlib.Omega.{arith}
use Rattle.regions.specs.Inner.Regions.{Apart, words, words_end, words_length, floats, radii_end, floats_length}
use Rattle.regions.specs.Inner.Ordering.{ordering_words, placed_end}

pub words_apart : (n : ℕ) → Apart 0 (words_end n) (words n)
words_apart n = omega arith

pub words_fit : (n : ℕ) → words_end n ≤ words_length n
words_fit n = omega arith

pub ordering_apart : (n : ℕ) → Apart 0 (placed_end n) (ordering_words n)
ordering_apart n = omega arith

pub ordering_fit : (n : ℕ) → placed_end n ≤ words_length n
ordering_fit n = omega arith

pub floats_apart : (n : ℕ) → Apart 0 (radii_end n) (floats n)
floats_apart n = omega arith

pub floats_fit : (n : ℕ) → radii_end n ≤ floats_length n
floats_fit n = omega arith
