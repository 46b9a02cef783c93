-- Intervals on one axis outside of which every square is above a limit. Definitions only.
use Rattle.std.specs.Prelude.{◌≡◌, Bool, false, ◌&&◌, T, Float}
use Rattle.std.specs.Float.Ieee.{lt, le}
use Rattle.std.specs.Float.Ieee.Scale.{finite}
use Rattle.numbers.specs.Rounded.{◌⊖◌, ◌⊗◌}
use Rattle.bounds.specs.declared.Interval.{Interval}

-- v is neither below lo nor above hi
abbrev pub between : Float → Float → Float → Bool
between lo hi v = le lo v && le v hi

-- the interval has v, and the squares at both ends are above t
unfoldable pub is_covering : Float → Float → Float → Float → Bool
is_covering v t lo hi = le lo v && (le v hi && (lt t ((lo ⊖ v) ⊗ (lo ⊖ v)) && lt t ((hi ⊖ v) ⊗ (hi ⊖ v))))

-- every coordinate outside the interval has a squared difference above t from v
abbrev pub CoversOn : Float → Float → Interval → Type 0
CoversOn v t i = (q : Float) → T (finite q) → between i.lo i.hi q ≡ false → T (lt t ((q ⊖ v) ⊗ (q ⊖ v)))
