-- Rust's `min`, `max` and `clamp` on f32. Definitions only.
use Rattle.std.specs.Prelude.{cond, Float}
use Rattle.std.specs.Float.Ieee.{lt, is_nan}

-- the scope's `min`: with one not-a-number, the other; of two equal ones, the first
unfoldable pub minimum : Float → Float → Float
minimum a b = cond (is_nan a) b (cond (lt b a) b a)

-- the scope's `max`, likewise
unfoldable pub maximum : Float → Float → Float
maximum a b = cond (is_nan a) b (cond (lt a b) b a)

-- the scope's `clamp`: first the lower bound, then the upper; a not-a-number is passed on
unfoldable pub clamp : Float → Float → Float → Float
clamp v lo hi = let w = cond (lt v lo) lo v in cond (lt hi w) hi w
