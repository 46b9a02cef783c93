-- The ranges of the scope's domain, for one value, a list of values, a percentile and the points of a cloud.
-- Definitions only.
-- A comparison with a not-a-number is false, so it is outside every range; minus zero equals zero.
use Rattle.std.specs.Prelude.{ℕ, suc, ◌/◌, min, Bool, cond, ◌&&◌, List, [], ◌∷◌, Float}
use Rattle.std.specs.Float.Ieee.{le, neg}
use Rattle.numbers.specs.Rounded.{f32}

-- from lo to hi, both included
unfoldable pub inside : Float → Float → Float → Bool
inside lo hi x = le lo x && le x hi

-- how many values stand before the first that is outside lo to hi
unfoldable pub leading : Float → Float → List Float → ℕ
leading lo hi [] = 0
leading lo hi (x ∷ xs) = cond (inside lo hi x) (suc (leading lo hi xs)) 0

-- the number of the first point, three values to a point, with a value outside -bound to bound; the number of points if
-- there is none
unfoldable pub first_outside : Float → List Float → ℕ
first_outside bound xs = leading (neg bound) bound xs / 3

-- the largest size of a coordinate, 10,000, and the largest f32, within which a value is finite
abbrev pub farthest : Float
farthest = f32 0x461c4000

abbrev pub largest_finite : Float
largest_finite = f32 0x7f7fffff

-- a percentile, 0 to 1
unfoldable pub percentile_inside : Float → Bool
percentile_inside p = inside (f32 0) (f32 0x3f800000) p

-- the first point with a coordinate or a normal's component outside the domain; the number of points if there is none
unfoldable pub first_bad_point : List Float → List Float → ℕ
first_bad_point points normals = min (first_outside farthest points) (first_outside largest_finite normals)
