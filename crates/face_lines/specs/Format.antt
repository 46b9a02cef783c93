-- Faces as lines of a file, from its bytes to the faces. Definitions only, leaves first: `point_number`, `line`,
-- `face_file`.
use Rattle.std.specs.Prelude.{ℕ, zero, suc, Bool, cond, ◌&&◌, ◌||◌, List, [], ◌∷◌, leb, eqb, length, take, drop}
use Rattle.numerals.specs.Format.{Parsed, parsed, malformed, then, starts_with, digits, few, digits_value}
use Rattle.patch.specs.Lay.{Face, face}

-- a point's number, 1 to 5 digits, and the byte that ends it: a comma is 44, a line feed 10
unfoldable pub point_number : ℕ → List ℕ → Parsed ℕ
unfolding starts_with digits few digits_value
point_number end bs =
    let count = digits bs in
    cond
    (few count 5 && starts_with end (drop count bs))
    (parsed (digits_value 0 (take count bs)) (drop 1 (drop count bs)))
    malformed

-- a face's line: a,b,c
unfoldable pub line : List ℕ → Parsed Face
unfolding then point_number
line bs =
    then (point_number 44 bs) (λ a bs₁.
    then (point_number 44 bs₁) (λ b bs₂.
    then (point_number 10 bs₂) (λ c rest. parsed (face a b c) rest)))

-- a run of lines: the faces, or the first malformed line, from 1
pub data FaceLines : Type 0 where
  good : List Face → FaceLines
  wrong : ℕ → FaceLines

-- a face's line in front of others
unfoldable pub face_ahead : Face → FaceLines → FaceLines
face_ahead f (good fs) = good (f ∷ fs)
face_ahead f (wrong point_number) = wrong (suc point_number)

-- lines up to the end of the bytes. A line takes at least a byte, so fuel that starts at the number of bytes lasts.
unfoldable pub lines_of_faces : ℕ → List ℕ → FaceLines
unfolding line face_ahead
lines_of_faces zero bs = good []
lines_of_faces (suc fuel) [] = good []
lines_of_faces (suc fuel) (b ∷ bs) =
    elim (line (b ∷ bs)) [ parsed f rest ↦ face_ahead f (lines_of_faces fuel rest) | malformed ↦ wrong 1 ]

-- a whole file
unfoldable pub face_file : List ℕ → FaceLines
unfolding lines_of_faces
face_file bytes = lines_of_faces (length bytes) bytes

-- ---- what may be wrong with a face
-- one of its numbers is not below n, the count of points
unfoldable pub outside : ℕ → Face → Bool
outside n f = leb n f.a || (leb n f.b || leb n f.c)

-- two of its numbers are equal
unfoldable pub twice : Face → Bool
twice f = eqb f.a f.b || (eqb f.b f.c || eqb f.c f.a)
