-- The definition of the format on written inputs, by computation. Assumes nothing.
use mathlib.Core.Path.{◌≡◌, refl}
use mathlib.Core.Bool.{true, false}
use mathlib.Core.List.{List, [], ◌∷◌, map}
use Prim.Native.Nat.{ℕ}
use Prim.Native.String.{String, [] as []ˢ, ◌∷◌ as ◌∷ˢ◌}
use Prim.Native.Char.{code}
use Rattle.numerals.specs.Format.{then, starts_with, digits, few, digits_value}
use Rattle.patch.specs.Lay.{face}
use Rattle.face_lines.specs.Format.{point_number, line, FaceLines, good, wrong, face_ahead, lines_of_faces, face_file, outside, twice}

-- the bytes of a text of ASCII characters
abbrev text : String → List ℕ
text []ˢ = []
text (c ∷ˢ s) = code c ∷ text s

-- the first malformed line; 0 where there is none
abbrev wrong_line : FaceLines → ℕ
wrong_line (good fs) = 0
wrong_line (wrong point_number) = point_number

-- leading zeros are digits; no line is a file
two_lines : face_file (text "0,1,2\n00003,40000,99999\n") ≡ good (face 0 1 2 ∷ face 3 40000 99999 ∷ [])
unfolding face_file lines_of_faces line point_number then face_ahead starts_with digits few digits_value
two_lines = refl

no_line : face_file (text "") ≡ good []
unfolding face_file lines_of_faces
no_line = refl

-- an empty line, a missing last line feed, a carriage return, spaces, signs, a sixth digit, a field too few or too
-- many, an empty field
malformed_lines : map (λ t. wrong_line (face_file (text t)))
    ("\n" ∷ "0,1,2" ∷ "0,1,2\n\n" ∷ "0,1,2\n3,4,5" ∷ "0,1,2\r\n" ∷ "0, 1,2\n" ∷ "0,1,2 \n" ∷ "-1,2,3\n" ∷ "+1,2,3\n" ∷ "0,1,123456\n" ∷ "000001,2,3\n" ∷ "0,1\n"
    ∷ "0,1,2,3\n" ∷ "0,,2\n" ∷ "0,1,2\n0,1,\n4" ∷ [])
    ≡ 1 ∷ 1 ∷ 2 ∷ 2 ∷ 1 ∷ 1 ∷ 1 ∷ 1 ∷ 1 ∷ 1 ∷ 1 ∷ 1 ∷ 1 ∷ 1 ∷ 2 ∷ []
unfolding face_file lines_of_faces line point_number then face_ahead starts_with digits few digits_value
malformed_lines = refl

-- of three points 2 is the last, and 3 is out of range, at each place
ranges : map (outside 3) (face 2 1 0 ∷ face 0 2 1 ∷ face 3 1 2 ∷ face 1 3 2 ∷ face 1 2 3 ∷ []) ≡ false ∷ false ∷ true ∷ true ∷ true ∷ []
unfolding outside
ranges = refl

equals : map twice (face 0 1 2 ∷ face 1 1 2 ∷ face 0 1 1 ∷ face 1 0 1 ∷ []) ≡ false ∷ true ∷ true ∷ true ∷ []
unfolding twice
equals = refl
