-- What each answer of the crate's functions stands for. Definitions only.
use Rattle.std.specs.Prelude.{ℕ, ◌≤◌, ◌≡◌, List, length, drop, Option, Some, None, Result, Ok, Err}
use Rattle.lists.specs.Lists.{any}
use Rattle.numerals.specs.Format.{Parsed, parsed, malformed}
use Rattle.numerals.specs.declared.MalformedLine.{MalformedLine}
use Rattle.patch.specs.Lay.{Face, face}
use Rattle.patch.specs.View.{written}
use Rattle.face_lines.specs.Format.{FaceLines, good, wrong, face_file, outside, twice}
use Rattle.face_lines.specs.declared.line.FaceLine.{FaceLine}
use Rattle.face_lines.specs.declared.FacesScanned.{FacesScanned}

-- a face and the place behind its line stand for the face and the bytes s from there on
unfoldable pub line_means : List ℕ → Option (FaceLine × ℕ) → Parsed Face
line_means s (Some r) = parsed (face r.0.a r.0.b r.0.c) (drop r.1 s)
line_means s None = malformed

-- ---- what a file of lines comes to, for n points: the first malformed line, or how many faces there are, whether some
-- face has a number out of range, and whether some face has two equal numbers
unfoldable pub scan_of_lines : ℕ → FaceLines → Result FacesScanned MalformedLine
unfolding outside twice
scan_of_lines n (good fs) = Ok (record { count = length fs; outside = any (outside n) fs; twice = any twice fs })
scan_of_lines n (wrong number) = Err (record { line = number })

-- ---- storing
-- all lines are well formed, and the faces are few
pub record Readable (bytes : List ℕ) : Type 0 where
  pub faces : List Face
  pub good_lines : face_file bytes ≡ good faces
  pub few : length faces ≤ 10000

-- the faces of well-formed lines stand in front of a slice
abbrev pub Stored : List ℕ → List ℕ → List ℕ → Type 0
Stored bytes slice slice' = (fs : List Face) → face_file bytes ≡ good fs → slice' ≡ written fs slice
