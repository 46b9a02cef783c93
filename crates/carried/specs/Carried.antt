-- A reader that is carried from line to line, each `next_line` taking the one that the last handed back, and the claim
-- that it reads consecutive lines: up to the end of the bytes it is the body of the file. Definitions only.
use Rattle.std.specs.Prelude.{ℕ, ◌≤◌, ◌≡◌, List, [], ◌∷◌, length, drop, Some}
use Rattle.numerals.specs.Format.{parsed}
use Rattle.cloud_lines.specs.Format.{point_fields}
use Rattle.cloud_lines.specs.Reading.{Stepped}
use Rattle.cloud_lines.specs.declared.line.Point.{Point}
use Rattle.cloud_lines.specs.declared.reader.Reader.{Reader}
use Rattle.cloud_lines.specs.declared.reader.Moved.{Moved}
use Rattle.cloud.specs.Format.{body, good}

-- what `next_line` promises of a reader and of what it hands back
abbrev pub NextLine : Reader → Moved → Type 0
NextLine r m = (m.reader.src ≡ r.src) × Stepped r.src.now r.at m.read m.reader.at

-- calls one after the other, each of the reader that came back, read the points ps and leave the reader r'
unfoldable pub Carried : Reader → Reader → List Point → Type 0
Carried r r' [] = r ≡ r'
Carried r r' (p ∷ ps) = (m : Moved) × (NextLine r m × ((m.read ≡ Some p) × Carried m.reader r' ps))

-- lines one behind the other, as many as there are points
unfoldable pub consecutive : List Point → List ℕ → List ℕ → Type 0
consecutive [] bs rest = bs ≡ rest
consecutive (p ∷ ps) bs rest = (behind : List ℕ) × ((point_fields bs ≡ parsed p behind) × consecutive ps behind rest)

pub record Carries (r r' : Reader) (ps : List Point) : Type 0 where
  -- the bytes are the same, and the lines stand one behind the other between the two places
  pub bytes : r'.src ≡ r.src
  pub lines : consecutive ps (drop r.at r.src.now) (drop r'.at r.src.now)
  -- at the end of the bytes it has read all points
  pub all : length r.src.now ≤ r'.at → body (drop r.at r.src.now) ≡ good ps

-- The claim, for every reader. `carries` proves it.
abbrev pub Carrying : Type 0
Carrying = (r r' : Reader) (ps : List Point) → Carried r r' ps → Carries r r' ps
