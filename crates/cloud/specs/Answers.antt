-- What the reader answers and leaves in the slices.
-- Definitions only.
use Rattle.std.specs.Prelude.{ℕ, ◌*◌, ◌≡◌, cond, ◌&&◌, List, [], ◌∷◌, ◌++◌, map, leb, length, drop, Float}
use Rattle.std.specs.Prelude.{Result, Ok, Err}
use Rattle.answers.specs.Answers.{bad_line, no_room}
use Rattle.numbers.specs.Rounded.{f32}
use Rattle.numerals.specs.declared.MalformedLine.{MalformedLine}
use Rattle.cloud_lines.specs.declared.line.Triple.{Triple}
use Rattle.cloud_lines.specs.declared.line.Point.{Point}
use Rattle.cloud.specs.Format.{PointLines, good, wrong, File, cloud, malformed_line, file}
use Rattle.cloud.specs.declared.CloudRead.{CloudRead}

-- how many points' lines there are, or the first malformed one
unfoldable pub counted : PointLines → Result ℕ MalformedLine
counted (good ps) = Ok (length ps)
counted (wrong line) = Err (record { line = line })

-- ---- what the reader answers: a radius and points, or the refusal's number and detail
pub data Outcome : Type 0 where
  accepted : Float → List Point → Outcome
  refused : ℕ → ℕ → Outcome

-- The points fit if three times their number is at most the length of each slice.
unfoldable pub outcome_of : ℕ → ℕ → File → Outcome
outcome_of p n (malformed_line line) = refused bad_line line
outcome_of p n (cloud radius ps) = cond (leb (3 * length ps) p && leb (3 * length ps) n) (accepted radius ps)
    (refused no_room 0)

-- of the file's bytes and the two slices' lengths
unfoldable pub outcome : List ℕ → ℕ → ℕ → Outcome
unfolding file outcome_of
outcome bytes p n = outcome_of p n (file bytes)

unfoldable pub read_of : Outcome → CloudRead
read_of (accepted radius ps) = record { answer = 0; detail = 0; radius = radius; count = length ps }
read_of (refused answer detail) = record { answer = answer; detail = detail; radius = f32 0; count = 0 }

-- ---- what the slices hold afterwards
abbrev pub numbers_of : Triple → List Float
numbers_of t = t.x ∷ t.y ∷ t.z ∷ []

-- the numbers of some triples, three to a triple
unfoldable pub coordinates_of : List Triple → List Float
coordinates_of [] = []
coordinates_of (t ∷ ts) = t.x ∷ t.y ∷ t.z ∷ coordinates_of ts

-- a list with new numbers in front in place of its own
unfoldable pub over_front : List Float → List Float → List Float
over_front new old = new ++ drop (length new) old

-- a slice that takes one part of each point, its position or its normal: the points' numbers in front, or untouched at
-- a refusal
unfoldable pub points_after : (Point → Triple) → Outcome → List Float → List Float
unfolding coordinates_of over_front
points_after part (accepted radius ps) old = over_front (coordinates_of (map part ps)) old
points_after part (refused answer detail) old = old

-- the whole answer: what is told of an outcome, and what each slice holds afterwards
pub record Answered (o : Outcome) (points normals : List Float) (r : CloudRead) (points' normals' : List Float)
    : Type 0 where
  pub answer : r ≡ read_of o
  pub points_hold : points' ≡ points_after (λ p. p.position) o points
  pub normals_hold : normals' ≡ points_after (λ p. p.normal) o normals
