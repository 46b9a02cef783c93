-- What the program prints of a cloud file, from the file's bytes to the text. Definitions only.
use Rattle.std.specs.Prelude.{ℕ, ◌<◌, ◌≤◌, ◌≡◌, cond, List, map, ltb, eqb, length, take, Option, Some, Float}
use Rattle.answers.specs.Answers.{no_room}
use Rattle.settings.specs.Settings.{defaults}
use Rattle.patch.specs.View as patch
use Rattle.ball_pivoting.specs.Reconstruct.{Found, found, reconstructed}
use Rattle.ball_pivoting.specs.declared.Patch.{Patch}
use Rattle.cloud.specs.Answers as cloud
use Rattle.listing.specs.Listing.{refusal_text, listing, written_length, filled}
use Rattle.listing.specs.declared.ListingCounts.{ListingCounts}

-- what is counted of a patch over n points
abbrev pub counts_of : ℕ → Patch → ListingCounts
counts_of n p = record { points = n; faces = p.faces; seeds = p.seeds; looks = p.looks; pivots = p.pivots }

-- the main call's answer over n points: the listing of the faces found, or the refusal
unfoldable pub patch_text : ℕ → Patch → Found → List ℕ
patch_text n p f = cond (eqb p.answer 0) (listing (counts_of n p) (patch.flat f.faces))
    (refusal_text p.answer p.detail)

-- a cloud, by its coordinates and normals, with the settings of `ball_pivoting_from_normals`; `faces`, `words` and
-- `floats` are the lengths of the slices lent for them
unfoldable pub laid_text : Float → ℕ → List Float → List Float → ℕ → ℕ → ℕ → List ℕ
laid_text radius n points normals faces words floats =
    patch_text n (reconstructed points normals (defaults radius) faces words floats) (found (defaults radius) points)

-- what the reader answers: a cloud to lay, or a refusal
unfoldable pub outcome_text : cloud.Outcome → ℕ → ℕ → ℕ → List ℕ
outcome_text (cloud.accepted radius ps) faces words floats =
    laid_text radius (length ps) (cloud.coordinates_of (map (λ p. p.position) ps))
    (cloud.coordinates_of (map (λ p. p.normal) ps)) faces words floats
outcome_text (cloud.refused answer detail) faces words floats = refusal_text answer detail

-- a whole file, with slices of these lengths; one of more than 65,536 bytes is refused before any line is read
unfoldable pub file_text : List ℕ → ℕ → ℕ → ℕ → ℕ → ℕ → List ℕ
file_text bytes points normals faces words floats =
    cond (ltb 65536 (length bytes)) (refusal_text no_room 0)
    (outcome_text (cloud.outcome bytes points normals) faces words floats)

-- the program: room for 512 points and 5,000 faces, and work slices for so many points
unfoldable pub printed : List ℕ → List ℕ
printed bytes = file_text bytes 1536 1536 15000 12352 2112

-- a text stands in front of a buffer, whole, and r is the number of bytes written; or the buffer is too short and
-- unchanged, and there is no such number
pub record Prints (text out : List ℕ) (r : Option ℕ) (out' : List ℕ) : Type 0 where
  pub bytes : r ≡ written_length text out
  pub holds : out' ≡ filled text out

-- the bytes that hold whatever is printed: two lines of names, 32 and 11, five counts of at most 11 and 5,000 faces of
-- at most 44
abbrev pub enough : ℕ
enough = 220098

-- what the program prints of a file: its text as above; and into a buffer of `enough` bytes it goes whole, is not
-- empty, and is the first bytes, as many as were written
pub record PrintsFile (file out : List ℕ) (r : Option ℕ) (out' : List ℕ) : Type 0 where
  pub text : Prints (printed file) out r out'
  pub number : enough ≤ length out → r ≡ Some (length (printed file))
  pub some : 0 < length (printed file)
  pub front : enough ≤ length out → take (length (printed file)) out' ≡ printed file
