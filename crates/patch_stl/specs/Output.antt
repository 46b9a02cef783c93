-- What the program `stl` writes of a cloud file: a file to standard output, or a refusal's line to standard error.
-- Definitions only.
use Rattle.std.specs.Prelude.{ℕ, ◌≡◌, Bool, true, false, cond, List, map, ◌++◌, ltb, eqb, length, drop, Float}
use Rattle.std.specs.Prelude.{if◌then◌else◌, Result, Ok, Err}
use Rattle.answers.specs.Answers.{no_room}
use Rattle.settings.specs.Settings.{defaults}
use Rattle.patch.specs.View as patch
use Rattle.ball_pivoting.specs.Reconstruct.{Found, found, reconstructed}
use Rattle.ball_pivoting.specs.declared.Patch.{Patch}
use Rattle.cloud.specs.Answers as cloud
use Rattle.listing.specs.Listing.{refusal_text}
use Rattle.facets.specs.Format.{stl}
use Rattle.stl_file.specs.Answers.{stl_outcome}

pub record Output : Type 0 where
  pub refused : Bool
  pub bytes : List ℕ

abbrev pub output_refused : ℕ → ℕ → Output
output_refused answer detail = record { refused = true; bytes = refusal_text answer detail }

-- what the writer of STL files answers, over an output of `room` bytes
unfoldable pub written_output : List Float → List ℕ → ℕ → Output
written_output points faces room =
    cond (eqb (stl_outcome points faces room).answer 0)
    (record { refused = false; bytes = stl points faces })
    (output_refused (stl_outcome points faces room).answer (stl_outcome points faces room).detail)

-- what the main call answers: the file of the faces found, or its refusal
unfoldable pub patch_output : List Float → Patch → Found → ℕ → Output
unfolding written_output
patch_output points p f room =
    cond (eqb p.answer 0)
    (written_output points (patch.flat f.faces) room)
    (output_refused p.answer p.detail)

-- a cloud, by its coordinates and normals, with the settings of `ball_pivoting_from_normals`; `faces`, `words` and
-- `floats` are the lengths of the slices lent for them
unfoldable pub laid_output : Float → List Float → List Float → ℕ → ℕ → ℕ → ℕ → Output
unfolding patch_output
laid_output radius points normals faces words floats room =
    patch_output points (reconstructed points normals (defaults radius) faces words floats)
    (found (defaults radius) points)
    room

-- what the reader answers: a cloud to lay, or a refusal
unfoldable pub outcome_output : cloud.Outcome → ℕ → ℕ → ℕ → ℕ → Output
unfolding laid_output
outcome_output (cloud.accepted radius ps) faces words floats room =
    laid_output radius (cloud.coordinates_of (map (λ p. p.position) ps))
    (cloud.coordinates_of (map (λ p. p.normal) ps)) faces words floats
    room
outcome_output (cloud.refused answer detail) faces words floats room = output_refused answer detail

-- a whole file, with slices of these lengths; one of more than 65,536 bytes is refused before any line is read
unfoldable pub file_output : List ℕ → ℕ → ℕ → ℕ → ℕ → ℕ → ℕ → Output
unfolding outcome_output
file_output bytes points normals faces words floats room =
    cond (ltb 65536 (length bytes)) (output_refused no_room 0)
    (outcome_output (cloud.outcome bytes points normals) faces words floats room)

-- the program: room for 512 points and 5,000 faces, work slices for so many points, and a file of 5,000 facets
unfoldable pub output : List ℕ → Output
unfolding file_output
output bytes = file_output bytes 1536 1536 15000 12352 2112 250084

-- "refused,", ten digits and a comma, twenty digits and a line feed
abbrev pub longest_line : ℕ
longest_line = 40

-- what is told of an output: the length of its file, or else of its line
unfoldable pub told_of : Output → Result ℕ ℕ
told_of o = if o.refused then Err (length o.bytes) else Ok (length o.bytes)

-- that, and an output's bytes in front of a slice
pub record Outputs (o : Output) (out : List ℕ) (told : Result ℕ ℕ) (after : List ℕ) : Type 0 where
  pub told_is : told ≡ told_of o
  pub after_is : after ≡ o.bytes ++ drop (length o.bytes) out
