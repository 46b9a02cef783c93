-- What the two calls answer, and what they leave in the lent slices. Definitions only.
use Rattle.std.specs.Prelude.{ℕ, ◌*◌, ◌/◌, ◌%◌, ◌≡◌, cond, not, List, ◌++◌, T, ltb, eqb, length, get_or, drop, Float}
use Rattle.std.specs.Float.{nan, binary32}
use Rattle.std.specs.Float.Ieee.{fits}
use Rattle.answers.specs.Answers.{wrong_lengths, too_many_points, outside_point, bad_stl, short_output, missing_point}
use Rattle.ranges.specs.Range.{first_outside, farthest}
use Rattle.facets.specs.Format.{file_length, stl, facet_count, is_file, corners}
unfoldable pub use Rattle.facets.specs.Known.{all_below}
pub use Rattle.facets.specs.Known.{NamesPoints}
use Rattle.stl_file.specs.declared.StlWritten.{StlWritten}
use Rattle.stl_file.specs.declared.StlRead.{StlRead}

-- ---- writing
abbrev pub not_written : ℕ → ℕ → StlWritten
not_written answer detail = record { answer = answer; detail = detail; length = 0 }

-- the checks in order, the first that fails tells; `room` is the output's length
unfoldable pub stl_outcome : List Float → List ℕ → ℕ → StlWritten
unfolding all_below
stl_outcome points faces room =
    cond (not (eqb (length points % 3) 0)) (not_written wrong_lengths 0)
    (cond (not (eqb (length faces % 3) 0)) (not_written wrong_lengths 0)
    (cond (ltb 1000000 (length faces / 3)) (not_written too_many_points 0)
    (cond (ltb (first_outside farthest points) (length points / 3))
    (not_written outside_point (first_outside farthest points))
    (cond (not (all_below (length points / 3) faces)) (not_written missing_point 0)
    (cond (ltb room (file_length (length faces / 3))) (not_written short_output 0)
    (record { answer = 0; detail = 0; length = file_length (length faces / 3) }))))))

-- every coordinate is an f32, as a slice of them has it; the answer; and what the output holds then: the file in front
-- of what it held, or at a refusal what it held
pub record Wrote (points : List Float) (faces bytes : List ℕ) (told : StlWritten) (after : List ℕ) : Type 0 where
  pub coordinates : (k : ℕ) → T (fits binary32 (get_or points k nan))
  pub answer_is : told ≡ stl_outcome points faces (length bytes)
  pub after_is : after ≡ cond (eqb told.answer 0) (stl points faces ++ drop told.length bytes) bytes

-- ---- reading
abbrev pub not_read : ℕ → StlRead
not_read answer = record { answer = answer; detail = 0; faces = 0 }

-- `room` is the output's length
unfoldable pub stl_found : List ℕ → ℕ → StlRead
unfolding is_file
stl_found bytes room =
    cond (not (is_file bytes)) (not_read bad_stl)
    (cond (ltb room (9 * facet_count bytes)) (not_read short_output)
    (record { answer = 0; detail = 0; faces = facet_count bytes }))

-- the answer, and what the output holds then: the corners in front of what it held, or at a refusal what it held
pub record Got (bytes : List ℕ) (slice : List Float) (told : StlRead) (after : List Float) : Type 0 where
  pub answer_is : told ≡ stl_found bytes (length slice)
  pub after_is : after ≡ cond (eqb told.answer 0) (corners bytes ++ drop (9 * told.faces) slice) slice
