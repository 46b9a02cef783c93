-- The faces' lines as a run of lines. Assumes nothing.
use mathlib.Core.Path.{◌≡◌, refl}
use mathlib.Core.List.{List, [], ◌∷◌}
use Prim.Native.Nat.{ℕ, zero, suc}
use Rattle.numerals.specs.Format.{parsed, malformed}
use Rattle.numerals.proofs.Rows.{Run, From, from_start}
use Rattle.patch.specs.Lay.{Face}
use Rattle.face_lines.specs.Format.{line, FaceLines, good, wrong, face_ahead, lines_of_faces, face_file}
use Rattle.face_lines.proofs.Parts.{line_shorter}

pub lines_none : (fuel : ℕ) → lines_of_faces fuel [] ≡ good []
unfolding lines_of_faces
lines_none zero = refl
lines_none (suc fuel) = refl

pub lines_some : (fuel b : ℕ) (bs : List ℕ) → lines_of_faces (suc fuel) (b ∷ bs)
    ≡ elim (line (b ∷ bs)) [ parsed f rest ↦ face_ahead f (lines_of_faces fuel rest) | malformed ↦ wrong 1 ]
unfolding lines_of_faces
lines_some fuel b bs = refl

-- the faces' lines as a run of lines
abbrev pub faces_run : Run Face FaceLines
faces_run =
    record {
      line = line;
      lines = lines_of_faces;
      none = good [];
      failed = wrong 1;
      ahead = face_ahead;
      lines_none = lines_none;
      lines_some = lines_some;
      shorter = line_shorter;
    }

pub file_start : (s : List ℕ) → From faces_run s 0 (face_file s)
unfolding face_file
file_start s = from_start faces_run s 0
