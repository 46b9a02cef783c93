-- What a reader leaves in two slices when it is carried from line to line. Definitions only.
use Rattle.std.specs.Prelude.{ℕ, zero, suc, ◌+◌, ◌*◌, ◌/◌, ◌≡◌, cond, List, leb, length, set, Option, Some, None, Float}
use Rattle.cloud_lines.specs.declared.line.Triple.{Triple}
use Rattle.cloud_lines.specs.declared.line.Point.{Point}
use Rattle.cloud_lines.specs.Reading.{Stepped}

abbrev pub position_of : Point → Triple
position_of p = p.position

abbrev pub normal_of : Point → Triple
normal_of p = p.normal

-- three numbers at place 3k of a list, where it has room for them
unfoldable pub placed : ℕ → Triple → List Float → List Float
placed k t d =
    cond (leb (length d / 3) k) d
    (set (set (set d (3 * k) t.x) (3 * k + 1) t.y) (3 * k + 2) t.z)

-- one part of what was read of a line
unfoldable pub placed_of : (Point → Triple) → ℕ → Option Point → List Float → List Float
placed_of part k (Some p) d = placed k (part p) d
placed_of part k None d = d

-- so many lines of the bytes s were read one behind the other, from a place on, each where the one before ended; the
-- reader stands at the place `at`, and the two lists became these
unfoldable pub StoredLines : List ℕ → ℕ → ℕ → ℕ → List Float → List Float → List Float → List Float → Type 0
StoredLines s from zero at points₀ normals₀ points normals = (at ≡ from) × ((points ≡ points₀) × (normals ≡ normals₀))
StoredLines s from (suc k) at points₀ normals₀ points normals =
    (b : ℕ) × ((ps : List Float) × ((ns : List Float) × ((read : Option Point)
    × (StoredLines s from k b points₀ normals₀ ps ns × (Stepped s b read at
    × ((points ≡ placed_of position_of k read ps) × (normals ≡ placed_of normal_of k read ns)))))))
