-- The claim that ties the amended call to the source's: they are the same exactly where the source lays no face whose
-- computed area is zero. Definitions only.
use Rattle.std.specs.Prelude.{ℕ, ◌≤◌, ◌≡◌, ◌≢◌, Bool, true, false, List, T, length, Float}
use Rattle.std.proofs.Math.Option.{some}
use Rattle.std.specs.Float.{inf}
use Rattle.std.specs.Float.Ieee.{lt}
use Rattle.numbers.specs.Rounded.{◌⊗◌}
use Rattle.quality.specs.Measures.{tiny}
use Rattle.triangle.specs.Quality.{is_zero}
use Rattle.settings.specs.declared.BallPivotingConfig.{BallPivotingConfig}
use Rattle.lists.specs.Lists.{count}
use Rattle.patch.specs.Lay.{Edge, Face}
use Rattle.patch.specs.Search.{searching}
use Rattle.decisions.specs.Decisions.{quality_at, accepts, floats_of}
use Rattle.decisions.specs.Found.{area_at}
use Rattle.plain.specs.Plain.{plain_faces}
use Rattle.ball_pivoting.specs.Reconstruct.{point_count, scene_of, found, reconstructed, faces_after}
use Rattle.amending.specs.Amending.{seed_face, pivot_face, OnlySeeds}
use Rattle.arealess.specs.Source.{source_laid, source_found, source_reconstructed}

-- the face's computed area, in its own order, is exactly zero
unfoldable pub area_zero : List Float → Face → Bool
area_zero pts f = is_zero (area_at pts f.a f.b f.c)

-- how many of the source's faces have area zero
abbrev pub source_zeros : BallPivotingConfig → List Float → ℕ
source_zeros c pts = count (area_zero pts) (source_found c pts).faces

-- what is found, on either path, beside what the source finds
pub record FoundBeside (c : BallPivotingConfig) (pts : List Float) : Type 0 where
  -- the same faces in the same order, and the same counts, where the source finds no face of area zero
  pub same : source_zeros c pts ≡ 0 → found c pts ≡ source_found c pts
  -- other faces where it finds one
  pub differs : 1 ≤ source_zeros c pts → (found c pts).faces ≢ (source_found c pts).faces
  -- no face that is found has area zero
  pub none : count (area_zero pts) (found c pts).faces ≡ 0

-- where it comes from: seeds, and nothing else
pub record OnlyFromSeeds (c : BallPivotingConfig) (pts : List Float) : Type 0 where
  -- of the faces that the source lays only seeds have area zero, since a pivot's score is above 0
  pub only_seeds : OnlySeeds (area_zero pts) (source_laid c pts).faces (source_laid c pts).seed_flags
  -- no plain face has it, since its cross product is longer than 1e-6
  pub plain_none : count (area_zero pts) (plain_faces pts c.radius) ≡ 0
  -- the searches never give it
  pub seeds : (r : Float) (used : List ℕ) (t : ℕ × ℕ × ℕ)
      → (searching (floats_of (scene_of c pts) pts) (point_count pts)).seed_of r used ≡ some t
      → area_zero pts (seed_face t) ≡ false
  pub pivots : (r : Float) (used : List ℕ) (e : Edge) (k : ℕ)
      → (searching (floats_of (scene_of c pts) pts) (point_count pts)).pivot_of r used e ≡ some k
      → area_zero pts (pivot_face e k) ≡ false
  -- where the radius times the edge factor is below infinity, what is accepted has an area of at least 1e-10
  pub large : (r : Float) (i j k : ℕ) → T (lt (r ⊗ c.max_edge_factor) (inf false))
      → accepts (scene_of c pts) r (quality_at pts i j k) ≡ true → lt (area_at pts i j k) tiny ≡ false

-- the whole call beside the source's: its answer, detail, counts and radii, and the face slice
module _ (c : BallPivotingConfig) (pts normals : List Float) (words floats : ℕ) (slice : List ℕ) where
  pub record CallBeside : Type 0 where
    -- where the source finds no face of area zero both are the source's
    pub same : source_zeros c pts ≡ 0
        → reconstructed pts normals c (length slice) words floats
        ≡ source_reconstructed pts normals c (length slice) words floats
    pub slice_same : source_zeros c pts ≡ 0
        → faces_after (reconstructed pts normals c (length slice) words floats) (found c pts) slice
        ≡ faces_after (source_reconstructed pts normals c (length slice) words floats) (source_found c pts) slice
    -- where the source's call answers 0 with a face of area zero, the result differs or the face slice does
    pub differs : (source_reconstructed pts normals c (length slice) words floats).answer ≡ 0 → 1 ≤ source_zeros c pts
        → reconstructed pts normals c (length slice) words floats
        ≡ source_reconstructed pts normals c (length slice) words floats
        → faces_after (reconstructed pts normals c (length slice) words floats) (found c pts) slice
        ≢ faces_after (source_reconstructed pts normals c (length slice) words floats) (source_found c pts) slice

-- The claim, for all settings, points, normals and lengths. `arealess` proves it.
abbrev pub Arealess : Type 0
Arealess =
    (c : BallPivotingConfig) (pts : List Float)
    → FoundBeside c pts × OnlyFromSeeds c pts
    × ((normals : List Float) (words floats : ℕ) (slice : List ℕ) → CallBeside c pts normals words floats slice)
