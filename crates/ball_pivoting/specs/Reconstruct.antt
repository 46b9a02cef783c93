-- The whole call, `reconstruct_with_normals`: the checks, the radii, the laying or the plain path, and what
-- comes back. Definitions only.
use Rattle.std.specs.Prelude.{ℕ, ◌-◌, ◌/◌, Bool, cond, List, [], ◌∷◌, ◌++◌, eqb, ltb, length, replicate, Float}
use Rattle.answers.specs.Answers.{too_few_points, short_faces, none_close, all_turned_down}
use Rattle.numbers.specs.Rounded.{f32, ◌⊗◌}
use Rattle.domain.specs.Refusals.{reconstruct_refusal}
use Rattle.settings.specs.declared.BallPivotingConfig.{BallPivotingConfig}
use Rattle.grid.specs.Grid.{grid_of}
use Rattle.grid.specs.declared.SpatialGrid.{SpatialGrid}
use Rattle.radii.specs.Radii.{adaptive_radii}
use Rattle.patch.specs.Lay.{Face, State, seeds_of, patch}
use Rattle.patch.specs.Search.{searching}
use Rattle.patch.specs.Frontier.{pop_of}
use Rattle.patch.specs.View.{written}
use Rattle.decisions.specs.Decisions.{floats_of}
use Rattle.decisions.specs.declared.Scene.{Scene}
use Rattle.plain.specs.Plain.{plain_faces}
use Rattle.plain.specs.Reached.{plain_reached}
use Rattle.lists.specs.Lists.{any}
use Rattle.reaching.specs.Reaching.{reaches}
use Rattle.ball_pivoting.specs.declared.Patch.{Patch}

-- the number of points
abbrev pub point_count : List Float → ℕ
point_count pts = length pts / 3

-- the index over the points, with cells of radius × factor
unfoldable pub spatial_index_of : BallPivotingConfig → List Float → SpatialGrid
spatial_index_of c pts = grid_of (c.radius ⊗ c.spatial_cell_factor) pts (point_count pts)

unfoldable pub scene_of : BallPivotingConfig → List Float → Scene
scene_of c pts = record {
  n = point_count pts;
  indexed = c.use_spatial_index;
  grid = spatial_index_of c pts;
  min_triangle_area = c.min_triangle_area;
  quality_threshold = c.quality_threshold;
  max_edge_factor = c.max_edge_factor;
}

unfoldable pub radii_of : BallPivotingConfig → List Float → List Float
radii_of c pts = adaptive_radii c (spatial_index_of c pts) pts (point_count pts)

-- the multi-radius path: the state when all radii are done; under rule 1 it is the source's, under rule 2 a queue
-- takes the place of its heap
unfoldable pub laid_of : BallPivotingConfig → List Float → State
laid_of c pts =
    patch (searching (floats_of (scene_of c pts) pts) (point_count pts)) (pop_of c.frontier_rule) (point_count pts)
    (radii_of c pts)

-- what is found: the faces in their order, and the counts
pub record Found : Type 0 where
  pub faces : List Face
  pub seeds : ℕ
  pub looks : ℕ
  pub pivots : ℕ

unfoldable pub laid : State → Found
laid s = record { faces = s.faces; seeds = seeds_of s; looks = s.looks; pivots = s.pivots }

-- the plain path, if there are no radii
unfoldable pub plainly : BallPivotingConfig → List Float → Found
plainly c pts = record { faces = plain_faces pts c.radius; seeds = 0; looks = 0; pivots = 0 }

unfoldable pub found_at : BallPivotingConfig → List Float → List Float → Found
found_at c pts [] = plainly c pts
found_at c pts (r ∷ rs) = laid (laid_of c pts)

unfoldable pub found : BallPivotingConfig → List Float → Found
found c pts = found_at c pts (radii_of c pts)

-- ---- why no triangle was found

-- some triple that the search tries at a radius comes to the quality test, as no point is used
unfoldable pub reached_at : BallPivotingConfig → List Float → Float → Bool
reached_at c pts r = reaches (floats_of (scene_of c pts) pts) (point_count pts) r

-- some triple was judged, given the radii: at one of them, or on the plain path
unfoldable pub judged_at : BallPivotingConfig → List Float → List Float → Bool
judged_at c pts [] = plain_reached pts c.radius
judged_at c pts (r ∷ rs) = any (reached_at c pts) (r ∷ rs)

-- 8 fewer than three points, 15 no triple close enough to be judged, 16 all that were judged turned down
unfoldable pub reason_by : ℕ → Bool → ℕ
reason_by n judged = cond (ltb n 3) too_few_points (cond judged all_turned_down none_close)

unfoldable pub reason : BallPivotingConfig → List Float → ℕ
reason c pts = reason_by (point_count pts) (judged_at c pts (radii_of c pts))

-- ---- what comes back

-- 17 slots, of which the radii fill the first
unfoldable pub slots : List Float → List Float
slots rs = rs ++ replicate (17 - length rs) (f32 0)

-- a refusal: no counts and no radii
unfoldable pub refused : ℕ → ℕ → Patch
refused answer detail = record {
  answer = answer;
  detail = detail;
  faces = 0;
  seeds = 0;
  looks = 0;
  pivots = 0;
  radii_count = 0;
  radii = slots [];
}

unfoldable pub accepted : Found → List Float → Patch
accepted f rs = record {
  answer = 0;
  detail = 0;
  faces = length f.faces;
  seeds = f.seeds;
  looks = f.looks;
  pivots = f.pivots;
  radii_count = length rs;
  radii = slots rs;
}

-- `why` where no triangle was found, 9 where there are more than a third of the face slice's length, rounded down
unfoldable pub delivered : ℕ → Found → List Float → ℕ → Patch
delivered why f rs room =
    cond (eqb (length f.faces) 0) (refused why 0)
    (cond (ltb (room / 3) (length f.faces)) (refused short_faces 0) (accepted f rs))

-- the answer, detail, counts and radii of the call; `room`, `words` and `floats` are the lengths of the face
-- slice and of the work slices
unfoldable pub reconstructed : List Float → List Float → BallPivotingConfig → ℕ → ℕ → ℕ → Patch
reconstructed pts normals c room words floats =
    let refusal = reconstruct_refusal pts normals c words floats in
    cond (eqb refusal.answer 0) (delivered (reason c pts) (found c pts) (radii_of c pts) room)
    (refused refusal.answer refusal.detail)

-- the face slice at the end: the faces in front, or all zeros at 9, or untouched
unfoldable pub faces_after : Patch → Found → List ℕ → List ℕ
faces_after p f slice =
    cond (eqb p.answer 0) (written f.faces slice)
    (cond (eqb p.answer short_faces) (replicate (length slice) 0) slice)
