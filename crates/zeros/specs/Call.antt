-- The main call with a `min` and a `max` that may give either of two unlike zeros, and the claim that nothing of its
-- result depends on them. These are the definitions of Grid.antt, Decisions.antt and Reconstruct.antt, with such
-- functions in the places of `minimum` and `maximum`. Definitions only.
use Rattle.std.specs.Prelude.{ℕ, zero, suc, ◌+◌, ◌≡◌, false, cond, ◌&&◌, List, [], ◌∷◌, eqb, get_or, Float}
use Rattle.std.proofs.Math.Option.{Option, none, some}
use Rattle.std.specs.Float.{nan, inf}
use Rattle.std.specs.Float.Ieee.{le}
use Rattle.numbers.specs.Rounded.{◌⊗◌}
use Rattle.numbers.specs.Order.{minimum, maximum}
use Rattle.vector.specs.declared.Point3f.{Point3f}
use Rattle.quality.specs.declared.TriangleQuality.{TriangleQuality}
use Rattle.triangle.specs.Quality.{quality}
use Rattle.points.specs.Points.{point_at}
use Rattle.settings.specs.declared.BallPivotingConfig.{BallPivotingConfig}
use Rattle.domain.specs.Refusals.{reconstruct_refusal}
use Rattle.grid.specs.declared.SpatialGrid.{SpatialGrid}
use Rattle.radii.specs.Radii.{adaptive_radii}
use Rattle.patch.specs.Lay.{Edge, State, patch}
use Rattle.patch.specs.Search.{Floats, searching}
use Rattle.patch.specs.Frontier.{pop_of}
use Rattle.decisions.specs.Decisions.{reach, apart, is_close, accepts, middle, around, pivotable}
use Rattle.decisions.specs.declared.Scene.{Scene}
use Rattle.ball_pivoting.specs.Reconstruct.{point_count, Found, laid, plainly, found, refused, delivered}
use Rattle.ball_pivoting.specs.Unsplit.{reconstructed_unsplit}
use Rattle.ball_pivoting.specs.declared.Patch.{Patch}
use Rattle.zeros.specs.Zeros.{UpToZeros}
use Rattle.zeros.specs.Quality.{quality_by}

-- `bounds_min` on one axis. Which zero comes back may differ from use to use, so there is a `min` for each coordinate
-- of the cloud: `mins k` is asked at coordinate k.
unfoldable pub least_from_by : (ℕ → Float → Float → Float) → List Float → Float → ℕ → ℕ → Float
least_from_by mins pts a at zero = a
least_from_by mins pts a at (suc k) = least_from_by mins pts (mins at a (get_or pts at nan)) (at + 3) k

module _ (mins : ℕ → Float → Float → Float) (m M : Float → Float → Float) (c : BallPivotingConfig)
    (pts : List Float) where
  -- `bounds_min`
  unfoldable pub bounds_by : Point3f
  bounds_by = record {
    x = least_from_by mins pts (inf false) 0 (point_count pts);
    y = least_from_by mins pts (inf false) 1 (point_count pts);
    z = least_from_by mins pts (inf false) 2 (point_count pts);
  }

  -- `build_spatial_grid`
  unfoldable pub index_by : SpatialGrid
  index_by = record { cell_size = c.radius ⊗ c.spatial_cell_factor; bounds_min = bounds_by }

  -- the call's settings, with that index
  unfoldable pub scene_by : Scene
  scene_by = record {
    n = point_count pts;
    indexed = c.use_spatial_index;
    grid = index_by;
    min_triangle_area = c.min_triangle_area;
    quality_threshold = c.quality_threshold;
    max_edge_factor = c.max_edge_factor;
  }

  -- `compute_triangle_quality` of three points by their numbers
  unfoldable pub quality_at_by : ℕ → ℕ → ℕ → TriangleQuality
  quality_at_by i j k = quality_by m M (point_at pts i) (point_at pts j) (point_at pts k)

  -- the score that `try_ball_pivot` goes by, if the point is near enough and the triangle acceptable
  unfoldable pub score_at_by : Float → Edge → ℕ → Option Float
  score_at_by r e k =
      let q = quality_at_by e.v1 e.v2 k in
      let near = le (apart pts k e.v1) r && (le (apart pts k e.v2) r && accepts scene_by r q) in
      cond near (some q.quality_score) none

  -- what the searches go by
  unfoldable pub floats_by : Floats Float
  floats_by = record {
    near = λ r i. around scene_by pts (point_at pts i) (reach r);
    close = λ r i j. is_close pts r i j;
    fits = λ r i j k. accepts scene_by r (quality_at_by i j k);
    pivotable = λ r e. pivotable pts r e;
    around = λ r e. around scene_by pts (middle (point_at pts e.v1) (point_at pts e.v2)) r;
    score = λ r e k. score_at_by r e k;
  }

  -- `compute_adaptive_radii`
  unfoldable pub radii_by : List Float
  radii_by = adaptive_radii c index_by pts (point_count pts)

  -- `advanced_ball_pivoting`: the state when all radii are done; under rule 1, which is the source's, and under rule 2
  unfoldable pub laid_by : State
  laid_by = patch (searching floats_by (point_count pts)) (pop_of c.frontier_rule) (point_count pts) radii_by

  -- the multi-radius path, or the plain one if there are no radii, which asks for no `min` and no `max`
  unfoldable pub found_at_by : List Float → Found
  found_at_by [] = plainly c pts
  found_at_by (r ∷ rs) = laid laid_by

  unfoldable pub found_by : Found
  found_by = found_at_by radii_by

  -- the call's answer, detail, counts and radii
  unfoldable pub reconstructed_by : List Float → ℕ → ℕ → ℕ → Patch
  reconstructed_by normals room words floats =
      let refusal = reconstruct_refusal pts normals c words floats in
      cond (eqb refusal.answer 0) (delivered 8 found_by radii_by room) (refused refusal.answer refusal.detail)

-- Whatever these functions give, a triangle's quality is the same in all six measures, and so are the faces and counts
-- that are found, and the call's answer.
pub record NoMatter (mins : ℕ → Float → Float → Float) (m M : Float → Float → Float) : Type 0 where
  pub qualities : (p1 p2 p3 : Point3f) → quality_by m M p1 p2 p3 ≡ quality p1 p2 p3
  pub all_found : (c : BallPivotingConfig) (pts : List Float) → found_by mins m M c pts ≡ found c pts
  pub answers : (c : BallPivotingConfig) (pts normals : List Float) (room words floats : ℕ)
      → reconstructed_by mins m M c pts normals room words floats ≡ reconstructed_unsplit pts normals c room words floats

-- The claim, for every `min` and `max` that Rust allows, all settings and points. `no_matter` proves it.
abbrev pub EitherZero : Type 0
EitherZero =
    (mins : ℕ → Float → Float → Float) (m M : Float → Float → Float)
    → ((k : ℕ) → UpToZeros minimum (mins k)) → UpToZeros minimum m → UpToZeros maximum M → NoMatter mins m M
