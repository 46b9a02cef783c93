-- The published acceptance and all that goes by it: the laying and the call as the source has them. They are
-- `accepts`, `score_at`, `floats_of`, `laid_of`, `found` and `reconstructed` with `source_acceptable` in the place of
-- `acceptable`. Definitions only.
use Rattle.std.specs.Prelude.{ℕ, Bool, cond, ◌&&◌, List, [], ◌∷◌, eqb, Float}
use Rattle.std.proofs.Math.Option.{Option, none, some}
use Rattle.std.specs.Float.Ieee.{le}
use Rattle.triangle.specs.Quality.{source_acceptable}
use Rattle.quality.specs.declared.TriangleQuality.{TriangleQuality}
use Rattle.points.specs.Points.{point_at}
use Rattle.settings.specs.declared.BallPivotingConfig.{BallPivotingConfig}
use Rattle.domain.specs.Refusals.{reconstruct_refusal}
use Rattle.patch.specs.Lay.{Edge, State, patch}
use Rattle.patch.specs.Search.{Floats, searching}
use Rattle.patch.specs.Frontier.{pop_of}
use Rattle.decisions.specs.Decisions.{reach, apart, quality_at, is_close, middle, around, pivotable}
use Rattle.decisions.specs.declared.Scene.{Scene}
use Rattle.ball_pivoting.specs.Reconstruct.{point_count, scene_of, radii_of, Found, laid, plainly, refused, delivered}
use Rattle.ball_pivoting.specs.Reconstruct.{reason}
use Rattle.ball_pivoting.specs.declared.Patch.{Patch}

-- `is_triangle_acceptable` as published, under the settings
unfoldable pub source_accepts : Scene → Float → TriangleQuality → Bool
source_accepts s r q = source_acceptable q r s.min_triangle_area s.quality_threshold s.max_edge_factor

-- the score that `try_ball_pivot` goes by
unfoldable pub source_score : Scene → List Float → Float → Edge → ℕ → Option Float
source_score s pts r e k =
    let q = quality_at pts e.v1 e.v2 k in
    let near = le (apart pts k e.v1) r && (le (apart pts k e.v2) r && source_accepts s r q) in
    cond near (some q.quality_score) none

-- what the searches go by
unfoldable pub source_floats : Scene → List Float → Floats Float
source_floats s pts = record {
  near = λ r i. around s pts (point_at pts i) (reach r);
  close = λ r i j. is_close pts r i j;
  fits = λ r i j k. source_accepts s r (quality_at pts i j k);
  pivotable = λ r e. pivotable pts r e;
  around = λ r e. around s pts (middle (point_at pts e.v1) (point_at pts e.v2)) r;
  score = λ r e k. source_score s pts r e k;
}

-- `advanced_ball_pivoting`: the state when all radii are done; the source's order of popping is rule 1, and what is
-- claimed of it holds under rule 2 as well
unfoldable pub source_laid : BallPivotingConfig → List Float → State
source_laid c pts =
    patch (searching (source_floats (scene_of c pts) pts) (point_count pts)) (pop_of c.frontier_rule) (point_count pts)
    (radii_of c pts)

-- the multi-radius path, or the plain one if there are no radii, which asks for no acceptance
unfoldable pub source_found_at : BallPivotingConfig → List Float → List Float → Found
source_found_at c pts [] = plainly c pts
source_found_at c pts (r ∷ rs) = laid (source_laid c pts)

unfoldable pub source_found : BallPivotingConfig → List Float → Found
source_found c pts = source_found_at c pts (radii_of c pts)

-- the call's answer, detail, counts and radii; why nothing was found goes by closeness alone, so it is the same
unfoldable pub source_reconstructed : List Float → List Float → BallPivotingConfig → ℕ → ℕ → ℕ → Patch
source_reconstructed pts normals c room words floats =
    let refusal = reconstruct_refusal pts normals c words floats in
    cond (eqb refusal.answer 0) (delivered (reason c pts) (source_found c pts) (radii_of c pts) room)
    (refused refusal.answer refusal.detail)
