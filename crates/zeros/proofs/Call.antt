-- The claim of Call.antt: whichever of two unlike zeros `min` and `max` give, the main call's result is the same.
-- Assumes nothing.
use Prim.Native.Nat.{ℕ}
use mathlib.Core.Path.{◌≡◌, refl, ap, ap₂, ◌∙◌}
use mathlib.Core.Logic.{inl}
use mathlib.Core.Bool.{false, cond, ◌&&◌}
use mathlib.Core.List.{List, [], ◌∷◌}
use mathlib.Core.Option.{none, some}
use lib.Dec.{eqb}
use lib.Ieee.{Float, inf, le}
use Rattle.numbers.specs.Rounded.{◌⊗◌}
use Rattle.numbers.specs.Order.{minimum, maximum}
use Rattle.vector.specs.declared.Point3f.{Point3f}
use Rattle.quality.specs.declared.TriangleQuality.{TriangleQuality}
use Rattle.points.specs.Points.{point_at}
use Rattle.settings.specs.declared.BallPivotingConfig.{BallPivotingConfig}
use Rattle.domain.specs.Refusals.{reconstruct_refusal}
use Rattle.grid.specs.Grid.{least_from, bounds_min, cell_of}
use Rattle.patch.specs.Lay.{Edge, patch}
use Rattle.patch.specs.Search.{Floats, searching}
use Rattle.patch.specs.Frontier.{pop_of}
use Rattle.decisions.specs.Decisions.{reach, apart, quality_at, is_close, accepts, middle, around, pivotable, score_at}
use Rattle.decisions.specs.Decisions.{floats_of}
use Rattle.ball_pivoting.specs.Reconstruct.{point_count, spatial_index_of, scene_of, radii_of, laid_of, Found, laid, found_at, found}
use Rattle.ball_pivoting.specs.Reconstruct.{refused, delivered}
use Rattle.ball_pivoting.specs.Unsplit.{reconstructed_unsplit}
use Rattle.zeros.specs.Zeros.{UpToZeros}
use Rattle.zeros.specs.Call.{least_from_by, bounds_by, index_by, scene_by, quality_at_by, score_at_by, floats_by, radii_by}
use Rattle.zeros.specs.Call.{laid_by, found_at_by, found_by, reconstructed_by, EitherZero}
use Rattle.zeros.proofs.Cells.{Alike, cell_alike, least_alike}
use Rattle.zeros.proofs.Grids.{neighbors_same, adaptive_same}
use Rattle.zeros.proofs.Quality.{quality_same}

module _ (mins : ℕ → Float → Float → Float) (m M : Float → Float → Float)
    (each : (k : ℕ) → UpToZeros minimum (mins k)) (lesser : UpToZeros minimum m) (greater : UpToZeros maximum M)
    (c : BallPivotingConfig) (pts : List Float) where
  least_at_lem : (at : ℕ)
      → Alike (least_from_by mins pts (inf false) at (point_count pts)) (least_from pts (inf false) at (point_count pts))
  least_at_lem at = least_alike mins each pts (inf false) (inf false) at (point_count pts) (inl refl)

  cells_same : (p : Point3f) → cell_of (index_by mins m M c pts) p ≡ cell_of (spatial_index_of c pts) p
  unfolding cell_of index_by bounds_by spatial_index_of bounds_min
  cells_same p =
      let size : Float = c.radius ⊗ c.spatial_cell_factor in
      let x = cell_alike size p.x _ _ (least_at_lem 0) in
      let y = cell_alike size p.y _ _ (least_at_lem 1) in
      let z = cell_alike size p.z _ _ (least_at_lem 2) in
      λ i. record { x = x i; y = y i; z = z i }

  size_same : (index_by mins m M c pts).cell_size ≡ (spatial_index_of c pts).cell_size
  unfolding index_by spatial_index_of
  size_same = refl

  around_same : (p : Point3f) (r : Float) → around (scene_by mins m M c pts) pts p r ≡ around (scene_of c pts) pts p r
  unfolding around scene_by scene_of
  around_same p r =
      neighbors_same (index_by mins m M c pts) (spatial_index_of c pts) size_same cells_same pts c.use_spatial_index
      (point_count pts) p r

  at_same : (i j k : ℕ) → quality_at_by mins m M c pts i j k ≡ quality_at pts i j k
  unfolding quality_at_by quality_at
  at_same i j k = quality_same m M lesser greater (point_at pts i) (point_at pts j) (point_at pts k)

  fits_same : (r : Float) (i j k : ℕ)
      → accepts (scene_by mins m M c pts) r (quality_at_by mins m M c pts i j k)
      ≡ accepts (scene_of c pts) r (quality_at pts i j k)
  unfolding accepts scene_by scene_of
  fits_same r i j k = ap (accepts (scene_of c pts) r) (at_same i j k)

  score_same : (r : Float) (e : Edge) (k : ℕ) → score_at_by mins m M c pts r e k ≡ score_at (scene_of c pts) pts r e k
  unfolding score_at_by score_at accepts scene_by scene_of
  score_same r e k =
      ap (λ (q : TriangleQuality). cond
      (le (apart pts k e.v1) r && (le (apart pts k e.v2) r && accepts (scene_of c pts) r q))
      (some q.quality_score) none)
      (at_same e.v1 e.v2 k)

  floats_same : floats_by mins m M c pts ≡ floats_of (scene_of c pts) pts
  unfolding floats_by floats_of
  floats_same = λ t. record {
    near = λ r i. around_same (point_at pts i) (reach r) t;
    close = λ r i j. is_close pts r i j;
    fits = λ r i j k. fits_same r i j k t;
    pivotable = λ r e. pivotable pts r e;
    around = λ r e. around_same (middle (point_at pts e.v1) (point_at pts e.v2)) r t;
    score = λ r e k. score_same r e k t;
  }

  radii_same : radii_by mins m M c pts ≡ radii_of c pts
  unfolding radii_by radii_of
  radii_same = adaptive_same (index_by mins m M c pts) (spatial_index_of c pts) size_same cells_same pts c (point_count pts)

  laid_same : laid_by mins m M c pts ≡ laid_of c pts
  unfolding laid_by laid_of
  laid_same =
      ap₂ (λ (f : Floats Float) (rs : List Float). patch (searching f (point_count pts)) (pop_of c.frontier_rule)
      (point_count pts) rs) floats_same radii_same

  at_radii : (rs : List Float) → found_at_by mins m M c pts rs ≡ found_at c pts rs
  unfolding found_at_by found_at
  at_radii [] = refl
  at_radii (r ∷ rs) = ap laid laid_same

  found_same : found_by mins m M c pts ≡ found c pts
  unfolding found_by found
  found_same = at_radii (radii_by mins m M c pts) ∙ ap (found_at c pts) radii_same

  answer_same : (normals : List Float) (room words floats : ℕ)
      → reconstructed_by mins m M c pts normals room words floats ≡ reconstructed_unsplit pts normals c room words floats
  unfolding reconstructed_by reconstructed_unsplit
  answer_same normals room words floats =
      let refusal = reconstruct_refusal pts normals c words floats in
      ap₂ (λ (f : Found) (rs : List Float). cond (eqb refusal.answer 0) (delivered 8 f rs room)
      (refused refusal.answer refusal.detail)) found_same radii_same

pub no_matter : EitherZero
no_matter mins m M each lesser greater = record {
  qualities = λ p1 p2 p3. quality_same m M lesser greater p1 p2 p3;
  all_found = λ c pts. found_same mins m M each lesser greater c pts;
  answers = λ c pts normals room words floats. answer_same mins m M each lesser greater c pts normals room words floats;
}
