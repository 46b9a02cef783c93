-- The test of a seed's third point, by the distances and the area that it takes. Assumes nothing.
use Prim.Native.Nat.{ℕ}
use mathlib.Core.Path.{◌≡◌, sym, ap, ◌∙◌}
use mathlib.Core.Bool.{Bool, true, false}
use mathlib.Core.List.{List}
use lib.Ieee.{Float, lt}
use Rattle.numbers.specs.Rounded.{◌⊗◌}
use Rattle.numbers.specs.Root.{root}
use Rattle.vector.specs.Vector.{distance}
use Rattle.triangle.specs.Quality.{area}
use Rattle.quality.specs.Inner.Shape.{shape_of, quality_of}
use Rattle.score_bounds.specs.Inner.Bound.{score_bound}
use Rattle.quality.specs.declared.Shape.{Shape}
use Rattle.quality.specs.declared.TriangleQuality.{TriangleQuality}
use Rattle.vector.proofs.Distances.{distance_turned}
use Rattle.quality.proofs.Shapes.{shape_area, quality_area, quality_edges}
use Rattle.triangle.proofs.Quality.{quality_is}
use Rattle.triangle.proofs.Acceptance.{low_refused, edges_refused}
use Rattle.score_bounds.proofs.Aspect.{bound_low}
use Rattle.points.specs.Points.{point_at}
use Rattle.decisions.specs.declared.Scene.{Scene}
use Rattle.decisions.specs.Decisions.{reach, apart, quality_at, is_close, accepts}
use Rattle.decisions.specs.Inner.Completes.{completes}
use Rattle.decisions.specs.Found.{area_at, ShapeRefused}

-- ---- the triangle

pub quality_at_lem : (pts : List Float) (i j k : ℕ) → quality_of (apart pts j i) (apart pts j k) (apart pts i k) (area_at pts i j k) ≡ quality_at pts i j k
unfolding quality_at area_at apart
quality_at_lem pts i j k =
    ap (λ (b : Float). quality_of (distance (point_at pts j) (point_at pts i)) b (distance (point_at pts i) (point_at pts k))
    (area (point_at pts i) (point_at pts j) (point_at pts k))) (distance_turned (point_at pts j) (point_at pts k))
    ∙ quality_is (point_at pts i) (point_at pts j) (point_at pts k)

pub area_at_lem : (pts : List Float) (i j k : ℕ) → (quality_at pts i j k).area ≡ area_at pts i j k
area_at_lem pts i j k =
    let a = apart pts j i in
    let b = apart pts j k in
    let c = apart pts i k in
    let s = area_at pts i j k in
    ap (λ (q : TriangleQuality). q.area) (sym (quality_at_lem pts i j k)) ∙ quality_area a b c s ∙ shape_area a b c s

module _ (s : Scene) (pts : List Float) (r : Float) (i j k : ℕ) {area : Float} (e : area ≡ area_at pts i j k) where
  pub accepted_at : {side toJ toI : Float} {q : TriangleQuality} {t : Bool} → side ≡ apart pts j i → toJ ≡ apart pts j k → toI ≡ apart pts i k
      → quality_of side toJ toI area ≡ q → t ≡ accepts s r q → t ≡ accepts s r (quality_at pts i j k)
  accepted_at es ej ei eq et = et ∙ ap (accepts s r) (sym eq ∙ rw (es, ej, ei, e) (quality_at_lem pts i j k))

  pub accepted_shape : {side toJ toI : Float} {v : Shape} → side ≡ apart pts j i → toJ ≡ apart pts j k → toI ≡ apart pts i k → v ≡ shape_of side toJ toI area
      → ShapeRefused s r v → false ≡ accepts s r (quality_at pts i j k)
  accepted_shape {side} {toJ} {toI} es ej ei ev h = sym (ap (accepts s r) (sym (rw (es, ej, ei, e) (quality_at_lem pts i j k))) ∙ h side toJ toI area ev)

-- ---- the shape

module _ (s : Scene) (r : Float) {v : Shape} where
  pub shape_low : {x : Float} → x ≡ score_bound v → lt x s.quality_threshold ≡ true → ShapeRefused s r v
  unfolding accepts
  shape_low {x} e h a b c t g = low_refused (quality_of a b c t) r s.min_triangle_area s.quality_threshold s.max_edge_factor
      (bound_low s.quality_threshold a b c t (rw (← g, ← e, h) tt))

  pub shape_long : {x : Float} → x ≡ root v.area → lt (r ⊗ s.max_edge_factor) (v.edge_ratio ⊗ x) ≡ true → ShapeRefused s r v
  unfolding accepts
  shape_long {x} e h a b c t g =
      let q = quality_of a b c t in
      let edges : q.edge_ratio ≡ v.edge_ratio = quality_edges a b c t ∙ ap (λ (y : Shape). y.edge_ratio) (sym g) in
      let root_is : root q.area ≡ x = ap root (quality_area a b c t ∙ ap (λ (y : Shape). y.area) (sym g)) ∙ sym e in
      edges_refused q r s.min_triangle_area s.quality_threshold s.max_edge_factor
      (ap (λ (y : Float). lt (r ⊗ s.max_edge_factor) (y ⊗ root q.area)) edges ∙ ap
      (λ (y : Float). lt (r ⊗ s.max_edge_factor) (v.edge_ratio ⊗ y)) root_is ∙ h)

-- ---- the tests

module _ (s : Scene) (pts : List Float) (r : Float) (i j k : ℕ) {toI : Float} (ei : toI ≡ apart pts i k) where
  pub completed_far : lt (reach r) toI ≡ true → false ≡ completes s pts r i j k
  unfolding completes is_close
  completed_far h = rw (← ei, h)

  module _ {toJ : Float} (ej : toJ ≡ apart pts j k) (hi : lt (reach r) toI ≡ false) where
    pub completed_far_too : lt (reach r) toJ ≡ true → false ≡ completes s pts r i j k
    unfolding completes is_close
    completed_far_too h = rw (← ei, hi, ← ej, h)

    pub completed_near : {t : Bool} → lt (reach r) toJ ≡ false → t ≡ accepts s r (quality_at pts i j k) → t ≡ completes s pts r i j k
    unfolding completes is_close
    completed_near h e = rw (← ei, hi, ← ej, h) e
