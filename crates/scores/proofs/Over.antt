-- The score of a point over an edge, not below `top`, by the tests that it takes. Assumes nothing.
use Prim.Native.Nat.{ℕ}
use mathlib.Core.Path.{◌≡◌, refl, sym, ap, ◌∙◌, subst}
use mathlib.Core.Bool.{Bool, true, false, cond, ◌&&◌}
use mathlib.Core.List.{List}
use mathlib.Core.Option.{Option, none, some}
use lib.Dec.{T, not_T}
use lib.Ieee.{Float, le}
use lib.Ieee.Bits.{is_false}
use Rattle.std.specs.Prelude.{Option as Outcome, None}
use Rattle.lists.specs.Inner.Found.{option_found}
use Rattle.numbers.proofs.OrderLaws.{le_not_lt}
use Rattle.numbers.specs.Rounded.{◌⊗◌}
use Rattle.numbers.specs.Root.{root}
use Rattle.vector.specs.Vector.{squared, distance, magnitude}
use Rattle.vector.specs.declared.Point3f.{Point3f}
use Rattle.area_bounds.specs.Inner.AreaBound.{cross_squared}
use Rattle.thin.specs.Inner.Thin.{AllThin}
use Rattle.quality.specs.Measures.{half}
use Rattle.triangle.specs.Quality.{area}
use Rattle.quality.specs.Inner.Shape.{shape_of, quality_of}
use Rattle.triangle.proofs.Quality.{quality_turned}
use Rattle.score_bounds.proofs.Aspect.{aspect_low}
use Rattle.points.specs.Points.{point_at}
use Rattle.patch.specs.Lay.{edge}
use Rattle.decisions.specs.declared.Scene.{Scene}
use Rattle.decisions.specs.Decisions.{apart, quality_at, accepts, score_at}
use Rattle.decisions.specs.Found.{at_least, accepted_score}
use Rattle.scores.specs.declared.Side.{Side}
use Rattle.scores.specs.Inner.Over.{edge_side, score_near, score_over, Thinned}

-- ---- by distances

-- one that is accepted counts if it is near
module _ (s : Scene) (r top a b c area : Float) where
  pub score_near_lem : le c r ≡ true → le b r ≡ true → {o : Outcome Float} → o ≡ option_found (at_least top (accepted_score s r (quality_of a b c area))) → o
      ≡ option_found (at_least top (score_near s r a b c area))
  unfolding score_near accepted_score
  score_near_lem h g e = rw (h, g) e

  pub score_far : le c r ≡ false → None ≡ option_found (at_least top (score_near s r a b c area))
  unfolding score_near at_least
  score_far h = rw h

  pub score_far_too : le b r ≡ false → None ≡ option_found (at_least top (score_near s r a b c area))
  unfolding score_near at_least
  score_far_too h = rw (h, and_false (le c r))
    where
      and_false : (t : Bool) → (t && false) ≡ false
      and_false true = refl
      and_false false = refl

  -- an aspect ratio so low that no score reaches `top`
  pub score_thin : {limit : Float} → (l : Thinned top limit) → T (le (shape_of a b c area).aspect_ratio l.aspect) → None
      ≡ option_found (at_least top (score_near s r a b c area))
  unfolding score_near at_least
  score_thin l h = ap option_found (sym (go (le c r && (le b r && accepts s r (quality_of a b c area)))))
    where
      x : Float
      x = (quality_of a b c area).quality_score

      low : le top x ≡ false
      low = is_false (le top x) (not_T (le top x) (λ k. le_not_lt top x k (subst T (sym (aspect_low top l.aspect a b c area l.aspects h)) tt)))

      go : (t : Bool) → at_least top (cond t (some x) none) ≡ none
      go true = rw low
      go false = refl

-- ---- of points

module _ (s : Scene) (r top : Float) (p q t : Point3f) where
  abbrev over : Outcome Float
  over = option_found (at_least top (score_over s r p q t))

  over_is : score_near s r (root (squared q p)) (root (squared t q)) (root (squared t p)) (root (cross_squared p q t) ⊗ half) ≡ score_over s r p q t
  unfolding score_over distance area magnitude cross_squared
  over_is = refl

  pub over_found : {o : Outcome Float} → o
      ≡ option_found (at_least top (score_near s r (root (squared q p)) (root (squared t q)) (root (squared t p)) (root (cross_squared p q t) ⊗ half))) → o ≡ over
  over_found e = e ∙ ap (λ (x : Option Float). option_found (at_least top x)) over_is

  pub over_thin : {limit : Float} → Thinned top limit → AllThin limit (squared q p) (squared t q) (squared t p) (cross_squared p q t) → None ≡ over
  over_thin l h = over_found
      (score_thin s r top (root (squared q p)) (root (squared t q)) (root (squared t p)) (root (cross_squared p q t) ⊗ half) l
      (h.abc.below l.aspect l.thins))

-- points by their numbers
over_points : (s : Scene) (pts : List Float) (r : Float) (a b k : ℕ) → score_over s r (point_at pts a) (point_at pts b) (point_at pts k)
    ≡ score_at s pts r (edge a b) k
unfolding score_over score_near score_at quality_at apart
over_points s pts r a b k = rw (quality_turned (point_at pts a) (point_at pts b) (point_at pts k))

pub over_at : (s : Scene) (pts : List Float) (r : Float) (a b k : ℕ) {side : Side} {t : Point3f} → side ≡ edge_side (point_at pts a) (point_at pts b) → t
    ≡ point_at pts k → score_over s r side.p side.q t ≡ score_at s pts r (edge a b) k
over_at s pts r a b k {side} {t} es et =
    ap (λ (x : Side). score_over s r x.p x.q t) es
    ∙ ap (score_over s r (point_at pts a) (point_at pts b)) et
    ∙ over_points s pts r a b k

pub side_own : {side : Side} (p q : Point3f) → side ≡ edge_side p q → side ≡ edge_side side.p side.q
side_own p q e = subst (λ (x : Side). x ≡ edge_side x.p x.q) (sym e) refl
