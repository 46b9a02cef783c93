-- A triangle's score not below `top`, by the tests that it takes. Assumes nothing.
use mathlib.Core.Path.{◌≡◌, refl, sym, ◌∙◌}
use mathlib.Core.Bool.{Bool, true, false, cond}
use mathlib.Core.Option.{Option, none, some}
use lib.Dec.{T, not_T}
use lib.Ieee.{Float, lt, le}
use lib.Ieee.Bits.{is_true, is_false}
use Rattle.numbers.proofs.OrderLaws.{le_left, le_refl, lt_le, lt_le_trans}
use Rattle.quality.specs.Inner.Shape.{shape_of, quality_of}
use Rattle.score_bounds.specs.Inner.Bound.{score_bound}
use Rattle.quality.specs.declared.Shape.{Shape}
use Rattle.quality.specs.declared.TriangleQuality.{TriangleQuality}
use Rattle.score_bounds.proofs.Bounds.{score_bounded}
use Rattle.lists.proofs.Bools.{true_not_false}
use Rattle.decisions.specs.declared.Scene.{Scene}
use Rattle.decisions.specs.Decisions.{accepts}
use Rattle.decisions.specs.Found.{at_least, accepted_score}

-- ---- of a triangle

module _ (s : Scene) (r top : Float) (q : TriangleQuality) where
  abbrev kept : Option Float
  kept = at_least top (accepted_score s r q)

  kept_is : kept ≡ cond (accepts s r q) (cond (le top q.quality_score) (some q.quality_score) none) none
  unfolding at_least accepted_score
  kept_is = go (accepts s r q)
    where
      go : (t : Bool) → at_least top (cond t (some q.quality_score) none)
          ≡ cond t (cond (le top q.quality_score) (some q.quality_score) none) none
      go true = refl
      go false = refl

  pub score_low : le top q.quality_score ≡ false → none ≡ kept
  score_low h = sym (kept_is ∙ go (accepts s r q))
    where
      go : (t : Bool) → cond t (cond (le top q.quality_score) (some q.quality_score) none) none ≡ none
      go true = rw h
      go false = refl

  pub score_refused : accepts s r q ≡ false → none ≡ kept
  score_refused h = sym (kept_is ∙ rw h)

  pub score_kept : le top q.quality_score ≡ true → accepts s r q ≡ true → some q.quality_score ≡ kept
  score_kept h g = sym (kept_is ∙ rw (g, h))

-- ---- of three lengths and an area

-- what is below `top` bounds no score that is not
under : (top a b c area : Float) → T (lt (score_bound (shape_of a b c area)) top) → le top (quality_of a b c area).quality_score ≡ false
under top a b c area h =
    is_false (le top x) (not_T (le top x)
    (λ k. true_not_false (is_true (lt bound x) (lt_le_trans bound top x h k))
    (score_bounded bound a b c area (le_refl bound (le_left bound top (lt_le bound top h))))))
  where
    bound : Float
    bound = score_bound (shape_of a b c area)

    x : Float
    x = (quality_of a b c area).quality_score

pub score_bound_lem : (s : Scene) (r top a b c area : Float) {v : Shape} {x : Float} → v ≡ shape_of a b c area → x ≡ score_bound v → lt x top ≡ true → none
    ≡ at_least top (accepted_score s r (quality_of a b c area))
score_bound_lem s r top a b c area h e g =
    let t : T (lt (score_bound (shape_of a b c area)) top) = rw (← h, ← e, g) tt in
    score_low s r top (quality_of a b c area) (under top a b c area t)
