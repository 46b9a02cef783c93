-- What a verdict says: it is good exactly where the triangle is accepted (`good_exactly`), and for each kind what was
-- measured and which test told. Assumes nothing.
use mathlib.Core.Path.{◌≡◌, refl, sym, ap, ◌∙◌, subst}
use mathlib.Core.Bool.{Bool, true, false, cond, not}
use lib.Ieee.{Float, lt}
use Rattle.numbers.specs.Rounded.{◌⊗◌}
use Rattle.quality.specs.declared.TriangleQuality.{TriangleQuality}
use Rattle.triangle.specs.Quality.{is_zero, source_acceptable, acceptable}
use Rattle.verdict.specs.Verdict.{stretch, verdict_of, is_good}
use Rattle.verdict.specs.declared.MeasuredKind.{MeasuredKind}
use Rattle.verdict.specs.declared.MeasuredKind.TheVariants.{Good, NoArea, Small, Poor, Long}

-- a verdict by a test, where its first case is not good
step : (b : Bool) (v w : MeasuredKind) (x : Bool) → is_good v ≡ false → is_good w ≡ x → is_good (cond b v w) ≡ cond b false x
step true v w x e f = e
step false v w x e f = f

last : (b : Bool) (v w : MeasuredKind) → is_good v ≡ false → is_good w ≡ true → is_good (cond b v w) ≡ not b
last true v w e f = e
last false v w e f = f

module _ (q : TriangleQuality) (radius leastArea threshold factor : Float) where
  pub good_exactly : is_good (verdict_of q radius leastArea threshold factor) ≡ acceptable q radius leastArea threshold factor
  unfolding verdict_of acceptable source_acceptable is_good
  good_exactly =
      step (is_zero q.area) _ _ _ refl
      (step (lt q.area leastArea) _ _ _ refl
      (step (lt q.quality_score threshold) _ _ _ refl
      (last (lt (radius ⊗ factor) (stretch q.edge_ratio q.area)) _ _ refl refl)))

  abbrev long : Float
  long = stretch q.edge_ratio q.area

  -- what each kind says: what its number is, and which tests came out how
  abbrev Says : MeasuredKind → Type 0
  Says (NoArea x) = (x ≡ q.area) × (is_zero q.area ≡ true)
  Says (Small x) = (x ≡ q.area) × (is_zero q.area ≡ false) × (lt q.area leastArea ≡ true)
  Says (Poor x) = (x ≡ q.quality_score) × (is_zero q.area ≡ false) × (lt q.area leastArea ≡ false) × (lt q.quality_score threshold ≡ true)
  Says (Long x) = (x ≡ long) × (is_zero q.area ≡ false) × (lt q.area leastArea ≡ false) × (lt q.quality_score threshold ≡ false)
      × (lt (radius ⊗ factor) long ≡ true)
  Says (Good x) = (x ≡ q.quality_score) × (is_zero q.area ≡ false) × (lt q.area leastArea ≡ false) × (lt q.quality_score threshold ≡ false)
      × (lt (radius ⊗ factor) long ≡ false)

  says : Says (verdict_of q radius leastArea threshold factor)
  unfolding verdict_of
  says = go (is_zero q.area) (lt q.area leastArea) (lt q.quality_score threshold) (lt (radius ⊗ factor) long) refl refl refl refl
    where
      go : (a b c d : Bool) → is_zero q.area ≡ a → lt q.area leastArea ≡ b → lt q.quality_score threshold ≡ c → lt (radius ⊗ factor) long ≡ d
          → Says (cond a (NoArea q.area) (cond b (Small q.area) (cond c (Poor q.quality_score) (cond d (Long long) (Good q.quality_score)))))
      go true b c d ea eb ec ed = (refl, ea)
      go false true c d ea eb ec ed = (refl, ea, eb)
      go false false true d ea eb ec ed = (refl, ea, eb, ec)
      go false false false true ea eb ec ed = (refl, ea, eb, ec, ed)
      go false false false false ea eb ec ed = (refl, ea, eb, ec, ed)

  told : (v : MeasuredKind) → verdict_of q radius leastArea threshold factor ≡ v → Says v
  told v e = subst Says e says

  -- ---- a law for each kind
  pub no_area_is : (x : Float) → verdict_of q radius leastArea threshold factor ≡ NoArea x → (x ≡ q.area) × (is_zero q.area ≡ true)
  no_area_is x e = told (NoArea x) e

  pub small_is : (x : Float) → verdict_of q radius leastArea threshold factor ≡ Small x → (x ≡ q.area) × (is_zero q.area ≡ false)
      × (lt q.area leastArea ≡ true)
  small_is x e = told (Small x) e

  pub poor_is : (x : Float) → verdict_of q radius leastArea threshold factor ≡ Poor x
      → (x ≡ q.quality_score) × (is_zero q.area ≡ false) × (lt q.area leastArea ≡ false) × (lt q.quality_score threshold ≡ true)
  poor_is x e = told (Poor x) e

  pub long_is : (x : Float) → verdict_of q radius leastArea threshold factor ≡ Long x
      → (x ≡ stretch q.edge_ratio q.area) × (is_zero q.area ≡ false) × (lt q.area leastArea ≡ false) × (lt q.quality_score threshold ≡ false)
      × (lt (radius ⊗ factor) (stretch q.edge_ratio q.area) ≡ true)
  long_is x e = told (Long x) e

  pub good_is : (x : Float) → verdict_of q radius leastArea threshold factor ≡ Good x → (x ≡ q.quality_score)
      × (acceptable q radius leastArea threshold factor ≡ true)
  unfolding is_good
  good_is x e = ((told (Good x) e).0, sym good_exactly ∙ ap is_good e)
