-- The floats of the call are the source's, but that triangles of area zero are neither acceptable nor scored
-- (`floats_amended`); the source never scores one above 0 (`low_scores`). Assumes nothing.
use Prim.Native.Nat.{ℕ}
use mathlib.Core.Path.{◌≡◌, refl, sym, ap, ◌∙◌, subst}
use mathlib.Core.Bool.{Bool, true, false, cond, not, ◌&&◌, ◌||◌}
use mathlib.Core.List.{List}
use mathlib.Core.Option.{Option, none, some}
use lib.Dec.{T}
use lib.Ieee.{Float, lt, le, of_bits}
use lib.Ieee.Bits.{is_true}
use Rattle.numbers.specs.Rounded.{f32}
use Rattle.numbers.proofs.OrderLaws.{le_lt_trans}
use Rattle.vector.specs.declared.Point3f.{Point3f}
use Rattle.quality.specs.Measures.{tiny, degenerate}
use Rattle.triangle.specs.Quality.{area, quality, is_zero, acceptable}
use Rattle.points.specs.Points.{point_at}
use Rattle.patch.specs.Lay.{Edge, face}
use Rattle.decisions.specs.Decisions.{reach, apart, quality_at, is_close, middle, around, pivotable, accepts, score_at, floats_of}
use Rattle.decisions.specs.Found.{area_at}
use Rattle.decisions.proofs.Completed.{area_at_lem}
use Rattle.decisions.specs.declared.Scene.{Scene}
use Rattle.amending.specs.Amending.{pivot_face, amend, LowScores}
use Rattle.arealess.specs.Source.{source_accepts, source_score, source_floats}
use Rattle.arealess.specs.Arealess.{area_zero}

-- ---- a triangle's measures
module _ (p1 p2 p3 : Point3f) where
  -- below 1e-10 the score is 0
  small_score : lt (area p1 p2 p3) tiny ≡ true → (quality p1 p2 p3).quality_score ≡ f32 0
  unfolding quality degenerate
  small_score h = rw h

zero_tiny : T (lt (f32 0) tiny)
unfolding lt of_bits
zero_tiny = tt

zero_zero : lt (f32 0) (f32 0) ≡ false
unfolding lt of_bits
zero_zero = refl

pub zero-le : (x : Float) → is_zero x ≡ true → T (le x (f32 0))
unfolding le
zero-le x h = go (lt x (f32 0)) (is_zero x) h
  where
    go : (a b : Bool) → b ≡ true → T (a || b)
    go true b h = tt
    go false b h = subst T (sym h) tt

zero_small : (x : Float) → is_zero x ≡ true → lt x tiny ≡ true
zero_small x h = is_true (lt x tiny) (le_lt_trans x (f32 0) tiny (zero-le x h) zero_tiny)

-- ---- the floats
module _ (s : Scene) (pts : List Float) where
  same_area : (i j k : ℕ) → is_zero (quality_at pts i j k).area ≡ area_zero pts (face i j k)
  unfolding area_zero
  same_area i j k = ap is_zero (area_at_lem pts i j k)

  accepts_amended : (r : Float) (i j k : ℕ) → accepts s r (quality_at pts i j k) ≡ (not (area_zero pts (face i j k)) && source_accepts s r (quality_at pts i j k))
  unfolding accepts acceptable source_accepts
  accepts_amended r i j k =
      let q = quality_at pts i j k in
      ap (λ (b : Bool). cond b false (source_accepts s r q)) (same_area i j k) ∙ go (area_zero pts (face i j k)) (source_accepts s r q)
    where
      go : (b x : Bool) → cond b false x ≡ (not b && x)
      go true x = refl
      go false x = refl

  score_amended : (r : Float) (e : Edge) (k : ℕ) → score_at s pts r e k ≡ cond (area_zero pts (pivot_face e k)) none (source_score s pts r e k)
  unfolding score_at source_score
  score_amended r e k =
      let q = quality_at pts e.v1 e.v2 k in
      let x = le (apart pts k e.v1) r in
      let y = le (apart pts k e.v2) r in
      ap (λ (b : Bool). cond (x && (y && b)) (some q.quality_score) none) (accepts_amended r e.v1 e.v2 k)
      ∙ go x y (area_zero pts (pivot_face e k)) (source_accepts s r q) (some q.quality_score)
    where
      go : (x y b z : Bool) (o : Option Float) → cond (x && (y && (not b && z))) o none ≡ cond b none (cond (x && (y && z)) o none)
      go true true true z o = refl
      go true true false z o = refl
      go true false true z o = refl
      go true false false z o = refl
      go false y true z o = refl
      go false y false z o = refl

  pub floats_amended : floats_of s pts ≡ amend (area_zero pts) (source_floats s pts)
  unfolding floats_of source_floats amend
  floats_amended = λ i. record {
    near = λ r a. around s pts (point_at pts a) (reach r);
    close = λ r a b. is_close pts r a b;
    fits = λ r a b c. accepts_amended r a b c i;
    pivotable = λ r e. pivotable pts r e;
    around = λ r e. around s pts (middle (point_at pts e.v1) (point_at pts e.v2)) r;
    score = λ r e k. score_amended r e k i;
  }

  zero_score : (i j k : ℕ) → area_zero pts (face i j k) ≡ true → (quality_at pts i j k).quality_score ≡ f32 0
  unfolding quality_at area_zero area_at
  zero_score i j k h = small_score (point_at pts i) (point_at pts j) (point_at pts k) (zero_small (area (point_at pts i) (point_at pts j) (point_at pts k)) h)

  pub low_scores : LowScores (area_zero pts) (source_floats s pts)
  unfolding source_floats source_score
  low_scores r e k x h q =
      let m = quality_at pts e.v1 e.v2 k in
      go (le (apart pts k e.v1) r && (le (apart pts k e.v2) r && source_accepts s r m)) m.quality_score (zero_score e.v1 e.v2 k h) q
    where
      held : Option Float → Float
      held none = f32 0
      held (some y) = y

      go : (b : Bool) (y : Float) → y ≡ f32 0 → cond b (some y) none ≡ some x → lt (f32 0) x ≡ false
      go true y z e = subst (λ (v : Float). lt (f32 0) v ≡ false) (sym z ∙ ap held e) zero_zero
      go false y z e = subst (λ (v : Float). lt (f32 0) v ≡ false) (ap held e) zero_zero
