-- The plain path's definitions, step by step, as loops over b, a and i go through them. Assumes nothing.
use Prim.Native.Nat.{ℕ, zero, suc, ◌+◌, ◌-◌, ◌/◌, ◌≤◌, ◌<◌}
use native.Mathlib.Nat.{min-le_left}
use native.Mathlib.Numerals.{add-one}
use mathlib.Core.Path.{◌≡◌, refl, sym, ap, ◌∙◌}
use mathlib.Core.Bool.{Bool, true, false, cond}
use mathlib.Core.List.{List, [], ◌∷◌, ◌++◌}
use native.Mathlib.Omega.{arith}
use lib.ListN.{length, take, drop, get_or, length-take, drop_of_length-le}
use lib.Seq.{length-take-le, drop-cons, get_or-take}
use lib.Ieee.{Float}
use Rattle.vector.specs.declared.Point3f.{Point3f}
use Rattle.points.specs.Points.{point_at}
use Rattle.lists.specs.Lists.{up_from}
use Rattle.patch.specs.Lay.{Face, face}
use Rattle.plain.specs.Plain.{candidate, candidates, sound, valid, faces_over, faces_at, plain_faces_from, plain_faces}

-- ---- the numbers from k up to n
pub up_more : (k n : ℕ) → k < n → up_from k (n - k) ≡ k ∷ up_from (k + 1) (n - (k + 1))
unfolding up_from
up_more k n h = let e : n - k ≡ suc (n - (k + 1)) = omega arith in ap (up_from k) e

pub up_none : (k n : ℕ) → n ≤ k → up_from k (n - k) ≡ []
unfolding up_from
up_none k n h = let e : n - k ≡ 0 = omega arith in ap (up_from k) e

pub up_start : (n : ℕ) → up_from 0 n ≡ up_from 0 (n - 0)
up_start n = let e : n ≡ n - 0 = omega arith in ap (up_from 0) e

module _ (points : List Float) (radius : Float) where
  module _ (i : ℕ) where
    -- the candidates of i from k on
    abbrev pub from : ℕ → List ℕ
    from k = candidates points radius i (up_from k (i - k))

    pub from_more : (k : ℕ) → k < i → from k ≡ cond (candidate points radius i k) (k ∷ from (k + 1)) (from (k + 1))
    unfolding candidates
    from_more k h = ap (candidates points radius i) (up_more k i h)

    pub from_none : (k : ℕ) → i ≤ k → from k ≡ []
    unfolding candidates
    from_none k h = ap (candidates points radius i) (up_none k i h)

    -- b goes through a list
    pub over_more : (a b : ℕ) (bs : List ℕ) → faces_over points radius i a (b ∷ bs) ≡ cond (valid points radius i a b) (face i a b ∷ []) []
        ++ faces_over points radius i a bs
    unfolding faces_over
    over_more a b bs = put (valid points radius i a b)
      where
        put : (v : Bool) → cond v (face i a b ∷ faces_over points radius i a bs) (faces_over points radius i a bs) ≡ cond v (face i a b ∷ []) []
            ++ faces_over points radius i a bs
        put true = refl
        put false = refl

    -- both go through the same one, a before b
    module _ (w : List ℕ) (n : ℕ) (fits : n ≤ length w) where
      abbrev pub rest : ℕ → List ℕ
      rest k = drop k (take n w)

      shown : (k : ℕ) → k < n → rest k ≡ get_or w k 0 ∷ rest (k + 1)
      shown k h =
          let l : k < length (take n w) = rw (length-take-le n w) h in
          drop-cons (take n w) k 0 l ∙ ap (λ (v : ℕ). v ∷ drop (suc k) (take n w)) (get_or-take n w k 0 h) ∙ ap (λ (m : ℕ). get_or w k 0 ∷ drop m (take n w))
          (sym (add-one k))

      hidden : (k : ℕ) → n ≤ k → rest k ≡ []
      hidden k h = drop_of_length-le (take n w) {i = k} (rw (length-take-le n w) h)

      pub over_step : (a k : ℕ) → k < n → faces_over points radius i a (rest k) ≡ cond (valid points radius i a (get_or w k 0)) (face i a (get_or w k 0) ∷ []) []
          ++ faces_over points radius i a (rest (k + 1))
      over_step a k h = ap (faces_over points radius i a) (shown k h) ∙ over_more a (get_or w k 0) (rest (k + 1))

      pub over_end : (a k : ℕ) → n ≤ k → faces_over points radius i a (rest k) ≡ []
      unfolding faces_over
      over_end a k h = ap (faces_over points radius i a) (hidden k h)

      pub at_step_lem : (k : ℕ) → k < n → faces_at points radius i (rest k) ≡ faces_over points radius i (get_or w k 0) (rest (k + 1))
          ++ faces_at points radius i (rest (k + 1))
      unfolding faces_at
      at_step_lem k h = ap (faces_at points radius i) (shown k h)

      pub at_end : (k : ℕ) → n ≤ k → faces_at points radius i (rest k) ≡ []
      unfolding faces_at
      at_end k h = ap (faces_at points radius i) (hidden k h)

    -- three points that were read
    pub valid_is : (a b : ℕ) {p q o : Point3f} {t : Bool} → p ≡ point_at points i → q ≡ point_at points a → o ≡ point_at points b → t ≡ sound p q o radius
        → valid points radius i a b ≡ t
    unfolding valid
    valid_is a b e f g h = cc

  -- i goes from 0 to n
  pub of_more : (i n : ℕ) → i < n → plain_faces_from points radius (up_from i (n - i)) ≡ faces_at points radius i (candidates points radius i (up_from 0 i))
      ++ plain_faces_from points radius (up_from (i + 1) (n - (i + 1)))
  unfolding plain_faces_from
  of_more i n h = ap (plain_faces_from points radius) (up_more i n h)

  pub of_none : (i n : ℕ) → n ≤ i → plain_faces_from points radius (up_from i (n - i)) ≡ []
  unfolding plain_faces_from
  of_none i n h = ap (plain_faces_from points radius) (up_none i n h)

  -- ---- the whole
  pub plain_most : length (plain_faces points radius) ≤ 10000
  unfolding plain_faces
  plain_most =
      let all : List Face = plain_faces_from points radius (up_from 0 (length points / 3)) in
      omega (arith, length-take 10000 all, min-le_left 10000 (length all))

  few : (n : ℕ) → n < 3 → plain_faces_from points radius (up_from 0 n) ≡ []
  unfolding plain_faces_from faces_at faces_over candidates up_from
  few zero h = refl
  few (suc zero) h = refl
  few (suc (suc zero)) h = two (candidate points radius 1 0)
    where
      two : (t : Bool) → faces_at points radius 1 (cond t (0 ∷ []) []) ++ [] ≡ []
      two true = refl
      two false = refl
  few (suc (suc (suc n))) h = absurd (omega arith)

  -- fewer than three points: none
  pub plain_few : length points < 9 → plain_faces points radius ≡ []
  unfolding plain_faces
  plain_few h = ap (take 10000) (few (length points / 3) (omega arith))
