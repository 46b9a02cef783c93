-- What `find_seed_triangle` and `try_ball_pivot` find, whatever the floats say: a seed is the first of the tried
-- triples that passes, and none is reported exactly if none passes; a pivot takes the highest score above 0, the first
-- on equality. Definitions only.
use Rattle.std.specs.Prelude.{ℕ, ◌≡◌, ◌⊎◌, ◌↔◌, Bool, true, false, ◌&&◌, List, [], ◌∷◌, ◌++◌, map, take, Float}
use Rattle.std.proofs.Math.Option.{Option, none, some}
use Rattle.std.specs.Float.Ieee.{lt, le}
use Rattle.numbers.specs.Rounded.{f32}
use Rattle.lists.specs.Lists.{any, up_from, unused}
use Rattle.lists.specs.Members.{only, In}
use Rattle.patch.specs.Lay.{Edge}
use Rattle.patch.specs.Search.{Floats, is_second, is_third, score_of, searching}

abbrev pub Triple : Type 0
Triple = ℕ × ℕ × ℕ

-- a list for each number, one behind the other
unfoldable pub for_each : {A : Type 0} → (ℕ → List A) → List ℕ → List A
for_each f [] = []
for_each f (x ∷ xs) = f x ++ for_each f xs

-- the first that passes
unfoldable pub first_that : {A : Type 0} → (A → Bool) → List A → Option A
first_that p [] = none
first_that p (t ∷ ts) = elim (p t) [ true ↦ some t | false ↦ first_that p ts ]

module _ {R : Type 0} (floats : Floats R) (n : ℕ) (r : R) (used : List ℕ) where
  -- the first 1,000 unused points
  unfoldable pub first_points : List ℕ
  first_points = take 1000 (only (unused used) (up_from 0 n))

  -- the triples that are tried, in their order: the second and the third go through the first one's neighbours
  unfoldable pub tried : List Triple
  tried =
      for_each (λ i. for_each (λ j. map (λ k. (i, j, k)) (floats.near r i)) (floats.near r i)) first_points

  -- two different unused points, each close to those before it, and the triangle fits
  unfoldable pub triple_passes : Triple → Bool
  triple_passes t = is_second floats r used t.0 t.1 && is_third floats r used t.0 t.1 t.2

  -- what is claimed of a seed
  pub record SeedSought : Type 0 where
    pub first : (searching floats n).seed_of r used ≡ first_that triple_passes tried
    -- none exactly where none passes
    pub none_exactly : ((searching floats n).seed_of r used ≡ none) ↔ (any triple_passes tried ≡ false)

  -- what is claimed of a pivot over e: k stands among the neighbours of the edge's middle, may be met and has the
  -- score `top`, above 0; none before it has a score as high, and none behind it a higher one
  module _ (e : Edge) where
    pub record Highest (k : ℕ) : Type 0 where
      pub before : List ℕ
      pub behind : List ℕ
      pub among : floats.around r e ≡ before ++ (k ∷ behind)
      pub top : Float
      pub score_is : score_of floats r used e k ≡ some top
      pub above : lt (f32 0) top ≡ true
      pub earlier : (j : ℕ) (x : Float) → In j before → score_of floats r used e j ≡ some x → le top x ≡ false
      pub later : (j : ℕ) (x : Float) → In j behind → score_of floats r used e j ≡ some x → lt top x ≡ false

    -- the edge is not pivotable, or no score is above 0
    abbrev pub NoneHigh : Type 0
    NoneHigh =
        (floats.pivotable r e ≡ false)
        ⊎ ((j : ℕ) (x : Float) → In j (floats.around r e) → score_of floats r used e j ≡ some x → lt (f32 0) x ≡ false)

    pub record PivotSought : Type 0 where
      pub highest : (k : ℕ) → ((searching floats n).pivot_of r used e ≡ some k)
          ↔ ((floats.pivotable r e ≡ true) × Highest k)
      pub none_exactly : ((searching floats n).pivot_of r used e ≡ none) ↔ NoneHigh

-- The claims, for whatever the floats say, are `SeedSought` and `PivotSought`: `seed_sought` and `pivot_sought` prove
-- them.
