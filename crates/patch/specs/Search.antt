-- `find_seed_triangle` and `try_ball_pivot`, over what the floats say of points. Definitions only.
use Rattle.std.specs.Prelude.{ℕ, zero, suc, Bool, true, false, not, ◌&&◌, List, [], ◌∷◌, eqb, Float}
use Rattle.std.proofs.Math.Option.{Option, none, some}
use Rattle.std.specs.Float.{binary32}
use Rattle.std.specs.Float.Ieee.{of_bits, lt}
use Rattle.lists.specs.Lists.{up_from, unused}
use Rattle.patch.specs.Lay.{Edge, Rules}

-- what only floats say, of points by their numbers, R being the radii
pub record Floats (R : Type 0) : Type 0 where
  -- for a seed: a point's neighbours, in their order
  pub near : R → ℕ → List ℕ
  -- two points are not farther apart than twice the radius
  pub close : R → ℕ → ℕ → Bool
  -- three points make an acceptable triangle
  pub fits : R → ℕ → ℕ → ℕ → Bool
  -- for a pivot: an edge that is neither too long nor too short
  pub pivotable : R → Edge → Bool
  -- the neighbours of an edge's middle, in their order
  pub around : R → Edge → List ℕ
  -- the score of the triangle that an edge and a point make,
  -- if the point is near enough to both ends and the triangle is acceptable
  pub score : R → Edge → ℕ → Option Float

module _ {R : Type 0} (floats : Floats R) (r : R) (used : List ℕ) where
  -- whether j may be the second point after i, and k the third
  unfoldable pub is_second : ℕ → ℕ → Bool
  is_second i j = not (eqb i j) && (unused used j && floats.close r i j)

  unfoldable pub is_third : ℕ → ℕ → ℕ → Bool
  is_third i j k =
      not (eqb i k) && (not (eqb j k) && (unused used k
      && (floats.close r i k && (floats.close r j k && floats.fits r i j k))))

  -- the first k among ks
  unfoldable pub third_of : ℕ → ℕ → List ℕ → Option (ℕ × ℕ × ℕ)
  third_of i j [] = none
  third_of i j (k ∷ ks) =
      elim (is_third i j k) [
        | true ↦ some (i, j, k)
        | false ↦ third_of i j ks
      ]

  -- the first j among js that has a k among ks
  unfoldable pub second_of : ℕ → List ℕ → List ℕ → Option (ℕ × ℕ × ℕ)
  second_of i ks [] = none
  second_of i ks (j ∷ js) =
      elim (is_second i j) [
        | true ↦
            elim (third_of i j ks) [
              | none ↦ second_of i ks js
              | some t ↦ some t
            ]
        | false ↦ second_of i ks js
      ]

  -- the first i among those given that has a j and a k, so many of the unused ones being tried
  unfoldable pub first_of : List ℕ → ℕ → Option (ℕ × ℕ × ℕ)
  first_of [] tries = none
  first_of (i ∷ is) zero = none
  first_of (i ∷ is) (suc tries) =
      elim (unused used i) [
        | true ↦
            elim (second_of i (floats.near r i) (floats.near r i)) [
              | none ↦ first_of is tries
              | some t ↦ some t
            ]
        | false ↦ first_of is (suc tries)
      ]

  -- the score of k with e, if k may be met at all
  unfoldable pub score_of : Edge → ℕ → Option Float
  score_of e k =
      elim (not (eqb k e.v1) && (not (eqb k e.v2) && unused used k)) [
        | true ↦ floats.score r e k
        | false ↦ none
      ]

  -- the candidate with the highest score above `top`, the first one on equality; `best` if there is none
  unfoldable pub best_of : Edge → List ℕ → Float → Option ℕ → Option ℕ
  best_of e [] top best = best
  best_of e (k ∷ ks) top best =
      elim (score_of e k) [
        | none ↦ best_of e ks top best
        | some s ↦
            elim (lt top s) [
              | true ↦ best_of e ks s (some k)
              | false ↦ best_of e ks top best
            ]
      ]

-- over n points; a seed is looked for from the first 1,000 unused ones, a pivot's score must be above 0
unfoldable pub searching : {R : Type 0} → Floats R → ℕ → Rules R
searching floats n = record {
  seed_of = λ r used. first_of floats r used (up_from 0 n) 1000;
  pivot_of = λ r used e.
      elim (floats.pivotable r e) [
        | true ↦ best_of floats r used e (floats.around r e) (of_bits binary32 0) none
        | false ↦ none
      ];
}
