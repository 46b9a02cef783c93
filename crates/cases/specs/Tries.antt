-- How many first points a search for a seed tries: 1,000 that are unused. Cases over made-up decisions.
-- `try_cases` of proofs/Tries.antt is their theorem.
use Rattle.std.specs.Prelude.{ℕ, ◌+◌, ◌≡◌, true, false, cond, [], ◌∷◌, ltb}
use Rattle.std.proofs.Math.Option.{none, some}
use Rattle.patch.specs.Search.{Floats, searching}

-- the points below n have no neighbours; n, n + 1 and n + 2 are neighbours of each other, and whatever is asked of any
-- three is true
abbrev pub alone : ℕ → Floats ℕ
alone n = record {
  near = λ r i. cond (ltb i n) [] (n ∷ (n + 1) ∷ (n + 2) ∷ []);
  close = λ r i j. true;
  fits = λ r i j k. true;
  pivotable = λ r e. false;
  around = λ r e. [];
  score = λ r e k. none;
}

pub record TryCases : Type 0 where
  -- behind 999 points that are alone the triangle is found
  pub last_try : (searching (alone 999) 1002).seed_of 0 [] ≡ some (999, 1000, 1001)
  -- behind 1,000 it is not
  pub too_late : (searching (alone 1000) 1003).seed_of 0 [] ≡ none
  -- a used point is no try: with one of the 1,000 used it is found again
  pub used_is_no_try : (searching (alone 1000) 1003).seed_of 0 (1 ∷ []) ≡ some (1000, 1001, 1002)
