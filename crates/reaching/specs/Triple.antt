-- The triple that comes to the quality test, and how one radius stands to another. For laws and contracts inside: the
-- main call's statement cites none of it. Definitions only.
use Rattle.std.specs.Prelude.{ℕ, ◌<◌, ◌≤◌, ◌≡◌, ◌≢◌, true, List, [], ◌∷◌, eqb}
use Rattle.lists.specs.Lists.{count}
use Rattle.patch.specs.Search.{Floats}

-- `reaches`, said of the triple
pub record Reaches {R : Type 0} (a : Floats R) (n : ℕ) (r : R) : Type 0 where
  pub i : ℕ
  pub j : ℕ
  pub k : ℕ
  -- the first is a point, one of the first 1,000
  pub point : i < n
  pub tried : i < 1000
  pub differ : (i ≢ j) × (i ≢ k) × (j ≢ k)
  -- the others are its neighbours
  pub second : 1 ≤ count (eqb j) (a.near r i)
  pub third : 1 ≤ count (eqb k) (a.near r i)
  -- and no two are too far apart
  pub close_ij : a.close r i j ≡ true
  pub close_ik : a.close r i k ≡ true
  pub close_jk : a.close r j k ≡ true

-- neighbours and close points at one radius are so at the other
pub record Grows {R : Type 0} (a : Floats R) (r s : R) : Type 0 where
  pub near : (i j : ℕ) → 1 ≤ count (eqb j) (a.near r i) → 1 ≤ count (eqb j) (a.near s i)
  pub close : (i j : ℕ) → a.close r i j ≡ true → a.close s i j ≡ true

-- the last of a list that begins with r
unfoldable pub last_from : {R : Type 0} → R → List R → R
last_from r [] = r
last_from r (s ∷ rs) = last_from s rs

-- all of a list
abbrev pub Each : {R : Type 0} → (R → Type 0) → List R → Type 0
Each P [] = Unit {0}
Each P (r ∷ rs) = P r × Each P rs

-- each of the list stands so to all that follow
abbrev pub Pairwise : {R : Type 0} → (R → R → Type 0) → List R → Type 0
Pairwise P [] = Unit {0}
Pairwise P (r ∷ rs) = Each (P r) rs × Pairwise P rs
