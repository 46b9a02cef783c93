-- What is asked of the floats, of the rules and of the order of popping, and `Shape` of a state. It is proved
-- of ours: for laws and contracts inside, the main call's statement cites none of it. Definitions only.
use Rattle.std.specs.Prelude.{ℕ, ◌<◌, ◌≡◌, ◌≢◌, Bool, List, ◌∷◌, length, get_or}
use Rattle.std.proofs.Math.Option.{some}
use Rattle.lists.specs.Lists.{count}
use Rattle.lists.specs.Members.{Below}
use Rattle.patch.specs.Lay.{Edge, State, seeds_of, Rules, Pop}
use Rattle.patch.specs.Search.{Floats}
use Rattle.patch.specs.Shape.{Shape}

-- point k is one of n and is not used
pub record Free (n : ℕ) (used : List ℕ) (k : ℕ) : Type 0 where
  pub below : k < n
  pub unused : get_or used k 0 ≡ 0

pub record FreeSeed (n : ℕ) (used : List ℕ) (t : ℕ × ℕ × ℕ) : Type 0 where
  pub first : Free n used t.0
  pub second : Free n used t.1
  pub third : Free n used t.2
  pub differ : (t.0 ≢ t.1) × (t.1 ≢ t.2) × (t.2 ≢ t.0)

pub record Fair {R : Type 0} (n : ℕ) (rules : Rules R) : Type 0 where
  pub seeds : (r : R) (used : List ℕ) (t : ℕ × ℕ × ℕ) → rules.seed_of r used ≡ some t → FreeSeed n used t
  pub pivots : (r : R) (used : List ℕ) (e : Edge) (k : ℕ) → rules.pivot_of r used e ≡ some k → Free n used k

-- ys has the entries of xs, each as often, in some order: as many pass each test
abbrev pub EntriesReordered : List Edge → List Edge → Type 0
EntriesReordered xs ys = (p : Edge → Bool) → count p xs ≡ count p ys

-- the pop loses and repeats no entry
abbrev pub Keeps : Pop → Type 0
Keeps pop = (x : Edge) (xs : List Edge) → EntriesReordered (x ∷ xs) ((pop x xs).0 ∷ (pop x xs).1)

-- neighbours are points of the cloud
pub record NeighborsWithin {R : Type 0} (n : ℕ) (floats : Floats R) : Type 0 where
  pub near_below : (r : R) (i : ℕ) → Below n (floats.near r i)
  pub around_below : (r : R) (e : Edge) → Below n (floats.around r e)

-- the one claim, of a state's values
abbrev pub Shaped : State → Type 0
Shaped s = Shape s.faces s.seed_flags (length s.faces) (seeds_of s) s.looks s.pivots
