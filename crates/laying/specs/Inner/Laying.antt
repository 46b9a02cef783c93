-- What the laying asks of the lent slices and the counts, and what each of its parts does to the state that they hold.
-- Definitions only.
use Rattle.std.specs.Prelude.{ℕ, ◌+◌, ◌<◌, ◌≡◌, Bool, false, List, eqb, length, take, Float}
use Rattle.regions.specs.Inner.Regions.{links_at}
use Rattle.grid.specs.Inner.Index.{CellsIndexed}
use Rattle.lists.specs.Lists.{bit, count, any}
use Rattle.patch.specs.Lay.{Edge, same, State, Rules, popped, met, pivoted, next}
use Rattle.patch.specs.Frontier.{pop_of}
use Rattle.patch.specs.Search.{searching}
use Rattle.patch.specs.Inner.Invariant.{Inv, Rest}
use Rattle.spatial_hash.specs.declared.Hash.{Hash}
use Rattle.spatial_hash.specs.Inner.Near.{HashLinked, Hashed, HashedAll}
use Rattle.spatial_hash.specs.Inner.Buckets.{links_of, is_out}
use Rattle.decisions.specs.declared.Scene.{Scene}
use Rattle.decisions.specs.Decisions.{floats_of}
use Rattle.nearby.specs.Inner.Ready.{SceneHeld}
use Rattle.laying_steps.specs.declared.Counts.{Counts}
use Rattle.laying_steps.specs.Inner.Work.{HoldsState, Takes}

-- there are points, the slices are long enough for them, and they are indexed and hashed
pub record AllSearchable (s : Scene) (hash : Hash) (pts : List Float) (w : List ℕ) : Type 0 where
  pub some : 0 < s.n
  pub held : SceneHeld s pts w
  pub indexed : CellsIndexed s.grid pts s.n w
  pub hashed : HashedAll hash pts s.n w

-- so they are once points are laid: whoever was taken out of the hash is used
pub record LayingSearchable (s : Scene) (hash : Hash) (pts : List Float) (w : List ℕ) : Type 0 where
  pub some : 0 < s.n
  pub held : SceneHeld s pts w
  pub indexed : CellsIndexed s.grid pts s.n w
  pub hashed : Hashed hash pts s.n w

-- the points ks were taken out of the hash, and nobody else; only words from `links_at` on were changed: w before, u
-- after
pub record Without (hash : Hash) (pts : List Float) (n : ℕ) (ks w u : List ℕ) : Type 0 where
  pub linked : HashLinked hash pts n u
  pub others : (j : ℕ) → j < n → count (eqb j) ks ≡ 0 → is_out n (links_of n u) j ≡ is_out n (links_of n w) j
  pub before : take (links_at n) u ≡ take (links_at n) w

-- the choices of seeds and pivots
abbrev pub rules_of : Scene → List Float → Rules Float
rules_of s pts = searching (floats_of s pts) s.n

-- ---- steps of the definition

-- a pivot over e: the face with the point that the ball meets is laid, if it meets one, and then e is processed
abbrev pub pivot_over : Scene → List Float → Float → Edge → State → State
pivot_over s pts r e t = pivoted e (met e ((rules_of s pts).pivot_of r t.used e) t)

-- a look under a rule, if an entry waits
abbrev pub look_under : ℕ → Scene → List Float → Float → State → State
look_under rule s pts r t = next (rules_of s pts) (pop_of rule) r t.frontier t

-- a function that turns c, w and slice into r, u and back takes the step, from each held state of which `asked` holds,
-- and leaves the index and the hash right
pub record LaysState (s : Scene) (hash : Hash) (pts : List Float) (asked : State → Type 0) (step : State
    → State) (c : Counts) (w slice : List ℕ) (r : Counts) (u back : List ℕ) : Type 0 where
  pub takes : Takes s.n asked step c w slice r u back
  pub searchable : LayingSearchable s hash pts u
  pub length_same : length u ≡ length w

-- within a look: e was popped, and is not processed
pub record EntryOpened (n : ℕ) (e : Edge) (t : State) : Type 0 where
  pub before : State
  pub inv : Inv n before
  pub rest : List Edge
  pub out : (p : Edge → Bool) → count p before.frontier ≡ bit (p e) + count p rest
  pub fresh : any (same e) before.processed ≡ false
  pub left : t ≡ popped rest before

-- ---- what is asked: the counts and the slices hold some state of a laying

-- between two looks
pub record BetweenLooks (s : Scene) (hash : Hash) (pts : List Float) (c : Counts) (w slice : List ℕ) : Type 0 where
  pub searchable : LayingSearchable s hash pts w
  pub lent : List ℕ
  pub state : State
  pub inv : Inv s.n state
  pub holds : HoldsState s.n lent state c w slice

-- between two radii
pub record BetweenRadii (s : Scene) (hash : Hash) (pts : List Float) (c : Counts) (w slice : List ℕ) : Type 0 where
  pub searchable : LayingSearchable s hash pts w
  pub lent : List ℕ
  pub state : State
  pub rest : Rest s.n state
  pub holds : HoldsState s.n lent state c w slice

-- within a look, before the pivot over e
pub record Pivoting (s : Scene) (hash : Hash) (pts : List Float) (c : Counts) (w slice : List ℕ) (e : Edge)
    : Type 0 where
  pub searchable : LayingSearchable s hash pts w
  pub lent : List ℕ
  pub state : State
  pub opened : EntryOpened s.n e state
  pub holds : HoldsState s.n lent state c w slice
