-- The orders of popping: rule 1 is the one that `BinaryHeap` has where all priorities are equal, rule 2 is first in,
-- first out. Definitions only.
use Rattle.std.specs.Prelude.{ℕ, zero, suc, ◌+◌, ◌-◌, ltb, eqb, get_or, set, take}
use Rattle.std.proofs.Math.Bool.{cond}
use mathlib.Core.List.{List, [], ◌∷◌}
use Rattle.std.proofs.Math.ListN.{length}
use Rattle.patch.specs.Lay.{Edge, edge, Pop}

-- d stands for an entry that is not there, and is never read
module _ {A : Type 0} (d : A) where
  -- the gap at p of xs moves down to the right child while both children exist, at last to a lone left child, and v
  -- goes into it; `fuel` is at least the number of entries
  unfoldable pub sift : ℕ → List A → ℕ → A → List A
  sift zero xs p v = set xs p v
  sift (suc fuel) xs p v =
      let right = sift fuel (set xs p (get_or xs (p + p + 2) d)) (p + p + 2) v in
      let left = set (set xs p (get_or xs (p + p + 1) d)) (p + p + 1) v in
      cond (ltb (p + p + 2) (length xs)) right (cond (ltb (p + p + 1) (length xs)) left (set xs p v))

  -- what is left once entry 0 is out: nothing, or the last entry in the gap that went down from the top
  unfoldable pub after_pop : List A → List A
  unfolding sift
  after_pop xs = let m = length xs - 1 in cond (eqb m 0) [] (sift m (take m xs) 0 (get_or xs m d))

  -- the entries that wait once the first is out: under rule 2 the others as they were pushed, under rule 1 the heap's;
  -- a number that is neither rule never gets past the checks
  unfoldable pub waiting_after : ℕ → A → List A → List A
  waiting_after rule x xs = cond (eqb rule 2) xs (after_pop (x ∷ xs))

abbrev pub no_edge : Edge
no_edge = edge 0 0

-- rule 1
abbrev pub heap_of : Pop
heap_of x xs = (x, after_pop no_edge (x ∷ xs))

-- rule 2: entries come out in the order in which they were pushed
abbrev pub queue_of : Pop
queue_of x xs = (x, xs)

-- the rule's order: under both the first entry comes out
abbrev pub pop_of : ℕ → Pop
pop_of rule x xs = (x, waiting_after no_edge rule x xs)
