-- The theorems for the searches and the orders of popping that we have, whatever the floats say: the one claim about
-- the patch, that the looks came to an end, and that the source's stop never bites. Assumes nothing.
use Prim.Native.Nat.{ℕ, ◌+◌, ◌*◌, ◌≤◌}
use mathlib.Core.Path.{◌≡◌}
use mathlib.Core.List.{List, []}
use lib.ListN.{length}
use Rattle.patch.specs.Lay.{State, seeds_of, patch}
use Rattle.patch.specs.Fair.{Shaped, NeighborsWithin}
use Rattle.patch.specs.Frontier.{pop_of}
use Rattle.patch.specs.Search.{Floats, searching}
use Rattle.patch.proofs.Laying.{patch_shape, finished, patch_few, never_stopped}
use Rattle.patch.proofs.Pops.{pop_of_keeps}
use Rattle.patch.proofs.Searching.{searching_fair}

module _ {R : Type 0} (n : ℕ) (floats : Floats R) (within : NeighborsWithin n floats) (rule : ℕ) (rs : List R) where
  abbrev pub laid : State
  laid = patch (searching floats n) (pop_of rule) n rs

  pub laid_shape : Shaped laid
  laid_shape = patch_shape n (searching floats n) (pop_of rule) (searching_fair n floats within) (pop_of_keeps rule) rs

  pub laid_finished : laid.frontier ≡ []
  laid_finished = finished n (searching floats n) (pop_of rule) (searching_fair n floats within) (pop_of_keeps rule) rs

  pub laid_few : length laid.faces + 2 * seeds_of laid ≤ n
  laid_few = patch_few n (searching floats n) (pop_of rule) (searching_fair n floats within) (pop_of_keeps rule) rs

  pub laid_never_stopped : n ≤ 4096 → length laid.faces ≤ 50000
  laid_never_stopped = never_stopped n (searching floats n) (pop_of rule) (searching_fair n floats within) (pop_of_keeps rule) rs
