-- The patch that `advanced_ball_pivoting` lays has the shape that is claimed, for every scene, cloud and list of radii;
-- the looks came to an end, and there is room for the faces. Assumes nothing.
use Prim.Native.Nat.{ℕ, ◌+◌, ◌*◌, ◌≤◌}
use mathlib.Core.Path.{◌≡◌}
use mathlib.Core.List.{List, []}
use lib.ListN.{length}
use lib.Ieee.{Float}
use Rattle.patch.specs.Lay.{State, seeds_of, patch}
use Rattle.patch.specs.Fair.{Shaped}
use Rattle.patch.specs.Frontier.{pop_of}
use Rattle.patch.proofs.Claim as any-floats
use Rattle.decisions.specs.declared.Scene.{Scene}
use Rattle.decisions.specs.Decisions.{floats_of}
use Rattle.decisions.proofs.Within.{within}
use Rattle.laying.specs.Inner.Laying.{rules_of}

module _ (rule : ℕ) (s : Scene) (pts radii : List Float) where
  abbrev pub laid : State
  laid = patch (rules_of s pts) (pop_of rule) s.n radii

  pub laid_shape : Shaped laid
  laid_shape = any-floats.laid_shape s.n (floats_of s pts) (within s pts) rule radii

  pub laid_finished : laid.frontier ≡ []
  laid_finished = any-floats.laid_finished s.n (floats_of s pts) (within s pts) rule radii

  pub laid_few : length laid.faces + 2 * seeds_of laid ≤ s.n
  laid_few = any-floats.laid_few s.n (floats_of s pts) (within s pts) rule radii

  -- the source's stop above 50,000 faces
  pub laid_never_stopped : s.n ≤ 4096 → length laid.faces ≤ 50000
  laid_never_stopped = any-floats.laid_never_stopped s.n (floats_of s pts) (within s pts) rule radii
