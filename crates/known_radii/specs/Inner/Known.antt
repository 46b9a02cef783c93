-- Radii that are known to have no seed. Definitions only.
use Rattle.std.specs.Prelude.{◌≡◌, Bool, true, false, List, ℕ, T, Float}
use Rattle.std.proofs.Math.Option.{none}
use Rattle.std.specs.Float.{inf}
use Rattle.std.specs.Float.Ieee.{lt, le}
use Rattle.std.specs.Float.Ieee.Scale.{finite}
use Rattle.numbers.specs.Rounded.{f32, ◌⊗◌}
use Rattle.patch.specs.Search.{searching}
use Rattle.decisions.specs.declared.Scene.{Scene}
use Rattle.decisions.specs.Decisions.{floats_of}
use Rattle.known_radii.specs.declared.Upto.{Upto}
use Rattle.known_radii.specs.declared.Upto.TheVariants.{Radius, InVain, Unknown}

-- a number from 0 on
pub record Number (x : Float) : Type 0 where
  pub above : T (le (f32 0) x)
  pub number : T (finite x)

-- a radius and the edge factor are such
pub record Growing (s : Scene) (r : Float) : Type 0 where
  pub radius : Number r
  pub factor : Number s.max_edge_factor

-- a radius is one from 0 up to the one that is known, if one is
abbrev pub IsUpTo : Upto → Float → Type 0
IsUpTo (Radius x) r = T (le (f32 0) r) × T (le r x)
IsUpTo (InVain x) r = ⊥
IsUpTo Unknown r = ⊥

-- no such radius has a seed
abbrev pub NothingTo : Scene → List Float → List ℕ → Upto → Type 0
NothingTo s pts used upto = (r : Float) → IsUpTo upto r → (searching (floats_of s pts) s.n).seed_of r used ≡ none

-- there is no such radius
abbrev pub Silent : Upto → Type 0
Silent upto = (r : Float) → IsUpTo upto r → ⊥

-- a radius is such a one, or the cloud is flat and edges are limited at that radius
pub data RadiusKnown (s : Scene) (flat : Bool) (r : Float) (upto : Upto) : Type 0 where
  flat_cloud : flat ≡ true → T (lt (r ⊗ s.max_edge_factor) (inf false)) → RadiusKnown s flat r upto
  up_to : IsUpTo upto r → RadiusKnown s flat r upto
