-- What holds between two looks and between two radii. For laws and contracts inside: the main call's statement
-- cites none of it. Definitions only.
use Rattle.std.specs.Prelude.{ℕ, ◌+◌, ◌*◌, ◌≤◌, ◌<◌, ◌≡◌, Bool, false, not, List, [], eqb, length, get_or, take}
use Rattle.lists.specs.Lists.{count, any}
use Rattle.patch.specs.Lay.{Edge, edge, same, Face, State, seeds_of}
use Rattle.patch.specs.Shape.{touches, has, no_face, Laid}

-- one edge, direction aside: in how many faces it lies, how many entries wait with it, how often it is among
-- the processed ones, and how often it is listed
pub record Edgewise (faces entries processed listed : ℕ) : Type 0 where
  pub listed_once : listed ≤ 1
  pub listed_laid : listed ≤ faces
  pub laid_listed : faces ≤ 2 * listed
  pub entries_laid : entries ≤ faces
  pub processed_listed : processed ≤ listed
  -- an entry that is not processed yet lies in one face
  pub open_once : faces + entries ≤ 2 + processed

-- one point: how often it is among the used ones, and how many faces touch it
pub record Pointwise (n x used touched : ℕ) : Type 0 where
  pub once : used ≤ 1
  pub used_below : 1 ≤ used → x < n
  pub used_touched : 1 ≤ used → 1 ≤ touched
  pub unused_untouched : used ≡ 0 → touched ≡ 0

-- the flags tell who is listed
abbrev pub Flags : List ℕ → List ℕ → Type 0
Flags used points = (x : ℕ) → get_or used x 0 ≡ count (eqb x) points

-- face by face
abbrev pub EachFace : List Bool → List Face → Type 0
EachFace bs fs = (i : ℕ) → i < length fs → Laid (get_or bs i false) (take i fs) (get_or fs i no_face)

-- an entry that a look does not skip
abbrev pub waiting : List Edge → Edge → Bool
waiting processed e = not (any (same e) processed)

-- over n points, with the edges and the used points listed
pub record Inv (n : ℕ) (s : State) : Type 0 where
  pub edges : List Edge
  pub edgewise : (e : Edge)
      → Edgewise (count (has e) s.faces) (count (same e) s.frontier) (count (same e) s.processed)
      (count (same e) edges)
  pub straight : (x : ℕ) → count (has (edge x x)) s.faces ≡ 0
  pub edges_count : length edges ≡ 2 * length s.faces + seeds_of s
  pub points : List ℕ
  pub flags : Flags s.used points
  pub wide : length s.used ≡ n
  pub pointwise : (x : ℕ) → Pointwise n x (count (eqb x) points) (count (touches x) s.faces)
  pub points_count : length points ≡ length s.faces + 2 * seeds_of s
  pub flagged : length s.seed_flags ≡ length s.faces
  pub each : EachFace s.seed_flags s.faces
  pub processed_few : length s.processed ≤ s.pivots
  pub looked : s.looks + length s.frontier ≡ 3 * length s.faces
  pub pivoted : s.pivots + count (waiting s.processed) s.frontier ≡ 2 * length s.faces + seeds_of s

-- no entry waits between two radii
pub record Rest (n : ℕ) (s : State) : Type 0 where
  pub inv : Inv n s
  pub idle : s.frontier ≡ []
