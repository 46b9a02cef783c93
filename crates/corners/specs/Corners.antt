-- The corners of faces in front of a slice, three words a face, and links from each corner to the one before it at the
-- same point. Definitions only.
use Rattle.std.specs.Prelude.{ℕ, zero, suc, ◌+◌, ◌*◌, ◌≤◌, ◌<◌, ◌≡◌, ◌⊎◌, true, false, List, eqb, get_or}
use Rattle.patch.specs.Lay.{Face, face}
use Rattle.regions.specs.Inner.Ordering.{corners_at, heads_at, heads_end}

-- one above the last of the corners below k that is at the point x, 0 if none is
unfoldable pub last_at : (ℕ → ℕ) → ℕ → ℕ → ℕ
last_at corner x zero = 0
last_at corner x (suc k) = elim (eqb x (corner k)) [ true ↦ suc k | false ↦ last_at corner x k ]

-- the face that three words tell
abbrev pub face_in : List ℕ → ℕ → Face
face_in w g = face (get_or w (3 * g) 0) (get_or w (3 * g + 1) 0) (get_or w (3 * g + 2) 0)

-- each point's head leads to its last corner, each corner's link to the one before it at the same point
pub record CornersLinked (n sides : ℕ) (corner : ℕ → ℕ) (w : List ℕ) : Type 0 where
  pub corners : (s : ℕ) → s < sides → get_or w s 0 ≡ corner s
  pub heads : (x : ℕ) → x < n → get_or w (heads_at n + x) 0 ≡ last_at corner x sides
  pub links : (s : ℕ) → s < sides → get_or w (corners_at n + s) 0 ≡ last_at corner (corner s) s

-- every point is below n, and no head or link leads upwards
pub record Bound (n sides : ℕ) (w : List ℕ) : Type 0 where
  pub points : (s : ℕ) → s < sides → get_or w s 0 < n
  pub heads : (x : ℕ) → x < n → get_or w (heads_at n + x) 0 ≤ sides
  pub links : (s : ℕ) → s < sides → get_or w (corners_at n + s) 0 ≤ s

-- what linking leaves: nothing outside the links and the heads has changed
pub record Links (n sides : ℕ) (before after : List ℕ) : Type 0 where
  pub linked : CornersLinked n sides (λ s. get_or before s 0) after
  pub bound : Bound n sides after
  pub outside : (k : ℕ) → (k < corners_at n) ⊎ (heads_end n ≤ k) → get_or after k 0 ≡ get_or before k 0
