-- What the search for the greedy order leaves. Definitions only.
use Rattle.std.specs.Prelude.{ℕ, ◌+◌, ◌-◌, ◌<◌, ◌≡◌, true, false, cond, Option, Some, None, List, [], ◌++◌}
use Rattle.std.specs.Prelude.{ltb, length, get_or, drop}
use Rattle.patch.specs.Lay.{Face}
use Rattle.orders.specs.Order.{face_at, greedy, seeds, AllDifferent, order_accepted}
use Rattle.corners.specs.Corners.{face_in}
use Rattle.offers.specs.Inner.Offers.{Faces}
use Rattle.placing.specs.Inner.Placing.{PlacedKept}
use Rattle.regions.specs.Inner.Ordering.{placed_at}

-- the face that the least value tells
unfoldable pub least_face : ℕ → ℕ → ℕ
least_face faces root = cond (ltb root faces) root (root - faces)

-- the words in front tell the faces, three words each
pub record FacesInWords (faces : ℕ) (fs : List Face) (w : List ℕ) : Type 0 where
  pub many : length fs ≡ faces
  pub each : (i : ℕ) → i < faces → face_at fs i ≡ face_in w i
  pub different : AllDifferent fs

-- the number of seeds where the faces could be a patch of ours
abbrev pub order_told : List Face → Option ℕ
order_told fs = cond (order_accepted fs) (Some (seeds fs)) None

-- what is told, and the order in words
pub record OrderFound (n : ℕ) (fs : List Face) (r : Option ℕ) (after : List ℕ) : Type 0 where
  pub decided : r ≡ order_told fs
  pub order :
      order_accepted fs ≡ true → (j : ℕ) → j < length fs → get_or after (placed_at n + j) 0 ≡ get_or (greedy fs) j 0

-- whatever the faces, where none is placed yet
pub record FindsOrder (n faces : ℕ) (r : Option ℕ) (before after : List ℕ) : Type 0 where
  pub finds :
      (corner : ℕ → ℕ) (fs : List Face) → length fs ≡ faces → AllDifferent fs → Faces faces corner (face_at fs)
      → PlacedKept n faces corner (face_at fs) [] before → OrderFound n fs r after

-- what the call leaves: the answer is whether some order of the faces is valid, see `decided`, and the number of seeds;
-- the order slice holds the greedy one and the rest as it was, or all as it was
pub record FacesOrdered (fs : List Face) (r : Option ℕ) (before after : List ℕ) : Type 0 where
  pub decided : r ≡ order_told fs
  pub ordered : order_accepted fs ≡ true → after ≡ greedy fs ++ drop (length fs) before
  pub untouched : order_accepted fs ≡ false → after ≡ before
