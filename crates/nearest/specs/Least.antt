-- The two least squares of a list of points, for contracts inside. Definitions only.
use Rattle.std.specs.Prelude.{◌≡◌, cond, ◌⊎◌, List, ℕ, T, Float}
use Rattle.std.specs.Float.{binary32}
use Rattle.std.specs.Float.Ieee.{fits, lt, le}
use Rattle.lists.specs.Members.{In}
use Rattle.vector.specs.Vector.{squared}
use Rattle.vector.specs.Inner.Numbers.{Finite}
use Rattle.vector.specs.declared.Point3f.{Point3f}
use Rattle.points.specs.Points.{point_at}
use Rattle.nearest.specs.declared.Least.{Least}

unfoldable pub greater : Float → Float → Float
greater a b = cond (lt a b) b a

unfoldable pub lesser : Float → Float → Float
lesser a b = cond (lt a b) a b

-- the computed square of the length from point v to the spot
abbrev pub square_to : List Float → Point3f → ℕ → Float
square_to points spot v = squared (point_at points v) spot

-- finite points, and a finite spot
pub record AllFinite (points : List Float) (spot : Point3f) (xs : List ℕ) : Type 0 where
  pub spot_finite : Finite spot
  pub all_finite : (v : ℕ) → In v xs → Finite (point_at points v)

-- the least one's number, after one more square
unfoldable pub nearer_number : Least → Float → ℕ → ℕ
nearer_number l square number = cond (lt square l.first) number l.number

-- the two least squares after one more
unfoldable pub next_least : Least → Float → ℕ → Least
unfolding greater lesser nearer_number
next_least l square number = record {
  first = lesser square l.first;
  second = lesser l.second (greater l.first square);
  number = nearer_number l square number;
}

-- No square of the list is below the first, and none but its own below the second. Where the two differ the first is a
-- point's of the list.
pub record TwoLeast (squares : ℕ → Float) (xs : List ℕ) (l : Least) : Type 0 where
  pub is_f32 : T (fits binary32 l.first)
  pub one_of : (l.second ≡ l.first) ⊎ (In l.number xs × (l.first ≡ squares l.number))
  pub first_least_lem : (v : ℕ) → In v xs → T (le l.first (squares v))
  pub others : (v : ℕ) → In v xs → (v ≡ l.number) ⊎ T (le l.second (squares v))
