-- A list in two parts by a test. Definitions only.
use Rattle.std.specs.Prelude.{◌≡◌, Bool, cond, not, List, ◌++◌, ℕ, ◌-◌, ◌≤◌, eqb, ltb, Float, length, take}
use Rattle.std.specs.Float.Ieee.{lt, eq}
use Rattle.lists.specs.Members.{only}
use Rattle.axis_sort.specs.Axis.{coordinate_of}

-- a number comes before a pivot, whose coordinate is given: the lower coordinate, the lower number on equal ones
unfoldable pub is_before_pivot : List Float → ℕ → Float → ℕ → ℕ → Bool
is_before_pivot points axis at pivot number =
    cond (eq (coordinate_of points axis number) at) (ltb number pivot) (lt (coordinate_of points axis number) at)

-- what a test leaves
abbrev pub others : (ℕ → Bool) → List ℕ → List ℕ
others test xs = only (λ (x : ℕ). not (test x)) xs

-- the numbers that pass a test and then the others, but the order along the pivot's own axis as it is
unfoldable pub parted_but : ℕ → ℕ → (ℕ → Bool) → List ℕ → List ℕ
parted_but own axis test xs = cond (eqb own axis) xs (only test xs ++ others test xs)

-- the order along an axis
unfoldable pub order_along : ℕ → List ℕ → List ℕ → List ℕ → List ℕ
order_along axis x y z = cond (eqb axis 0) x (cond (eqb axis 1) y z)

-- r numbers pass and stand in front, and the others in the work
pub record NumbersSifted (test : ℕ → Bool) (list list' work' : List ℕ) (r : ℕ) : Type 0 where
  pub most : r ≤ length list
  pub front : take r list' ≡ only test list
  pub aside : take (length list - r) work' ≡ others test list
