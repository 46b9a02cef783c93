-- A cloud with its index, and the width of the tree, for contracts inside. Definitions only.
use Rattle.std.specs.Prelude.{◌≡◌, true, List, ℕ, ◌*◌, ◌/◌, ◌≤◌, ◌<◌, length, Float}
use Rattle.domain.specs.Inner.Accepted.{Cloud}
use Rattle.kd_tree.specs.Tree.{belongs}

-- a cloud inside the domain, and an index that is its own
pub record OwnIndex (points : List Float) (index : List ℕ) : Type 0 where
  pub cloud : Cloud (length points / 3) points
  pub own : belongs points index ≡ true

-- a power of two
pub data Power : ℕ → Type 0 where
  one : Power 1
  twice : {w : ℕ} → Power w → Power (2 * w)

-- the power of two such that n points are up to nine times as many, and more than half of that
pub record Width (n w : ℕ) : Type 0 where
  pub power : Power w
  pub enough : n ≤ 9 * w
  pub no_more : 1 < w → 9 * w ≤ 2 * n
