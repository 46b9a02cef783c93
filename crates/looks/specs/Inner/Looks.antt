-- Which way the faces look whose parents stand in a slice, two numbers a face. Definitions only.
use Rattle.std.specs.Prelude.{◌≡◌, ℕ, ◌*◌, ◌/◌, ◌≤◌, ◌<◌, cond, List, ltb, length, get_or}
use Rattle.origins.specs.Sides.{looks_in}

-- the parent's number; a face past the end of the slice has none, and stands for itself
unfoldable pub parent_in : List ℕ → ℕ → ℕ
parent_in origins face = cond (ltb face (length origins / 2)) (get_or origins (2 * face) 0) face

-- 1 where the face looks in, else 0
unfoldable pub side_of : List ℕ → ℕ → ℕ
side_of origins face = cond (looks_in (parent_in origins) face) 1 0

-- the list has the sides of the first n faces
pub record HasSides (origins sides : List ℕ) (n : ℕ) : Type 0 where
  pub long : n ≤ length sides
  pub right : (face : ℕ) → face < n → get_or sides face 0 ≡ side_of origins face

-- the sides of the first n faces, and what was there before from then on
pub record SidesWritten (origins before after : List ℕ) (n : ℕ) : Type 0 where
  pub known : HasSides origins after n
  pub same : length after ≡ length before
  pub rest : (k : ℕ) → n ≤ k → get_or after k 0 ≡ get_or before k 0
