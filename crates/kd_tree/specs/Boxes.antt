-- The bounding box of a list of points. Definitions only.
use Rattle.std.specs.Prelude.{cond, List, [], ◌∷◌, ℕ, Float, get_or}
use Rattle.std.specs.Float.Ieee.{lt, eq}
use Rattle.numbers.specs.Rounded.{f32, ◌⊖◌}
use Rattle.vector.specs.Vector.{point}
use Rattle.bounds.specs.declared.Bounds.{Bounds}
use Rattle.axis_sort.specs.Axis.{coordinate_of}

abbrev pub lesser_coordinate : Float → Float → Float
lesser_coordinate x best = cond (lt x best) x best

abbrev pub greater_coordinate : Float → Float → Float
greater_coordinate x best = cond (lt best x) x best

-- the least and the greatest of a value and of a list's keys
unfoldable pub lowest_key : (ℕ → Float) → List ℕ → Float → Float
lowest_key key [] best = best
lowest_key key (x ∷ xs) best = lowest_key key xs (lesser_coordinate (key x) best)

unfoldable pub highest : (ℕ → Float) → List ℕ → Float → Float
highest key [] best = best
highest key (x ∷ xs) best = highest key xs (greater_coordinate (key x) best)

-- minus zero as zero
unfoldable pub plus_zero : Float → Float
plus_zero x = cond (eq x (f32 0)) (f32 0) x

-- the least and the greatest coordinate of the points along an axis
unfoldable pub least_on_axis : List Float → ℕ → List ℕ → Float
least_on_axis points axis xs = plus_zero (lowest_key (coordinate_of points axis) xs (coordinate_of points axis (get_or xs 0 0)))

unfoldable pub greatest_on_axis : List Float → ℕ → List ℕ → Float
greatest_on_axis points axis xs =
    plus_zero (highest (coordinate_of points axis) xs (coordinate_of points axis (get_or xs 0 0)))

-- the least box that holds the points
unfoldable pub box_of : List Float → List ℕ → Bounds
box_of points xs = record {
  lo = point (least_on_axis points 0 xs) (least_on_axis points 1 xs) (least_on_axis points 2 xs);
  hi = point (greatest_on_axis points 0 xs) (greatest_on_axis points 1 xs) (greatest_on_axis points 2 xs);
}

-- its three least coordinates, then its three greatest
abbrev pub box_corners : Bounds → List Float
box_corners b = b.lo.x ∷ b.lo.y ∷ b.lo.z ∷ b.hi.x ∷ b.hi.y ∷ b.hi.z ∷ []

-- the axis where the box is longest, its sides the f32 differences; the earliest on a tie
unfoldable pub longest : Bounds → ℕ
longest b =
    let x = b.hi.x ⊖ b.lo.x in
    let y = b.hi.y ⊖ b.lo.y in
    let z = b.hi.z ⊖ b.lo.z in
    cond (lt x y) (cond (lt y z) 2 1) (cond (lt x z) 2 0)
