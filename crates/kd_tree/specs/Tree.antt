-- The k-d tree of a cloud, as the index holds it: an order of the point numbers, and the boxes. Definitions only.
--
-- The tree is not stored; lengths tell it. A part of m > 8 numbers of the order has its first m / 2 as its first part
-- and the others as its second, and a part of at most 8 is a leaf; the whole order is the root. Boxes are in preorder,
-- one of six coordinates for each part, so the part whose box is number b has its parts' boxes at b + 1 and b + 1 +
-- boxCount (m / 2).
use Rattle.std.specs.Prelude.{Bool, true, false, ◌&&◌, List, [], ◌∷◌, ◌++◌, map, ℕ, zero, suc, ◌+◌, ◌-◌, ◌*◌, ◌/◌, leb, eqb, Float, length, take, replicate}
use Rattle.std.specs.Float.{binary32}
use Rattle.std.specs.Float.Ieee.{to_bits}
use Rattle.lists.specs.Lists.{up_from}
use Rattle.axis_sort.specs.Axis.{precedes}
use Rattle.axis_sort.specs.Halving.{halving}
use Rattle.axis_sort.specs.Sorted.{sorted_by}
use Rattle.kd_tree.specs.Boxes.{box_of, box_corners, longest}

-- the most points that a leaf has
abbrev pub leaf_size : ℕ
leaf_size = 8

-- the points of a part in order along the axis where their box is longest
unfoldable pub along : List Float → List ℕ → List ℕ
along points xs = sorted_by (precedes points (longest (box_of points xs))) xs

-- the order that the splits leave: a leaf keeps the order of its parent's split
unfoldable pub split : List Float → List ℕ → List ℕ
split points xs = halving leaf_size (λ l. l) (λ _ a b. a ++ b) (along points) (length xs) xs

-- the boxes, each before those of its parts and the first part's first
unfoldable pub boxes_of : List Float → List ℕ → List Float
boxes_of points xs =
    halving leaf_size (λ l. box_corners (box_of points l)) (λ l a b. box_corners (box_of points l) ++ (a ++ b))
    (along points)
    (length xs) xs

-- how many boxes a part of m points has, its own and its parts'
unfoldable pub box_count_to : ℕ → ℕ → ℕ
box_count_to zero m = 1
box_count_to (suc depth) m =
    elim (leb m leaf_size) [ true ↦ 1 | false ↦ 1 + (box_count_to depth (m / 2) + box_count_to depth (m - m / 2)) ]

unfoldable pub box_count : ℕ → ℕ
box_count m = box_count_to m m

-- how many numbers an index of n points has
abbrev pub index_size : ℕ → ℕ
index_size n = 8 * n + 64

-- numbers, and zeros up to so many
unfoldable pub padded : ℕ → List ℕ → List ℕ
padded size xs = xs ++ replicate (size - length xs) 0

-- the numbers of the index of a cloud: the point numbers as the splits leave them, the bits of the boxes, zeros
unfoldable pub built : List Float → List ℕ
built points =
    let n = length points / 3 in
    padded (index_size n)
    (split points (up_from 0 n) ++ map (to_bits binary32) (boxes_of points (up_from 0 n)))

-- whether two lists are the same
unfoldable pub same_numbers : List ℕ → List ℕ → Bool
same_numbers [] [] = true
same_numbers [] (y ∷ ys) = false
same_numbers (x ∷ xs) [] = false
same_numbers (x ∷ xs) (y ∷ ys) = eqb x y && same_numbers xs ys

-- whether an index is the cloud's: its numbers are those that building it afresh gives; numbers past them don't count
unfoldable pub belongs : List Float → List ℕ → Bool
belongs points index = same_numbers (take (index_size (length points / 3)) index) (built points)
