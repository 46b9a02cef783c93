-- The index of small clouds, computed. The numbers are those of a recursive build on lists in another language. Assumes
-- nothing.
use Prim.Native.Nat.{ℕ}
use mathlib.Core.Path.{◌≡◌, refl}
use mathlib.Core.Bool.{true, false}
use mathlib.Core.List.{List, [], ◌∷◌, ◌++◌, map}
use lib.ListN.{replicate}
use lib.Ieee.{Float, span, climb, size, odd, units, round, neg, sum, add, sub, lt, eq, of_fields, of_bits, to_bits}
use Rattle.numbers.specs.Rounded.{f32}
use Rattle.lists.specs.Lists.{up_from}
use Rattle.axis_sort.specs.Axis.{coordinate_of, precedes}
use Rattle.axis_sort.specs.Halving.{halving}
use Rattle.axis_sort.specs.Sorted.{from_first, merged, sorted_by}
use Rattle.kd_tree.specs.Boxes.{lowest_key, highest, plus_zero, least_on_axis, greatest_on_axis, box_of, longest}
use Rattle.kd_tree.specs.Tree.{along, split, boxes_of, padded, built, same_numbers, belongs}

-- three points keep number order, and minus zero stands as zero
abbrev few_points : List Float
few_points = map f32 (0x3f800000 ∷ 0x40000000 ∷ 0x40400000 ∷ 0x80000000 ∷ 0x40a00000 ∷ 0 ∷ 0x40800000 ∷ 0x80000000 ∷ 0x40000000 ∷ [])

abbrev few_index : List ℕ
few_index = 0 ∷ 1 ∷ 2 ∷ (0 ∷ 0 ∷ 0 ∷ 0x40800000 ∷ 0x40a00000 ∷ 0x40400000 ∷ []) ++ replicate 79 0

pub few_built : built few_points ≡ few_index
unfolding span climb size odd units round neg sum add sub lt eq of_fields of_bits to_bits up_from coordinate_of precedes halving from_first merged sorted_by
    lowest_key highest plus_zero least_on_axis greatest_on_axis box_of longest along split boxes_of padded built
few_built = refl

-- nine points: the first part gets four, -0 and 0 are one coordinate, equal ones go by number
abbrev nine_points : List Float
nine_points =
    map f32 (0x40a00000 ∷ 0 ∷ 0x80000000 ∷ 0x40400000 ∷ 0 ∷ 0x80000000 ∷ 0x40400000 ∷ 0 ∷ 0x80000000 ∷ 0x41000000 ∷ 0 ∷ 0x80000000 ∷ 0x80000000 ∷ 0 ∷ 0x80000000
    ∷ 0 ∷ 0 ∷ 0x80000000 ∷ 0x40e00000 ∷ 0 ∷ 0x80000000 ∷ 0x3f800000 ∷ 0 ∷ 0x80000000 ∷ 0x40400000 ∷ 0 ∷ 0x80000000 ∷ [])

abbrev nine_index : List ℕ
nine_index =
    4 ∷ 5 ∷ 7 ∷ 1 ∷ 2 ∷ 8 ∷ 0 ∷ 6 ∷ 3 ∷ (0 ∷ 0 ∷ 0 ∷ 0x41000000 ∷ 0 ∷ 0 ∷ 0 ∷ 0 ∷ 0 ∷ 0x40400000 ∷ 0 ∷ 0 ∷ 0x40400000 ∷ 0 ∷ 0 ∷ 0x41000000 ∷ 0 ∷ 0 ∷ [])
    ++ replicate 109 0

pub nine_built : built nine_points ≡ nine_index
unfolding span climb size odd units round neg sum add sub lt eq of_fields of_bits to_bits up_from coordinate_of precedes halving from_first merged sorted_by
    lowest_key highest plus_zero least_on_axis greatest_on_axis box_of longest along split boxes_of padded built
nine_built = refl

-- the second and the third side are equally long: the second axis
abbrev tie_points : List Float
tie_points =
    map f32 (0 ∷ 0 ∷ 0 ∷ 0x3f000000 ∷ 0x40e00000 ∷ 0x40400000 ∷ 0 ∷ 0x40800000 ∷ 0x40c00000 ∷ 0x3f000000 ∷ 0x3f800000 ∷ 0x41100000 ∷ 0 ∷ 0x41000000 ∷ 0x40000000
    ∷ 0x3f000000 ∷ 0x40a00000 ∷ 0x40a00000 ∷ 0 ∷ 0x40000000 ∷ 0x41000000 ∷ 0x3f000000 ∷ 0x41100000 ∷ 0x3f800000 ∷ 0 ∷ 0x40c00000 ∷ 0x40800000 ∷ 0x3f000000 ∷
    0x40400000 ∷ 0x40e00000 ∷ [])

abbrev tie_index : List ℕ
tie_index =
    0 ∷ 3 ∷ 6 ∷ 9 ∷ 2 ∷ 5 ∷ 8 ∷ 1 ∷ 4 ∷ 7 ∷
    (0 ∷ 0 ∷ 0 ∷ 0x3f000000 ∷ 0x41100000 ∷ 0x41100000 ∷ 0 ∷ 0 ∷ 0 ∷ 0x3f000000 ∷ 0x40800000 ∷ 0x41100000 ∷ 0 ∷ 0x40a00000 ∷ 0x3f800000 ∷ 0x3f000000 ∷ 0x41100000
    ∷ 0x40a00000 ∷ []) ++ replicate 116 0

pub tie_built : built tie_points ≡ tie_index
unfolding span climb size odd units round neg sum add sub lt eq of_fields of_bits to_bits up_from coordinate_of precedes halving from_first merged sorted_by
    lowest_key highest plus_zero least_on_axis greatest_on_axis box_of longest along split boxes_of padded built
tie_built = refl

-- seventeen points: a leaf of eight, and a part of nine that is split along another axis
abbrev deep_points : List Float
deep_points =
    map f32 (0 ∷ 0 ∷ 0 ∷ 0x40e00000 ∷ 0x40f00000 ∷ 0x40b00000 ∷ 0x41600000 ∷ 0x41700000 ∷ 0x40200000 ∷ 0x40800000 ∷ 0x41b40000 ∷ 0x41000000 ∷ 0x41300000 ∷
    0x40900000 ∷ 0x40a00000 ∷ 0x3f800000 ∷ 0x41400000 ∷ 0x40000000 ∷ 0x41000000 ∷ 0x419c0000 ∷ 0x40f00000 ∷ 0x41700000 ∷ 0x3fc00000 ∷ 0x40900000 ∷
    0x40a00000 ∷ 0x41100000 ∷ 0x3fc00000 ∷ 0x41400000 ∷ 0x41840000 ∷ 0x40e00000 ∷ 0x40000000 ∷ 0x41c00000 ∷ 0x40800000 ∷ 0x41100000 ∷ 0x40c00000 ∷
    0x3f800000 ∷ 0x41800000 ∷ 0x41580000 ∷ 0x40d00000 ∷ 0x40c00000 ∷ 0x41a80000 ∷ 0x40600000 ∷ 0x41500000 ∷ 0x40400000 ∷ 0x3f000000 ∷ 0x40400000 ∷
    0x41280000 ∷ 0x40c00000 ∷ 0x41200000 ∷ 0x41900000 ∷ 0x40400000 ∷ [])

abbrev deep_index : List ℕ
deep_index =
    0 ∷ 7 ∷ 14 ∷ 4 ∷ 11 ∷ 1 ∷ 8 ∷ 15 ∷ 5 ∷ 10 ∷ 3 ∷ 13 ∷ 6 ∷ 16 ∷ 9 ∷ 2 ∷ 12 ∷
    (0 ∷ 0 ∷ 0 ∷ 0x41800000 ∷ 0x41c00000 ∷ 0x41000000 ∷ 0 ∷ 0 ∷ 0 ∷ 0x41700000 ∷ 0x41280000 ∷ 0x40c00000 ∷ 0x3f800000 ∷ 0x41400000 ∷ 0x40000000 ∷ 0x41800000 ∷
    0x41c00000 ∷ 0x41000000 ∷ 0x3f800000 ∷ 0x41400000 ∷ 0x40000000 ∷ 0x40c00000 ∷ 0x41c00000 ∷ 0x41000000 ∷ 0x41000000 ∷ 0x41580000 ∷ 0x40200000 ∷
    0x41800000 ∷ 0x419c0000 ∷ 0x40f00000 ∷ []) ++ replicate 153 0

pub deep_built : built deep_points ≡ deep_index
unfolding span climb size odd units round neg sum add sub lt eq of_fields of_bits to_bits up_from coordinate_of precedes halving from_first merged sorted_by
    lowest_key highest plus_zero least_on_axis greatest_on_axis box_of longest along split boxes_of padded built
deep_built = refl

-- an index with numbers past its end belongs; with a wrong number among the zeros after the boxes it doesn't
pub few_belongs : belongs few_points (few_index ++ (7 ∷ [])) ≡ true
unfolding span climb size odd units round neg sum add sub lt eq of_fields of_bits to_bits up_from coordinate_of precedes halving from_first merged sorted_by
    lowest_key highest plus_zero least_on_axis greatest_on_axis box_of longest along split boxes_of padded built same_numbers belongs
few_belongs = refl

pub few_damaged : belongs few_points (0 ∷ 1 ∷ 2 ∷ (0 ∷ 0 ∷ 0 ∷ 0x40800000 ∷ 0x40a00000 ∷ 0x40400000 ∷ []) ++ (replicate 78 0 ++ (1 ∷ []))) ≡ false
unfolding span climb size odd units round neg sum add sub lt eq of_fields of_bits to_bits up_from coordinate_of precedes halving from_first merged sorted_by
    lowest_key highest plus_zero least_on_axis greatest_on_axis box_of longest along split boxes_of padded built same_numbers belongs
few_damaged = refl
