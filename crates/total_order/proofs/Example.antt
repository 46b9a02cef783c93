-- The total order, by computation: with a minus zero the two ways of sorting differ, without one they agree. Assumes
-- nothing.
use mathlib.Core.Path.{◌≡◌, refl}
use mathlib.Core.Bool.{true}
use mathlib.Core.List.{List, [], ◌∷◌}
use lib.Count.{count_trailing_zeros}
use lib.Ieee.{Float, nan, span, climb, size, odd, units, neg, lt, of_fields, of_bits, to_bits}
use Rattle.numbers.specs.Rounded.{f32}
use Rattle.sorting.specs.Insertion.{insert_before}
use Rattle.sorting.specs.Sorted.{insert_all, sorted}
use Rattle.total_order.specs.TotalOrder.{rank, total_below, insert_all_by, totally_sorted}

-- -1 < -0 < +0 < 1 < not a number
in_order_lem : (total_below (neg (f32 0x3f800000)) (neg (f32 0)) ≡ true) × (total_below (neg (f32 0)) (f32 0) ≡ true) ×
    (total_below (f32 0) (f32 0x3f800000) ≡ true) × (total_below (f32 0x3f800000) nan ≡ true)
unfolding count_trailing_zeros span climb size odd units neg of_fields of_bits to_bits rank total_below
in_order_lem = (refl, refl, refl, refl)

abbrev zeros : List Float
zeros = f32 0 ∷ neg (f32 0) ∷ []

differ : (sorted zeros ≡ zeros) × (totally_sorted zeros ≡ neg (f32 0) ∷ f32 0 ∷ [])
unfolding count_trailing_zeros span climb size odd units neg lt of_fields of_bits to_bits rank total_below insert_before insert_all insert_all_by
differ = (refl, refl)

agree : (sorted (f32 0x40400000 ∷ f32 0 ∷ f32 0x3f800000 ∷ []) ≡ f32 0 ∷ f32 0x3f800000 ∷ f32 0x40400000 ∷ []) ×
    (totally_sorted (f32 0x40400000 ∷ f32 0 ∷ f32 0x3f800000 ∷ []) ≡ f32 0 ∷ f32 0x3f800000 ∷ f32 0x40400000 ∷ [])
unfolding count_trailing_zeros span climb size odd units neg lt of_fields of_bits to_bits rank total_below insert_before insert_all insert_all_by
agree = (refl, refl)
