-- The definition computed on a toy cloud of 12 points at two radii, and patches that have not the shape. Assumes
-- nothing. A point scores if its number is at most 7 at the first radius and 14 at the second, all alike, so that the
-- first one is met. The numbers were worked out by a program that follows the source.
use Prim.Native.Nat.{ℕ, zero, suc, ◌*◌}
use mathlib.Core.Path.{◌≡◌, refl}
use mathlib.Core.Bool.{Bool, true, false, cond}
use mathlib.Core.List.{List, [], ◌∷◌}
use mathlib.Core.Option.{none, some}
use native.Mathlib.Omega.{arith}
use lib.Dec.{leb}
use lib.Ieee.{binary32, of_bits, lt}
use lib.ListN.{get_or}
use Rattle.lists.specs.Lists.{any, up_from}
use Rattle.patch.specs.Lay.{edge, same, Face, face, Pop, push, marked, with_face, seeded, cleared, popped, met, pivoted, looked_at, look, next, run, begun}
use Rattle.patch.specs.Lay.{lay_one, lay_all, patch}
use Rattle.patch.specs.Shape.{Shape, has, touches, new_points}
use Rattle.patch.specs.Frontier.{sift, after_pop, heap_of, queue_of}
use Rattle.patch.specs.Search.{Floats, is_second, is_third, third_of, second_of, first_of, score_of, best_of, searching}

abbrev toy : Floats ℕ
toy = record {
  near = λ r i. up_from 0 12;
  close = λ r i j. true;
  fits = λ r i j k. true;
  pivotable = λ r e. true;
  around = λ r e. up_from 0 12;
  score = λ r e k. cond (leb k (r * 7)) (some (of_bits binary32 0x3f800000)) none;
}

-- faces, looks, pivots, seeds
abbrev said : Pop → List Face × ℕ × ℕ × List Bool
said pop = let s = patch (searching toy 12) pop 12 (1 ∷ 2 ∷ []) in (s.faces, s.looks, s.pivots, s.seed_flags)

abbrev flags : List Bool
flags = true ∷ false ∷ false ∷ false ∷ false ∷ false ∷ true ∷ false ∷ []

-- in the frontier's order, and first in, first out
toy_patches : said heap_of ∷ said queue_of ∷ [] ≡
    (face 0 1 2 ∷ face 0 1 3 ∷ face 1 2 4 ∷ face 3 0 5 ∷ face 2 4 6 ∷ face 4 1 7 ∷ face 8 9 10 ∷ face 8 9 11 ∷ [], 24, 18, flags)
    ∷ (face 0 1 2 ∷ face 0 1 3 ∷ face 1 2 4 ∷ face 2 0 5 ∷ face 1 3 6 ∷ face 3 0 7 ∷ face 8 9 10 ∷ face 8 9 11 ∷ [], 24, 18, flags) ∷ []
unfolding any same push marked with_face seeded cleared popped met pivoted looked_at look next run begun lay_one lay_all patch sift after_pop is_second is_third
    third_of second_of first_of score_of best_of up_from searching lt of_bits
toy_patches = refl

-- frontier A, B, C, D empties as A, C, B, D
abbrev emptied : ℕ → List ℕ → List ℕ
emptied zero xs = []
emptied (suc k) xs = get_or xs 0 0 ∷ emptied k (after_pop 0 xs)

four : emptied 4 (10 ∷ 11 ∷ 12 ∷ 13 ∷ []) ≡ 10 ∷ 12 ∷ 11 ∷ 13 ∷ []
unfolding sift after_pop
four = refl

-- ---- what has not the shape, with the counts that F and S ask for

three_at_an_edge : Shape (face 0 1 2 ∷ face 0 1 3 ∷ face 0 1 4 ∷ []) (true ∷ false ∷ false ∷ []) 3 1 9 7 → ⊥
unfolding has any same
three_at_an_edge s = let t = (s.one_or_two (edge 1 0) refl).1 in omega arith

-- the second face shares only a point
one_point_shared : Shape (face 0 1 2 ∷ face 2 3 4 ∷ []) (true ∷ false ∷ []) 2 1 6 5 → ⊥
unfolding new_points touches any
one_point_shared s = let k = (s.each 1 (omega arith)).other_new refl in omega arith

-- the same face twice
twice : Shape (face 0 1 2 ∷ face 0 1 2 ∷ []) (true ∷ false ∷ []) 2 1 6 5 → ⊥
unfolding new_points touches any
twice s = let k = (s.each 1 (omega arith)).other_new refl in omega arith

-- a face that is called a seed and is none
false_seed : Shape (face 0 1 2 ∷ face 0 1 3 ∷ []) (true ∷ true ∷ []) 2 2 6 6 → ⊥
unfolding new_points touches any
false_seed s = let k = (s.each 1 (omega arith)).seed_new refl in omega arith

-- counts of faces and of seeds that are not those of the list and of its flags
miscounted : Shape (face 0 1 2 ∷ face 0 1 3 ∷ []) (true ∷ false ∷ []) 3 1 9 7 → ⊥
miscounted s = omega (arith, s.number)

seed_missed : Shape (face 0 1 2 ∷ face 0 1 3 ∷ []) (true ∷ false ∷ []) 2 0 6 4 → ⊥
seed_missed s = omega (arith, s.seeds)
