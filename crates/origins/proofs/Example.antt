-- The definitions computed on a toy cloud of 12 points at three radii, the second of which lays nothing, under both
-- rules; and parents that are wrong. Assumes nothing. A point scores and fits a seed if its number is at most 7 at the
-- first two radii and 14 at the third. The numbers were worked out by hand.
use Prim.Native.Nat.{ℕ, ◌-◌, ◌*◌}
use mathlib.Core.Path.{◌≡◌, refl}
use mathlib.Core.Bool.{Bool, true, false, cond}
use mathlib.Core.List.{List, [], ◌∷◌, map}
use mathlib.Core.Option.{none, some}
use native.Mathlib.Omega.{arith}
use lib.Dec.{leb}
use lib.Ieee.{binary32, of_bits, lt}
use Rattle.lists.specs.Lists.{count, any, up_from}
use Rattle.lists.proofs.Bools.{true_not_false}
use Rattle.patch.specs.Lay.{same, Face, face, push, marked, with_face, seeded, cleared, popped, met, pivoted, looked_at, look, next, run, begun, lay_one, blank}
use Rattle.patch.specs.Frontier.{sift, after_pop, waiting_after, pop_of}
use Rattle.patch.specs.Search.{Floats, is_second, is_third, third_of, second_of, first_of, score_of, best_of, searching}
use Rattle.origins.specs.Origins.{look_trace, next_trace, run_trace, seeded_trace, begun_trace, trace_from, trace, trace_of, pairs}
use Rattle.origins.specs.Sides.{out_after, in_after, looks_out, looks_in}
use Rattle.origins.specs.Turned.{runs, turned_from, turned, Traced}
use Rattle.origins.specs.Pass.{parent_at, brought_after, place_of, origins_from, origins_pass}
use Rattle.origins.specs.Inner.Following.{marks_from}

abbrev toy : Floats ℕ
toy = record {
  near = λ r i. up_from 0 12;
  close = λ r i j. true;
  fits = λ r i j k. leb k (r * 7);
  pivotable = λ r e. true;
  around = λ r e. up_from 0 12;
  score = λ r e k. cond (leb k (r * 7)) (some (of_bits binary32 0x3f800000)) none;
}

abbrev radii : List ℕ
radii = 1 ∷ 1 ∷ 2 ∷ []

-- faces, their parents, their places
abbrev said : ℕ → List Face × List ℕ × List ℕ
said rule = let t = trace_of (searching toy 12) rule 12 radii in (t.state.faces, t.parents, t.places)

abbrev one : List Face
one = face 0 1 2 ∷ face 0 1 3 ∷ face 1 2 4 ∷ face 3 0 5 ∷ face 2 4 6 ∷ face 4 1 7 ∷ face 8 9 10 ∷ face 8 9 11 ∷ []

abbrev two : List Face
two = face 0 1 2 ∷ face 0 1 3 ∷ face 1 2 4 ∷ face 2 0 5 ∷ face 1 3 6 ∷ face 3 0 7 ∷ face 8 9 10 ∷ face 8 9 11 ∷ []

abbrev ones : List ℕ
ones = 0 ∷ 0 ∷ 0 ∷ 1 ∷ 2 ∷ 2 ∷ 6 ∷ 6 ∷ []

abbrev twos : List ℕ
twos = 0 ∷ 0 ∷ 0 ∷ 0 ∷ 1 ∷ 1 ∷ 6 ∷ 6 ∷ []

abbrev places : List ℕ
places = 0 ∷ 0 ∷ 0 ∷ 0 ∷ 0 ∷ 0 ∷ 2 ∷ 2 ∷ []

toy_origins : said 1 ∷ said 2 ∷ [] ≡ (one, ones, places) ∷ (two, twos, places) ∷ []
unfolding any same push marked with_face seeded cleared popped met pivoted looked_at look sift after_pop waiting_after is_second is_third third_of second_of first_of
    score_of best_of up_from searching lt of_bits look_trace next_trace run_trace seeded_trace begun_trace trace_from trace
toy_origins = refl

-- the numbers of faces after each radius
abbrev marks : List ℕ
marks = 6 ∷ 6 ∷ 8 ∷ []

toy_marks : marks_from (searching toy 12) (pop_of 1) 12 radii (blank 12) ≡ marks
unfolding any same push marked with_face seeded cleared popped met pivoted looked_at look next run begun lay_one sift after_pop waiting_after is_second is_third
    third_of second_of first_of score_of best_of up_from searching lt of_bits marks_from
toy_marks = refl

-- the pass
toy_pass : origins_pass marks 12 one ∷ origins_pass marks 12 two ∷ [] ≡ pairs ones places ∷ pairs twos places ∷ []
unfolding parent_at brought_after place_of origins_from pairs
toy_pass = refl

-- the turned patches
toy_turned : turned ones one ∷ turned twos two ∷ [] ≡
    (face 0 1 2 ∷ face 1 0 3 ∷ face 2 1 4 ∷ face 3 0 5 ∷ face 2 4 6 ∷ face 4 1 7 ∷ face 8 9 10 ∷ face 9 8 11 ∷ [])
    ∷ (face 0 1 2 ∷ face 1 0 3 ∷ face 2 1 4 ∷ face 0 2 5 ∷ face 1 3 6 ∷ face 3 0 7 ∷ face 8 9 10 ∷ face 9 8 11 ∷ [])
    ∷ []
unfolding out_after in_after looks_out looks_in turned_from turned
toy_turned = refl

-- an edge that two faces share: twice the same way, and turned once each way
each_way : count (runs 2 4) one ∷ count (runs 4 2) one ∷ count (runs 2 4) (turned ones one) ∷ count (runs 4 2) (turned ones one) ∷ [] ≡ 2 ∷ 0 ∷ 1 ∷ 1 ∷ []
unfolding any runs out_after in_after looks_out looks_in turned_from turned
each_way = refl

-- a chain of three: out, in, out
chain : map (looks_in (λ i. i - 1)) (0 ∷ 1 ∷ 2 ∷ []) ≡ false ∷ true ∷ false ∷ []
unfolding out_after in_after looks_in
chain = refl

-- ---- what are not the parents

abbrev laid : List Face
laid = face 0 1 2 ∷ face 0 1 3 ∷ face 3 0 4 ∷ []

abbrev flags : List Bool
flags = true ∷ false ∷ false ∷ []

-- a seed that names another, a face that names itself, and one that names a face without its edge
other_seed : Traced laid flags (1 ∷ 0 ∷ 1 ∷ []) → ⊥
other_seed t = let e = t.seeds 0 (omega arith) refl in omega arith

own_parent : Traced laid flags (0 ∷ 1 ∷ 1 ∷ []) → ⊥
own_parent t = let e = t.earlier 1 (omega arith) refl in omega arith

without_edge : Traced laid flags (0 ∷ 0 ∷ 0 ∷ []) → ⊥
unfolding any runs
without_edge t = true_not_false (t.shares 2 (omega arith) refl) refl
