-- The whole call's definition on small files, by computation: each answer on both sides of its limit, and their order.
-- Assumes nothing.
use mathlib.Core.Path.{◌≡◌, refl}
use mathlib.Core.Bool.{true, false}
use mathlib.Core.List.{List, [], ◌∷◌}
use Prim.Native.Nat.{ℕ}
use Prim.Native.String.{String, [] as []ˢ, ◌∷◌ as ◌∷ˢ◌}
use Prim.Native.Char.{code}
use Rattle.lists.specs.Lists.{any, up_from}
use Rattle.numerals.specs.Format.{then, starts_with, digits, few, digits_value}
use Rattle.domain.specs.Refusals.{first_refusal, roomy}
use Rattle.patch.specs.Lay.{same}
use Rattle.patch.specs.Shape.{has, touches}
use Rattle.orders.specs.Order.{neighbours, reached, joined, fresh, fits, all_fit, first_or, without, greedy_from, greedy, order_accepted, crowded, seeds}
use Rattle.face_lines.specs.Format.{point_number, line, FaceLines, face_ahead, lines_of_faces, face_file, outside, twice}
use Rattle.patch_order.specs.Ordering.{refusal_of, passed, faces_read, ordered_of, order_after}

-- the bytes of a text of ASCII characters
abbrev text : String → List ℕ
text []ˢ = []
text (c ∷ˢ s) = code c ∷ text s

-- answer and detail, for n points and slices of these lengths
abbrev said : String → ℕ → ℕ → ℕ → ℕ → ℕ × ℕ
said t n room words floats = let r = refusal_of n room words floats (face_file (text t)) in (r.answer, r.detail)

-- 10 before 3; 4,096 points and 4,097; 14 before 17, anywhere in the file; 17 before 7; work slices of just the length
-- and one less; 7 before 13; 13 before 23
checks :
    said "0,1,2\n0,1\n" 9999 0 0 0 ∷ said "" 4097 0 98392 16452 ∷ said "" 4096 0 98368 16448 ∷ said "0,0,1\n0,1,3\n" 3 0 0 0
    ∷ said "0,1,2\n0,1,0\n" 3 0 0 0 ∷ said "0,1,2\n" 3 1 136 76 ∷ said "0,1,2\n" 3 1 135 76 ∷ said "0,1,2\n" 3 0 136 75
    ∷ said "0,1,2\n1,2,0\n" 4 1 160 80 ∷ said "0,1,2\n1,2,0\n" 4 2 160 80 ∷ said "" 0 0 64 64 ∷ said "" 0 0 64 63 ∷ []
    ≡ (10, 2) ∷ (3, 0) ∷ (0, 0) ∷ (14, 0)
    ∷ (17, 0) ∷ (0, 0) ∷ (7, 0) ∷ (7, 0)
    ∷ (13, 0) ∷ (23, 0) ∷ (0, 0) ∷ (7, 0) ∷ []
unfolding refusal_of first_refusal roomy face_file lines_of_faces line point_number then face_ahead starts_with digits few digits_value outside twice any up_from
    neighbours reached joined fresh fits all_fit first_or without greedy_from greedy order_accepted crowded same has touches
checks = refl

-- the work slices are cleared at 13, 23 and 0, not at 10, 3, 14, 17 and 7
cleared :
    passed 9999 0 0 (face_file (text "0,1\n")) ∷ passed 4097 98392 16452 (face_file (text "")) ∷ passed 3 136 76 (face_file (text "0,1,3\n")) ∷ passed 3 136 76
    (face_file (text "0,1,1\n"))
    ∷ passed 3 135 76 (face_file (text "0,1,2\n")) ∷ passed 4 160 80 (face_file (text "0,1,2\n1,2,0\n")) ∷ passed 3 136 76 (face_file (text "0,1,2\n")) ∷ []
    ≡ false ∷ false ∷ false ∷ false ∷ false ∷ true ∷ true ∷ []
unfolding passed first_refusal roomy face_file lines_of_faces line point_number then face_ahead starts_with digits few digits_value outside twice any
cleared = refl

-- faces from 0; the lowest that shares an edge comes first, and a slice's rest stays
abbrev three : FaceLines
three = face_file (text "0,1,2\n2,3,4\n2,1,3\n")

ordered : ordered_of (refusal_of 5 4 184 84 three) (faces_read three) ≡ record { answer = 0; detail = 0; faces = 3; seeds = 1 }
unfolding refusal_of first_refusal roomy ordered_of faces_read face_file lines_of_faces line point_number then face_ahead starts_with digits few digits_value outside
    twice any up_from neighbours reached joined fresh fits all_fit first_or without greedy_from greedy order_accepted crowded seeds same has touches
ordered = refl

in_order_lem : order_after (refusal_of 5 4 184 84 three) (faces_read three) (7 ∷ 7 ∷ 7 ∷ 7 ∷ []) ≡ 0 ∷ 2 ∷ 1 ∷ 7 ∷ []
unfolding refusal_of first_refusal roomy order_after faces_read face_file lines_of_faces line point_number then face_ahead starts_with digits few digits_value outside
    twice any up_from neighbours reached joined fresh fits all_fit first_or without greedy_from greedy order_accepted crowded same has touches
in_order_lem = refl
