-- STL files by computation: each byte of a file, the corners of a foreign one, and each refusal, the limits on both
-- sides. Assumes nothing.
use mathlib.Core.Path.{◌≡◌, refl}
use mathlib.Core.List.{List, [], ◌∷◌, ◌++◌}
use Prim.Native.Nat.{ℕ}
use lib.ListN.{replicate}
use lib.Ieee.{Float, neg, add, sub, mul, div, lt, le, eq, is_nan, of_bits, to_bits}
use Rattle.numbers.specs.Rounded.{f32}
use Rattle.numbers.specs.Root.{root}
use Rattle.vector.specs.Vector.{difference, magnitude_squared, magnitude, cross}
use Rattle.points.specs.Points.{point_at}
use Rattle.ranges.specs.Range.{inside, leading, first_outside}
use Rattle.words.specs.Words.{word, word_at}
use Rattle.words.specs.Chunks.{chunks}
use Rattle.facets.specs.Format.{divided, normal, vertex, facet, stl, vertex_at, corners_of, is_file, corners}
use Rattle.stl_file.specs.Answers.{all_below, not_written, stl_outcome, not_read, stl_found}

-- the points (0, 0, 0), (2, 0, 0), (0, 2, -0)
abbrev three : List Float
three = f32 0 ∷ f32 0 ∷ f32 0 ∷ f32 0x40000000 ∷ f32 0 ∷ f32 0 ∷ f32 0 ∷ f32 0x40000000 ∷ f32 0x80000000 ∷ []

abbrev turned : List ℕ
turned = 1 ∷ 2 ∷ 0 ∷ []

-- no faces: 84 zeros, with no points too
none : (stl three [] ≡ replicate 84 0) × (stl [] [] ≡ replicate 84 0)
unfolding stl chunks word
none = (refl, refl)

-- the face 1, 2, 0: header, count, the normal (0, 0, 1), the corners in the face's order, two zeros; minus zero stays
one : stl three turned ≡ replicate 80 0 ++ (1 ∷ 0 ∷ 0 ∷ 0 ∷ 0 ∷ 0 ∷ 0 ∷ 0 ∷ 0 ∷ 0 ∷ 0 ∷ 0 ∷ 0 ∷ 0 ∷ 128 ∷ 63 ∷
    0 ∷ 0 ∷ 0 ∷ 64 ∷ 0 ∷ 0 ∷ 0 ∷ 0 ∷ 0 ∷ 0 ∷ 0 ∷ 0 ∷ 0 ∷ 0 ∷ 0 ∷ 0 ∷ 0 ∷ 0 ∷ 0 ∷ 64 ∷ 0 ∷ 0 ∷ 0 ∷ 128 ∷
    0 ∷ 0 ∷ 0 ∷ 0 ∷ 0 ∷ 0 ∷ 0 ∷ 0 ∷ 0 ∷ 0 ∷ 0 ∷ 0 ∷ 0 ∷ 0 ∷ [])
unfolding stl chunks word facet vertex normal divided cross difference magnitude magnitude_squared root point_at neg add sub mul div lt le eq is_nan of_bits to_bits
one = refl

-- ---- reading: any header, any normal, any u16
foreign : List ℕ
foreign =
    replicate 80 115 ++ (1 ∷ 0 ∷ 0 ∷ 0 ∷ []) ++ replicate 12 255 ++ (0 ∷ 0 ∷ 128 ∷ 63 ∷ 0 ∷ 0 ∷ 0 ∷ 128 ∷ []) ++ replicate 24 0
    ++ (0 ∷ 0 ∷ 128 ∷ 127 ∷ 7 ∷ 9 ∷ [])

-- 1, minus zero, and infinity at the end
foreign_corners : corners foreign ≡ f32 0x3f800000 ∷ f32 0x80000000 ∷ f32 0 ∷ f32 0 ∷ f32 0 ∷ f32 0 ∷ f32 0 ∷ f32 0 ∷ f32 0x7f800000 ∷ []
unfolding corners chunks corners_of vertex_at word_at foreign
foreign_corners = refl

-- room for nine numbers, and for eight
read_room : (stl_found foreign 9 ≡ record { answer = 0; detail = 0; faces = 1 }) × (stl_found foreign 8 ≡ not_read 13)
unfolding stl_found is_file word_at foreign
read_room = (refl, refl)

-- 83 bytes, a byte more, a count that is one more, and 12 before 13
read_refused : (stl_found (replicate 83 0) 9 ≡ not_read 12)
    × ((stl_found (foreign ++ (0 ∷ [])) 9 ≡ not_read 12)
    × ((stl_found (replicate 80 0 ++ (1 ∷ 0 ∷ 0 ∷ 0 ∷ [])) 9 ≡ not_read 12) × (stl_found (replicate 83 0) 0 ≡ not_read 12)))
unfolding stl_found is_file word_at foreign
read_refused = (refl, (refl, (refl, refl)))

-- ---- writing: room for one face, and a byte less
written_room : (stl_outcome three turned 134 ≡ record { answer = 0; detail = 0; length = 134 }) × (stl_outcome three turned 133 ≡ not_written 13 0)
unfolding stl_outcome all_below first_outside leading inside neg lt le eq of_bits
written_room = (refl, refl)

-- 2 for points and for faces; 14 for the number of the points, even with no points; no points and no faces are taken
written_refused : (stl_outcome (f32 0 ∷ []) turned 200 ≡ not_written 2 0)
    × ((stl_outcome three (0 ∷ []) 200 ≡ not_written 2 0) × ((stl_outcome three (0 ∷ 3 ∷ 0 ∷ []) 200 ≡ not_written 14 0)
    × ((stl_outcome [] turned 200 ≡ not_written 14 0) × (stl_outcome [] [] 84 ≡ record { answer = 0; detail = 0; length = 84 }))))
unfolding stl_outcome all_below first_outside leading inside neg lt le eq of_bits
written_refused = (refl, (refl, (refl, (refl, refl))))

-- 10,000 is inside and the next f32 not; a point that no face names is looked at, and the first one tells
far_points : (stl_outcome (f32 0x461c4000 ∷ f32 0xc61c4000 ∷ f32 0 ∷ []) [] 84 ≡ record { answer = 0; detail = 0; length = 84 })
    × (stl_outcome (three ++ (f32 0 ∷ f32 0x461c4001 ∷ f32 0 ∷ []) ++ (f32 0x7f800000 ∷ f32 0 ∷ f32 0 ∷ [])) turned 134 ≡ not_written 4 3)
unfolding stl_outcome all_below first_outside leading inside neg lt le eq of_bits
far_points = (refl, refl)

-- in order: 2 before 4, 4 before 14, 14 before 13
in_order_lem : (stl_outcome (f32 0x7f800000 ∷ []) (9 ∷ 9 ∷ 9 ∷ []) 0 ≡ not_written 2 0)
    × ((stl_outcome (f32 0x7f800000 ∷ f32 0 ∷ f32 0 ∷ []) (9 ∷ 9 ∷ 9 ∷ []) 0 ≡ not_written 4 0) × (stl_outcome three (9 ∷ 9 ∷ 9 ∷ []) 0 ≡ not_written 14 0))
unfolding stl_outcome all_below first_outside leading inside neg lt le eq of_bits
in_order_lem = (refl, (refl, refl))
