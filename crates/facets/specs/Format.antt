-- Binary STL: 80 header bytes, the number of facets, then 50 bytes a facet: normal, three corners and a u16, all with
-- the lowest byte first. Definitions only.
use Rattle.std.specs.Prelude.{ℕ, ◌+◌, ◌*◌, ◌/◌, Bool, cond, ◌&&◌, List, [], ◌∷◌, ◌++◌, leb, eqb, length, get_or, replicate, Float}
use Rattle.std.specs.Float.{binary32}
use Rattle.std.specs.Float.Ieee.{eq, to_bits}
use Rattle.numbers.specs.Rounded.{f32, ◌⊘◌}
use Rattle.vector.specs.Vector.{point, difference, magnitude, cross}
use Rattle.vector.specs.declared.Point3f.{Point3f}
use Rattle.points.specs.Points.{point_at}
use Rattle.words.specs.Words.{word, word_at}
use Rattle.words.specs.Chunks.{chunks}

-- how many bytes a file of n facets has
abbrev pub file_length : ℕ → ℕ
file_length n = 84 + 50 * n

-- ---- writing

-- the vector v divided by its length l; zeros where l is 0
unfoldable pub divided : Point3f → Float → Point3f
divided v l = cond (eq l (f32 0)) (point (f32 0) (f32 0) (f32 0)) (point (v.x ⊘ l) (v.y ⊘ l) (v.z ⊘ l))

-- `calculate_face_normals`: the cross product of q - p with r - p, divided by its length
unfoldable pub normal : Point3f → Point3f → Point3f → Point3f
unfolding divided
normal p q r =
    divided (cross (difference q p) (difference r p)) (magnitude (cross (difference q p) (difference r p)))

-- a point's twelve bytes
unfoldable pub vertex : Point3f → List ℕ
vertex p = word (to_bits binary32 p.x) ++ word (to_bits binary32 p.y) ++ word (to_bits binary32 p.z)

-- a facet: its normal, its corners, and a u16 of zero
unfoldable pub facet : Point3f → Point3f → Point3f → List ℕ
unfolding normal vertex
facet p q r = vertex (normal p q r) ++ vertex p ++ vertex q ++ vertex r ++ (0 ∷ 0 ∷ [])

-- facet number i, by which point stands at each place of the faces' list
abbrev pub facet_of : (ℕ → Point3f) → ℕ → List ℕ
facet_of corner i = facet (corner (3 * i)) (corner (3 * i + 1)) (corner (3 * i + 2))

-- the point that stands at a place of the faces' list
abbrev pub corner_at : List Float → List ℕ → ℕ → Point3f
corner_at points faces k = point_at points (get_or faces k 0)

-- the whole file: a header of zeros, the number of facets, the facets in the faces' order
unfoldable pub stl : List Float → List ℕ → List ℕ
unfolding facet chunks
stl points faces =
    replicate 80 0 ++ word (length faces / 3) ++ chunks (facet_of (corner_at points faces)) 0 (length faces / 3)

-- ---- reading

-- three f32 from a place on
unfoldable pub vertex_at : List ℕ → ℕ → List Float
vertex_at bytes at = f32 (word_at bytes at) ∷ f32 (word_at bytes (at + 4)) ∷ f32 (word_at bytes (at + 8)) ∷ []

-- the corners of facet number i, nine f32; its normal and its u16 are read past
unfoldable pub corners_of : List ℕ → ℕ → List Float
unfolding vertex_at
corners_of bytes i =
    vertex_at bytes (84 + 50 * i + 12) ++ vertex_at bytes (84 + 50 * i + 24) ++ vertex_at bytes (84 + 50 * i + 36)

-- how many facets the file says it has, behind its header
abbrev pub facet_count : List ℕ → ℕ
facet_count bytes = word_at bytes 80

-- a file: header and count are there, and it is as long as it says
unfoldable pub is_file : List ℕ → Bool
is_file bytes = leb 84 (length bytes) && eqb (length bytes) (file_length (facet_count bytes))

-- the corners of all facets, in order
unfoldable pub corners : List ℕ → List Float
unfolding corners_of chunks
corners bytes = chunks (corners_of bytes) 0 (facet_count bytes)

-- ---- the corners of a patch's faces, in order

abbrev pub three : Point3f → List Float
three p = p.x ∷ p.y ∷ p.z ∷ []

unfoldable pub patch_corners : List Float → List ℕ → List Float
unfolding chunks
patch_corners points faces = chunks (λ (k : ℕ). three (corner_at points faces k)) 0 (3 * (length faces / 3))
