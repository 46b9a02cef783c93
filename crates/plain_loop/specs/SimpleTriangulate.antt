-- `simple_triangulate`, loop by loop as the Rust has it, with the claim that it lays the faces of the plain path.
-- The plain path's definition lists only candidates below i and cuts all faces to 10,000 at the end; here every loop
-- asks for the limit, and the candidates of i are all other near points, of which those from i on are passed over.
-- Definitions only.
use Rattle.std.specs.Prelude.{ℕ, ◌+◌, ◌/◌, ◌≡◌, cond, not, ◌||◌, List, [], ◌∷◌, ◌++◌, leb, ltb, eqb, length, get_or, drop, Float}
use Rattle.std.specs.Float.Ieee.{le, lt}
use Rattle.numbers.specs.Rounded.{f32, ◌⊗◌}
use Rattle.vector.specs.Vector.{difference, magnitude, cross}
use Rattle.triangle.specs.Quality.{circumradius}
use Rattle.points.specs.Points.{point_at}
use Rattle.patch.specs.Lay.{Face, face}
use Rattle.plain.specs.Plain.{plain_faces}
use Rattle.lists.specs.Lists.{up_from}

abbrev pub max_triangles : ℕ
max_triangles = 10000

-- a `for` over some numbers, whose first line is `if triangles.len() >= max_triangles { break; }`
unfoldable pub loop : (ℕ → List Face → List Face) → List ℕ → List Face → List Face
loop body [] triangles = triangles
loop body (x ∷ xs) triangles =
    let on = loop body xs (body x triangles) in
    cond (leb max_triangles (length triangles)) triangles on

module _ (points : List Float) (radius : Float) where
  -- `candidates`: of some points those other than i that lie within twice the radius of it
  unfoldable pub nearby : ℕ → List ℕ → List ℕ
  nearby i [] = []
  nearby i (j ∷ js) =
      let rest = nearby i js in
      let dist = magnitude (difference (point_at points i) (point_at points j)) in
      cond (not (eqb i j)) (cond (le dist (radius ⊗ f32 0x40000000)) (j ∷ rest) rest) rest

  -- the inner loop's body: `if a >= i || b >= i { continue; }`, then the cross product's length and the circumradius
  unfoldable pub try_three : ℕ → ℕ → ℕ → List Face → List Face
  try_three i a b triangles =
      let p1 = point_at points i in
      let p2 = point_at points a in
      let p3 = point_at points b in
      cond (leb i a || leb i b) triangles
      (cond (lt (f32 0x358637bd) (magnitude (cross (difference p2 p1) (difference p3 p1))))
      (cond (le (circumradius p1 p2 p3) (radius ⊗ f32 0x3fc00000)) (triangles ++ (face i a b ∷ [])) triangles)
      triangles)

  -- `for &b in candidates.iter().skip(idx_a + 1)`, with a = candidates[idx_a]
  unfoldable pub try_second : ℕ → List ℕ → ℕ → List Face → List Face
  try_second i candidates idx triangles =
      loop (try_three i (get_or candidates idx 0)) (drop (idx + 1) candidates) triangles

  -- `for (idx_a, &a) in candidates.iter().enumerate()`
  unfoldable pub try_first : ℕ → List Face → List Face
  try_first i triangles =
      let candidates = nearby i (up_from 0 (length points / 3)) in
      loop (try_second i candidates) (up_from 0 (length candidates)) triangles

  -- `for (i, center) in points.iter().enumerate()`, and nothing where there are fewer than 3 points
  unfoldable pub simple_triangulate : List Face
  simple_triangulate =
      let n = length points / 3 in
      cond (ltb n 3) [] (loop try_first (up_from 0 n) [])

-- The claim, for all points and every radius. `plain_loop` proves it.
abbrev pub PlainLoop : List Float → Float → Type 0
PlainLoop points radius = simple_triangulate points radius ≡ plain_faces points radius
