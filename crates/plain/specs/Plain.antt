-- The scope's plain path, `simple_triangulate`: the faces (i, a, b) with a < b < i among near points, at most
-- 10,000. Definitions only.
-- The Rust's candidates of i at or above i never form a face, by its own test, so only those below i stand
-- here. It stops as soon as 10,000 faces are laid, which leaves the first 10,000 of all. Crate `plain_loop`
-- has its loops, and proves that.
use Rattle.std.specs.Prelude.{ℕ, ◌/◌, Bool, cond, ◌&&◌, List, [], ◌∷◌, ◌++◌, length, take, Float}
use Rattle.std.specs.Float.Ieee.{le, lt}
use Rattle.numbers.specs.Rounded.{f32, ◌⊗◌}
use Rattle.vector.specs.Vector.{difference, magnitude, cross, distance}
use Rattle.triangle.specs.Quality.{circumradius}
use Rattle.vector.specs.declared.Point3f.{Point3f}
use Rattle.points.specs.Points.{point_at}
use Rattle.lists.specs.Lists.{up_from}
use Rattle.patch.specs.Lay.{Face, face}

-- whether j is a candidate of i: no farther than twice the radius
unfoldable pub candidate : List Float → Float → ℕ → ℕ → Bool
candidate points radius i j = le (distance (point_at points i) (point_at points j)) (radius ⊗ f32 0x40000000)

-- the candidates of i among some numbers
unfoldable pub candidates : List Float → Float → ℕ → List ℕ → List ℕ
candidates points radius i [] = []
candidates points radius i (j ∷ js) =
    let rest = candidates points radius i js in
    cond (candidate points radius i j) (j ∷ rest) rest

-- a cross product longer than 1e-6, and a circumradius of at most 1.5 times the radius
unfoldable pub sound : Point3f → Point3f → Point3f → Float → Bool
sound p1 p2 p3 radius =
    lt (f32 0x358637bd) (magnitude (cross (difference p2 p1) (difference p3 p1)))
    && le (circumradius p1 p2 p3) (radius ⊗ f32 0x3fc00000)

unfoldable pub valid : List Float → Float → ℕ → ℕ → ℕ → Bool
valid points radius i a b = sound (point_at points i) (point_at points a) (point_at points b) radius

-- the faces (i, a, b) with b among some candidates, in their order
unfoldable pub faces_over : List Float → Float → ℕ → ℕ → List ℕ → List Face
faces_over points radius i a [] = []
faces_over points radius i a (b ∷ bs) =
    let rest = faces_over points radius i a bs in
    cond (valid points radius i a b) (face i a b ∷ rest) rest

-- the faces (i, a, b) with a before b among some candidates
unfoldable pub faces_at : List Float → Float → ℕ → List ℕ → List Face
faces_at points radius i [] = []
faces_at points radius i (a ∷ bs) = faces_over points radius i a bs ++ faces_at points radius i bs

-- those of some points i, in their order
unfoldable pub plain_faces_from : List Float → Float → List ℕ → List Face
plain_faces_from points radius [] = []
plain_faces_from points radius (i ∷ is) =
    faces_at points radius i (candidates points radius i (up_from 0 i)) ++ plain_faces_from points radius is

unfoldable pub plain_faces : List Float → Float → List Face
plain_faces points radius = take 10000 (plain_faces_from points radius (up_from 0 (length points / 3)))
