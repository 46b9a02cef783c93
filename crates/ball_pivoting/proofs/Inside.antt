-- The faces that are found, on either path, are of points of the cloud, and their counts are small. Assumes nothing.
use Prim.Native.Nat.{ℕ, zero, suc, ◌+◌, ◌*◌, ◌/◌, ◌≤◌, ◌<◌}
use mathlib.Core.Path.{refl}
use mathlib.Core.Bool.{Bool, true, false, cond}
use mathlib.Core.List.{List, [], ◌∷◌, ◌++◌}
use native.Mathlib.Omega.{arith}
use lib.ListN.{length, get_or, take}
use lib.Ieee.{Float}
use borrow.Author.Tests.{eq-eqb}
use lib.Dec.{eqb}
use Rattle.settings.specs.declared.BallPivotingConfig.{BallPivotingConfig}
use Rattle.lists.specs.Lists.{up_from, count}
use Rattle.lists.specs.Members.{Below}
use Rattle.lists.proofs.Members.{below_none, below_more, below_first, below_rest, up_below}
use Rattle.patch.specs.Lay.{Face, points_of}
use Rattle.patch.specs.Shape.{touches}
use Rattle.patch.specs.View.{flat}
use Rattle.lists.proofs.Counts.{true_any}
use Rattle.laying.proofs.Claim.{laid_few}
use Rattle.plain.specs.Plain.{candidate, candidates, valid, faces_over, faces_at, plain_faces_from, plain_faces}
use Rattle.ball_pivoting.specs.Reconstruct.{point_count, scene_of, radii_of, laid_of, laid, plainly, Found, found_at, found}
use Rattle.ball_pivoting.proofs.Found.{shape_of, touched_inside}

-- all points of the faces are below n
abbrev pub Inside : ℕ → List Face → Type 0
Inside n [] = Unit {0}
Inside n (f ∷ fs) = ((f.a < n) × (f.b < n) × (f.c < n)) × Inside n fs

-- ---- on the multi-radius path
module _ (f : Face) (fs : List Face) where
  has_point : (x : ℕ) → 1 ≤ count (eqb x) (points_of f) → 1 ≤ count (touches x) (f ∷ fs)
  unfolding touches
  has_point x h = rw (true_any (eqb x) (points_of f) h) (omega arith)

inside_of : (n : ℕ) (fs : List Face) → ((x : ℕ) → 1 ≤ count (touches x) fs → x < n) → Inside n fs
inside_of n [] h = tt
inside_of n (f ∷ fs) h = (
  (
    h f.a (has_point f fs f.a (rw (eq-eqb f.a f.a refl) (omega arith))),
    h f.b (has_point f fs f.b (rw (eq-eqb f.b f.b refl) (omega arith))),
    h f.c (has_point f fs f.c (rw (eq-eqb f.c f.c refl) (omega arith))),
  ),
  inside_of n fs (λ x m. h x (omega arith)),
)

-- ---- on the plain path
module _ (n : ℕ) where
  inside_append : (fs gs : List Face) → Inside n fs → Inside n gs → Inside n (fs ++ gs)
  inside_append [] gs a b = b
  inside_append (f ∷ fs) gs a b = (a.0, inside_append fs gs a.1 b)

  inside_take : (k : ℕ) (fs : List Face) → Inside n fs → Inside n (take k fs)
  inside_take zero fs a = tt
  inside_take (suc k) [] a = tt
  inside_take (suc k) (f ∷ fs) a = (a.0, inside_take k fs a.1)

  module _ (points : List Float) (radius : Float) where
    candidates_below : (i : ℕ) (js : List ℕ) → Below n js → Below n (candidates points radius i js)
    unfolding candidates
    candidates_below i [] u = below_none n
    candidates_below i (j ∷ js) u = go (candidate points radius i j) (candidates_below i js (below_rest n j js u))
      where
        go : (t : Bool) → Below n (candidates points radius i js) → Below n (cond t (j ∷ candidates points radius i js) (candidates points radius i js))
        go true r = below_more n j (candidates points radius i js) (below_first n j js u) r
        go false r = r

    over_inside : (i a : ℕ) (bs : List ℕ) → i < n → a < n → Below n bs → Inside n (faces_over points radius i a bs)
    unfolding faces_over
    over_inside i a [] h k u = tt
    over_inside i a (b ∷ bs) h k u = go (valid points radius i a b) (over_inside i a bs h k (below_rest n b bs u))
      where
        go : (t : Bool) → Inside n (faces_over points radius i a bs)
            → Inside n (cond t (record { a = i; b = a; c = b } ∷ faces_over points radius i a bs) (faces_over points radius i a bs))
        go true r = ((h, k, below_first n b bs u), r)
        go false r = r

    at_inside : (i : ℕ) (bs : List ℕ) → i < n → Below n bs → Inside n (faces_at points radius i bs)
    unfolding faces_at
    at_inside i [] h u = tt
    at_inside i (a ∷ bs) h u = inside_append (faces_over points radius i a bs) (faces_at points radius i bs)
        (over_inside i a bs h (below_first n a bs u) (below_rest n a bs u)) (at_inside i bs h (below_rest n a bs u))

    of_inside : (is : List ℕ) → Below n is → Inside n (plain_faces_from points radius is)
    unfolding plain_faces_from
    of_inside [] u = tt
    of_inside (i ∷ is) u =
        inside_append (faces_at points radius i (candidates points radius i (up_from 0 i))) (plain_faces_from points radius is)
        (at_inside i (candidates points radius i (up_from 0 i)) (below_first n i is u)
        (candidates_below i (up_from 0 i) (up_below n 0 i (let l = below_first n i is u in omega arith))))
        (of_inside is (below_rest n i is u))

plain_inside : (points : List Float) (radius : Float) → Inside (length points / 3) (plain_faces points radius)
unfolding plain_faces
plain_inside points radius =
    let n : ℕ = length points / 3 in inside_take n 10000 (plain_faces_from points radius (up_from 0 n))
    (of_inside n points radius (up_from 0 n) (up_below n 0 n (omega arith)))

-- ---- on either
module _ (c : BallPivotingConfig) (pts : List Float) where
  -- every point number of a face that is found is one of the cloud's
  pub found_inside : Inside (point_count pts) (found c pts).faces
  unfolding found found_at laid plainly
  found_inside = go (radii_of c pts)
    where
      go : (rs : List Float) → Inside (point_count pts) (found_at c pts rs).faces
      go [] = plain_inside pts c.radius
      go (r ∷ rs) = inside_of (point_count pts) (laid_of c pts).faces (λ x m. touched_inside c pts x (true_any (touches x) (laid_of c pts).faces m))

  -- by the number of faces and the number of points
  pub record Few (f : Found) : Type 0 where
    pub seeds : f.seeds ≤ point_count pts
    pub looks : f.looks ≤ 3 * length f.faces
    pub pivots : f.pivots ≤ 2 * length f.faces + point_count pts

  pub found_few : Few (found c pts)
  unfolding found found_at laid plainly laid_of scene_of
  found_few = go (radii_of c pts)
    where
      go : (rs : List Float) → Few (found_at c pts rs)
      go [] = record { seeds = omega arith; looks = omega arith; pivots = omega arith }
      go (r ∷ rs) =
          let s = shape_of c pts in
          let few = laid_few c.frontier_rule (scene_of c pts) pts (radii_of c pts) in
          record { seeds = omega (arith, few); looks = omega (arith, s.looks_count); pivots = omega (arith, s.pivots_count, few) }

-- the numbers in a slice that holds such faces
pub flat_inside : (n : ℕ) (fs : List Face) → Inside n fs → (k : ℕ) → get_or (flat fs) k 0 ≤ n
unfolding flat
flat_inside n [] h k = omega arith
flat_inside n (f ∷ fs) h zero = let l = h.0.0 in omega arith
flat_inside n (f ∷ fs) h (suc zero) = let l = h.0.1 in omega arith
flat_inside n (f ∷ fs) h (suc (suc zero)) = let l = h.0.2 in omega arith
flat_inside n (f ∷ fs) h (suc (suc (suc k))) = flat_inside n fs h.1 k
