-- The three loops of `simple_triangulate` lay the plain path's faces: candidates from i on give none. Assumes nothing.
use Prim.Native.Nat.{ℕ, zero, suc, ◌+◌, ◌-◌, ◌/◌, ◌≤◌, ◌<◌}
use native.Mathlib.Numerals.{add-one}
use native.Mathlib.Omega.{arith}
use mathlib.Core.Path.{◌≡◌, refl, sym, ap, ap₂, ◌∙◌}
use mathlib.Core.Bool.{Bool, true, false, cond, not, ◌&&◌, ◌||◌}
use mathlib.Core.List.{List, [], ◌∷◌, ◌++◌, append-nil}
use lib.Dec.{leb, ltb, eqb}
use lib.ListN.{length, take, drop, get_or, length-append, drop_of_length-le}
use lib.Seq.{take_all, drop-cons}
use lib.Ieee.{Float, le, lt}
use borrow.Author.Tests.{le-leb, lt-leb, ne_eqb, ltb-true}
use Rattle.numbers.specs.Rounded.{f32, ◌⊗◌}
use Rattle.vector.specs.Vector.{difference, magnitude, cross, squared, distance}
use Rattle.triangle.specs.Quality.{circumradius}
use Rattle.vector.specs.declared.Point3f.{Point3f}
use Rattle.points.specs.Points.{point_at}
use Rattle.patch.specs.Lay.{Face, face}
use Rattle.plain.specs.Plain.{candidate, candidates, sound, valid, faces_over, faces_at, plain_faces_from, plain_faces}
use Rattle.plain.proofs.Plain.{plain_few}
use Rattle.plain_loop.specs.SimpleTriangulate.{max_triangles, loop, nearby, try_three, try_second, try_first}
use Rattle.plain_loop.specs.SimpleTriangulate.{simple_triangulate, PlainLoop}
use Rattle.plain_loop.proofs.Limit.{limit_is, each, loop_is}
use Rattle.lists.specs.Lists.{up_from}

-- ---- numbers below i, and from i on
abbrev Each : (ℕ → Type 0) → List ℕ → Type 0
Each P [] = Unit {0}
Each P (x ∷ xs) = P x × Each P xs

up_each : (P : ℕ → Type 0) (k m : ℕ) → ((x : ℕ) → k ≤ x → x < k + m → P x) → Each P (up_from k m)
unfolding up_from
up_each P k zero h = tt
up_each P k (suc m) h =
    (h k (omega arith) (omega arith), up_each P (k + 1) m (λ x l u. h x (omega arith) (omega arith)))

up_split : (k a b : ℕ) → up_from k (a + b) ≡ up_from k a ++ up_from (k + a) b
unfolding up_from
up_split k zero b = let e : 0 + b ≡ b = omega arith in let g : k ≡ k + 0 = omega arith in ap₂ up_from g e
up_split k (suc a) b =
    let e : suc a + b ≡ suc (a + b) = omega arith in
    let g : k + 1 + a ≡ k + suc a = omega arith in
    ap (up_from k) e ∙ ap (λ (l : List ℕ). k ∷ l)
    (up_split (k + 1) a b ∙ ap (λ (j : ℕ). up_from (k + 1) a ++ up_from j b) g)

module _ (points : List Float) (radius : Float) where
  module _ (i : ℕ) where
    -- ---- what three numbers give
    given : ℕ → ℕ → List Face
    given a b = cond (leb i a || leb i b) [] (cond (valid points radius i a b) (face i a b ∷ []) [])

    three : (a b : ℕ) (ts : List Face) → length ts < max_triangles
        → try_three points radius i a b ts ≡ take max_triangles (ts ++ given a b)
    unfolding try_three valid sound given
    three a b ts h =
        go (leb i a || leb i b)
        (lt (f32 0x358637bd) (magnitude (cross (difference p2 p1) (difference p3 p1))))
        (le (circumradius p1 p2 p3) (radius ⊗ f32 0x3fc00000))
      where
        p1 : Point3f
        p1 = point_at points i

        p2 : Point3f
        p2 = point_at points a

        p3 : Point3f
        p3 = point_at points b

        none : ts ≡ take max_triangles (ts ++ [])
        none = sym (ap (take max_triangles) (append-nil ts) ∙ take_all max_triangles ts (omega arith))

        go : (t u v : Bool) → cond t ts (cond u (cond v (ts ++ (face i a b ∷ [])) ts) ts)
            ≡ take max_triangles (ts ++ cond t [] (cond (u && v) (face i a b ∷ []) []))
        go true u v = none
        go false false v = none
        go false true false = none
        go false true true =
            sym (take_all max_triangles (ts ++ (face i a b ∷ [])) (omega (arith, length-append ts (face i a b ∷ []))))

    high_second : (a : ℕ) (bs : List ℕ) → i ≤ a → each (given a) bs ≡ []
    unfolding given
    high_second a [] h = refl
    high_second a (b ∷ bs) h = rw (le-leb i a h) (high_second a bs h)

    high_third : (a : ℕ) (bs : List ℕ) → Each (λ b. i ≤ b) bs → each (given a) bs ≡ []
    unfolding given
    high_third a [] h = refl
    high_third a (b ∷ bs) h = rw (le-leb i b h.0) (go (leb i a) (high_third a bs h.1))
      where
        go : (t : Bool) → each (given a) bs ≡ []
            → cond (t || true) [] (cond (valid points radius i a b) (face i a b ∷ []) []) ++ each (given a) bs ≡ []
        go true e = e
        go false e = e

    low_third : (a : ℕ) (xs ys : List ℕ) → a < i → Each (λ b. b < i) xs → Each (λ b. i ≤ b) ys
        → each (given a) (xs ++ ys) ≡ faces_over points radius i a xs
    unfolding given faces_over
    low_third a [] ys l h g = high_third a ys g
    low_third a (b ∷ xs) ys l h g =
        rw (lt-leb i a l, lt-leb i b h.0) (go (valid points radius i a b) (low_third a xs ys l h.1 g))
      where
        go : (t : Bool) → each (given a) (xs ++ ys) ≡ faces_over points radius i a xs
            → cond t (face i a b ∷ []) [] ++ each (given a) (xs ++ ys)
            ≡ cond t (face i a b ∷ faces_over points radius i a xs) (faces_over points radius i a xs)
        go true e = ap (λ (l : List Face). face i a b ∷ l) e
        go false e = e

    -- ---- all pairs of a list, the first before the second
    abbrev pairs : List ℕ → List Face
    pairs [] = []
    pairs (a ∷ bs) = each (given a) bs ++ pairs bs

    high_pairs : (ys : List ℕ) → Each (λ b. i ≤ b) ys → pairs ys ≡ []
    high_pairs [] h = refl
    high_pairs (a ∷ bs) h = rw (high_second a bs h.0) (high_pairs bs h.1)

    low_pairs : (xs ys : List ℕ) → Each (λ b. b < i) xs → Each (λ b. i ≤ b) ys
        → pairs (xs ++ ys) ≡ faces_at points radius i xs
    unfolding faces_at
    low_pairs [] ys h g = high_pairs ys g
    low_pairs (a ∷ xs) ys h g =
        ap₂ (λ (l m : List Face). l ++ m) (low_third a xs ys h.0 h.1 g) (low_pairs xs ys h.1 g)

    module _ (cs : List ℕ) where
      seconds : ℕ → List Face
      seconds idx = each (given (get_or cs idx 0)) (drop (idx + 1) cs)

      pairs_from : (m k : ℕ) → k + m ≡ length cs → each seconds (up_from k m) ≡ pairs (drop k cs)
      unfolding up_from seconds
      pairs_from zero k h = sym (ap pairs (drop_of_length-le cs {i = k} (omega arith)))
      pairs_from (suc m) k h =
          let l : k < length cs = omega arith in
          let next : drop k cs ≡ get_or cs k 0 ∷ drop (k + 1) cs =
          drop-cons cs k 0 l ∙ ap (λ (j : ℕ). get_or cs k 0 ∷ drop j cs) (sym (add-one k)) in
          ap (λ (rest : List Face). seconds k ++ rest) (pairs_from m (k + 1) (omega arith)) ∙ sym (ap pairs next)

      second : (idx : ℕ) (ts : List Face) → length ts < max_triangles
          → try_second points radius i cs idx ts ≡ take max_triangles (ts ++ seconds idx)
      unfolding try_second seconds
      second idx ts h =
          let a : ℕ = get_or cs idx 0 in
          loop_is (try_three points radius i a) (given a) (λ b us l. three a b us l) (drop (idx + 1) cs) ts (omega arith)

      firsts : (ts : List Face) → length ts ≤ max_triangles
          → loop (try_second points radius i cs) (up_from 0 (length cs)) ts ≡ take max_triangles (ts ++ pairs cs)
      firsts ts h =
          loop_is (try_second points radius i cs) seconds second (up_from 0 (length cs)) ts h
          ∙ ap (λ (l : List Face). take max_triangles (ts ++ l)) (pairs_from (length cs) 0 (omega arith))

    -- ---- the candidates
    abbrev near : ℕ → Bool
    near j = le (magnitude (difference (point_at points i) (point_at points j))) (radius ⊗ f32 0x40000000)

    nearby_append : (xs ys : List ℕ)
        → nearby points radius i (xs ++ ys) ≡ nearby points radius i xs ++ nearby points radius i ys
    unfolding nearby
    nearby_append [] ys = refl
    nearby_append (j ∷ xs) ys = go (not (eqb i j)) (near j) (nearby_append xs ys)
      where
        go : (t u : Bool) → nearby points radius i (xs ++ ys) ≡ nearby points radius i xs ++ nearby points radius i ys
            → cond t (cond u (j ∷ nearby points radius i (xs ++ ys)) (nearby points radius i (xs ++ ys)))
            (nearby points radius i (xs ++ ys))
            ≡ cond t (cond u (j ∷ nearby points radius i xs) (nearby points radius i xs)) (nearby points radius i xs)
            ++ nearby points radius i ys
        go true true e = ap (λ (l : List ℕ). j ∷ l) e
        go true false e = e
        go false u e = e

    nearby_each : (P : ℕ → Type 0) (xs : List ℕ) → Each P xs → Each P (nearby points radius i xs)
    unfolding nearby
    nearby_each P [] h = tt
    nearby_each P (j ∷ xs) h = go (not (eqb i j)) (near j) (nearby_each P xs h.1)
      where
        go : (t u : Bool) → Each P (nearby points radius i xs)
            → Each P (cond t (cond u (j ∷ nearby points radius i xs) (nearby points radius i xs))
            (nearby points radius i xs))
        go true true e = (h.0, e)
        go true false e = e
        go false u e = e

    -- those below i are the definition's
    nearby_low : (xs : List ℕ) → Each (λ j. j < i) xs → nearby points radius i xs ≡ candidates points radius i xs
    unfolding nearby candidates candidate magnitude distance squared
    nearby_low [] h = refl
    nearby_low (j ∷ xs) h = rw (ne_eqb i j (λ e. let l = h.0 in omega arith), nearby_low xs h.1)

    candidates_are : (n : ℕ) → i < n
        → pairs (nearby points radius i (up_from 0 n))
        ≡ faces_at points radius i (candidates points radius i (up_from 0 i))
    candidates_are n l =
        let low : Each (λ j. j < i) (up_from 0 i) = up_each (λ j. j < i) 0 i (λ x a b. omega arith) in
        let high : Each (λ j. i ≤ j) (up_from i (n - i)) = up_each (λ j. i ≤ j) i (n - i) (λ x a b. a) in
        let e : n ≡ i + (n - i) = omega arith in
        let z : 0 + i ≡ i = omega arith in
        let split : up_from 0 n ≡ up_from 0 i ++ up_from i (n - i) =
        ap (up_from 0) e ∙ up_split 0 i (n - i) ∙ ap (λ (j : ℕ). up_from 0 i ++ up_from j (n - i)) z in
        ap (λ (xs : List ℕ). pairs (nearby points radius i xs)) split
        ∙ ap pairs (nearby_append (up_from 0 i) (up_from i (n - i)))
        ∙ low_pairs (nearby points radius i (up_from 0 i)) (nearby points radius i (up_from i (n - i)))
        (nearby_each (λ j. j < i) (up_from 0 i) low)
        (nearby_each (λ j. i ≤ j) (up_from i (n - i)) high)
        ∙ ap (faces_at points radius i) (nearby_low (up_from 0 i) low)

  -- ---- all points
  abbrev count : ℕ
  count = length points / 3

  of_point : ℕ → List Face
  of_point i = pairs i (nearby points radius i (up_from 0 count))

  first : (i : ℕ) (ts : List Face) → length ts < max_triangles
      → try_first points radius i ts ≡ take max_triangles (ts ++ of_point i)
  unfolding try_first of_point
  first i ts h = firsts i (nearby points radius i (up_from 0 count)) ts (omega arith)

  faces_from_lem : (m k : ℕ) → k + m ≤ count → each of_point (up_from k m) ≡ plain_faces_from points radius (up_from k m)
  unfolding up_from plain_faces_from of_point
  faces_from_lem zero k h = refl
  faces_from_lem (suc m) k h =
      ap₂ (λ (l r : List Face). l ++ r) (candidates_are k count (omega arith)) (faces_from_lem m (k + 1) (omega arith))

  pub plain_loop : PlainLoop points radius
  unfolding simple_triangulate plain_faces
  plain_loop = go (ltb count 3) refl
    where
      go : (t : Bool) → ltb count 3 ≡ t
          → cond t [] (loop (try_first points radius) (up_from 0 count) []) ≡ plain_faces points radius
      go true e = sym (plain_few points radius (let l = ltb-true count 3 e in omega arith))
      go false e =
          loop_is (try_first points radius) of_point first (up_from 0 count) [] (omega arith)
          ∙ ap (take max_triangles) (faces_from_lem count 0 (omega arith))
          ∙ ap (λ (most : ℕ). take most (plain_faces_from points radius (up_from 0 count))) limit_is
