-- Reading what was written gives the corners of the faces, and writing those corners again gives the same bytes.
-- Assumes nothing.
use mathlib.Core.Path.{◌≡◌, refl, sym, ap, ◌∙◌}
use mathlib.Core.Bool.{true}
use mathlib.Core.List.{List, [], ◌∷◌, ◌++◌, append_assoc}
use Prim.Native.Nat.{ℕ, zero, suc, ◌+◌, ◌-◌, ◌*◌, ◌/◌, ◌^◌, ◌<◌}
use native.Mathlib.Omega.{arith}
use borrow.Author.Tests.{le-leb, eq-eqb}
use lib.Dec.{T, leb, eqb}
use lib.ListN.{length, get_or, replicate, length-append}
use lib.Seq.{get_or-append-add}
use lib.Ieee.{Float, nan, binary32, fits, to_bits}
use lib.Ieee.Bits.{of_bits-to_bits, to_bits-lt}
use Rattle.numbers.specs.Rounded.{f32}
use Rattle.vector.specs.declared.Point3f.{Point3f}
use Rattle.lists.specs.Lists.{up_from}
use Rattle.points.specs.Points.{point_at}
use Rattle.words.specs.Words.{word, word_at}
use Rattle.words.specs.Chunks.{chunks}
use Rattle.words.proofs.Laws.{word_at_word, word_at_append}
use Rattle.words.proofs.Chunks.{chunks_at, chunks_same, chunks_three, chunks_length}
use Rattle.facets.specs.Format.{normal, vertex, facet, facet_of, corner_at, stl, vertex_at, corners_of, facet_count, is_file, corners, three, patch_corners}
use Rattle.facets.proofs.Puts.{facet_length, stl_length}

-- a point of three f32
pub record Held (p : Point3f) : Type 0 where
  pub x_fits : T (fits binary32 p.x)
  pub y_fits : T (fits binary32 p.y)
  pub z_fits : T (fits binary32 p.z)

-- ---- one corner

float_back : (x : Float) (rest : List ℕ) → T (fits binary32 x) → f32 (word_at (word (to_bits binary32 x) ++ rest) 0) ≡ x
float_back x rest h = ap f32 (word_at_word (to_bits binary32 x) rest (to_bits-lt binary32 x h)) ∙ of_bits-to_bits binary32 x h

vertex_back : (front : List ℕ) (p : Point3f) (rest : List ℕ) (at : ℕ) → at ≡ length front → Held p → vertex_at (front ++ (vertex p ++ rest)) at ≡ three p
unfolding vertex_at vertex word word_at
vertex_back front p rest at e h =
    let a = word (to_bits binary32 p.x) in
    let b = word (to_bits binary32 p.y) in
    let c = word (to_bits binary32 p.z) in
    let here : (k : ℕ) → word_at (front ++ (vertex p ++ rest)) (at + k)
    ≡ word_at (vertex p ++ rest) k = λ k. ap (λ (j : ℕ). word_at (front ++ (vertex p ++ rest)) (j + k)) e ∙ word_at_append front (vertex p ++ rest) k in
    let zero_more : at ≡ at + 0 = omega arith in
    let x : f32 (word_at (front ++ (vertex p ++ rest)) at)
    ≡ p.x = ap (λ (j : ℕ). f32 (word_at (front ++ (vertex p ++ rest)) j)) zero_more ∙ ap f32 (here 0) ∙ float_back p.x (b ++ c ++ rest) h.x_fits in
    let y : f32 (word_at (front ++ (vertex p ++ rest)) (at + 4)) ≡ p.y = ap f32 (here 4) ∙ float_back p.y (c ++ rest) h.y_fits in
    let z : f32 (word_at (front ++ (vertex p ++ rest)) (at + 8)) ≡ p.z = ap f32 (here 8) ∙ float_back p.z rest h.z_fits in
    λ i. x i ∷ y i ∷ z i ∷ []

-- ---- one facet behind others
module _ (front : List ℕ) (p q r : Point3f) (rest : List ℕ) (hp : Held p) (hq : Held q) (hr : Held r) (i : ℕ) (place : length front ≡ 84 + 50 * i) where
  facet_back : corners_of (front ++ (facet p q r ++ rest)) i ≡ three p ++ three q ++ three r
  unfolding corners_of facet vertex word
  facet_back =
      let n = normal p q r in
      let tail : List ℕ = 0 ∷ 0 ∷ rest in
      let at_p = vertex_back (front ++ vertex n) p (vertex q ++ (vertex r ++ tail)) (84 + 50 * i + 12)
      (let l = length-append front (vertex n) in omega arith) hp in
      let at_q = vertex_back (front ++ (vertex n ++ vertex p)) q (vertex r ++ tail) (84 + 50 * i + 24)
      (let l = length-append front (vertex n ++ vertex p) in omega arith) hq in
      let at-r = vertex_back (front ++ (vertex n ++ vertex p ++ vertex q)) r tail (84 + 50 * i + 36)
      (let l = length-append front (vertex n ++ vertex p ++ vertex q) in omega arith) hr in
      let ep = sym (append_assoc front (vertex n) (vertex p ++ (vertex q ++ (vertex r ++ tail)))) in
      let eq = sym (append_assoc front (vertex n ++ vertex p) (vertex q ++ (vertex r ++ tail))) in
      let er = sym (append_assoc front (vertex n ++ vertex p ++ vertex q) (vertex r ++ tail)) in
      let vp = ap (λ (l : List ℕ). vertex_at l (84 + 50 * i + 12)) ep ∙ at_p in
      let vq = ap (λ (l : List ℕ). vertex_at l (84 + 50 * i + 24)) eq ∙ at_q in
      let vr = ap (λ (l : List ℕ). vertex_at l (84 + 50 * i + 36)) er ∙ at-r in
      λ j. vp j ++ vq j ++ vr j

-- ---- the numbers 0, 1, 2, ..
pub up_length : (i m : ℕ) → length (up_from i m) ≡ m
unfolding up_from
up_length i zero = refl
up_length i (suc m) = ap suc (up_length (i + 1) m)

up_at : (i m k : ℕ) → k < m → get_or (up_from i m) k 0 ≡ i + k
unfolding up_from
up_at i zero k h = absurd (omega arith)
up_at i (suc m) zero h = omega arith
up_at i (suc m) (suc k) h = let e = up_at (i + 1) m k (omega arith) in omega arith

-- ---- the whole file
module _ (points : List Float) (faces : List ℕ) where
  abbrev n : ℕ
  n = length faces / 3

  abbrev corner : ℕ → Point3f
  corner = corner_at points faces

  abbrev body : List ℕ
  body = chunks (facet_of corner) 0 n

  pub counted : n < 2 ^ 32 → facet_count (stl points faces) ≡ n
  unfolding stl word
  counted small =
      ap (λ (l : List ℕ). word_at l 80) (append_assoc (replicate 80 0) (word n) body)
      ∙ word_at_append (replicate 80 0) (word n ++ body) 0 ∙ word_at_word n body small

  -- what we write is a file
  pub accepted : n < 2 ^ 32 → is_file (stl points faces) ≡ true
  unfolding is_file
  accepted small =
      let size = stl_length points faces in
      let says = counted small in
      let long : leb 84 (length (stl points faces)) ≡ true = le-leb 84 (length (stl points faces)) (omega arith) in
      let exact : eqb (length (stl points faces)) (84 + 50 * facet_count (stl points faces))
      ≡ true = eq-eqb (length (stl points faces)) (84 + 50 * facet_count (stl points faces)) (omega arith) in
      rw (long, exact)

  -- facet number i stands behind header, count and the facets before it
  front : ℕ → List ℕ
  front i = replicate 80 0 ++ word n ++ chunks (facet_of corner) 0 i

  front_length : (i : ℕ) → length (front i) ≡ 84 + 50 * i
  unfolding front word
  front_length i =
      let before = chunks_length (facet_of corner) 50 (λ k. facet_length (corner (3 * k)) (corner (3 * k + 1)) (corner (3 * k + 2))) 0 i in
      let all : length (replicate 80 0 ++ word n ++ chunks (facet_of corner) 0 i) ≡ length (replicate 80 0 ++ word n)
      + length (chunks (facet_of corner) 0 i) = length-append (replicate 80 0 ++ word n) (chunks (facet_of corner) 0 i) in
      let head : length (replicate 80 0 ++ word n) ≡ 84 = refl in
      omega arith

  between_looks : (i : ℕ) → i < n → stl points faces ≡ front i ++ (facet_of corner i ++ chunks (facet_of corner) (i + 1) (n - (i + 1)))
  unfolding stl front
  between_looks i h =
      ap (λ (l : List ℕ). replicate 80 0 ++ word n ++ l) (chunks_at (facet_of corner) i n h)
      ∙ sym (append_assoc (replicate 80 0 ++ word n) (chunks (facet_of corner) 0 i) (facet_of corner i ++ chunks (facet_of corner) (i + 1) (n - (i + 1))))

  module _ (held : (k : ℕ) → T (fits binary32 (get_or points k nan))) where
    point_held : (k : ℕ) → Held (corner k)
    unfolding point_at
    point_held k = record { x_fits = held (3 * get_or faces k 0); y_fits = held (3 * get_or faces k 0 + 1); z_fits = held (3 * get_or faces k 0 + 2) }

    one_back : (i : ℕ) → i < n → corners_of (stl points faces) i ≡ three (corner (3 * i)) ++ three (corner (3 * i + 1)) ++ three (corner (3 * i + 2))
    one_back i h =
        ap (λ (l : List ℕ). corners_of l i) (between_looks i h)
        ∙ facet_back (front i) (corner (3 * i)) (corner (3 * i + 1)) (corner (3 * i + 2)) (chunks (facet_of corner) (i + 1) (n - (i + 1))) (point_held (3 * i))
        (point_held (3 * i + 1)) (point_held (3 * i + 2)) i (front_length i)

    -- READING WHAT WAS WRITTEN GIVES THE CORNERS
    pub read_back : n < 2 ^ 32 → corners (stl points faces) ≡ patch_corners points faces
    unfolding corners patch_corners
    read_back small =
        let three-to-a-face : ℕ → List Float = λ i. three (corner (3 * i)) ++ three (corner (3 * i + 1)) ++ three (corner (3 * i + 2)) in
        ap (λ (m : ℕ). chunks (corners_of (stl points faces)) 0 m) (counted small)
        ∙ chunks_same (corners_of (stl points faces)) three-to-a-face 0 n (λ k a b. one_back k (omega arith))
        ∙ chunks_three (λ (k : ℕ). three (corner k)) 0 n

  -- ---- writing the corners again
  corner_point : (k : ℕ) → k < 3 * n → point_at (patch_corners points faces) k ≡ corner k
  unfolding patch_corners point_at
  corner_point k h =
      let piece : ℕ → List Float = λ j. three (corner j) in
      let rest : List Float = chunks piece (k + 1) (3 * n - (k + 1)) in
      let split : chunks piece 0 (3 * n) ≡ chunks piece 0 k ++ (three (corner k) ++ rest) = chunks_at piece k (3 * n) h in
      let size : length (chunks piece 0 k) ≡ 3 * k = chunks_length piece 3 (λ j. refl) 0 k in
      let at : (j : ℕ) → get_or (chunks piece 0 (3 * n)) (3 * k + j) nan
      ≡ get_or (three (corner k) ++ rest) j nan = λ j. ap (λ (l : List Float). get_or l (3 * k + j) nan) split ∙ ap
      (λ (m : ℕ). get_or (chunks piece 0 k ++ (three (corner k) ++ rest)) (m + j) nan) (sym size) ∙ get_or-append-add (chunks piece 0 k)
      (three (corner k) ++ rest) j nan in
      let zero_more : 3 * k ≡ 3 * k + 0 = omega arith in
      let x : get_or (chunks piece 0 (3 * n)) (3 * k) nan ≡ (corner k).x = ap (λ (j : ℕ). get_or (chunks piece 0 (3 * n)) j nan) zero_more ∙ at 0 in
      λ i. record { x = x i; y = at 1 i; z = at 2 i }

  -- WRITING THOSE CORNERS AGAIN GIVES THE SAME BYTES, with faces 0, 1, 2 and so on
  pub same_again : stl (patch_corners points faces) (up_from 0 (3 * n)) ≡ stl points faces
  unfolding stl
  same_again =
      let long : length (up_from 0 (3 * n)) / 3 ≡ n = let l = up_length 0 (3 * n) in omega arith in
      let again : ℕ → Point3f = corner_at (patch_corners points faces) (up_from 0 (3 * n)) in
      let point : (k : ℕ) → k < 3 * n → again k
      ≡ corner k = λ k h. ap (point_at (patch_corners points faces)) (up_at 0 (3 * n) k h ∙ omega arith) ∙ corner_point k h in
      let facet-same : (i : ℕ) → i < n → facet_of again i
      ≡ facet_of corner i = λ i h.
      (let a = point (3 * i) (omega arith) in let b = point (3 * i + 1) (omega arith) in let c = point (3 * i + 2) (omega arith) in λ j. facet (a j)
      (b j) (c j)) in
      ap (λ (m : ℕ). replicate 80 0 ++ word m ++ chunks (facet_of again) 0 m) long
      ∙ ap (λ (l : List ℕ). replicate 80 0 ++ word n ++ l) (chunks_same (facet_of again) (facet_of corner) 0 n (λ k a b. facet-same k (omega arith)))
