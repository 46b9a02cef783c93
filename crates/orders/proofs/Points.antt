-- What a face brings in: at most one new point where it shares an edge with a placed face, and what all faces of an
-- order bring in together does not depend on the order. Assumes nothing.
use Prim.Native.Nat.{ℕ, ◌+◌, ◌≤◌, ◌<◌}
use mathlib.Core.Path.{◌≡◌, refl, sym, ap, ◌∙◌}
use mathlib.Core.Logic.{⊎_elim, ◌≢◌}
use mathlib.Core.Bool.{Bool, true, false, not, ◌&&◌, ◌||◌}
use mathlib.Core.List.{List, ◌∷◌}
use native.Mathlib.Omega.{arith}
use lib.Dec.{eqb, ltb}
use borrow.Author.Tests.{eqb-true, lt-ltb}
use Rattle.lists.specs.Lists.{bit, count, any}
use Rattle.patch.specs.Lay.{same, Face, points_of, edges_of}
use Rattle.patch.specs.Shape.{touches, has}
use Rattle.lists.proofs.Counts.{bit_le, any_true, true_any, any_bit}
use Rattle.patch.proofs.Edges.{same_sym, Distinct, ab_of, bc_of, ca_of, not_both, which, touches_v1, touches_v2}
use Rattle.orders.specs.Order.{neighbours, reached, joined, fresh}
use Rattle.orders.proofs.Sums.{sum, sum_ext, sum_add, one_hit, some_one, count_length}

-- ---- sharing an edge goes both ways
pub neighbours_sym : (f g : Face) → neighbours f g ≡ true → neighbours g f ≡ true
unfolding neighbours has
neighbours_sym f g h =
    let e = some_one (λ e. has e g) (edges_of f) (any_true (λ e. has e g) (edges_of f) h) in
    let d = some_one (same e.x) (edges_of g) (any_true (same e.x) (edges_of g) e.passes) in
    let back = true_any (same d.x) (edges_of f) (e.within (same d.x) (same_sym e.x d.x d.passes)) in
    true_any (λ e. has e f) (edges_of g) (d.within (λ e. has e f) back)

-- ---- the points of a face
clash : (x p q : ℕ) → p ≢ q → eqb x p ≡ true → eqb x q ≡ true → ⊥
clash x p q n s t = n (sym (eqb-true x p s) ∙ eqb-true x q t)

pub touches_bit : (x : ℕ) (f : Face) → Distinct f → bit (touches x f) ≡ bit (eqb x f.a) + (bit (eqb x f.b) + bit (eqb x f.c))
unfolding touches
touches_bit x f d =
    let p = not_both (eqb x f.a) (eqb x f.b) (clash x f.a f.b d.ab) in
    let q = not_both (eqb x f.b) (eqb x f.c) (clash x f.b f.c d.bc) in
    let r = not_both (eqb x f.c) (eqb x f.a) (clash x f.c f.a d.ca) in
    let s = bit_le (eqb x f.a) in
    let one : count (eqb x) (points_of f) ≤ 1 = omega arith in
    let e = any_bit (eqb x) (points_of f) one in
    omega arith

pub any_cons : {A : Type 0} (p : A → Bool) (x : A) (xs : List A) → any p (x ∷ xs) ≡ (p x || any p xs)
unfolding any
any_cons p x xs = go (p x)
  where
    go : (b : Bool) → ltb 0 (bit b + count p xs) ≡ (b || ltb 0 (count p xs))
    go true = lt-ltb 0 (1 + count p xs) (omega arith)
    go false = let e : 0 + count p xs ≡ count p xs = omega arith in ap (ltb 0) e

split : (r t u v w : Bool) → bit t ≡ bit u + (bit v + bit w) → bit (t || r) ≡ bit r + (bit (not r && u) + (bit (not r && v) + bit (not r && w)))
split true true u v w h = refl
split true false u v w h = refl
split false true u v w h = omega arith
split false false u v w h = omega arith

module _ (at : ℕ → Face) where
  -- ---- a face that shares an edge
  seen_bit : (r : Bool) → r ≡ true → bit (not r) ≡ 0
  seen_bit r h = ap (λ (b : Bool). bit (not b)) h

  seen : (placed : List ℕ) (x : ℕ) → 1 ≤ count (λ k. touches x (at k)) placed → reached at placed x ≡ true
  unfolding reached
  seen placed x m = true_any (λ k. touches x (at k)) placed m

  pub joined_fresh : (placed : List ℕ) (i : ℕ) → joined at placed i ≡ true → fresh at placed i ≤ 1
  unfolding joined fresh neighbours
  joined_fresh placed i h =
      let f = at i in
      let j = some_one (λ j. neighbours (at i) (at j)) placed (any_true (λ j. neighbours (at i) (at j)) placed h) in
      let g = at j.x in
      let q : ℕ → ℕ = λ x. bit (not (reached at placed x)) in
      let old : (x : ℕ) → touches x g ≡ true → q x ≡ 0 = λ x t. seen_bit (reached at placed x) (seen placed x (j.within (λ k. touches x (at k)) t)) in
      let la : q f.a ≤ 1 = bit_le (not (reached at placed f.a)) in
      let lb : q f.b ≤ 1 = bit_le (not (reached at placed f.b)) in
      let lc : q f.c ≤ 1 = bit_le (not (reached at placed f.c)) in
      ⊎_elim
      (λ (t : has (ab_of f) g ≡ true). let u = old f.a (touches_v1 (ab_of f) g t) in let v = old f.b (touches_v2 (ab_of f) g t) in omega arith)
      (⊎_elim
      (λ (t : has (bc_of f) g ≡ true). let u = old f.b (touches_v1 (bc_of f) g t) in let v = old f.c (touches_v2 (bc_of f) g t) in omega arith)
      (λ (t : has (ca_of f) g ≡ true). let u = old f.c (touches_v1 (ca_of f) g t) in let v = old f.a (touches_v2 (ca_of f) g t) in omega arith))
      (which (has (ab_of f) g) (has (bc_of f) g) (has (ca_of f) g) (any_true (λ e. has e g) (edges_of f) j.passes))

  pub fresh_three : (placed : List ℕ) (i : ℕ) → fresh at placed i ≤ 3
  unfolding fresh
  fresh_three placed i = count_length (λ x. not (reached at placed x)) (points_of (at i))

  -- ---- how many of the points below n are reached
  abbrev pub cover : ℕ → List ℕ → ℕ
  cover n placed = sum (λ x. bit (reached at placed x)) n

  -- the face's points are three, all below n
  pub record Inside (n i : ℕ) : Type 0 where
    pub distinct : Distinct (at i)
    pub a_below : (at i).a < n
    pub b_below : (at i).b < n
    pub c_below : (at i).c < n

  pub cover_more : (n : ℕ) (placed : List ℕ) (i : ℕ) → Inside n i → cover n (i ∷ placed) ≡ cover n placed + fresh at placed i
  unfolding fresh reached
  cover_more n placed i h =
      let f = at i in
      let r = reached at placed in
      let A : ℕ → ℕ = λ x. bit (not (r x) && eqb x f.a) in
      let B : ℕ → ℕ = λ x. bit (not (r x) && eqb x f.b) in
      let C : ℕ → ℕ = λ x. bit (not (r x) && eqb x f.c) in
      let whole = sum_ext (λ x. bit (reached at (i ∷ placed) x)) (λ x. bit (r x) + (A x + (B x + C x)))
      (λ x. ap bit (any_cons (λ j. touches x (at j)) i placed) ∙ split (r x) (touches x f) (eqb x f.a) (eqb x f.b) (eqb x f.c)
      (touches_bit x f h.distinct)) n in
      let s = sum_add (λ x. bit (r x)) (λ x. A x + (B x + C x)) n in
      let t = sum_add A (λ x. B x + C x) n in
      let u = sum_add B C n in
      let a = one_hit (λ x. not (r x)) f.a n h.a_below in
      let b = one_hit (λ x. not (r x)) f.b n h.b_below in
      let c = one_hit (λ x. not (r x)) f.c n h.c_below in
      omega arith
