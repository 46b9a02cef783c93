-- Faces that touch exactly k points, all of them below n, have k marks: of a patch with radii F + 2S. Assumes nothing.
use mathlib.Core.Path.{◌≡◌, refl, sym, ap, ◌∙◌}
use mathlib.Core.Logic.{⊎_elim}
use mathlib.Core.Bool.{true, false}
use mathlib.Core.List.{List, [], ◌∷◌, ◌++◌}
use Prim.Native.Nat.{ℕ, zero, suc, ◌+◌, ◌<◌, ◌≤◌}
use native.Mathlib.Omega.{arith}
use lib.Dec.{eqb, ltb}
use lib.ListN.{length, set, get_or}
use borrow.Author.Tests.{eq-eqb}
use Rattle.patch.specs.Lay.{Face, points_of}
use Rattle.patch.specs.Shape.{touches, Exactly}
use Rattle.patch.specs.View.{flat}
use Rattle.coverage.specs.Coverage.{mark, marks, reached_marks}
use Rattle.coverage.proofs.Marks.{marks_set, set_new, marks_none, count_none}
use Rattle.lists.specs.Lists.{bit, count, any}
use Rattle.lists.proofs.Bools.{either}
use Rattle.lists.proofs.Counts.{count_append, any_true, any_false, true_any, false_any}

-- lists with the same points have the same marks
marks_same : (xs ys : List ℕ) → ((p : ℕ) → mark xs p ≡ mark ys p) → (p n : ℕ) → marks xs p n ≡ marks ys p n
unfolding marks
marks_same xs ys h p zero = refl
marks_same xs ys h p (suc n) = rw (h p, marks_same xs ys h (suc p) n)

get_d_marks : (xs : List ℕ) (p n k : ℕ) → k < n → get_or (marks xs p n) k 0 ≡ mark xs (p + k)
unfolding marks
get_d_marks xs p zero k l = absurd (omega arith)
get_d_marks xs p (suc n) zero l = ap (mark xs) (omega arith)
get_d_marks xs p (suc n) (suc k) l = get_d_marks xs (suc p) n k (omega arith) ∙ ap (mark xs) (omega arith)

length_marks : (xs : List ℕ) (p n : ℕ) → length (marks xs p n) ≡ n
unfolding marks
length_marks xs p zero = refl
length_marks xs p (suc n) = ap suc (length_marks xs (suc p) n)

-- a point is last or first: its mark is the same
mark_moved : (x : ℕ) (xs : List ℕ) (p : ℕ) → mark (x ∷ xs) p ≡ mark (xs ++ (x ∷ [])) p
unfolding mark any
mark_moved x xs p =
    let e = count_append (eqb p) xs (x ∷ []) in
    let same : count (eqb p) (x ∷ xs) ≡ count (eqb p) (xs ++ (x ∷ [])) = omega arith in
    ap (λ (k : ℕ). bit (ltb 0 k)) same

mark_absent : (xs : List ℕ) (p : ℕ) → count (eqb p) xs ≡ 0 → mark xs p ≡ 0
unfolding mark
mark_absent xs p h = ap bit (false_any (eqb p) xs h)

-- of different numbers below n each has a mark
marks_once : (xs : List ℕ) (n : ℕ) → ((x : ℕ) → count (eqb x) xs ≤ 1) → ((x : ℕ) → 1 ≤ count (eqb x) xs → x < n) → count (eqb 1) (marks xs 0 n) ≡ length xs
marks_once [] n once below = ap (count (eqb 1)) (sym (marks_none 0 n)) ∙ count_none n
marks_once (x ∷ xs) n once below =
    let here : bit (eqb x x) ≡ 1 = ap bit (eq-eqb x x refl) in
    let one = once x in
    let ih = marks_once xs n (λ (y : ℕ). let o = once y in omega arith) (λ (y : ℕ) (m : 1 ≤ count (eqb y) xs). below y (omega arith)) in
    let inside : x < n = below x (omega arith) in
    let absent : count (eqb x) xs ≡ 0 = omega arith in
    let free : get_or (marks xs 0 n) x 0 ≡ 0 = get_d_marks xs 0 n x inside ∙ ap (mark xs) (omega arith) ∙ mark_absent xs x absent in
    let long = length_marks xs 0 n in
    let z : 0 + x ≡ x = omega arith in
    let stored : marks (x ∷ xs) 0 n ≡ set (marks xs 0 n) x 1 =
    marks_same (x ∷ xs) (xs ++ (x ∷ [])) (mark_moved x xs) 0 n ∙ ap (λ (k : ℕ). marks (xs ++ (k ∷ [])) 0 n) (sym z) ∙ sym (marks_set xs 0 n x) in
    let more = set_new (marks xs 0 n) x (omega arith) (λ (e : get_or (marks xs 0 n) x 0 ≡ 1). omega arith) in
    ap (count (eqb 1)) stored ∙ more ∙ omega arith

-- a number stands among the faces' numbers if some face has the point, and the other way
flat_in : (fs : List Face) (p : ℕ) → 1 ≤ count (eqb p) (flat fs) → 1 ≤ count (touches p) fs
unfolding flat touches
flat_in [] p h = h
flat_in (f ∷ fs) p h = ⊎_elim
    (λ (t : touches p f ≡ true). let b : bit (touches p f) ≡ 1 = ap bit t in omega arith)
    (λ (t : touches p f ≡ false). let z = any_false (eqb p) (points_of f) t in let ih = flat_in fs p (omega arith) in omega arith)
    (either (touches p f))

flat_out : (fs : List Face) (p : ℕ) → 1 ≤ count (touches p) fs → 1 ≤ count (eqb p) (flat fs)
unfolding flat touches
flat_out [] p h = h
flat_out (f ∷ fs) p h = ⊎_elim
    (λ (t : touches p f ≡ true). let o = any_true (eqb p) (points_of f) t in omega arith)
    (λ (t : touches p f ≡ false). let b : bit (touches p f) ≡ 0 = ap bit t in let ih = flat_out fs p (omega arith) in omega arith)
    (either (touches p f))

module _ (fs : List Face) (k n : ℕ) (e : Exactly k eqb (λ x. any (touches x) fs ≡ true)) (inside : (x : ℕ) → any (touches x) fs ≡ true → x < n) where
  mark_listed : (p : ℕ) → mark (flat fs) p ≡ mark e.list p
  unfolding mark
  mark_listed p = ⊎_elim
      (λ (t : any (eqb p) e.list ≡ true).
      let touched = (e.complete p).0 (any_true (eqb p) e.list t) in
      rw (t, true_any (eqb p) (flat fs) (flat_out fs p (any_true (touches p) fs touched))))
      (λ (t : any (eqb p) e.list ≡ false). ⊎_elim
      (λ (u : any (eqb p) (flat fs) ≡ true).
      let listed = (e.complete p).1 (true_any (touches p) fs (flat_in fs p (any_true (eqb p) (flat fs) u))) in
      let none = any_false (eqb p) e.list t in
      absurd (omega arith))
      (λ (u : any (eqb p) (flat fs) ≡ false). rw (t, u))
      (either (any (eqb p) (flat fs))))
      (either (any (eqb p) e.list))

  pub reached_exactly : count (eqb 1) (reached_marks (flat fs) n) ≡ k
  unfolding reached_marks
  reached_exactly =
      ap (count (eqb 1)) (marks_same (flat fs) e.list mark_listed 0 n)
      ∙ marks_once e.list n e.once (λ (x : ℕ) (m : 1 ≤ count (eqb x) e.list). inside x ((e.complete x).0 m))
      ∙ e.many
