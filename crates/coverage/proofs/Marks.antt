-- Marks, one point after the other: a store for each number of the faces makes them. Assumes nothing.
use mathlib.Core.Path.{◌≡◌, refl, sym, ap, ◌∙◌}
use mathlib.Core.List.{List, [], ◌∷◌, ◌++◌}
use Prim.Native.Nat.{ℕ, zero, suc, ◌+◌, ◌<◌}
use native.Mathlib.Nat.{not-suc-le-zero, le_of_suc-le-suc}
use native.Mathlib.Numerals.{add-one}
use native.Mathlib.Omega.{arith}
use lib.Dec.{eqb, ltb}
use lib.ListN.{length, set, get_or, take, replicate, length-replicate}
use lib.Seq.{take-suc}
use borrow.Author.Tests.{eq-eqb, ne_eqb}
use Rattle.coverage.specs.Coverage.{mark, marks, reached_marks}
use Rattle.lists.specs.Lists.{bit, count, any}
use Rattle.lists.proofs.Counts.{count_append, true_any}

mark_last : (xs : List ℕ) (p : ℕ) → mark (xs ++ (p ∷ [])) p ≡ 1
unfolding mark
mark_last xs p =
    let e = count_append (eqb p) xs (p ∷ []) in
    let t : bit (eqb p p) ≡ 1 = ap bit (eq-eqb p p refl) in
    ap bit (true_any (eqb p) (xs ++ (p ∷ [])) (omega arith))

mark_other : (xs : List ℕ) (p q : ℕ) → (p ≡ q → ⊥) → mark (xs ++ (q ∷ [])) p ≡ mark xs p
unfolding mark any
mark_other xs p q h =
    let e = count_append (eqb p) xs (q ∷ []) in
    let t : bit (eqb p q) ≡ 0 = ap bit (ne_eqb p q h) in
    let same : count (eqb p) (xs ++ (q ∷ [])) ≡ count (eqb p) xs = omega arith in
    ap (λ (k : ℕ). bit (ltb 0 k)) same

-- a number below all points of the list marks none of them
marks_before : (xs : List ℕ) (q p n : ℕ) → q < p → marks (xs ++ (q ∷ [])) p n ≡ marks xs p n
unfolding marks
marks_before xs q p zero h = refl
marks_before xs q p (suc n) h =
    let rest = marks_before xs q (suc p) n (omega arith) in
    let one = mark_other xs p q (λ (e : p ≡ q). omega arith) in
    rw (one, rest)

pub marks_set : (xs : List ℕ) (p n k : ℕ) → set (marks xs p n) k 1 ≡ marks (xs ++ ((p + k) ∷ [])) p n
unfolding marks
marks_set xs p zero k = refl
marks_set xs p (suc n) zero =
    let e : p + 0 ≡ p = omega arith in
    cc (e, mark_last xs p, marks_before xs p (suc p) n (omega arith))
marks_set xs p (suc n) (suc k) =
    let e : p + suc k ≡ suc p + k = omega arith in
    let one = mark_other xs p (p + suc k) (λ (h : p ≡ p + suc k). omega arith) in
    let rest = marks_set xs (suc p) n k in
    cc (one, rest, e)

pub marks_none : (p n : ℕ) → replicate n 0 ≡ marks [] p n
unfolding mark marks any
marks_none p zero = refl
marks_none p (suc n) = ap (λ (t : List ℕ). 0 ∷ t) (marks_none (suc p) n)

pub count_none : (n : ℕ) → count (eqb 1) (replicate n 0) ≡ 0
count_none zero = refl
count_none (suc n) = let ih = count_none n in omega arith

-- zeros are the marks where no number was seen yet
pub reached_start : (n : ℕ) (w : List ℕ) → w ≡ replicate n 0 → (length w ≡ n) × (w ≡ reached_marks [] (length w)) × (0 ≡ count (eqb 1) w)
unfolding reached_marks
reached_start n w e =
    let long = ap length e ∙ length-replicate n 0 in
    (long, e ∙ marks_none 0 n ∙ ap (marks [] 0) (sym long), sym (ap (count (eqb 1)) e ∙ count_none n))

-- a store of 1 at the next number of the faces
pub reached_step : (faces : List ℕ) (n i : ℕ) (w : List ℕ) → i < length faces → w ≡ reached_marks (take i faces) n → set w (get_or faces i 0) 1
    ≡ reached_marks (take (i + 1) faces) n
unfolding reached_marks
reached_step faces n i w l e =
    let s : take (i + 1) faces ≡ take i faces ++ (get_or faces i 0 ∷ []) = ap (λ (k : ℕ). take k faces) (add-one i) ∙ take-suc faces i 0 l in
    let z : 0 + get_or faces i 0 ≡ get_or faces i 0 = omega arith in
    ap (λ (t : List ℕ). set t (get_or faces i 0) 1) e ∙ marks_set (take i faces) 0 n (get_or faces i 0) ∙ ap
    (λ (k : ℕ). marks (take i faces ++ (k ∷ [])) 0 n) z ∙ ap (λ (t : List ℕ). marks t 0 n) (sym s)

-- a store at an entry that is not 1 makes one more
pub set_new : (w : List ℕ) (k : ℕ) → k < length w → (get_or w k 0 ≡ 1 → ⊥) → count (eqb 1) (set w k 1) ≡ 1 + count (eqb 1) w
set_new [] k l h = absurd (not-suc-le-zero l)
set_new (x ∷ w) zero l h =
    let t : bit (eqb 1 x) ≡ 0 = ap bit (ne_eqb 1 x (λ (e : 1 ≡ x). h (sym e))) in
    omega arith
set_new (x ∷ w) (suc k) l h = let ih = set_new w k (le_of_suc-le-suc l) h in omega arith
