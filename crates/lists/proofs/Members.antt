-- Members of a list, numbers below a limit, and those that pass a test. Assumes nothing.
use Prim.Native.Nat.{ℕ, zero, suc, ◌+◌, ◌≤◌, ◌<◌}
use mathlib.Core.Path.{◌≡◌, refl, sym, ap, ◌∙◌, subst}
use mathlib.Core.Logic.{⊎_elim}
use mathlib.Core.Bool.{Bool, true, false, cond, ◌&&◌}
use mathlib.Core.List.{List, [], ◌∷◌}
use native.Mathlib.Omega.{arith}
use lib.Dec.{eqb}
use lib.ListN.{length, take, drop, get_or, length-drop}
use lib.Seq.{get_or-take, get_or-drop, length-take-le}
use borrow.Author.Tests.{eqb-true, eq-eqb}
use Rattle.lists.specs.Lists.{bit, count, up_from}
use Rattle.lists.specs.Members.{In, Below, only}
use Rattle.lists.proofs.Bools.{either, not-true, true_not_false, and_true, and_false}

-- ---- members, by counting
pub in_head : (x : ℕ) (xs : List ℕ) → In x (x ∷ xs)
in_head x xs = rw (eq-eqb x x refl) (omega arith)

pub in_at : (xs : List ℕ) (m : ℕ) → m < length xs → In (get_or xs m 0) xs
in_at [] m h = absurd (omega arith)
in_at (x ∷ xs) zero h = in_head x xs
in_at (x ∷ xs) (suc m) h = let i = in_at xs m (omega arith) in omega arith

-- a member is the first one or stands in the rest
pub in_cases : (P : ℕ → Type 0) (x : ℕ) (xs : List ℕ) → P x → ((k : ℕ) → In k xs → P k) → (k : ℕ) → In k (x ∷ xs) → P k
in_cases P x xs here later k h = ⊎_elim
    (λ (t : eqb k x ≡ true). subst P (sym (eqb-true k x t)) here)
    (λ (t : eqb k x ≡ false). later k (let z : bit (eqb k x) ≡ 0 = ap bit t in omega arith))
    (either (eqb k x))

-- ---- numbers below n
pub below_none : (n : ℕ) → Below n []
below_none n k h = absurd (omega arith)

module _ (n j : ℕ) (js : List ℕ) where
  pub below_more : j < n → Below n js → Below n (j ∷ js)
  below_more h b = in_cases (λ (k : ℕ). k < n) j js h b

  pub below_first : Below n (j ∷ js) → j < n
  below_first b = b j (in_head j js)

  pub below_rest : Below n (j ∷ js) → Below n js
  below_rest b k h = b k (omega arith)

-- the k-th of the m words from `at` on
pub below_part : (n : ℕ) (w : List ℕ) (at m k : ℕ) → Below n (take m (drop at w)) → k < m → at + m ≤ length w → get_or w (at + k) 0 < n
below_part n w at m k below h long =
    let size : length (take m (drop at w)) ≡ m = length-take-le m (drop at w) (simp length-drop (omega arith)) in
    subst (λ (j : ℕ). j < n) (get_or-take m (drop at w) k 0 h ∙ get_or-drop at w k 0)
    (below (get_or (take m (drop at w)) k 0) (in_at (take m (drop at w)) k (omega arith)))

pub up_below : (n i m : ℕ) → i + m ≤ n → Below n (up_from i m)
unfolding up_from
up_below n i zero h = below_none n
up_below n i (suc m) h = below_more n i (up_from (i + 1) m) (omega arith) (up_below n (i + 1) m (omega arith))

-- ---- leaving out
module _ (test : ℕ → Bool) where
  module _ (k : ℕ) where
    pub only_count : test k ≡ true → (xs : List ℕ) → count (eqb k) (only test xs) ≡ count (eqb k) xs
    unfolding only
    only_count t [] = refl
    only_count t (x ∷ xs) = go (test x) refl (only_count t xs)
      where
        go : (b : Bool) → test x ≡ b → count (eqb k) (only test xs) ≡ count (eqb k) xs → count (eqb k) (cond b (x ∷ only test xs) (only test xs))
            ≡ count (eqb k) (x ∷ xs)
        go true e ih = omega arith
        go false e ih =
            let z : eqb k x ≡ false = not-true (λ q. true_not_false t (ap test (eqb-true k x q) ∙ e)) in
            rw z (omega arith)

    pub only_none : test k ≡ false → (xs : List ℕ) → count (eqb k) (only test xs) ≡ 0
    unfolding only
    only_none t [] = refl
    only_none t (x ∷ xs) = go (test x) refl (only_none t xs)
      where
        go : (b : Bool) → test x ≡ b → count (eqb k) (only test xs) ≡ 0 → count (eqb k) (cond b (x ∷ only test xs) (only test xs)) ≡ 0
        go true e ih =
            let z : eqb k x ≡ false = not-true (λ q. true_not_false e (ap test (sym (eqb-true k x q)) ∙ t)) in
            rw z (omega arith)
        go false e ih = ih

  pub only_at_most : (k : ℕ) (xs : List ℕ) → count (eqb k) (only test xs) ≤ count (eqb k) xs
  only_at_most k xs = ⊎_elim
      (λ (t : test k ≡ true). let e = only_count k t xs in omega arith)
      (λ (t : test k ≡ false). let e = only_none k t xs in omega arith)
      (either (test k))

  pub only_fewer : (k : ℕ) (xs : List ℕ) → In k (only test xs) → In k xs
  only_fewer k xs h = let l = only_at_most k xs in omega arith

pub only_below : (test : ℕ → Bool) (n : ℕ) (ks : List ℕ) → Below n ks → Below n (only test ks)
only_below test n ks b k h = b k (only_fewer test k ks h)

pub only_both : (p q : ℕ → Bool) (xs : List ℕ) → only p (only q xs) ≡ only (λ (k : ℕ). p k && q k) xs
unfolding only
only_both p q [] = refl
only_both p q (x ∷ xs) = go (q x) (only_both p q xs)
  where
    go : (b : Bool) → only p (only q xs) ≡ only (λ (k : ℕ). p k && q k) xs
        → only p (cond b (x ∷ only q xs) (only q xs)) ≡ cond (p x && b) (x ∷ only (λ (k : ℕ). p k && q k) xs) (only (λ (k : ℕ). p k && q k) xs)
    go true ih = rw (and_true (p x), ih)
    go false ih = rw (and_false (p x)) ih

pub only_all : (test : ℕ → Bool) → ((k : ℕ) → test k ≡ true) → (xs : List ℕ) → only test xs ≡ xs
unfolding only
only_all test h [] = refl
only_all test h (x ∷ xs) = rw (h x, only_all test h xs)

-- ---- one point
module _ (test : ℕ → Bool) (k : ℕ) (ks : List ℕ) where
  pub only_skip : test k ≡ false → only test (k ∷ ks) ≡ only test ks
  unfolding only
  only_skip h = rw h

  pub only_take : test k ≡ true → only test (k ∷ ks) ≡ k ∷ only test ks
  unfolding only
  only_take h = rw h
