-- Looking out and in: a seed looks out, any other face opposite to its parent. Assumes nothing.
use Prim.Native.Nat.{ℕ, zero, suc, ◌≤◌, ◌<◌}
use mathlib.Core.Path.{◌≡◌, refl, sym, ap, ◌∙◌}
use mathlib.Core.Logic.{⊎_elim}
use mathlib.Core.Bool.{Bool, true, false, not}
use native.Mathlib.Omega.{arith}
use lib.Dec.{ltb}
use borrow.Author.Tests.{ltb-true, lt-ltb, le-ltb}
use Rattle.lists.proofs.Bools.{either}
use Rattle.origins.specs.Sides.{out_after, in_after, looks_out, looks_in}

module _ (parent : ℕ → ℕ) where
  out_self : (m i : ℕ) → ltb (parent i) i ≡ false → out_after m parent i ≡ true
  unfolding out_after in_after
  out_self zero i h = refl
  out_self (suc m) i h = rw h

  in_self : (m i : ℕ) → ltb (parent i) i ≡ false → in_after m parent i ≡ false
  unfolding out_after in_after
  in_self zero i h = refl
  in_self (suc m) i h = rw h

  out_other : (m i : ℕ) → ltb (parent i) i ≡ true → out_after (suc m) parent i ≡ in_after m parent (parent i)
  unfolding out_after in_after
  out_other m i h = rw h

  in_other : (m i : ℕ) → ltb (parent i) i ≡ true → in_after (suc m) parent i ≡ out_after m parent (parent i)
  unfolding out_after in_after
  in_other m i h = rw h

  -- looking in is not looking out
  opposite : (m i : ℕ) → in_after m parent i ≡ not (out_after m parent i)
  unfolding out_after in_after
  opposite zero i = refl
  opposite (suc m) i = ⊎_elim
      (λ (t : ltb (parent i) i ≡ true). in_other m i t ∙ double (out_after m parent (parent i)) ∙ ap not (sym (opposite m (parent i))) ∙ ap not
      (sym (out_other m i t)))
      (λ (t : ltb (parent i) i ≡ false). in_self (suc m) i t ∙ ap not (sym (out_self (suc m) i t)))
      (either (ltb (parent i) i))
    where
      double : (b : Bool) → b ≡ not (not b)
      double true = refl
      double false = refl

  -- as many steps as the face's number are enough: more change nothing
  enough : (m n i : ℕ) → i ≤ m → i ≤ n → out_after m parent i ≡ out_after n parent i
  unfolding out_after in_after
  enough zero n i a b = let z : ltb (parent i) i ≡ false = le-ltb (parent i) i (omega arith) in sym (out_self n i z)
  enough (suc m) zero i a b = let z : ltb (parent i) i ≡ false = le-ltb (parent i) i (omega arith) in out_self (suc m) i z
  enough (suc m) (suc n) i a b = ⊎_elim
      (λ (t : ltb (parent i) i ≡ true).
      let l = ltb-true (parent i) i t in
      out_other m i t ∙ opposite m (parent i) ∙ ap not (enough m n (parent i) (omega arith) (omega arith)) ∙ sym (opposite n (parent i)) ∙ sym
      (out_other n i t))
      (λ (t : ltb (parent i) i ≡ false). out_self (suc m) i t ∙ sym (out_self (suc n) i t))
      (either (ltb (parent i) i))

  pub seed_out : (i : ℕ) → parent i ≡ i → looks_out parent i ≡ true
  unfolding looks_out
  seed_out i e = out_self i i (le-ltb (parent i) i (omega arith))

  -- any other face looks out when its parent looks in, and looks in when its parent looks out
  module _ (i : ℕ) (l : parent i < i) where
    one_more : (k : ℕ) → i ≡ suc k → out_after i parent i ≡ not (out_after (parent i) parent (parent i))
    one_more k e =
        ap (λ (m : ℕ). out_after m parent i) e
        ∙ out_other k i (lt-ltb (parent i) i l)
        ∙ opposite k (parent i)
        ∙ ap not (enough k (parent i) (parent i) (omega arith) (omega arith))

    other_not : looks_out parent i ≡ not (looks_out parent (parent i))
    unfolding looks_out
    other_not = go i refl
      where
        go : (j : ℕ) → i ≡ j → out_after i parent i ≡ not (out_after (parent i) parent (parent i))
        go zero e = absurd (omega arith)
        go (suc k) e = one_more k e

    pub other_out : looks_out parent i ≡ looks_in parent (parent i)
    unfolding looks_out looks_in
    other_out = other_not ∙ sym (opposite (parent i) (parent i))

    pub other_in : looks_in parent i ≡ looks_out parent (parent i)
    unfolding looks_out looks_in
    other_in = opposite i i ∙ ap not other_not ∙ twice (out_after (parent i) parent (parent i))
      where
        twice : (b : Bool) → not (not b) ≡ b
        twice true = refl
        twice false = refl

  pub in_not_out : (i : ℕ) → looks_in parent i ≡ not (looks_out parent i)
  unfolding looks_out looks_in
  in_not_out i = opposite i i

  pub seed_in_lem : (i : ℕ) → parent i ≡ i → looks_in parent i ≡ false
  seed_in_lem i e = in_not_out i ∙ ap not (seed_out i e)

-- ---- only the parents of the face and of those before it count
module _ (p q : ℕ → ℕ) where
  abbrev Agree : ℕ → Type 0
  Agree i = (j : ℕ) → j ≤ i → p j ≡ q j

  out_congr : (m i : ℕ) → Agree i → out_after m p i ≡ out_after m q i
  unfolding out_after in_after
  out_congr zero i h = refl
  out_congr (suc m) i h = ⊎_elim
      (λ (t : ltb (q i) i ≡ true).
      let l = ltb-true (q i) i t in
      let e = h i (omega arith) in
      let t' : ltb (p i) i ≡ true = ap (λ (z : ℕ). ltb z i) e ∙ t in
      out_other p m i t' ∙ ap (λ (z : ℕ). in_after m p z) e ∙ opposite p m (q i) ∙ ap not (out_congr m (q i) (λ j k. h j (omega arith))) ∙ sym
      (opposite q m (q i)) ∙ sym (out_other q m i t))
      (λ (t : ltb (q i) i ≡ false).
      let t' : ltb (p i) i ≡ false = ap (λ (z : ℕ). ltb z i) (h i (omega arith)) ∙ t in
      out_self p (suc m) i t' ∙ sym (out_self q (suc m) i t))
      (either (ltb (q i) i))

  pub looks_in_congr : (i : ℕ) → Agree i → looks_in p i ≡ looks_in q i
  unfolding looks_in
  looks_in_congr i h = opposite p i i ∙ ap not (out_congr i i h) ∙ sym (opposite q i i)
