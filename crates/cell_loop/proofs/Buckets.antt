-- A list in which a key never falls is the lists of its keys, one after the other. Assumes nothing.
use Prim.Native.Nat.{ℕ, zero, suc, ◌+◌, ◌≤◌, ◌<◌}
use native.Mathlib.Omega.{arith}
use native.Mathlib.Decide.{dec_lt}
use mathlib.Core.Path.{◌≡◌, refl, sym, ap, ◌∙◌}
use mathlib.Core.Bool.{Bool, true, false, cond, ◌&&◌}
use mathlib.Core.List.{List, [], ◌∷◌, ◌++◌}
use lib.Dec.{eqb, leb, ltb}
use borrow.Author.Tests.{eqb-true, leb-true, eq-eqb, ne_eqb, le-leb, lt-leb}
use borrow.Author.Tests.{lt-ltb, le-ltb}
use Rattle.nearby.proofs.Ordered.{Sorted}
use Rattle.cell_loop.specs.FindNeighbors.{extended, is_at}
use Rattle.lists.specs.Lists.{up_from}
use Rattle.lists.proofs.Bools.{and_both}
use Rattle.lists.specs.Members.{only, In}
use Rattle.lists.proofs.Members.{in_head}

pub only_ext : (p q : ℕ → Bool) → ((k : ℕ) → p k ≡ q k) → (xs : List ℕ) → only p xs ≡ only q xs
only_ext p q h xs = ap (λ (t : ℕ → Bool). only t xs) (λ i k. h k i)

pub extended_ext : (f h : ℕ → List ℕ) → ((k : ℕ) → f k ≡ h k) → (xs : List ℕ) → extended f xs ≡ extended h xs
extended_ext f h e xs = ap (λ (t : ℕ → List ℕ). extended t xs) (λ i k. e k i)

none_only : (t : ℕ → Bool) (xs : List ℕ) → ((k : ℕ) → In k xs → t k ≡ false) → only t xs ≡ []
unfolding only
none_only t [] h = refl
none_only t (x ∷ xs) h = rw (h x (in_head x xs)) (none_only t xs (λ k l. h k (omega arith)))

-- ---- of the numbers that pass p or q, those that pass p come first
module _ (less : ℕ → ℕ → Bool) (p q : ℕ → Bool) (apart : (k : ℕ) → p k ≡ true → q k ≡ true → ⊥)
    (first : (i j : ℕ) → less i j ≡ true → q i ≡ true → p j ≡ true → ⊥) where
  split : (xs : List ℕ) → Sorted less xs → only (λ k. cond (p k) true (q k)) xs ≡ only p xs ++ only q xs
  unfolding only
  split [] s = refl
  split (x ∷ xs) s = go (p x) (q x) refl refl (split xs s.1)
    where
      go : (a b : Bool) → p x ≡ a → q x ≡ b → only (λ k. cond (p k) true (q k)) xs ≡ only p xs ++ only q xs
          → cond (cond a true b) (x ∷ only (λ k. cond (p k) true (q k)) xs) (only (λ k. cond (p k) true (q k)) xs)
          ≡ cond a (x ∷ only p xs) (only p xs) ++ cond b (x ∷ only q xs) (only q xs)
      go true true e f ih = absurd (apart x e f)
      go true false e f ih = ap (λ (l : List ℕ). x ∷ l) ih
      go false false e f ih = ih
      go false true e f ih =
          let none : only p xs ≡ [] = none_only p xs (λ k l. passes k (p k) refl l) in
          ap (λ (l : List ℕ). x ∷ l) (ih ∙ ap (λ (l : List ℕ). l ++ only q xs) none)
          ∙ ap (λ (l : List ℕ). l ++ (x ∷ only q xs)) (sym none)
        where
          passes : (k : ℕ) (b : Bool) → p k ≡ b → In k xs → p k ≡ false
          passes k true e l = absurd (first x k (s.0 k l) f e)
          passes k false e l = e

-- ---- the steps from k on, m of them
abbrev pub among : ℕ → ℕ → ℕ → ℕ → ℕ → Bool
among range centre k m v = leb (centre + k) (v + range) && ltb (v + range) (centre + k + m)

none_among : (range centre k v : ℕ) → among range centre k 0 v ≡ false
none_among range centre k v = go (dec_lt (v + range) (centre + k))
  where
    go : Dec (v + range < centre + k) → among range centre k 0 v ≡ false
    go (yes l) = rw (lt-leb (centre + k) (v + range) l) refl
    go (no l) =
        rw (le-leb (centre + k) (v + range) (omega arith), le-ltb (v + range) (centre + k + 0) (omega arith)) refl

-- the first step, or one of the others
among_step : (range centre k m v : ℕ)
    → among range centre k (suc m) v ≡ cond (eqb (v + range) (centre + k)) true (among range centre (k + 1) m v)
among_step range centre k m v = go (dec_lt (v + range) (centre + k)) (dec_lt (centre + k) (v + range))
  where
    go : Dec (v + range < centre + k) → Dec (centre + k < v + range)
        → among range centre k (suc m) v ≡ cond (eqb (v + range) (centre + k)) true (among range centre (k + 1) m v)
    go (yes l) d =
        rw (
          lt-leb (centre + k) (v + range) l,
          ne_eqb (v + range) (centre + k) (λ e. omega arith),
          lt-leb
              (centre + (k + 1)) (v + range) (omega arith),
        ) refl
    go (no l) (yes h) =
        let e : centre + k + suc m ≡ centre + (k + 1) + m = omega arith in
        rw (
          le-leb (centre + k) (v + range) (omega arith),
          ne_eqb (v + range) (centre + k) (λ e. omega arith),
          le-leb
              (centre + (k + 1)) (v + range) (omega arith),
        ) (ap (ltb (v + range)) e)
    go (no l) (no h) =
        rw (
          le-leb (centre + k) (v + range) (omega arith),
          lt-ltb (v + range) (centre + k + suc m)
              (omega arith),
          eq-eqb (v + range) (centre + k) (omega arith),
        ) refl

and_cond : (t u b : Bool) → (cond t true u && b) ≡ cond (t && b) true (u && b)
and_cond true true true = refl
and_cond true true false = refl
and_cond true false true = refl
and_cond true false false = refl
and_cond false u b = refl

module _ (range centre : ℕ) (key : ℕ → ℕ) (others : ℕ → Bool) (less : ℕ → ℕ → Bool)
    (rises : (i j : ℕ) → less i j ≡ true → others i ≡ true → others j ≡ true → key i ≤ key j) where
  abbrev here : ℕ → ℕ → Bool
  here k j = eqb (key j + range) (centre + k) && others j

  abbrev later : ℕ → ℕ → ℕ → Bool
  later k m j = among range centre k m (key j) && others j

  later_from : (k m j : ℕ) → later k m j ≡ true → (centre + k ≤ key j + range) × (others j ≡ true)
  later_from k m j h =
      let b = and_both {p = among range centre k m (key j)} {q = others j} h in
      let c = and_both {p = leb (centre + k) (key j + range)} {q = ltb (key j + range) (centre + k + m)} b.0 in
      (leb-true (centre + k) (key j + range) c.0, b.1)

  here_at : (k j : ℕ) → here k j ≡ true → (key j + range ≡ centre + k) × (others j ≡ true)
  here_at k j h =
      let b = and_both {p = eqb (key j + range) (centre + k)} {q = others j} h in
      (eqb-true (key j + range) (centre + k) b.0, b.1)

  apart : (k m j : ℕ) → here k j ≡ true → later (k + 1) m j ≡ true → ⊥
  apart k m j h l =
      let a = here_at k j h in
      let b = later_from (k + 1) m j l in
      omega arith

  first : (k m i j : ℕ) → less i j ≡ true → later (k + 1) m i ≡ true → here k j ≡ true → ⊥
  first k m i j o l h =
      let a = here_at k j h in
      let b = later_from (k + 1) m i l in
      let r = rises i j o b.1 a.1 in
      omega arith

  pub buckets : (xs : List ℕ) → Sorted less xs → (m k : ℕ)
      → only (later k m) xs ≡ extended (λ a. only (λ j. is_at range centre a (key j) && others j) xs) (up_from k m)
  unfolding up_from extended is_at
  buckets xs s zero k = none_only (later k 0) xs (λ j l. rw (none_among range centre k (key j)) refl)
  buckets xs s (suc m) k =
      only_ext (later k (suc m)) (λ j. cond (here k j) true (later (k + 1) m j))
      (λ j. ap (λ (t : Bool). t && others j) (among_step range centre k m (key j))
      ∙ and_cond (eqb (key j + range) (centre + k)) (among range centre (k + 1) m (key j)) (others j)) xs
      ∙ split less (here k) (later (k + 1) m) (apart k m) (first k m) xs s
      ∙ ap (λ (l : List ℕ). only (here k) xs ++ l) (buckets xs s m (k + 1))
