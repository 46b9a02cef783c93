-- The least of some numbers, as a fold of `lt` finds it, and that the least root is the root of the least, found among
-- the near alone. Assumes nothing.
use mathlib.Core.Path.{◌≡◌, refl, sym, ap, ◌∙◌, subst}
use mathlib.Core.Bool.{Bool, true, false, cond, not}
use mathlib.Core.List.{List, [], ◌∷◌}
use mathlib.Core.Logic.{◌⊎◌, inl, inr}
use Prim.Native.Nat.{ℕ, ◌≤◌, ◌<◌}
use native.Mathlib.Omega.{arith}
use borrow.Author.Tests.{eq-eqb, eqb-true, eqb-false}
use lib.Dec.{T, eqb}
use lib.Ieee.{Float, inf, binary32, lt, le, fits, is_nan}
use Rattle.numbers.specs.Root.{root}
use Rattle.numbers.proofs.OrderLaws.{unsigned_number_lem, unsigned_le, le_refl, le_trans, le_right, le_top, lt_le, not_lt_le, le_or_lt, le_antisymmetric}
use Rattle.numbers.proofs.RootMonotone.{root_monotone}
use Rattle.lists.specs.Lists.{up_from, count, bit}
use Rattle.lists.specs.Members.{Below}
use Rattle.spatial_hash.proofs.Nearby.{up_in, up_has}
use Rattle.spatial_hash.proofs.Squares.{Good, root_good}

-- of the keys of the points js that are not point i, and of d, the least
module _ (key : ℕ → Float) (i : ℕ) where
  abbrev lesser_of : ℕ → Float → Float
  lesser_of j d = cond (eqb i j) d (cond (lt (key j) d) (key j) d)

  unfoldable pub least_of : Float → List ℕ → Float
  least_of d [] = d
  least_of d (j ∷ js) = least_of (lesser_of j d) js

  -- it is one of them
  pub least_is : (P : Float → Type 0) (d : Float) (js : List ℕ) → P d → ((j : ℕ) → 1 ≤ count (eqb j) js → (i ≡ j → ⊥) → P (key j)) → P (least_of d js)
  unfolding least_of
  least_is P d [] h k = h
  least_is P d (j ∷ js) h k = least_is P (lesser_of j d) js (one (eqb i j) refl (lt (key j) d)) (λ (m : ℕ) (c : 1 ≤ count (eqb m) js). k m (omega arith))
    where
      one : (b : Bool) → eqb i j ≡ b → (t : Bool) → P (cond b d (cond t (key j) d))
      one true e t = h
      one false e true = k j (rw (eq-eqb j j refl) (omega arith)) (eqb-false i j e)
      one false e false = h

  -- and not above any of them
  lesser_le : (j : ℕ) (d : Float) → T (not (is_nan d)) → T (le (lesser_of j d) d)
  lesser_le j d f = go (eqb i j) (lt (key j) d) refl
    where
      go : (b t : Bool) → lt (key j) d ≡ t → T (le (cond b d (cond t (key j) d)) d)
      go true t e = le_refl d f
      go false true e = lt_le (key j) d (subst T (sym e) tt)
      go false false e = le_refl d f

  lesser_key : (j : ℕ) (d : Float) → T (not (is_nan d)) → T (not (is_nan (key j))) → (i ≡ j → ⊥) → T (le (lesser_of j d) (key j))
  lesser_key j d f g two = go (eqb i j) refl (lt (key j) d) refl
    where
      go : (b : Bool) → eqb i j ≡ b → (t : Bool) → lt (key j) d ≡ t → T (le (cond b d (cond t (key j) d)) (key j))
      go true e t s = absurd (two (eqb-true i j e))
      go false e true s = le_refl (key j) g
      go false e false s = not_lt_le (key j) d g f (subst (λ (b : Bool). T (not b)) (sym s) tt)

  lesser_number : (j : ℕ) (d : Float) → T (not (is_nan d)) → T (not (is_nan (key j))) → T (not (is_nan (lesser_of j d)))
  lesser_number j d f g = go (eqb i j) (lt (key j) d)
    where
      go : (b t : Bool) → T (not (is_nan (cond b d (cond t (key j) d))))
      go true t = f
      go false true = g
      go false false = f

  abbrev Numbers : List ℕ → Type 0
  Numbers js = (j : ℕ) → 1 ≤ count (eqb j) js → T (not (is_nan (key j)))

  head_number : (j : ℕ) (js : List ℕ) → Numbers (j ∷ js) → T (not (is_nan (key j)))
  head_number j js g = g j (rw (eq-eqb j j refl) (omega arith))

  least_start : (d : Float) (js : List ℕ) → T (not (is_nan d)) → Numbers js → T (le (least_of d js) d)
  unfolding least_of
  least_start d [] f g = le_refl d f
  least_start d (j ∷ js) f g =
      le_trans (least_of (lesser_of j d) js) (lesser_of j d) d
      (least_start (lesser_of j d) js (lesser_number j d f (head_number j js g)) (λ (m : ℕ) (c : 1 ≤ count (eqb m) js). g m (omega arith))) (lesser_le j d f)

  pub least_le : (d : Float) (js : List ℕ) → T (not (is_nan d)) → Numbers js → (k : ℕ) → 1 ≤ count (eqb k) js → (i ≡ k → ⊥) → T (le (least_of d js) (key k))
  unfolding least_of
  least_le d [] f g k c two = absurd (omega arith)
  least_le d (j ∷ js) f g k c two = go (eqb k j) refl (least_le (lesser_of j d) js number later k)
    where
      number : T (not (is_nan (lesser_of j d)))
      number = lesser_number j d f (head_number j js g)

      later : Numbers js
      later m e = g m (omega arith)

      go : (b : Bool) → eqb k j ≡ b → (1 ≤ count (eqb k) js → (i ≡ k → ⊥) → T (le (least_of (lesser_of j d) js) (key k)))
          → T (le (least_of (lesser_of j d) js) (key k))
      go true e r =
          let same : k ≡ j = eqb-true k j e in
          subst (λ (m : ℕ). T (le (least_of (lesser_of j d) js) (key m))) (sym same)
          (le_trans (least_of (lesser_of j d) js) (lesser_of j d) (key j) (least_start (lesser_of j d) js number later)
          (lesser_key j d f (head_number j js g) (λ (q : i ≡ j). two (q ∙ sym same))))
      go false e r = let z : bit (eqb k j) ≡ 0 = ap bit e in r (omega arith) two

-- keys that are the same
pub least_ext : (key key' : ℕ → Float) (i : ℕ) (d : Float) (js : List ℕ) → ((j : ℕ) → 1 ≤ count (eqb j) js → key j ≡ key' j) → least_of key i d js
    ≡ least_of key' i d js
unfolding least_of
least_ext key key' i d [] h = refl
least_ext key key' i d (j ∷ js) h =
    ap (λ (x : Float). least_of key i (cond (eqb i j) d (cond (lt x d) x d)) js) (h j (rw (eq-eqb j j refl) (omega arith)))
    ∙ least_ext key key' i (lesser_of key' i j d) js (λ (m : ℕ) (c : 1 ≤ count (eqb m) js). h m (omega arith))

pub top_good : Good (inf false)
unfolding fits
top_good = (tt, tt)

-- ---- the least root is the root of the least, if all that are not above a limit were looked at and the least is not
-- above it
module _ (key : ℕ → Float) (n i : ℕ) (js : List ℕ) (limit : Float) (good : (j : ℕ) → j < n → Good (key j)) (below : Below n js)
    (near : (j : ℕ) → j < n → T (le (key j) limit) → 1 ≤ count (eqb j) js) where
  abbrev square : Float
  square = least_of key i (inf false) js

  abbrev away : ℕ → Float
  away j = root (key j)

  abbrev least : Float
  least = least_of away i (inf false) (up_from 0 n)

  point : (j : ℕ) → 1 ≤ count (eqb j) (up_from 0 n) → j < n
  point j c = let s = up_in j 0 n c in omega arith

  square_good : Good square
  square_good = least_is key i Good (inf false) js top_good (λ (j : ℕ) (c : 1 ≤ count (eqb j) js) _. good j (below j c))

  least_good : Good least
  least_good = least_is away i Good (inf false) (up_from 0 n) top_good (λ (j : ℕ) (c : 1 ≤ count (eqb j) (up_from 0 n)) _. root_good (key j) (good j (point j c)))

  number : (x : Float) → Good x → T (not (is_nan x))
  number x g = unsigned_number_lem x g.1

  -- not above the square of any point
  under : T (le square limit) → (j : ℕ) → j < n → (i ≡ j → ⊥) → T (le square (key j))
  under l j h two = go (le_or_lt (key j) limit (number (key j) (good j h)) (le_right square limit l))
    where
      go : T (le (key j) limit) ⊎ T (lt limit (key j)) → T (le square (key j))
      go (inl k) = least_le key i (inf false) js (number (inf false) top_good) (λ (m : ℕ) (c : 1 ≤ count (eqb m) js). number (key m) (good m (below m c))) j
          (near j h k) two
      go (inr k) = le_trans square limit (key j) l (lt_le limit (key j) k)

  pub root_least : T (le square limit) → root square ≡ least
  root_least l =
      le_antisymmetric binary32 (root square) least (root_good square square_good).0 least_good.0 (root_good square square_good).1
      least_good.1 lower upper
    where
      top_number : T (not (is_nan (inf false)))
      top_number = number (inf false) top_good

      lower : T (le (root square) least)
      lower =
          least_is away i (λ (x : Float). T (le (root square) x)) (inf false) (up_from 0 n)
          (le_top (root square) (number (root square) (root_good square square_good)))
          (λ (j : ℕ) (c : 1 ≤ count (eqb j) (up_from 0 n)) (two : i ≡ j → ⊥). root_monotone square (key j) square_good.0 (good j (point j c)).0
          (unsigned_le square square_good.1) (under l j (point j c) two))

      upper : T (le least (root square))
      upper =
          least_is key i (λ (x : Float). T (le least (root x))) (inf false) js (unfold root in le_top least (number least least_good))
          (λ (j : ℕ) (c : 1 ≤ count (eqb j) js) (two : i ≡ j → ⊥). least_le away i (inf false) (up_from 0 n) top_number
          (λ (m : ℕ) (e : 1 ≤ count (eqb m) (up_from 0 n)). number (away m) (root_good (key m) (good m (point m e)))) j
          (up_has j 0 n (omega arith) (omega (arith, below j c))) two)
