-- A list whose words change places has the same words. Assumes nothing.
use Prim.Native.Nat.{ℕ, zero, suc, ◌+◌, ◌-◌, ◌≤◌, ◌<◌}
use mathlib.Core.Path.{◌≡◌, refl, ap, ◌∙◌, sym}
use mathlib.Core.Logic.{⊎_elim}
use mathlib.Core.Bool.{Bool, true, false}
use mathlib.Core.List.{List, [], ◌∷◌, ◌++◌}
use native.Mathlib.Omega.{arith}
use lib.Dec.{eqb}
use lib.ListN.{length, get_or, set, take, drop, length-set, take-append-drop}
use borrow.Rule.Slice.PartMut.{put_mid}
use Rattle.axis_sort.proofs.Parts.{part_2, whole_2, size_2}
use lib.Seq.{get_or-set_same, get_or-set_other}
use borrow.Author.Tests.{eqb-true, eqb-false}
use Rattle.lists.specs.Lists.{bit, count}
use Rattle.lists.proofs.Bools.{either}
use Rattle.lists.proofs.Counts.{count_append}
use Rattle.listed_boxes.specs.Inner.Boxes.{SameWords}

pub same_self : (w : List ℕ) → SameWords w w
same_self w = record { size = refl; counts = λ k. refl }

pub same_on : {w u v : List ℕ} → SameWords w u → SameWords u v → SameWords w v
same_on a b = record { size = b.size ∙ a.size; counts = λ k. b.counts k ∙ a.counts k }

-- ---- two words change places

count_set : (p : ℕ → Bool) (xs : List ℕ) (i v : ℕ) → i < length xs → count p (set xs i v) + bit (p (get_or xs i 0)) ≡ count p xs + bit (p v)
count_set p [] i v h = absurd (omega arith)
count_set p (x ∷ xs) zero v h = omega arith
count_set p (x ∷ xs) (suc i) v h = let ih = count_set p xs i v (omega arith) in omega arith

module _ (w : List ℕ) (i j : ℕ) (hi : i < length w) (hj : j < length w) where
  abbrev one : List ℕ
  one = set w i (get_or w j 0)

  abbrev pub swapped : List ℕ
  swapped = set one j (get_or w i 0)

  one_at : get_or one j 0 ≡ get_or w j 0
  one_at = ⊎_elim
      (λ (t : eqb j i ≡ true). ap (λ (x : ℕ). get_or one x 0) (eqb-true j i t) ∙ get_or-set_same w i (get_or w j 0) 0 hi)
      (λ (t : eqb j i ≡ false). get_or-set_other w i j (get_or w j 0) 0 (eqb-false j i t))
      (either (eqb j i))

  pub swap_same : SameWords w swapped
  swap_same = record {
    size = length-set one j (get_or w i 0) ∙ length-set w i (get_or w j 0);
    counts = λ k.
        let a = count_set (eqb k) w i (get_or w j 0) hi in
        let b = count_set (eqb k) one j (get_or w i 0) (omega (arith, length-set w i (get_or w j 0))) in
        let e : bit (eqb k (get_or one j 0)) ≡ bit (eqb k (get_or w j 0)) = ap (λ (x : ℕ). bit (eqb k x)) one_at in
        omega arith;
  }

-- ---- the loop of `move_below`: the first `kept` of m words are below

pub record Moving (w u : List ℕ) (kept m : ℕ) : Type 0 where
  pub words : SameWords w u
  pub most : kept ≤ m
  pub inside : m ≤ length w

pub move_start : {w : List ℕ} → Moving w w 0 0
move_start {w} = record { words = same_self w; most = omega arith; inside = omega arith }

pub move_step : {w u : List ℕ} {kept m : ℕ} (next : ℕ) → next ≤ kept + 1 → Moving w u kept m → m < length u
    → Moving w (set (set u m (get_or u kept 0)) kept (get_or u m 0)) next (m + 1)
move_step {w} {u} {kept} {m} next n k h = record {
  words = same_on k.words (swap_same u m kept h (omega (arith, k.most)));
  most = omega (arith, k.most);
  inside = omega (arith, k.words.size);
}

-- ---- the two parts of a list are put in order, one after the other

module _ (o a : List ℕ) (m : ℕ) (h : m ≤ length o) (first : SameWords (take m o) a) where
  pub parts_same : (b : List ℕ) → SameWords (take (length (a ++ drop m o) - m) (drop m (a ++ drop m o))) b
      → SameWords o (put_mid m (length (a ++ drop m o) - m) (a ++ drop m o) b)
  parts_same b second = record {
    size = size_2 o a m h first.size b second.size;
    counts = λ k.
        let e = part_2 o a m h first.size in
        let c : count (eqb k) b ≡ count (eqb k) (drop m o) = second.counts k ∙ ap (count (eqb k)) e in
        ap (count (eqb k)) (whole_2 o a m h first.size b) ∙ count_append (eqb k) a b ∙ rw (c, first.counts k)
        (sym (count_append (eqb k) (take m o) (drop m o)) ∙ ap (count (eqb k)) (take-append-drop m o));
  }
