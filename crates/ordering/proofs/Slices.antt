-- Before the first face and after the last: words linked and planted, and the order copied. Assumes nothing.
use Prim.Native.Nat.{ℕ, ◌+◌, ◌*◌, ◌≤◌, ◌<◌}
use mathlib.Core.Path.{◌≡◌, refl, sym, ap, ◌∙◌}
use mathlib.Core.Logic.{◌⊎◌, inl, inr}
use mathlib.Core.Bool.{Bool, true, false, cond}
use mathlib.Core.List.{List, [], ◌++◌}
use native.Mathlib.Omega.{arith}
use lib.Dec.{eqb}
use lib.ListN.{length, get_or, set, take, drop, length-drop}
use lib.Seq.{get_or-take, get_or-drop, length-take-le, ext_get_or}
use Rattle.std.proofs.lemmas.List.Edits.{paste_more}
use Rattle.lists.specs.Lists.{bit}
use Rattle.lists.proofs.Bools.{true_not_false}
use Rattle.lists.proofs.Counts.{false_any}
use Rattle.patch.specs.Lay.{Face, face}
use Rattle.patch.specs.Shape.{has, touches}
use Rattle.orders.specs.Order.{neighbours, reached, joined, face_at, greedy, seeds, order_accepted}
use Rattle.orders.proofs.Totals.{same_length}
use Rattle.orders.proofs.Decide.{numbers_length, numbers_permute, greedy_permutes}
use Rattle.lists.specs.Lists.{up_from}
use Rattle.minima.specs.Inner.Minima.{Planted}
use Rattle.corners.specs.Corners.{Links}
use Rattle.corners.proofs.Chain.{linked_same}
use Rattle.offers.specs.Inner.Offers.{Faces}
use Rattle.placing.specs.Inner.Placing.{PlacedKept}
use Rattle.placing.proofs.Keeping.{value_left}
use Rattle.regions.specs.Inner.Ordering.{heads_end, reached_words_at, tree_at, placed_at}
use Rattle.ordering.specs.Inner.Ordering.{FacesInWords, OrderFound, FacesOrdered, order_told}
use Rattle.std.specs.Prelude.{Option, Some, None}

-- ---- before the first face
module _ (n faces : ℕ) (few : faces ≤ n) (w0 w1 w2 w3 : List ℕ) (zeros : (k : ℕ) → 6 * n ≤ k → k < 8 * n → get_or w1 k 0 ≡ 0)
    (beside : (k : ℕ) → (k < 6 * n) ⊎ (8 * n ≤ k) → get_or w1 k 0 ≡ get_or w0 k 0) (links : Links n (3 * faces) w1 w2)
    (planted : Planted (tree_at n) faces w2 w3) where
  abbrev corner : ℕ → ℕ
  corner s = get_or w1 s 0

  front : (k : ℕ) → k < heads_end n → get_or w3 k 0 ≡ get_or w2 k 0
  front k l = planted.outside k (inl (omega arith))

  module _ (fs : List Face) (told : FacesInWords faces fs w0) where
    pub start_faces : Faces faces corner (face_at fs)
    start_faces = record {
      are = λ g l.
          told.each g l ∙ (λ i. face
          (sym (beside (3 * g) (inl (omega arith))) i)
          (sym (beside (3 * g + 1) (inl (omega arith))) i)
          (sym (beside (3 * g + 2) (inl (omega arith))) i));
      different = λ g l. told.different g (let m = told.many in omega arith);
    }

    pub start_kept : PlacedKept n faces corner (face_at fs) [] w3
    unfolding reached joined
    start_kept = record {
      linked = linked_same n (3 * faces) (omega arith) w2 w3 front corner links.linked;
      used = λ x l.
          planted.outside (reached_words_at n + x) (inl (omega arith))
          ∙ links.outside (reached_words_at n + x) (inr (omega arith))
          ∙ zeros (reached_words_at n + x) (omega arith) (omega arith)
          ∙ sym (ap bit (false_any (λ j. touches x (face_at fs j)) [] refl));
      nodes = planted.nodes;
      values = λ g l. planted.leaves g l ∙ sym
          (value_left (face_at fs) faces [] g (false_any (eqb g) [] refl) (false_any (λ j. neighbours (face_at fs g) (face_at fs j)) [] refl));
      few = λ e h. absurd (true_not_false h (false_any (λ j. has e (face_at fs j)) [] refl));
    }

-- ---- copying: the first j numbers are the part's, and one more is stored
pub copied_next : (before part : List ℕ) (j : ℕ) → j < length before → j < length part
    → set (take j part ++ drop j before) j (get_or part j 0) ≡ take (j + 1) part ++ drop (j + 1) before
copied_next before part j room more =
    let here : 0 + j ≡ j = omega arith in
    let next : 0 + (j + 1) ≡ j + 1 = omega arith in
    ap (λ (k : ℕ). set (take j part ++ drop k before) k (get_or part j 0)) (sym here)
    ∙ paste_more before 0 part j 0 (omega arith) more ∙ ap (λ (k : ℕ). take (j + 1) part ++ drop k before) next

-- ---- after the last one
greedy_long : (fs : List Face) → length (greedy fs) ≡ length fs
greedy_long fs = same_length (length fs) (greedy fs) (up_from 0 (length fs)) (greedy_permutes fs) (numbers_permute (length fs)) ∙ numbers_length (length fs) 0

-- what was told says which way it went
pub told_order : (fs : List Face) (seeded : ℕ) → Some seeded ≡ order_told fs → (order_accepted fs ≡ true) × (seeded ≡ seeds fs)
told_order fs seeded e = go (order_accepted fs) e
  where
    go : (b : Bool) → Some seeded ≡ cond b (Some (seeds fs)) None → (b ≡ true) × (seeded ≡ seeds fs)
    go true e = (refl, cc)
    go false e = cc

pub told_none : (fs : List Face) → None ≡ order_told fs → order_accepted fs ≡ false
told_none fs e = go (order_accepted fs) e
  where
    go : (b : Bool) → None ≡ cond b (Some (seeds fs)) None → b ≡ false
    go true e = cc
    go false e = refl

module _ (n faces : ℕ) (fs : List Face) (many : length fs ≡ faces) (w : List ℕ) where
  copied : placed_at n + faces ≤ length w → order_accepted fs ≡ true → (r : Option ℕ) → OrderFound n fs r w → take faces (drop (placed_at n) w) ≡ greedy fs
  copied room t r f =
      let long : length (take faces (drop (placed_at n) w))
      ≡ faces = length-take-le faces (drop (placed_at n) w) (let d = length-drop (placed_at n) w in omega arith) in
      ext_get_or 0 (take faces (drop (placed_at n) w)) (greedy fs) (let g = greedy_long fs in omega arith)
      (λ j l.
      let b : j < faces = omega arith in
      get_or-take faces (drop (placed_at n) w) j 0 b ∙ get_or-drop (placed_at n) w j 0 ∙ f.order t j (omega arith))

  pub ordered_yes : (before after : List ℕ) (seeded : ℕ) → placed_at n + faces ≤ length w → OrderFound n fs (Some seeded) w
      → after ≡ take faces (drop (placed_at n) w) ++ drop faces before → FacesOrdered fs (Some seeded) before after
  ordered_yes before after seeded room f is =
      let yes = (told_order fs seeded f.decided).0 in
      record {
        decided = f.decided;
        ordered = λ t.
            is ∙ ap (λ (l : List ℕ). l ++ drop faces before) (copied room t (Some seeded) f)
            ∙ ap (λ (k : ℕ). greedy fs ++ drop k before) (sym many);
        untouched = λ h. absurd (true_not_false yes h);
      }

  pub ordered_no : (before : List ℕ) → OrderFound n fs None w → FacesOrdered fs None before before
  ordered_no before f = record {
    decided = f.decided;
    ordered = λ h. absurd (true_not_false h (told_none fs f.decided));
    untouched = λ _. refl;
  }
