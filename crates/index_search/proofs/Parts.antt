-- In an index that is the cloud's own the boxes hold their parts, and a search finds what a scan over all points does.
-- Assumes nothing.
use mathlib.Core.Path.{◌≡◌, refl, sym, ap, ◌∙◌, subst, subst⁻¹}
use mathlib.Core.Bool.{Bool, not}
use mathlib.Core.Logic.{dite}
use mathlib.Core.List.{List, [], ◌∷◌, ◌++◌, map, append_assoc}
use Prim.Native.Nat.{ℕ, zero, suc, ◌+◌, ◌-◌, ◌*◌, ◌/◌, ◌≤◌, ◌<◌}
use native.Mathlib.Decide.{dec_lt}
use native.Mathlib.Omega.{arith}
use borrow.Author.Tests.{le-leb, lt-leb}
use lib.Dec.{T, eqb}
use lib.Ieee.{Float, nan, binary32, of_bits, to_bits, is_nan, nan_bits}
use lib.Ieee.Bits.{of_bits-to_bits, nan_bits_is}
use lib.ListN.{length, get_or, take, drop, length-append, length-drop}
use lib.Seq.{length-take-le, get_or-drop, drop-drop, take_at, drop_at}
use Rattle.lists.specs.Lists.{count}
use Rattle.lists.specs.Members.{In}
use Rattle.numbers.proofs.OrderLaws.{finite_number}
use Rattle.points.specs.Points.{point_at}
use Rattle.axis_sort.specs.Axis.{coordinate_of}
use Rattle.axis_sort.specs.Halving.{halving}
use Rattle.kd_tree.specs.Boxes.{box_of, box_corners, least_on_axis, greatest_on_axis}
use Rattle.kd_tree.specs.Tree.{leaf_size, along, box_count_to}
use Rattle.nearest.specs.Parts.{NumbersOfPoints}
use Rattle.box_search.specs.Boxes.{float_at, boxes_below, secondAt, FiniteBetween, HeldInBox, Boxed, leaf, node}
use Rattle.index_search.specs.Inner.Indexed.{Width}
use Rattle.kd_tree.proofs.Counted.{along_count, along_length, split_count, split_length}
use Rattle.index_search.proofs.Widths.{few_boxes, many_boxes, halves}
use Rattle.box_search.proofs.Halves.{in_first, in_second}
use Rattle.kd_tree.proofs.Farthest.{Number, low_number, high_number}
use Rattle.index_search.proofs.Holding.{between}

abbrev bits : List Float → List ℕ
bits xs = map (to_bits binary32) xs

bits_append : (xs ys : List Float) → bits (xs ++ ys) ≡ bits xs ++ bits ys
bits_append [] ys = refl
bits_append (x ∷ xs) ys = ap (λ (r : List ℕ). to_bits binary32 x ∷ r) (bits_append xs ys)

bits_length : (xs : List Float) → length (bits xs) ≡ length xs
bits_length [] = refl
bits_length (x ∷ xs) = ap suc (bits_length xs)

-- ---- the bits of a list stand in the words from a place on
pub record Stands (words : List ℕ) (at : ℕ) (xs : List Float) : Type 0 where
  pub rest : List ℕ
  pub is : drop at words ≡ bits xs ++ rest

stands_first : {words : List ℕ} {at : ℕ} (xs ys : List Float) → Stands words at (xs ++ ys) → Stands words at xs
stands_first xs ys s = record {
  rest = bits ys ++ s.rest;
  is = s.is ∙ ap (λ (z : List ℕ). z ++ s.rest) (bits_append xs ys) ∙ append_assoc (bits xs) (bits ys) s.rest;
}

stands_second : {words : List ℕ} {at : ℕ} (xs ys : List Float) → Stands words at (xs ++ ys) → Stands words (at + length xs) ys
unfolding stands_first
stands_second {words} {at} xs ys s =
    let f = stands_first {words = words} {at = at} xs ys s in
    record {
      rest = s.rest;
      is = sym (drop-drop (length xs) at words) ∙ ap (drop (length xs)) f.is ∙ drop_at (bits xs) (bits ys ++ s.rest) (length xs) (bits_length xs);
    }

module _ (points : List Float) (words : List ℕ) where
  -- the points that a part may have
  pub record Good (xs : List ℕ) : Type 0 where
    pub known : NumbersOfPoints points xs
    pub numbers : (axis : ℕ) → axis < 3 → (v : ℕ) → In v xs → Number (coordinate_of points axis v)

  good_part : (xs ys : List ℕ) → ((v : ℕ) → In v ys → In v xs) → Good xs → Good ys
  good_part xs ys from g = record { known = λ v i. g.known v (from v i); numbers = λ axis h v i. g.numbers axis h v (from v i) }

  -- ---- one box
  word_is : (at k : ℕ) (x : Float) → get_or words (at + k) 0 ≡ to_bits binary32 x → Number x → float_at words (at + k) ≡ x
  word_is at k x e n = ap (of_bits binary32) e ∙ of_bits-to_bits binary32 x n.is_f32

  no_nan : (at k : ℕ) (x : Float) → get_or words (at + k) 0 ≡ to_bits binary32 x → Number x → T (not (nan_bits binary32 (get_or words (at + k) 0)))
  no_nan at k x e n =
      subst⁻¹ (λ (t : Bool). T (not t)) (nan_bits_is binary32 (get_or words (at + k) 0) ∙ ap is_nan (word_is at k x e n)) (finite_number x n.is_finite)

  between_is : {lo hi lo' hi' v v' : Float} → lo' ≡ lo → hi' ≡ hi → v' ≡ v → FiniteBetween lo hi v → FiniteBetween lo' hi' v'
  between_is {lo} {hi} {lo'} {hi'} {v} {v'} a b c h =
      subst⁻¹ (λ (z : Float). FiniteBetween z hi' v') a (subst⁻¹ (λ (z : Float). FiniteBetween lo z v') b (subst⁻¹ (λ (z : Float). FiniteBetween lo hi z) c h))

  module _ (at : ℕ) (xs ys : List ℕ) (some : 0 < length xs) (good : Good xs) (from : (v : ℕ) → In v ys → In v xs)
      (s : Stands words at (box_corners (box_of points xs))) where
    word_at : (k : ℕ) → get_or words (at + k) 0 ≡ get_or (bits (box_corners (box_of points xs)) ++ s.rest) k 0
    word_at k = sym (get_or-drop at words k 0) ∙ ap (λ (z : List ℕ). get_or z k 0) s.is

    low_at : (axis : ℕ) → axis < 3 → Number (least_on_axis points axis xs)
    low_at axis h = low_number points axis xs some (good.numbers axis h)

    high_at : (axis : ℕ) → axis < 3 → Number (greatest_on_axis points axis xs)
    high_at axis h = high_number points axis xs some (good.numbers axis h)

    six_numbers : (k : ℕ) → k < 6 → T (not (nan_bits binary32 (get_or words (at + k) 0)))
    unfolding box_of
    six_numbers zero h = no_nan at 0 _ (word_at 0) (low_at 0 (omega arith))
    six_numbers (suc zero) h = no_nan at 1 _ (word_at 1) (low_at 1 (omega arith))
    six_numbers (suc (suc zero)) h = no_nan at 2 _ (word_at 2) (low_at 2 (omega arith))
    six_numbers (suc (suc (suc zero))) h = no_nan at 3 _ (word_at 3) (high_at 0 (omega arith))
    six_numbers (suc (suc (suc (suc zero)))) h = no_nan at 4 _ (word_at 4) (high_at 1 (omega arith))
    six_numbers (suc (suc (suc (suc (suc zero))))) h = no_nan at 5 _ (word_at 5) (high_at 2 (omega arith))
    six_numbers (suc (suc (suc (suc (suc (suc k)))))) h = absurd (omega arith)

    on_axis_lem : (axis lo hi v : ℕ) → axis < 3 → get_or words (at + lo) 0 ≡ to_bits binary32 (least_on_axis points axis xs) → get_or words (at + hi) 0
        ≡ to_bits binary32 (greatest_on_axis points axis xs) → In v ys
        → FiniteBetween (float_at words (at + lo)) (float_at words (at + hi)) (get_or points (3 * v + axis) nan)
    unfolding coordinate_of
    on_axis_lem axis lo hi v h a b i =
        between_is (word_is at lo _ a (low_at axis h)) (word_is at hi _ b (high_at axis h)) refl
        (between points axis xs some (good.numbers axis h) v (from v i))

    pub holds : HeldInBox points words ys at
    unfolding box_of point_at
    holds = record {
      six = record {
        long = omega (arith, sym (length-drop at words) ∙ ap length s.is);
        numbers = six_numbers;
      };
      known = λ v i. good.known v (from v i);
      inside = λ v i. let z : at + 0 ≡ at = omega arith in let y : 3 * v + 0 ≡ 3 * v = omega arith in record {
        on_x = between_is (ap (float_at words) (sym z)) refl (ap (λ (k : ℕ). get_or points k nan) (sym y))
            (on_axis_lem 0 0 3 v (omega arith) (word_at 0) (word_at 3) i);
        on_y = on_axis_lem 1 1 4 v (omega arith) (word_at 1) (word_at 4) i;
        on_z = on_axis_lem 2 2 5 v (omega arith) (word_at 2) (word_at 5) i;
      };
    }

  -- ---- the tree
  abbrev split_to : ℕ → List ℕ → List ℕ
  split_to n xs = halving leaf_size (λ l. l) (λ _ a b. a ++ b) (along points) n xs

  abbrev boxes_to : ℕ → List ℕ → List Float
  boxes_to n xs = halving leaf_size (λ l. box_corners (box_of points l)) (λ l a b. box_corners (box_of points l) ++ (a ++ b)) (along points) n xs

  module _ {A : Type 0} (made : List ℕ → A) (join : List ℕ → A → A → A) where
    few : (n : ℕ) (xs : List ℕ) → length xs ≤ 8 → halving leaf_size made join (along points) n xs ≡ made xs
    unfolding halving
    few zero xs h = refl
    few (suc n) xs h = rw (le-leb (length xs) leaf_size h, halving)

    many : (n : ℕ) (xs : List ℕ) → 8 < length xs → halving leaf_size made join (along points) (suc n) xs
        ≡ join xs (halving leaf_size made join (along points) n (take (length xs / 2) (along points xs)))
        (halving leaf_size made join (along points) n (drop (length xs / 2) (along points xs)))
    unfolding halving
    many n xs h = rw (lt-leb (length xs) leaf_size h, halving)

  first_size : (xs : List ℕ) → length (take (length xs / 2) (along points xs)) ≡ length xs / 2
  first_size xs = length-take-le (length xs / 2) (along points xs) (omega (arith, along_length points xs))

  second_size : (xs : List ℕ) → length (drop (length xs / 2) (along points xs)) ≡ length xs - length xs / 2
  second_size xs = length-drop (length xs / 2) (along points xs) ∙ ap (λ (z : ℕ). z - length xs / 2) (along_length points xs)

  abbrev leaf_box : List ℕ → List Float
  leaf_box l = box_corners (box_of points l)

  abbrev node_box : List ℕ → List Float → List Float → List Float
  node_box l a b = box_corners (box_of points l) ++ (a ++ b)

  node_length : (l : List ℕ) (a b : List Float) → length (node_box l a b) ≡ 6 + (length a + length b)
  node_length l a b = ap (λ (k : ℕ). suc (suc (suc (suc (suc (suc k)))))) (length-append a b) ∙ omega arith

  boxes_length : (n : ℕ) (xs : List ℕ) → length xs ≤ n → length (boxes_to n xs) ≡ 6 * box_count_to n (length xs)
  boxes_length zero xs h = ap length (few leaf_box node_box zero xs (omega arith)) ∙ sym (ap (λ (k : ℕ). 6 * k) (few_boxes zero (length xs) (omega arith)))
  boxes_length (suc n) xs h =
      let p = take (length xs / 2) (along points xs) in
      let q = drop (length xs / 2) (along points xs) in
      dite (dec_lt 8 (length xs))
      (λ l.
      let a : length (boxes_to n p)
      ≡ 6 * box_count_to n (length xs / 2) = boxes_length n p (omega (arith, first_size xs)) ∙ ap (λ (k : ℕ). 6 * box_count_to n k) (first_size xs) in
      let b : length (boxes_to n q)
      ≡ 6 * box_count_to n (length xs - length xs / 2) = boxes_length n q (omega (arith, second_size xs)) ∙ ap (λ (k : ℕ). 6 * box_count_to n k)
      (second_size xs) in
      ap length (many leaf_box node_box n xs l) ∙ node_length xs (boxes_to n p) (boxes_to n q) ∙ omega (arith, a, b, many_boxes n (length xs) l))
      (λ l. ap length (few leaf_box node_box (suc n) xs (omega arith)) ∙ sym (ap (λ (k : ℕ). 6 * k) (few_boxes (suc n) (length xs) (omega arith))))

  -- ---- the boxes hold the parts that splitting leaves
  abbrev leaf_list : List ℕ → List ℕ
  leaf_list l = l

  abbrev node_list : List ℕ → List ℕ → List ℕ → List ℕ
  node_list _ a b = a ++ b

  join : (xs a b : List ℕ) (at w k : ℕ) → 8 < length xs → length a ≡ length xs / 2 → length b ≡ length xs - length xs / 2 → k
      ≡ 6 * boxes_below (w / 2) (length xs / 2)
      → HeldInBox points words (a ++ b) at → Boxed points words a (at + 6) (w / 2) → Boxed points words b (at + 6 + k) (w / 2)
      → Boxed points words (a ++ b) at w
  join xs a b at w k l ea eb ek h f g =
      let e : length (a ++ b) ≡ length xs = length-append a b ∙ omega (arith, ea, eb) in
      let m : length a ≡ length (a ++ b) / 2 = ea ∙ ap (λ (z : ℕ). z / 2) (sym e) in
      node {xs = a ++ b} (omega (arith, e)) h
      (subst⁻¹ (λ (z : List ℕ). Boxed points words z (at + 6) (w / 2)) (take_at a b (length (a ++ b) / 2) m) f)
      (subst⁻¹ (λ (z : List ℕ). Boxed points words z (secondAt at w (length (a ++ b))) (w / 2)) (drop_at a b (length (a ++ b) / 2) m)
      (subst (λ (z : ℕ). Boxed points words b (at + 6 + z) (w / 2)) (ek ∙ ap (λ (z : ℕ). 6 * boxes_below (w / 2) (z / 2)) (sym e)) g))

  pub boxed_to : (n : ℕ) (xs : List ℕ) (at w : ℕ) → length xs ≤ n → 0 < length xs → Good xs → (8 < length xs → Width (length xs) w)
      → Stands words at (boxes_to n xs) → Boxed points words (split_to n xs) at w
  boxed_to zero xs at w h o g wide s = absurd (omega arith)
  boxed_to (suc n) xs at w h o g wide s =
      let m = length xs / 2 in
      let ys = along points xs in
      let p = take m ys in
      let q = drop m ys in
      let np = first_size xs in
      let nq = second_size xs in
      dite (dec_lt 8 (length xs))
      (λ l.
      let hw = halves (length xs) w (wide l) l in
      let s' : Stands words at (node_box xs (boxes_to n p) (boxes_to n q)) = subst (Stands words at) (many leaf_box node_box n xs l) s in
      let s1 : Stands words (at + 6) (boxes_to n p ++ boxes_to n q) = stands_second (leaf_box xs) (boxes_to n p ++ boxes_to n q) s' in
      let ek : length (boxes_to n p)
      ≡ 6 * boxes_below (w / 2) m = boxes_length n p (omega (arith, np)) ∙ ap (λ (k : ℕ). 6 * box_count_to n k) np ∙ ap (λ (k : ℕ). 6 * k)
      (sym (hw.boxes n (omega arith))) in
      let from : (v : ℕ) → In v (split_to n p ++ split_to n q)
      → In v xs = λ v i. omega (arith, i, split_count (eqb v) points (suc n) xs, ap (count (eqb v)) (many leaf_list node_list n xs l)) in
      subst⁻¹ (λ (z : List ℕ). Boxed points words z at w) (many leaf_list node_list n xs l)
      (join xs (split_to n p) (split_to n q) at w (length (boxes_to n p)) l (split_length points n p ∙ np) (split_length points n q ∙ nq) ek
      (holds at xs (split_to n p ++ split_to n q) o g from (stands_first (leaf_box xs) (boxes_to n p ++ boxes_to n q) s'))
      (boxed_to n p (at + 6) (w / 2) (omega (arith, np)) (omega (arith, np))
      (good_part xs p (λ v i. omega (arith, in_first ys m v i, along_count (eqb v) points xs)) g)
      (λ k. subst⁻¹ (λ (z : ℕ). Width z (w / 2)) np (hw.first_half (omega (arith, k, np)))) (stands_first (boxes_to n p) (boxes_to n q) s1))
      (boxed_to n q (at + 6 + length (boxes_to n p)) (w / 2) (omega (arith, nq)) (omega (arith, nq))
      (good_part xs q (λ v i. omega (arith, in_second ys m v i, along_count (eqb v) points xs)) g)
      (λ k. subst⁻¹ (λ (z : ℕ). Width z (w / 2)) nq (hw.second_half (omega (arith, k, nq)))) (stands_second (boxes_to n p) (boxes_to n q) s1))))
      (λ l.
      let k : length xs ≤ 8 = omega arith in
      subst⁻¹ (λ (z : List ℕ). Boxed points words z at w) (few leaf_list node_list (suc n) xs k)
      (leaf k (holds at xs xs o g (λ v i. i) (subst (Stands words at) (few leaf_box node_box (suc n) xs k) s))))
