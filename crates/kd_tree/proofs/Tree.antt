-- The order and the boxes by those of the parts, and how much room they take. Assumes nothing.
use mathlib.Core.Path.{◌≡◌, refl, sym, ap, ◌∙◌}
use mathlib.Core.Logic.{dite}
use mathlib.Core.List.{List, ◌++◌}
use Prim.Native.Nat.{ℕ, zero, suc, ◌+◌, ◌-◌, ◌*◌, ◌/◌, ◌≤◌, ◌<◌}
use native.Mathlib.Decide.{dec_lt}
use native.Mathlib.Omega.{arith}
use borrow.Author.Tests.{le-leb, lt-leb}
use lib.Dec.{lit≤}
use lib.Ieee.{Float}
use lib.ListN.{length, take, drop, length-drop, length-append}
use lib.Seq.{length-take-le}
use Rattle.axis_sort.specs.Axis.{precedes}
use Rattle.axis_sort.proofs.Halving.{halving_small, halving_large, halving_all, sorted_length}
use Rattle.kd_tree.specs.Boxes.{box_of, box_corners, longest}
use Rattle.kd_tree.specs.Tree.{along, split, boxes_of, box_count_to, box_count}

-- ---- how many boxes
count_small_to : (n m : ℕ) → m ≤ 8 → box_count_to n m ≡ 1
unfolding box_count_to
count_small_to zero m h = refl
count_small_to (suc n) m h = rw (le-leb m 8 h, box_count_to)

count_large_to : (n m : ℕ) → 8 < m → box_count_to (suc n) m ≡ 1 + (box_count_to n (m / 2) + box_count_to n (m - m / 2))
unfolding box_count_to
count_large_to n m l = rw (lt-leb m 8 l, box_count_to)

count_enough : (n k m : ℕ) → m ≤ n → m ≤ k → box_count_to n m ≡ box_count_to k m
count_enough zero k m h g = count_small_to zero m (omega arith) ∙ sym (count_small_to k m (omega arith))
count_enough (suc n) zero m h g = count_small_to (suc n) m (omega arith) ∙ sym (count_small_to zero m (omega arith))
count_enough (suc n) (suc k) m h g =
    dite (dec_lt 8 m)
    (λ l. count_large_to n m l ∙ ap (λ (z : ℕ). 1 + (z + box_count_to n (m - m / 2))) (count_enough n k (m / 2) (omega arith) (omega arith))
    ∙ ap (λ (z : ℕ). 1 + (box_count_to k (m / 2) + z)) (count_enough n k (m - m / 2) (omega arith) (omega arith)) ∙ sym (count_large_to k m l))
    (λ l. count_small_to (suc n) m (omega arith) ∙ sym (count_small_to (suc k) m (omega arith)))

pub count_small : (m : ℕ) → m ≤ 8 → box_count m ≡ 1
unfolding box_count
count_small m h = count_small_to m m h

pub count_large : (m : ℕ) → 8 < m → box_count m ≡ 1 + (box_count (m / 2) + box_count (m - m / 2))
unfolding box_count
count_large m l =
    let n = m - 1 in
    let e : m ≡ suc n = omega arith in
    ap (λ (k : ℕ). box_count_to k m) e ∙ count_large_to n m l
    ∙ ap (λ (z : ℕ). 1 + (z + box_count_to n (m - m / 2))) (count_enough n (m / 2) (m / 2) (omega arith) (omega arith))
    ∙ ap (λ (z : ℕ). 1 + (box_count_to (m / 2) (m / 2) + z)) (count_enough n (m - m / 2) (m - m / 2) (omega arith) (omega arith))

count_room_to : (n m : ℕ) → m ≤ n → 4 ≤ m → 6 * box_count m + 6 ≤ 3 * m
count_room_to zero m h g = absurd (omega arith)
count_room_to (suc n) m h g =
    dite (dec_lt 8 m)
    (λ l. omega (arith, count_large m l, count_room_to n (m / 2) (omega arith) (omega arith), count_room_to n (m - m / 2) (omega arith) (omega arith)))
    (λ l. omega (arith, count_small m (omega arith)))

-- the numbers of an index: n + 6 × boxes is at most 4n - 6 from four points on
pub count_room : (m : ℕ) → 4 ≤ m → m + 6 * box_count m + 6 ≤ 4 * m
count_room m h = omega (arith, count_room_to m m (omega arith) h)

-- so the index's size is always enough
pub index_room : (m : ℕ) → m + 6 * box_count m ≤ 8 * m + 64
index_room m = dite (dec_lt 3 m) (λ l. omega (arith, count_room m (omega arith))) (λ l. omega (arith, count_small m (omega arith)))

pub work_room : (m : ℕ) → 6 * box_count m + m ≤ 4 * m + 64
work_room m = dite (dec_lt 3 m) (λ l. omega (arith, count_room m (omega arith))) (λ l. omega (arith, count_small m (omega arith)))

pub count_least : (m : ℕ) → 1 ≤ box_count m
count_least m = dite (dec_lt 8 m) (λ l. omega (arith, count_large m l)) (λ l. omega (arith, count_small m (omega arith)))

-- ---- by parts
module _ (points : List Float) where
  pub along_length : (xs : List ℕ) → length (along points xs) ≡ length xs
  unfolding along
  along_length xs = sorted_length (precedes points (longest (box_of points xs))) xs

  abbrev six : List ℕ → List Float
  six l = box_corners (box_of points l)

  abbrev first : List ℕ → List ℕ
  first xs = take (length xs / 2) (along points xs)

  abbrev second : List ℕ → List ℕ
  second xs = drop (length xs / 2) (along points xs)

  pub first_length : (xs : List ℕ) → length (first xs) ≡ length xs / 2
  first_length xs = length-take-le (length xs / 2) (along points xs) (omega (arith, along_length xs))

  pub second_length : (xs : List ℕ) → length (second xs) ≡ length xs - length xs / 2
  second_length xs = length-drop (length xs / 2) (along points xs) ∙ ap (λ (n : ℕ). n - length xs / 2) (along_length xs)

  pub split_small : (xs : List ℕ) → length xs ≤ 8 → split points xs ≡ xs
  unfolding split
  split_small xs h = halving_small 8 (λ l. l) (λ _ a b. a ++ b) (along points) xs h

  pub split_large : (xs : List ℕ) → 8 < length xs → split points xs ≡ split points (first xs) ++ split points (second xs)
  unfolding split
  split_large xs h = halving_large 8 (λ l. l) (λ _ a b. a ++ b) (along points) (lit≤ tt) along_length xs h

  pub boxes_small : (xs : List ℕ) → length xs ≤ 8 → boxes_of points xs ≡ six xs
  unfolding boxes_of
  boxes_small xs h = halving_small 8 six (λ l a b. six l ++ (a ++ b)) (along points) xs h

  pub boxes_large : (xs : List ℕ) → 8 < length xs → boxes_of points xs ≡ six xs ++ (boxes_of points (first xs) ++ boxes_of points (second xs))
  unfolding boxes_of
  boxes_large xs h = halving_large 8 six (λ l a b. six l ++ (a ++ b)) (along points) (lit≤ tt) along_length xs h

  pub boxes_length : (xs : List ℕ) → length (boxes_of points xs) ≡ 6 * box_count (length xs)
  unfolding boxes_of
  boxes_length xs =
      halving_all 8 six (λ l a b. six l ++ (a ++ b)) (along points) (lit≤ tt) along_length (λ (l : List ℕ) (r : List Float). length r ≡ 6 * box_count (length l))
      (λ l h. omega (arith, count_small (length l) h))
      (λ l a b h ea eb.
      let fa : length a ≡ 6 * box_count (length l / 2) = ea ∙ ap (λ (n : ℕ). 6 * box_count n) (first_length l) in
      let fb : length b ≡ 6 * box_count (length l - length l / 2) = eb ∙ ap (λ (n : ℕ). 6 * box_count n) (second_length l) in
      length-append (six l) (a ++ b) ∙ ap (λ (n : ℕ). 6 + n) (length-append a b) ∙ omega (arith, count_large (length l) h))
      (length xs) xs (omega arith)

  pub split_length : (xs : List ℕ) → length (split points xs) ≡ length xs
  unfolding split
  split_length xs =
      halving_all 8 (λ l. l) (λ _ a b. a ++ b) (along points) (lit≤ tt) along_length (λ (l r : List ℕ). length r ≡ length l) (λ l h. refl)
      (λ l a b h ea eb. length-append a b ∙ omega (arith, ea ∙ first_length l, eb ∙ second_length l))
      (length xs) xs (omega arith)
