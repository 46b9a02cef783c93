-- The index put together: the order, the bits of the boxes, zeros. Assumes nothing.
use mathlib.Core.Path.{◌≡◌, sym, ap, ◌∙◌, subst}
use mathlib.Core.Bool.{Bool}
use mathlib.Core.List.{List, ◌++◌, map}
use Prim.Native.Nat.{ℕ, ◌+◌, ◌-◌, ◌*◌, ◌/◌, ◌≤◌}
use native.Mathlib.Omega.{arith}
use lib.Ieee.{Float, binary32, to_bits}
use lib.ListN.{length, take, drop, replicate, length-append, length-map, length-replicate}
use lib.Seq.{length-take-le, take_at}
use Rattle.lists.specs.Lists.{up_from}
use Rattle.kd_tree.specs.Tree.{split, boxes_of, box_count, index_size, padded, built, same_numbers, belongs}
use Rattle.point_order.specs.Inner.Ordering.{OrderedAll}
use Rattle.kd_tree.proofs.Tree.{split_length, boxes_length, index_room, work_room}
use Rattle.filling.specs.Inner.Put.{PutList}
use Rattle.point_index.specs.Index.{Fits}
use Rattle.filling.proofs.Fill.{put_both, put_size, up_length}

module _ (points : List Float) (index o : List ℕ) (f f' : List Float) (end : ℕ) (fits : Fits points (length index) (length f))
    (s : OrderedAll points o f' end) (ko : length o ≡ length (take (length points / 3) index)) (kf : length f' ≡ length f) where
  pub front_size : length (take (length points / 3) index) ≡ length points / 3
  front_size = length-take-le (length points / 3) index (omega (arith, fits.index_enough))

  abbrev boxes : List Float
  boxes = boxes_of points (up_from 0 (length points / 3))

  order_all : o ≡ split points (up_from 0 (length points / 3))
  order_all = s.ordered

  boxes_size : length boxes ≡ 6 * box_count (length points / 3)
  boxes_size = boxes_length points (up_from 0 (length points / 3)) ∙ ap (λ (n : ℕ). 6 * box_count n) (up_length 0 (length points / 3))

  pub end_is : end ≡ 6 * box_count (length points / 3)
  end_is = s.ends ∙ boxes_size

  pub end_fits : end ≤ length f'
  end_fits = omega (arith, end_is, work_room (length points / 3), fits.floats_enough, kf)

  pub index_fits : length points / 3 + end ≤ index_size (length points / 3)
  index_fits = omega (arith, end_is, index_room (length points / 3))

  boxes_are : take end f' ≡ boxes
  boxes_are = s.boxed

  pub boxes_count : length (take end f') ≡ end
  boxes_count = length-take-le end f' end_fits

  pub ordered_size : length (o ++ drop (length points / 3) index) ≡ length index
  ordered_size = put_size ordered (omega (arith, ko, front_size, fits.index_enough))
    where
      ordered : PutList index (o ++ drop (length points / 3) index) 0 o
      ordered = record { is = let e : length points / 3 ≡ 0 + length o = omega (arith, ko, front_size) in ap (λ (n : ℕ). o ++ drop n index) e }

  pub built_end : (w z : List ℕ) → PutList (o ++ drop (length points / 3) index) w (length points / 3) (map (to_bits binary32) (take end f'))
      → PutList w z (length points / 3 + end) (replicate (index_size (length points / 3) - (length points / 3 + end)) 0)
      → z ≡ built points ++ drop (index_size (length points / 3)) index
  unfolding built padded
  built_end w z p q =
      let n = length points / 3 in
      let a = split points (up_from 0 n) in
      let b = map (to_bits binary32) boxes in
      let ln : length o ≡ n = ko ∙ front_size in
      let lb : length (map (to_bits binary32) (take end f')) ≡ end = length-map (take end f') (to_bits binary32) ∙ boxes_count in
      let first : PutList index (o ++ drop n index) 0 o = record { is = let e : n ≡ 0 + length o = omega arith in ap (λ (k : ℕ). o ++ drop k index) e } in
      let e1 : n ≡ 0 + length o = omega arith in
      let p' : PutList (o ++ drop n index) w (0 + length o) (map (to_bits binary32) (take end f')) = subst
      (λ (k : ℕ). PutList (o ++ drop n index) w k (map (to_bits binary32) (take end f'))) e1 p in
      let two : PutList index w 0 (o ++ map (to_bits binary32) (take end f')) = put_both first p' (omega (arith, fits.index_enough)) in
      let l2 : length (o ++ map (to_bits binary32) (take end f')) ≡ n + end = length-append o (map (to_bits binary32) (take end f')) ∙ omega arith in
      let e2 : n + end ≡ 0 + length (o ++ map (to_bits binary32) (take end f')) = omega arith in
      let q' = subst (λ (k : ℕ). PutList w z k (replicate (index_size n - (n + end)) 0)) e2 q in
      let three : PutList index z 0 ((o ++ map (to_bits binary32) (take end f')) ++ replicate (index_size n - (n + end)) 0) = put_both two q'
      (omega (arith, index_fits, fits.index_enough)) in
      let x : o ++ map (to_bits binary32) (take end f') ≡ a ++ b = (λ i. order_all i ++ map (to_bits binary32) (boxes_are i)) in
      let y : (o ++ map (to_bits binary32) (take end f')) ++ replicate (index_size n - (n + end)) 0 ≡ (a ++ b) ++ replicate (index_size n - length (a ++ b)) 0 =
      ap (λ (k : ℕ). (o ++ map (to_bits binary32) (take end f')) ++ replicate (index_size n - k) 0) (sym l2) ∙ ap
      (λ (l : List ℕ). l ++ replicate (index_size n - length l) 0) x in
      let zs : length {A = ℕ} (replicate (index_size n - (n + end)) 0) ≡ index_size n - (n + end) = length-replicate (index_size n - (n + end)) 0 in
      let l3 : 0 + length ((o ++ map (to_bits binary32) (take end f')) ++ replicate (index_size n - (n + end)) 0) ≡ index_size n =
      omega (arith, length-append (o ++ map (to_bits binary32) (take end f')) (replicate (index_size n - (n + end)) 0), index_fits) in
      three.is ∙ ap (λ (k : ℕ). ((o ++ map (to_bits binary32) (take end f')) ++ replicate (index_size n - (n + end)) 0) ++ drop k index) l3
      ∙ ap (λ (l : List ℕ). l ++ drop (index_size n) index) y

-- ---- what was built has the index's size
pub built_size : (points : List Float) → length (built points) ≡ index_size (length points / 3)
unfolding built padded
built_size points =
    let n = length points / 3 in
    let a = split points (up_from 0 n) in
    let b = map (to_bits binary32) (boxes_of points (up_from 0 n)) in
    let la : length a ≡ n = split_length points (up_from 0 n) ∙ up_length 0 n in
    let lb : length b ≡ 6 * box_count n = length-map (boxes_of points (up_from 0 n)) (to_bits binary32) ∙ boxes_length points (up_from 0 n) ∙ ap
    (λ (k : ℕ). 6 * box_count k) (up_length 0 n) in
    let l : length (a ++ b) ≡ n + 6 * box_count n = length-append a b ∙ omega arith in
    let z : length {A = ℕ} (replicate (index_size n - length (a ++ b)) 0) ≡ index_size n - length (a ++ b) = length-replicate (index_size n - length (a ++ b)) 0 in
    length-append (a ++ b) (replicate (index_size n - length (a ++ b)) 0) ∙ omega (arith, index_room n)

pub matches_end : (points : List Float) (index words w : List ℕ) {r : Bool} → w ≡ built points ++ drop (index_size (length points / 3)) words
    → r ≡ same_numbers (take (index_size (length points / 3)) index) (take (index_size (length points / 3)) w) → r ≡ belongs points index
unfolding belongs
matches_end points index words w ew er =
    er ∙ ap (same_numbers (take (index_size (length points / 3)) index))
    (ap (take (index_size (length points / 3))) ew ∙ take_at (built points) (drop (index_size (length points / 3)) words) (index_size (length points / 3))
    (built_size points))
