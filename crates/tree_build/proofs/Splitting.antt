-- A part split in place: its box, its orders divided, and then its two parts one after the other. Assumes nothing.
use mathlib.Core.Path.{◌≡◌, sym, ap, ◌∙◌, subst, subst⁻¹, transport⁻¹}
use mathlib.Core.List.{List, ◌++◌, append_assoc}
use Prim.Native.Nat.{ℕ, ◌+◌, ◌-◌, ◌*◌, ◌/◌, ◌^◌, ◌≤◌, ◌<◌}
use native.Mathlib.Omega.{arith}
use borrow.Author.Rules.{scaled_Fits, Fits-under}
use borrow.Rule.Slice.PartMut.{put_mid}
use mir.Syntax.{w64}
use mir.Val.{Fits}
use lib.Ieee.{Float}
use lib.ListN.{length, take, drop, length-append, length-drop}
use lib.Seq.{length-take-le}
use Rattle.bounds.specs.declared.Bounds.{Bounds}
use Rattle.axis_sort.specs.Axis.{precedes}
use Rattle.axis_sort.specs.Sorted.{sorted_by}
use Rattle.axis_sort.proofs.Parts.{size_1, part_2, whole_2}
use Rattle.kd_tree.specs.Boxes.{box_of, box_corners, longest}
use Rattle.kd_tree.specs.Tree.{along, split, boxes_of, box_count}
use Rattle.kd_tree.specs.Inner.Written.{ListWritten, Splits}
use Rattle.kd_tree.proofs.Tree.{count_large, count_least, along_length, split_small, split_large, boxes_small, boxes_large, boxes_length}
use Rattle.axis_orders.specs.Inner.Orders.{ends_box, Bounding, CoordinatesFit, Orders, Dividing, Divided}
use Rattle.tree_build.specs.Inner.Ready.{SplitReady}
use Rattle.axis_orders.proofs.Ends.{ends_box_lem, order_sizes}

-- one list after the other
written_both : (b c d : List Float) (at : ℕ) (xs ys : List Float) → ListWritten b c at xs → ListWritten c d (at + length xs) ys → ListWritten b d at (xs ++ ys)
written_both b c d at xs ys p q =
    let e : at + length (xs ++ ys) ≡ at + length xs + length ys = ap (λ (n : ℕ). at + n) (length-append xs ys) ∙ omega arith in
    ap (λ (n : ℕ). take n d) e ∙ q ∙ ap (λ (z : List Float). z ++ ys) p ∙ append_assoc (take at b) xs ys

-- what is lent of a slice behind its first m elements, once these have become a
abbrev pub behind : List ℕ → List ℕ → ℕ → List ℕ
behind o a m = take (length (a ++ drop m o) - m) (drop m (a ++ drop m o))

-- ---- the box of a part, and a leaf
module _ {points : List Float} {o x y z : List ℕ} {work boxes at : ℕ} (ready : SplitReady points o x y z work boxes at) where
  pub bound_room : (0 < length x) × (0 < length y) × (0 < length z) × (at + 6 ≤ boxes)
  bound_room =
      let s = order_sizes ready.numbers ready.orders in (
        omega (arith, s.0, ready.some),
        omega (arith, s.1, ready.some),
        omega (arith, s.2, ready.some),
        omega
            (arith, ready.boxes_enough, count_least (length o)),
      )

  box_is : ends_box points x y z ≡ box_of points o
  box_is = ends_box_lem ready.numbers ready.some ready.orders

  module _ {b c : List Float} {axis : ℕ} (bound : Bounding (ends_box points x y z) b c at axis) where
    six : ListWritten b c at (box_corners (box_of points o))
    six = subst (λ (z : Bounds). ListWritten b c at (box_corners z)) box_is bound.written

    pub leaf_end : length o ≤ 8 → Splits points o o b c at (at + 6)
    leaf_end h =
        let e : box_corners (box_of points o) ≡ boxes_of points o = sym (boxes_small points o h) in
        record {
          ordered = sym (split_small points o h);
          ends = ap (λ (l : List Float). at + length l) e;
          boxed = subst (λ (l : List Float). ListWritten b c at l) e six;
        }

    pub dividing : Dividing points axis o x y z work
    dividing = record { numbers = ready.numbers; axis_is = bound.axis_below; some = ready.some; work_enough = ready.work_enough; orders = ready.orders }

-- ---- a part of more, its orders divided
pub record Middle (points : List Float) (o o' x' y' z' : List ℕ) (work boxes at : ℕ) (b c : List Float) : Type 0 where
  pub numbers : CoordinatesFit points
  pub many : 8 < length o
  pub work_enough : length o ≤ work
  pub boxes_enough : at + 6 * box_count (length o) ≤ boxes
  pub boxed : ListWritten b c at (box_corners (box_of points o))
  pub ordered : o' ≡ along points o
  pub order_fits : length o / 2 ≤ length o'
  pub x_fits : length o / 2 ≤ length x'
  pub y_fits : length o / 2 ≤ length y'
  pub z_fits : length o / 2 ≤ length z'
  pub first : Orders points (take (length o / 2) o') (take (length o / 2) x') (take (length o / 2) y') (take (length o / 2) z')
  pub second : Orders points (drop (length o / 2) o') (drop (length o / 2) x') (drop (length o / 2) y') (drop (length o / 2) z')

pub middle : {points : List Float} {o x y z o' x' y' z' : List ℕ} {work boxes at axis : ℕ} {b c : List Float} → SplitReady points o x y z work boxes at
    → 8 < length o
    → Bounding (ends_box points x y z) b c at axis → Divided points axis o o' x' y' z' → length x' ≡ length x → length y' ≡ length y → length z' ≡ length z
    → Middle points o o' x' y' z' work boxes at b c
unfolding along
middle {points} {o} {x} {y} {z} {o'} ready many bound d kx ky kz =
    let s = order_sizes ready.numbers ready.orders in
    let e : o' ≡ along points o = d.ordered ∙ ap (λ (k : ℕ). sorted_by (precedes points k) o) (bound.axis_is ∙ ap longest (box_is ready)) in
    record {
      numbers = ready.numbers;
      many = many;
      work_enough = ready.work_enough;
      boxes_enough = ready.boxes_enough;
      boxed = six ready bound;
      ordered = e;
      order_fits = omega (arith, ap length e ∙ along_length points o);
      x_fits = omega (arith, kx, s.0);
      y_fits = omega (arith, ky, s.1);
      z_fits = omega (arith, kz, s.2);
      first = d.first;
      second = d.second;
    }

module _ {points : List Float} {o o' x' y' z' : List ℕ} {work boxes at : ℕ} {b c : List Float} (mid : Middle points o o' x' y' z' work boxes at b c) where
  abbrev m : ℕ
  m = length o / 2

  size : length o' ≡ length o
  size = ap length mid.ordered ∙ along_length points o

  pub first_size : length (take m o') ≡ m
  first_size = length-take-le m o' mid.order_fits

  pub first_ready : {work' boxes' : ℕ} → work' ≡ work → boxes' ≡ boxes → SplitReady points (take m o') (take m x') (take m y') (take m z') work' boxes' (at + 6)
  first_ready {boxes' = boxes'} ew eb = record {
    numbers = mid.numbers;
    some = omega (arith, first_size, mid.many);
    work_enough = omega (arith, first_size, mid.work_enough);
    boxes_enough = subst⁻¹ (λ (n : ℕ). at + 6 + 6 * box_count n ≤ boxes') first_size (omega (arith, count_large (length o) mid.many, mid.boxes_enough));
    orders = mid.first;
  }

  module _ (a ax ay az : List ℕ) (ka : length a ≡ length (take m o')) (kx : length ax ≡ length (take m x')) (ky : length ay ≡ length (take m y'))
      (kz : length az ≡ length (take m z')) where
    pub second_size : length (behind o' a m) ≡ length o - m
    second_size = ap length (part_2 o' a m mid.order_fits ka) ∙ length-drop m o' ∙ ap (λ (n : ℕ). n - m) size

    pub second_ready : {work' boxes' next : ℕ} → work' ≡ work → boxes' ≡ boxes → next ≡ at + 6 + length (boxes_of points (take m o'))
        → SplitReady points (behind o' a m) (behind x' ax m) (behind y' ay m) (behind z' az m) work' boxes' next
    second_ready {work'} {boxes'} {next} ew eb en =
        let l : length (boxes_of points (take m o')) ≡ 6 * box_count m = boxes_length points (take m o') ∙ ap (λ (n : ℕ). 6 * box_count n) first_size in
        record {
          numbers = mid.numbers;
          some = omega (arith, second_size, mid.many);
          work_enough = omega (arith, second_size, mid.work_enough);
          boxes_enough = subst⁻¹ (λ (n : ℕ). next + 6 * box_count n ≤ boxes') second_size (omega (arith, count_large (length o) mid.many, mid.boxes_enough));
          orders = transport⁻¹ (λ i. Orders points (part_2 o' a m mid.order_fits ka i) (part_2 x' ax m mid.x_fits kx i)
              (part_2 y' ay m mid.y_fits ky i) (part_2 z' az m mid.z_fits kz i)) mid.second;
        }

    -- b has become c with the box, d and e by the two parts
    pub part_end : (a2 : List ℕ) (d e : List Float) (next end : ℕ) → Splits points (take m o') a c d (at + 6) next
        → Splits points (behind o' a m) a2 d e next end
        → Splits points o (put_mid m (length (a ++ drop m o') - m) (a ++ drop m o') a2) b e at end
    part_end a2 d e next end s1 s2 =
        let p : behind o' a m ≡ drop m o' = part_2 o' a m mid.order_fits ka in
        let box = box_corners (box_of points o) in
        let u = boxes_of points (take m o') in
        let v = boxes_of points (drop m o') in
        let whole : boxes_of points o ≡ (box ++ u) ++ v =
        boxes_large points o mid.many ∙ ap (λ (l : List ℕ). box ++ (boxes_of points (take m l) ++ boxes_of points (drop m l))) (sym mid.ordered) ∙ sym
        (append_assoc box u v) in
        let w3 : ListWritten b d at (box ++ u) = written_both b c d at box u mid.boxed s1.boxed in
        let en : next ≡ at + length (box ++ u) = s1.ends ∙ omega (arith, length-append box u) in
        let v4 : ListWritten d e (at + length (box ++ u)) v = subst (λ (n : ℕ). ListWritten d e n v) en
        (subst (λ (l : List ℕ). ListWritten d e next (boxes_of points l)) p s2.boxed) in
        let w4 : ListWritten b e at ((box ++ u) ++ v) = written_both b d e at (box ++ u) v w3 v4 in
        let ee : end ≡ next + length v = s2.ends ∙ ap (λ (l : List ℕ). next + length (boxes_of points l)) p in
        record {
          ordered =
              whole_2 o' a m mid.order_fits ka a2 ∙ ap (λ (l : List ℕ). l ++ a2) s1.ordered ∙ ap (λ (l : List ℕ). split points (take m o') ++ l)
              (s2.ordered ∙ ap (split points) p)
              ∙ ap (λ (l : List ℕ). split points (take m l) ++ split points (drop m l)) mid.ordered ∙ sym (split_large points o mid.many);
          ends = ee ∙ ap (λ (n : ℕ). n + length v) en ∙ omega (arith, ap length whole, length-append (box ++ u) v);
          boxed = subst⁻¹ (λ (l : List Float). ListWritten b e at l) whole w4;
        }

-- the first m elements are there still
pub behind_room : (o a : List ℕ) (m : ℕ) → m ≤ length o → length a ≡ length (take m o) → m ≤ length (a ++ drop m o)
behind_room o a m h ka = subst⁻¹ (λ (k : ℕ). m ≤ k) (size_1 o a m h ka) h

-- sizes in bytes, as the slices have them
pub half_bytes : (n : ℕ) → 8 < n → n * 4 < 2 ^ 63 → Fits w64 (n / 2 * 4)
half_bytes n h = scaled_Fits (n / 2) n 4 (omega arith)

pub next_fits : (at lb : ℕ) → at + 6 ≤ lb → lb * 4 < 2 ^ 63 → Fits w64 (at + 6)
next_fits at lb h l = Fits-under w64 (at + 6) (2 ^ 63) (omega arith) tt
