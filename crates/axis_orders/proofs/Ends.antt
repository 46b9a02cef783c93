-- The ends of a part's orders are the corners of its box. Assumes nothing.
use mathlib.Core.Path.{◌≡◌, ap, ◌∙◌, subst}
use mathlib.Core.Bool.{Bool}
use mathlib.Core.List.{List, [], ◌∷◌}
use Prim.Native.Nat.{ℕ, zero, suc, ◌+◌, ◌-◌, ◌*◌, ◌/◌, ◌<◌}
use native.Mathlib.Omega.{arith}
use lib.Dec.{T, eqb, lit≤}
use lib.Ieee.{Float}
use lib.ListN.{length, get_or}
use Rattle.lists.specs.Members.{In, Below}
use Rattle.lists.proofs.Members.{in_head, in_at, in_cases}
use Rattle.vector.specs.Vector.{point}
use Rattle.vector.specs.declared.Point3f.{Point3f}
use Rattle.bounds.specs.declared.Bounds.{Bounds}
use Rattle.domain.proofs.Accepted.{cloud_finite}
use Rattle.axis_sort.specs.Axis.{coordinate_of, precedes}
use Rattle.axis_sort.specs.Sorted.{sorted_by}
use Rattle.axis_sort.proofs.Halving.{sorted_length}
use Rattle.kd_tree.specs.Boxes.{least_on_axis, greatest_on_axis, box_of, box_corners, longest}
use Rattle.kd_tree.specs.Inner.Written.{ListWritten}
use Rattle.kd_tree.proofs.Counted.{sorted_count}
use Rattle.kd_tree.proofs.Farthest.{Number, least_is, greatest_is}
use Rattle.tree_order.specs.InOrder.{EveryNumber, Ordered}
use Rattle.tree_order.proofs.Ordered.{all_in, all_of, in_order_lem, before_le, before_self}
use Rattle.axis_orders.specs.Inner.Orders.{first_coordinate, last_of, ends_box, Bounding, CoordinatesFit, Orders}

-- ---- the code's box
pub ends_box_is : (points : List Float) (x y z : List ℕ) {p q : Point3f} {a b c u v w : Float} → a ≡ first_coordinate points 0 x → b ≡ first_coordinate points 1 y
    → c ≡ first_coordinate points 2 z
    → u ≡ last_of points 0 x → v ≡ last_of points 1 y → w ≡ last_of points 2 z → p ≡ point a b c → q ≡ point u v w
    → ◌≡◌ {A = Bounds} record { lo = p; hi = q } (ends_box points x y z)
unfolding ends_box
ends_box_is points x y z {p = p} {q = q} ea eb ec eu ev ew ep eq =
    let l : p ≡ point (first_coordinate points 0 x) (first_coordinate points 1 y) (first_coordinate points 2 z) = ep ∙ (λ i. point (ea i) (eb i) (ec i)) in
    let h : q ≡ point (last_of points 0 x) (last_of points 1 y) (last_of points 2 z) = eq ∙ (λ i. point (eu i) (ev i) (ew i)) in
    λ i. record { lo = l i; hi = h i }

pub bounding : {box b : Bounds} {boxes boxes' : List Float} {at r : ℕ} → b ≡ box → ListWritten boxes boxes' at (box_corners b) → r ≡ longest b → r < 3
    → Bounding box boxes boxes' at r
bounding {boxes = boxes} {boxes' = boxes'} {at = at} e w er h = record {
  written = subst (λ (z : Bounds). ListWritten boxes boxes' at (box_corners z)) e w;
  axis_is = er ∙ ap longest e;
  axis_below = h;
}

-- ---- the first of a list in order comes before all, and all before the last
module _ (before : ℕ → ℕ → Bool) where
  pub ordered_first : (xs : List ℕ) → Ordered before xs → T (before (get_or xs 0 0) (get_or xs 0 0)) → (v : ℕ) → In v xs → T (before (get_or xs 0 0) v)
  ordered_first [] o self v i = absurd (omega (arith, i))
  ordered_first (x ∷ xs) o self v i = in_cases (λ (k : ℕ). T (before x k)) x xs self (λ k j. all_in (λ (y : ℕ). T (before x y)) k xs j o.0) v i

  ordered_last : (xs : List ℕ) (m : ℕ) → suc m ≡ length xs → Ordered before xs → ((v : ℕ) → In v xs → T (before v v)) → (v : ℕ) → In v xs
      → T (before v (get_or xs m 0))
  ordered_last [] m e o self v i = absurd (omega arith)
  ordered_last (x ∷ []) zero e o self v i = in_cases (λ (k : ℕ). T (before k x)) x [] (self x (in_head x [])) (λ k j. absurd (omega (arith, j))) v i
  ordered_last (x ∷ []) (suc m) e o self v i = absurd (omega arith)
  ordered_last (x ∷ y ∷ ys) zero e o self v i = absurd (omega arith)
  ordered_last (x ∷ y ∷ ys) (suc m) e o self v i =
      in_cases (λ (k : ℕ). T (before k (get_or (y ∷ ys) m 0))) x (y ∷ ys)
      (all_in (λ (k : ℕ). T (before x k)) (get_or (y ∷ ys) m 0) (y ∷ ys) (in_at (y ∷ ys) m (omega arith)) o.0)
      (ordered_last (y ∷ ys) m (omega arith) o.1 (λ k j. self k (omega (arith, j)))) v i

-- ---- a part of a cloud
module _ {points : List Float} (numbers : CoordinatesFit points) where
  pub all_below_lem : (xs : List ℕ) → Below (length points / 3) xs → EveryNumber (λ (v : ℕ). v < length points / 3) xs
  all_below_lem xs b = all_of (λ (v : ℕ). v < length points / 3) xs b

  number_at_lem : (axis : ℕ) → axis < 3 → (v : ℕ) → v < length points / 3 → Number (coordinate_of points axis v)
  unfolding coordinate_of
  number_at_lem axis h v l = record {
    is_finite = cloud_finite numbers.cloud (3 * v + axis) (omega (arith, numbers.cloud.threes));
    is_f32 = numbers.fit
        (3 * v + axis);
  }

  module _ (axis : ℕ) (h : axis < 3) (xs : List ℕ) (some : 0 < length xs) (below : Below (length points / 3) xs) where
    abbrev in_order : List ℕ
    in_order = sorted_by (precedes points axis) xs

    size : length in_order ≡ length xs
    size = sorted_length (precedes points axis) xs

    pub sorted_in : (v : ℕ) → In v in_order → In v xs
    sorted_in v i = omega (arith, i, sorted_count (eqb v) (precedes points axis) xs)

    in_sorted : (v : ℕ) → In v xs → In v in_order
    in_sorted v i = omega (arith, i, sorted_count (eqb v) (precedes points axis) xs)

    rises : Ordered (precedes points axis) in_order
    rises = in_order_lem numbers.cloud axis h xs (all_below_lem xs below)

    self : (v : ℕ) → In v in_order → T (precedes points axis v v)
    self v i = before_self numbers.cloud axis h v (below v (sorted_in v i))

    good : (v : ℕ) → In v xs → Number (coordinate_of points axis v)
    good v i = number_at_lem axis h v (below v i)

    head_in : In (get_or in_order 0 0) in_order
    head_in = in_at in_order 0 (omega (arith, size))

    last_in_lem : In (get_or in_order (length in_order - 1) 0) in_order
    last_in_lem = in_at in_order (length in_order - 1) (omega (arith, size))

    pub first_is : first_coordinate points axis in_order ≡ least_on_axis points axis xs
    first_is =
        let f = get_or in_order 0 0 in
        let i = sorted_in f head_in in
        least_is points axis xs some good f i
        (λ v j. before_le numbers.cloud axis h f v (below f i) (below v j)
        (ordered_first (precedes points axis) in_order rises (self f head_in) v (in_sorted v j)))

    pub last_is : last_of points axis in_order ≡ greatest_on_axis points axis xs
    last_is =
        let m = length in_order - 1 in
        let f = get_or in_order m 0 in
        let i = sorted_in f last_in_lem in
        greatest_is points axis xs some good f i
        (λ v j. before_le numbers.cloud axis h v f (below v j) (below f i)
        (ordered_last (precedes points axis) in_order m (omega (arith, size)) rises self v (in_sorted v j)))

  pub ends_box_lem : {xs x y z : List ℕ} → 0 < length xs → Orders points xs x y z → ends_box points x y z ≡ box_of points xs
  unfolding ends_box box_of
  ends_box_lem {xs} {x} {y} {z} some o =
      let f0 = ap (first_coordinate points 0) o.along_0 ∙ first_is 0 (lit≤ tt) xs some o.below in
      let f1 = ap (first_coordinate points 1) o.along_1 ∙ first_is 1 (lit≤ tt) xs some o.below in
      let f2 = ap (first_coordinate points 2) o.along_2 ∙ first_is 2 (lit≤ tt) xs some o.below in
      let l0 = ap (last_of points 0) o.along_0 ∙ last_is 0 (lit≤ tt) xs some o.below in
      let l1 = ap (last_of points 1) o.along_1 ∙ last_is 1 (lit≤ tt) xs some o.below in
      let l2 = ap (last_of points 2) o.along_2 ∙ last_is 2 (lit≤ tt) xs some o.below in
      λ i. record { lo = point (f0 i) (f1 i) (f2 i); hi = point (l0 i) (l1 i) (l2 i) }

  -- the orders are as long as the list
  pub order_sizes : {xs x y z : List ℕ} → Orders points xs x y z → (length x ≡ length xs) × (length y ≡ length xs) × (length z ≡ length xs)
  order_sizes {xs} o = (
    ap length o.along_0 ∙ sorted_length (precedes points 0) xs,
    ap length o.along_1 ∙ sorted_length (precedes points 1) xs,
    ap length
        o.along_2 ∙ sorted_length (precedes points 2) xs,
  )
