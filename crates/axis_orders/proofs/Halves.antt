-- An order parted at the middle of another: each part is in order, and has the numbers of one half. Assumes nothing.
use mathlib.Core.Path.{◌≡◌, refl, sym, ap, ◌∙◌, subst, subst⁻¹}
use mathlib.Core.Bool.{Bool, true, false, cond, not, ◌||◌}
use mathlib.Core.Logic.{dite}
use mathlib.Core.List.{List, [], ◌∷◌, ◌++◌}
use Prim.Native.Nat.{ℕ, zero, suc, ◌+◌, ◌*◌, ◌/◌, ◌≤◌, ◌<◌}
use native.Mathlib.Decide.{dec_lt}
use native.Mathlib.Omega.{arith}
use borrow.Author.Tests.{eqb-true, leb-true, leb-false, lt-ltb, le-ltb}
use lib.Dec.{T, eqb, leb, ltb, lit≤}
use lib.Ieee.{Float, lt, le, eq}
use lib.Ieee.Scale.{finite}
use lib.ListN.{length, take, drop, get_or, take-append-drop}
use lib.Seq.{length-take-le, take_at, drop_at}
use Rattle.lists.specs.Lists.{count}
use Rattle.lists.specs.Members.{In, Below, only}
use Rattle.lists.proofs.Bools.{not-true, true_not_false}
use Rattle.lists.proofs.Counts.{count_append}
use Rattle.lists.proofs.Members.{in_at, in_cases, only_count, only_none}
use Rattle.numbers.proofs.OrderLaws.{le_not_lt, not_le_lt, lt_le}
use Rattle.domain.proofs.Accepted.{cloud_finite}
use Rattle.axis_sort.specs.Axis.{coordinate_of, precedes}
use Rattle.axis_sort.specs.Sorted.{sorted_by}
use Rattle.axis_sort.proofs.Halving.{sorted_length}
use Rattle.kd_tree.proofs.Counted.{sorted_count}
use Rattle.kd_tree.proofs.Farthest.{eq_turned, eq_le}
use Rattle.tree_order.specs.InOrder.{EveryNumber, Ordered}
use Rattle.tree_order.proofs.Ordered.{all_in, all_take, either, true_T, not_T, T_true, in_order_lem, only_order, before_both, before_self, numbered}
use Rattle.axis_orders.specs.Inner.Parted.{is_before_pivot, others, parted_but, order_along}
use Rattle.axis_orders.specs.Inner.Orders.{CoordinatesFit, Orders, Dividing, Divided}
use Rattle.axis_orders.proofs.Ends.{all_below_lem, ordered_first}

-- ---- parts of a list in order
module _ (before : ℕ → ℕ → Bool) where
  ordered_take : (m : ℕ) (xs : List ℕ) → Ordered before xs → Ordered before (take m xs)
  ordered_take zero xs o = tt
  ordered_take (suc m) [] o = tt
  ordered_take (suc m) (x ∷ xs) o = (all_take (λ (y : ℕ). T (before x y)) m xs o.0, ordered_take m xs o.1)

  ordered_drop : (m : ℕ) (xs : List ℕ) → Ordered before xs → Ordered before (drop m xs)
  ordered_drop zero xs o = o
  ordered_drop (suc m) [] o = tt
  ordered_drop (suc m) (x ∷ xs) o = ordered_drop m xs o.1

  all_only : (P : ℕ → Type 0) (test : ℕ → Bool) (xs : List ℕ) → EveryNumber P xs → EveryNumber P (only test xs)
  unfolding only
  all_only P test [] a = tt
  all_only P test (x ∷ xs) a = either (EveryNumber P) (test x) _ _ (λ _. (a.0, all_only P test xs a.1)) (λ _. all_only P test xs a.1)

  ordered_only : (test : ℕ → Bool) (xs : List ℕ) → Ordered before xs → Ordered before (only test xs)
  unfolding only
  ordered_only test [] o = tt
  ordered_only test (x ∷ xs) o =
      either (Ordered before) (test x) _ _ (λ _. (all_only (λ (y : ℕ). T (before x y)) test xs o.0, ordered_only test xs o.1))
      (λ _. ordered_only test xs o.1)

  -- whoever stands before a place comes before who stands there, and that one before whoever follows
  first_before : (xs : List ℕ) (m : ℕ) → m < length xs → Ordered before xs → (v : ℕ) → In v (take m xs) → T (before v (get_or xs m 0))
  first_before xs zero h o v i = absurd (omega (arith, i))
  first_before [] (suc m) h o v i = absurd (omega arith)
  first_before (x ∷ xs) (suc m) h o v i =
      in_cases (λ (k : ℕ). T (before k (get_or xs m 0))) x (take m xs) (all_in (λ (k : ℕ). T (before x k)) (get_or xs m 0) xs (in_at xs m (omega arith)) o.0)
      (first_before xs m (omega arith) o.1) v i

  second_after : (xs : List ℕ) (m : ℕ) → Ordered before xs → T (before (get_or xs m 0) (get_or xs m 0)) → (v : ℕ) → In v (drop m xs) → T (before (get_or xs m 0) v)
  second_after xs zero o self v i = ordered_first before xs o self v i
  second_after [] (suc m) o self v i = absurd (omega (arith, i))
  second_after (x ∷ xs) (suc m) o self v i = second_after xs m o.1 self v i

  at_second : (xs : List ℕ) (m : ℕ) → m < length xs → In (get_or xs m 0) (drop m xs)
  at_second xs zero h = in_at xs 0 h
  at_second [] (suc m) h = absurd (omega arith)
  at_second (x ∷ xs) (suc m) h = at_second xs m (omega arith)

count_parts : (m v : ℕ) (xs : List ℕ) → count (eqb v) xs ≡ count (eqb v) (take m xs) + count (eqb v) (drop m xs)
count_parts m v xs = ap (count (eqb v)) (sym (take-append-drop m xs)) ∙ count_append (eqb v) (take m xs) (drop m xs)

pub absent : (v : ℕ) (xs : List ℕ) → (In v xs → ⊥) → count (eqb v) xs ≡ 0
absent v xs not_in = dite (dec_lt 0 (count (eqb v) xs)) (λ h. absurd (not_in h)) (λ h. omega arith)

-- ---- the code's test is the order's
not_leb : (a b : ℕ) → ltb b a ≡ not (leb a b)
not_leb a b = go (leb a b) refl
  where
    go : (t : Bool) → leb a b ≡ t → ltb b a ≡ not t
    go true e = le-ltb b a (leb-true a b e)
    go false e = lt-ltb b a (leb-false a b e)

module _ {points : List Float} (numbers : CoordinatesFit points) (axis : ℕ) (axis_is : axis < 3) where
  abbrev key : ℕ → Float
  key v = coordinate_of points axis v

  pub test_is : (p v : ℕ) → p < length points / 3 → v < length points / 3 → is_before_pivot points axis (key p) p v ≡ not (precedes points axis p v)
  unfolding is_before_pivot precedes coordinate_of le
  test_is p v hp hv = go (eq (key v) (key p)) (lt (key v) (key p)) (lt (key p) (key v)) refl refl refl
    where
      fp : T (finite (key p))
      fp = cloud_finite numbers.cloud (3 * p + axis) (omega (arith, numbers.cloud.threes))

      fv : T (finite (key v))
      fv = cloud_finite numbers.cloud (3 * v + axis) (omega (arith, numbers.cloud.threes))

      go : (e l g : Bool) → eq (key v) (key p) ≡ e → lt (key v) (key p) ≡ l → lt (key p) (key v) ≡ g → cond e (ltb v p) l
          ≡ not (cond g true (cond l false (leb p v)))
      go true l true e k m = absurd (le_not_lt (key v) (key p) (eq_le (key v) (key p) (true_T _ e)) (true_T _ m))
      go true true false e k m = absurd (le_not_lt (key p) (key v) (eq_le (key p) (key v) (eq_turned (key v) (key p) fv fp (true_T _ e))) (true_T _ k))
      go true false false e k m = not_leb p v
      go false true true e k m = absurd (le_not_lt (key v) (key p) (lt_le (key v) (key p) (true_T _ k)) (true_T _ m))
      go false false true e k m = refl
      go false true false e k m = refl
      go false false false e k m =
          let n : le (key v) (key p) ≡ false = (λ i. k i || e i) in
          absurd (subst T m (not_le_lt (key v) (key p) (numbered numbers.cloud axis axis_is v hv) (numbered numbers.cloud axis axis_is p hp) (not_T _ n)))

-- the only list in order along an axis that has the numbers of another
pub is_sorted : {points : List Float} (numbers : CoordinatesFit points) (axis : ℕ) → axis < 3 → (k g : List ℕ) → Below (length points / 3) g
    → Ordered (precedes points axis) k
    → ((v : ℕ) → count (eqb v) k ≡ count (eqb v) g) → k ≡ sorted_by (precedes points axis) g
is_sorted {points} numbers axis h k g b o c =
    let kept : (v : ℕ) → count (eqb v) (sorted_by (precedes points axis) g) ≡ count (eqb v) g = λ v. sorted_count (eqb v) (precedes points axis) g in
    only_order numbers.cloud axis h k (sorted_by (precedes points axis) g) (all_below_lem numbers k (λ v i. b v (omega (arith, i, c v))))
    (all_below_lem numbers (sorted_by (precedes points axis) g) (λ v i. b v (omega (arith, i, kept v)))) o
    (in_order_lem numbers.cloud axis h g (all_below_lem numbers g b)) (λ v. c v ∙ sym (kept v))

-- ---- a list divided at place m of its order along an axis
module _ {points : List Float} (numbers : CoordinatesFit points) (axis : ℕ) (axis_is : axis < 3) (xs : List ℕ) (below : Below (length points / 3) xs)
    (once : (v : ℕ) → count (eqb v) xs ≤ 1) (m : ℕ) (inside : m < length xs) where
  abbrev whole : List ℕ
  whole = sorted_by (precedes points axis) xs

  abbrev pivot : ℕ
  pivot = get_or whole m 0

  abbrev test : ℕ → Bool
  test v = is_before_pivot points axis (coordinate_of points axis pivot) pivot v

  size : length whole ≡ length xs
  size = sorted_length (precedes points axis) xs

  counts : (v : ℕ) → count (eqb v) xs ≡ count (eqb v) (take m whole) + count (eqb v) (drop m whole)
  counts v = sym (sorted_count (eqb v) (precedes points axis) xs) ∙ count_parts m v whole

  rises : Ordered (precedes points axis) whole
  rises = in_order_lem numbers.cloud axis axis_is xs (all_below_lem numbers xs below)

  first_below : Below (length points / 3) (take m whole)
  first_below v i = below v (omega (arith, i, counts v))

  second_below : Below (length points / 3) (drop m whole)
  second_below v i = below v (omega (arith, i, counts v))

  at_pivot : In pivot (drop m whole)
  at_pivot = at_second (precedes points axis) whole m (omega (arith, size))

  passes : (v : ℕ) → In v (take m whole) → test v ≡ true
  passes v i =
      let lv = first_below v i in
      let lp = second_below pivot at_pivot in
      let after : precedes points axis pivot v ≡ false = not-true (λ (t : precedes points axis pivot v ≡ true).
      let e : v ≡ pivot = before_both numbers.cloud axis axis_is v pivot lv lp (first_before (precedes points axis) whole m (omega (arith, size)) rises v i)
      (true_T _ t) in
      let j : In pivot (take m whole) = subst (λ (k : ℕ). In k (take m whole)) e i in
      absurd (omega (arith, j, at_pivot, counts pivot, once pivot))) in
      test_is numbers axis axis_is pivot v lp lv ∙ ap not after

  fails : (v : ℕ) → In v (drop m whole) → test v ≡ false
  fails v i =
      let lp = second_below pivot at_pivot in
      let before : precedes points axis pivot v
      ≡ true = T_true _ (second_after (precedes points axis) whole m rises (before_self numbers.cloud axis axis_is pivot lp) v i) in
      test_is numbers axis axis_is pivot v lp (second_below v i) ∙ ap not before

  -- another list with the same numbers
  module _ (l : List ℕ) (same : (v : ℕ) → count (eqb v) l ≡ count (eqb v) xs) where
    front_count : (v : ℕ) → count (eqb v) (only test l) ≡ count (eqb v) (take m whole)
    front_count v = go (test v) refl
      where
        go : (b : Bool) → test v ≡ b → count (eqb v) (only test l) ≡ count (eqb v) (take m whole)
        go true e = let z = absent v (drop m whole) (λ i. true_not_false e (fails v i)) in only_count test v e l ∙ omega (arith, same v, counts v, z)
        go false e = only_none test v e l ∙ sym (absent v (take m whole) (λ i. true_not_false (passes v i) e))

    back_count : (v : ℕ) → count (eqb v) (others test l) ≡ count (eqb v) (drop m whole)
    back_count v = go (test v) refl
      where
        go : (b : Bool) → test v ≡ b → count (eqb v) (others test l) ≡ count (eqb v) (drop m whole)
        go true e = only_none (λ (x : ℕ). not (test x)) v (ap not e) l ∙ sym (absent v (drop m whole) (λ i. true_not_false e (fails v i)))
        go false e = let z = absent v (take m whole) (λ i. true_not_false (passes v i) e) in only_count (λ (x : ℕ). not (test x)) v (ap not e) l ∙ omega
            (arith, same v, counts v, z)

  -- each of the three orders
  module _ (own : ℕ) (own_is : own < 3) where
    abbrev order : List ℕ
    order = sorted_by (precedes points own) xs

    same_numbers : (v : ℕ) → count (eqb v) order ≡ count (eqb v) xs
    same_numbers v = sorted_count (eqb v) (precedes points own) xs

    own_rises : Ordered (precedes points own) order
    own_rises = in_order_lem numbers.cloud own own_is xs (all_below_lem numbers xs below)

    front_is : only test order ≡ sorted_by (precedes points own) (take m whole)
    front_is = is_sorted numbers own own_is (only test order) (take m whole) first_below (ordered_only (precedes points own) test order own_rises)
        (front_count order same_numbers)

    back_is : others test order ≡ sorted_by (precedes points own) (drop m whole)
    back_is = is_sorted numbers own own_is (others test order) (drop m whole) second_below
        (ordered_only (precedes points own) (λ (x : ℕ). not (test x)) order own_rises) (back_count order same_numbers)

    front_size : length (only test order) ≡ m
    front_size = ap length front_is ∙ sorted_length (precedes points own) (take m whole) ∙ length-take-le m whole (omega (arith, size))

    parts : (k : List ℕ) → k ≡ parted_but own axis test order → (take m k ≡ sorted_by (precedes points own) (take m whole))
        × (drop m k ≡ sorted_by (precedes points own) (drop m whole))
    unfolding parted_but
    parts k e = go (eqb own axis) refl e
      where
        go : (b : Bool) → eqb own axis ≡ b → k ≡ cond b order (only test order ++ others test order)
            → (take m k ≡ sorted_by (precedes points own) (take m whole)) × (drop m k ≡ sorted_by (precedes points own) (drop m whole))
        go true t f =
            let s : own ≡ axis = eqb-true own axis t in
            let a : k ≡ whole = f ∙ ap (λ (o : ℕ). sorted_by (precedes points o) xs) s in (
              ap (take m) a ∙ is_sorted numbers own own_is (take m whole) (take m whole) first_below
                  (subst⁻¹ (λ (o : ℕ). Ordered (precedes points o) (take m whole)) s (ordered_take (precedes points axis) m whole rises)) (λ v. refl),
              ap (drop m) a ∙ is_sorted numbers own own_is (drop m whole) (drop m whole) second_below
                  (subst⁻¹ (λ (o : ℕ). Ordered (precedes points o) (drop m whole)) s (ordered_drop (precedes points axis) m whole rises)) (λ v. refl),
            )
        go false t f = (
          ap (take m) f ∙ take_at (only test order) (others test order) m front_size ∙ front_is,
          ap (drop m) f ∙ drop_at (only test order)
              (others test order) m front_size ∙ back_is,
        )

  orders_of : (x y z : List ℕ) → x ≡ parted_but 0 axis test (sorted_by (precedes points 0) xs) → y ≡ parted_but 1 axis test (sorted_by (precedes points 1) xs)
      → z ≡ parted_but 2 axis test (sorted_by (precedes points 2) xs)
      → Orders points (take m whole) (take m x) (take m y) (take m z) × Orders points (drop m whole) (drop m x) (drop m y) (drop m z)
  orders_of x y z ex ey ez =
      let px = parts 0 (lit≤ tt) x ex in
      let py = parts 1 (lit≤ tt) y ey in
      let pz = parts 2 (lit≤ tt) z ez in (
        record { below = first_below; once = λ v. omega (arith, counts v, once v); along_0 = px.0; along_1 = py.0; along_2 = pz.0 },
        record { below = second_below; once = λ v. omega (arith, counts v, once v); along_0 = px.1; along_1 = py.1; along_2 = pz.1 },
      )

along_is : {points : List Float} {xs x y z : List ℕ} (axis : ℕ) → axis < 3 → Orders points xs x y z → order_along axis x y z ≡ sorted_by (precedes points axis) xs
unfolding order_along
along_is zero h o = o.along_0
along_is (suc zero) h o = o.along_1
along_is (suc (suc zero)) h o = o.along_2
along_is (suc (suc (suc a))) h o = absurd (omega arith)

pub divided : {points : List Float} {axis : ℕ} {xs x y z : List ℕ} {work : ℕ} (d : Dividing points axis xs x y z work) (xs' x' y' z' : List ℕ) (pivot : ℕ)
    (at : Float)
    → xs' ≡ order_along axis x y z → pivot ≡ get_or xs' (length xs' / 2) 0 → at ≡ coordinate_of points axis pivot → x'
    ≡ parted_but 0 axis (is_before_pivot points axis at pivot) x
    → y' ≡ parted_but 1 axis (is_before_pivot points axis at pivot) y → z' ≡ parted_but 2 axis (is_before_pivot points axis at pivot) z
    → Divided points axis xs xs' x' y' z'
divided {points} {axis} {xs} {x} {y} {z} d xs' x' y' z' pivot at eo ep ea ex ey ez =
    let o = d.orders in
    let whole = sorted_by (precedes points axis) xs in
    let m = length xs / 2 in
    let e : xs' ≡ whole = eo ∙ along_is axis d.axis_is o in
    let l : length xs' ≡ length xs = ap length e ∙ sorted_length (precedes points axis) xs in
    let p : pivot ≡ get_or whole m 0 = ep ∙ (λ i. get_or (e i) (l i / 2) 0) in
    let t : (own : ℕ) (k order : List ℕ) → k ≡ order → parted_but own axis (is_before_pivot points axis at pivot) k
    ≡ parted_but own axis (is_before_pivot points axis (coordinate_of points axis (get_or whole m 0)) (get_or whole m 0)) order =
    λ own k order ek. (λ i. parted_but own axis (is_before_pivot points axis ((ea ∙ ap (coordinate_of points axis) p) i) (p i)) (ek i)) in
    let r = orders_of d.numbers axis d.axis_is xs o.below o.once m (omega (arith, d.some)) x' y' z' (ex ∙ t 0 x _ o.along_0)
    (ey ∙ t 1 y _ o.along_1) (ez ∙ t 2 z _ o.along_2) in
    subst⁻¹ (λ (k : List ℕ). Divided points axis xs k x' y' z') e (record { ordered = refl; first = r.0; second = r.1 })
