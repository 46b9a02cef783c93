-- The index that is a cloud's own: its words are the order and the boxes, and a search through it finds what a scan
-- does. Assumes nothing.
use mathlib.Core.Path.{◌≡◌, refl, sym, ap, ◌∙◌, subst⁻¹}
use mathlib.Core.Bool.{Bool, true, false, cond}
use mathlib.Core.List.{List, [], ◌∷◌, ◌++◌, map, append_assoc}
use Prim.Native.Nat.{ℕ, zero, suc, ◌+◌, ◌-◌, ◌*◌, ◌/◌, ◌≤◌, ◌<◌}
use native.Mathlib.Omega.{arith}
use borrow.Author.Tests.{eqb-true, le-ltb}
use lib.Dec.{T, eqb}
use lib.Ieee.{Float, nan, binary32, lt, fits, to_bits}
use lib.ListN.{length, get_or, take, drop, take-append-drop, replicate, length-append}
use lib.Seq.{take_at, drop_at}
use Rattle.lists.specs.Lists.{up_from}
use Rattle.lists.specs.Members.{In}
use Rattle.lists.proofs.Bools.{and_both}
use Rattle.lists.proofs.Members.{up_below}
use Rattle.numbers.specs.Root.{root}
use Rattle.vector.specs.Vector.{squared}
use Rattle.vector.specs.Inner.Numbers.{Finite}
use Rattle.vector.proofs.Distances.{squared_fits, distance_is}
use Rattle.vector.specs.declared.Point3f.{Point3f}
use Rattle.domain.proofs.Accepted.{cloud_finite}
use Rattle.axis_sort.specs.Axis.{coordinate_of}
use Rattle.kd_tree.specs.Tree.{split, boxes_of, index_size, padded, built, same_numbers, belongs}
use Rattle.nearest.specs.Scan.{Near, length_to, near_at, first_least, nearest}
use Rattle.nearest.specs.Parts.{closer, scanned, Length, near_of_best, KeepsBest}
use Rattle.nearest.specs.declared.Best.{Best}
use Rattle.box_search.specs.Boxes.{reach_of, Six, Boxed, SearchReady}
use Rattle.nearest.proofs.Lengths.{distance_length}
use Rattle.box_search.proofs.Halves.{held}
use Rattle.points.specs.Points.{point_at}
use Rattle.bounds.specs.Inner.Within.{Limit}
use Rattle.nearest.proofs.AnyOrder.{any_order}
use Rattle.index_search.specs.Inner.Indexed.{OwnIndex, Width}
use Rattle.kd_tree.proofs.Counted.{split_count, split_length}
use Rattle.kd_tree.proofs.Farthest.{Number}
use Rattle.index_search.proofs.Parts.{Stands, Good, boxed_to}

-- ---- equal lists
same_is : (xs ys : List ℕ) → same_numbers xs ys ≡ true → xs ≡ ys
unfolding same_numbers
same_is [] [] e = refl
same_is [] (y ∷ ys) e = absurd (let z : ◌≡◌ {A = ℕ} 0 1 = cc in omega arith)
same_is (x ∷ xs) [] e = absurd (let z : ◌≡◌ {A = ℕ} 0 1 = cc in omega arith)
same_is (x ∷ xs) (y ∷ ys) e =
    let b = and_both {p = eqb x y} {q = same_numbers xs ys} e in
    ap (λ (z : ℕ). z ∷ xs) (eqb-true x y b.0) ∙ ap (λ (z : List ℕ). y ∷ z) (same_is xs ys b.1)

up_length : (i m : ℕ) → length (up_from i m) ≡ m
unfolding up_from
up_length i zero = refl
up_length i (suc m) = ap suc (up_length (i + 1) m)

-- ---- a scan in number order
closer_late : (key : ℕ → Float) (best : Near) (i : ℕ) → best.number ≤ i → closer best (key i) i ≡ cond (lt (key i) best.distance) (near_at key i) best
unfolding closer
closer_late key best i h = rw (le-ltb i best.number h) (go (lt (key i) best.distance) (lt best.distance (key i)))
  where
    go : (a b : Bool) → cond a (near_at key i) (cond b best best) ≡ cond a (near_at key i) best
    go true b = refl
    go false true = refl
    go false false = refl

in_order_lem : (key : ℕ → Float) (best : Near) (i m : ℕ) → best.number ≤ i → first_least key best i m ≡ scanned key (up_from i m) best
unfolding first_least scanned up_from
in_order_lem key best i zero h = refl
in_order_lem key best i (suc m) h =
    in_order_lem key (cond (lt (key i) best.distance) (near_at key i) best) (i + 1) m (go (lt (key i) best.distance))
    ∙ ap (λ (z : Near). scanned key (up_from (i + 1) m) z) (sym (closer_late key best i h))
  where
    go : (b : Bool) → (cond b (near_at key i) best).number ≤ i + 1
    go true = omega arith
    go false = omega arith

first_again : (key : ℕ → Float) → closer (near_at key 0) (key 0) 0 ≡ near_at key 0
first_again key = closer_late key (near_at key 0) 0 (omega arith) ∙ go (lt (key 0) (key 0))
  where
    go : (b : Bool) → cond b (near_at key 0) (near_at key 0) ≡ near_at key 0
    go true = refl
    go false = refl

all_scanned : (points : List Float) (spot : Point3f) (n : ℕ) → 0 < n → scanned (length_to points spot) (up_from 0 n) (near_at (length_to points spot) 0)
    ≡ nearest points n spot
unfolding nearest scanned up_from
all_scanned points spot zero h = absurd (omega arith)
all_scanned points spot (suc m) h =
    let key : ℕ → Float = length_to points spot in
    ap (λ (z : Near). scanned key (up_from 1 m) z) (first_again key) ∙ sym (in_order_lem key (near_at key 0) 1 m (omega arith)) ∙ ap
    (λ (z : ℕ). first_least key (near_at key 0) 1 z) (let e : m ≡ suc m - 1 = omega arith in e)

-- ---- the words
module _ {points : List Float} {index : List ℕ} (own : OwnIndex points index) (fit : (k : ℕ) → T (fits binary32 (get_or points k nan))) where
  abbrev n : ℕ
  n = length points / 3

  abbrev order : List ℕ
  order = split points (up_from 0 n)

  abbrev boxes : List ℕ
  boxes = map (to_bits binary32) (boxes_of points (up_from 0 n))

  abbrev rest : List ℕ
  rest = replicate (index_size n - length (order ++ boxes)) 0 ++ drop (index_size n) index

  words_are : index ≡ order ++ (boxes ++ rest)
  unfolding belongs built padded
  words_are =
      sym (take-append-drop (index_size n) index) ∙ ap (λ (z : List ℕ). z ++ drop (index_size n) index)
      (same_is (take (index_size n) index) (built points) own.own)
      ∙ append_assoc (order ++ boxes) (replicate (index_size n - length (order ++ boxes)) 0) (drop (index_size n) index) ∙ append_assoc order boxes rest

  order_length : length order ≡ n
  unfolding split
  order_length = split_length points (length (up_from 0 n)) (up_from 0 n) ∙ up_length 0 n

  front : take n index ≡ order
  front = ap (take n) words_are ∙ take_at order (boxes ++ rest) n order_length

  pub whole_length : length (take n index) ≡ n
  whole_length = ap length front ∙ order_length

  pub long_enough : n ≤ length index
  long_enough = omega (arith, ap length words_are, length-append order (boxes ++ rest), order_length)

  stands : Stands index n (boxes_of points (up_from 0 n))
  stands = record { rest = rest; is = ap (drop n) words_are ∙ drop_at order (boxes ++ rest) n order_length }

  below : (v : ℕ) → In v (up_from 0 n) → v < n
  below v i = up_below n 0 n (omega arith) v i

  in_order_all : (v : ℕ) → In v order → In v (up_from 0 n)
  unfolding split
  in_order_all v i = omega (arith, i, split_count (eqb v) points (length (up_from 0 n)) (up_from 0 n))

  all_in_order : (v : ℕ) → In v (up_from 0 n) → In v order
  unfolding split
  all_in_order v i = omega (arith, i, split_count (eqb v) points (length (up_from 0 n)) (up_from 0 n))

  coordinate : (k : ℕ) → k < length points → Number (get_or points k nan)
  coordinate k h = record { is_finite = cloud_finite own.cloud k h; is_f32 = fit k }

  good : Good points index (up_from 0 n)
  unfolding coordinate_of
  good = record {
    known = λ v i. omega (arith, below v i, own.cloud.threes);
    numbers = λ axis h v i. coordinate (3 * v + axis) (omega (arith, below v i, own.cloud.threes));
  }

  finite_point : (v : ℕ) → v < n → Finite (point_at points v)
  unfolding point_at
  finite_point v h = record {
    x_finite = cloud_finite own.cloud (3 * v) (omega (arith, own.cloud.threes));
    y_finite = cloud_finite own.cloud (3 * v + 1) (omega (arith, own.cloud.threes));
    z_finite = cloud_finite own.cloud (3 * v + 2) (omega (arith, own.cloud.threes));
  }

  pub boxed : (w : ℕ) → Width n w → Boxed points index (take n index) n w
  unfolding split boxes_of
  boxed w h =
      let e : length (up_from 0 n) ≡ n = up_length 0 n in
      subst⁻¹ (λ (z : List ℕ). Boxed points index z n w) front
      (boxed_to points index (length (up_from 0 n)) (up_from 0 n) n w (omega arith) (omega (arith, e, own.cloud.some)) good
      (λ l. subst⁻¹ (λ (z : ℕ). Width z w) e h) stands)

  pub first_six : (w : ℕ) → Width n w → Six index n
  first_six w h = (held (boxed w h)).six

  module _ (spot : Point3f) (s : Finite spot) where
    abbrev key : ℕ → Float
    key v = length_to points spot v

    key_length : (v : ℕ) → v < n → Length (key v)
    key_length v h = distance_length (point_at points v) spot (finite_point v h) s

    nearest_is : {r : Near} → r ≡ scanned key (take n index) (near_at key 0) → r ≡ nearest points n spot
    nearest_is e =
        e ∙ ap (λ (z : List ℕ). scanned key z (near_at key 0)) front
        ∙ any_order key order (up_from 0 n) (λ v i. key_length v (below v (in_order_all v i))) (near_at key 0)
        (key_length 0 own.cloud.some) in_order_all all_in_order
        ∙ all_scanned points spot n own.cloud.some

    root_is : {q : Float} → q ≡ squared (point_at points 0) spot → root q ≡ key 0
    root_is e = ap root e ∙ sym (distance_is (point_at points 0) spot)

    pub started : {q l square : Float} (w : ℕ) → Width n w → w ≤ 4096 → q ≡ squared (point_at points 0) spot → Limit (root q) l → square ≡ reach_of index n spot
        → SearchReady points spot index n w square (take n index) (record { square = q; number = 0; limit = l })
    started w h small e lim sq = record {
      boxed = boxed w h;
      narrow = small;
      few = omega (arith, whole_length, own.cloud.few);
      spot_finite = s;
      square_is = sq;
      best_length = subst⁻¹ Length (root_is e) (key_length 0 own.cloud.some);
      best_limit = record { is_f32 = subst⁻¹ (λ (z : Float). T (fits binary32 z)) e (squared_fits (point_at points 0) spot); above = lim };
    }

    pub nearest_found : {q : Float} {z : ℕ} {r : Best} → q ≡ squared (point_at points 0) spot → z ≡ 0
        → KeepsBest r (scanned key (take n index) (record { distance = root q; number = z })) → near_of_best r ≡ nearest points n spot
    nearest_found e z k = nearest_is (k.found_is ∙ ap (λ (x : Near). scanned key (take n index) x) (λ i. record { distance = root_is e i; number = z i }))
