-- Scanning a list by its halves, in either order, and leaving out those whose box is too far. Assumes nothing.
use mathlib.Core.Path.{◌≡◌, refl, sym, ap, ◌∙◌, subst, subst⁻¹}
use mathlib.Core.Bool.{true}
use mathlib.Core.List.{List, [], ◌∷◌, ◌++◌}
use Prim.Native.Nat.{ℕ, ◌+◌, ◌-◌, ◌*◌, ◌/◌, ◌<◌}
use native.Mathlib.Nat.{le_of_eq}
use native.Mathlib.Omega.{arith}
use lib.Dec.{eqb}
use lib.Ieee.{Float, lt}
use lib.ListN.{length, take, drop, take-append-drop, length-drop}
use lib.Seq.{take_all, length-take-le}
use Rattle.lists.specs.Lists.{count}
use Rattle.lists.specs.Members.{In}
use Rattle.lists.proofs.Counts.{count_append}
use Rattle.numbers.specs.Root.{root}
use Rattle.vector.specs.declared.Point3f.{Point3f}
use Rattle.points.specs.Points.{point_at}
use Rattle.nearest.specs.declared.Best.{Best}
use Rattle.nearest.specs.Scan.{Near, length_to}
use Rattle.nearest.specs.Parts.{closer, scanned, Length, near_of_best, BestLimited, KeepsBest}
use Rattle.nearest.specs.Least.{AllFinite}
use Rattle.nearest.proofs.AnyOrder.{found, any_order}
use Rattle.nearest.proofs.Scanning.{beyond, lengths}
use Rattle.box_search.specs.Boxes.{reach_of, boxes_below, secondAt, HeldInBox, Boxed, leaf, node, SearchReady}
use Rattle.box_search.proofs.Bounds.{reach_least, inside_finite}

-- ---- by halves
scanned_append : (key : ℕ → Float) (xs ys : List ℕ) (best : Near) → scanned key (xs ++ ys) best ≡ scanned key ys (scanned key xs best)
unfolding scanned
scanned_append key [] ys best = refl
scanned_append key (x ∷ xs) ys best = scanned_append key xs ys (closer best (key x) x)

rest_is : (xs : List ℕ) (m : ℕ) → take (length xs - m) (drop m xs) ≡ drop m xs
rest_is xs m = take_all (length xs - m) (drop m xs) (le_of_eq (length-drop m xs))

pub second_size : (xs : List ℕ) (m : ℕ) → length (take (length xs - m) (drop m xs)) ≡ length xs - m
second_size xs m = ap length (rest_is xs m) ∙ length-drop m xs

counted : (v m : ℕ) (xs : List ℕ) → count (eqb v) (take m xs) + count (eqb v) (drop m xs) ≡ count (eqb v) xs
counted v m xs = sym (count_append (eqb v) (take m xs) (drop m xs)) ∙ ap (count (eqb v)) (take-append-drop m xs)

pub in_first : (xs : List ℕ) (m v : ℕ) → In v (take m xs) → In v xs
in_first xs m v i = omega (arith, i, counted v m xs)

pub in_second : (xs : List ℕ) (m v : ℕ) → In v (drop m xs) → In v xs
in_second xs m v i = omega (arith, i, counted v m xs)

-- ---- the boxes
pub held : {points : List Float} {words xs : List ℕ} {at width : ℕ} → Boxed points words xs at width → HeldInBox points words xs at
held (leaf h k) = k
held (node h k a b) = k

first_boxed : {points : List Float} {words xs : List ℕ} {at width : ℕ} → Boxed points words xs at width → 8 < length xs
    → Boxed points words (take (length xs / 2) xs) (at + 6) (width / 2)
first_boxed (leaf h k) l = absurd (omega arith)
first_boxed (node h k a b) l = a

second_boxed : {points : List Float} {words xs : List ℕ} {at width : ℕ} → Boxed points words xs at width → 8 < length xs
    → Boxed points words (drop (length xs / 2) xs) (secondAt at width (length xs)) (width / 2)
second_boxed (leaf h k) l = absurd (omega arith)
second_boxed (node h k a b) l = b

-- ---- the search of a part
module _ {points : List Float} {spot : Point3f} {words : List ℕ} {at width : ℕ} {square : Float} {xs : List ℕ} {best : Best}
    (r : SearchReady points spot words at width square xs best) where
  abbrev key : ℕ → Float
  key v = length_to points spot v

  pub here : HeldInBox points words xs at
  here = held r.boxed

  pub finite_here : AllFinite points spot xs
  finite_here = record { spot_finite = r.spot_finite; all_finite = λ v i. inside_finite words at spot (point_at points v) r.spot_finite (here.inside v i) }

  good : (v : ℕ) → In v xs → Length (key v)
  good = lengths finite_here

  pub left_out : lt best.limit square ≡ true → KeepsBest best (scanned key xs (near_of_best best))
  left_out e = beyond points spot xs best r.best_limit (reach_of words at spot) (ap (λ (z : Float). lt best.limit z) (sym r.square_is) ∙ e)
      (λ v i. reach_least words at spot (point_at points v) r.spot_finite (here.inside v i))

  -- the halves' boxes
  pub first_held : 8 < length xs → HeldInBox points words (take (length xs / 2) xs) (at + 6)
  first_held l = held (first_boxed r.boxed l)

  pub second_held : 8 < length xs → {p : ℕ} → p ≡ boxes_below (width / 2) (length xs / 2) → HeldInBox points words (drop (length xs / 2) xs) (at + 6 + 6 * p)
  second_held l {p} e = subst⁻¹ (λ (z : ℕ). HeldInBox points words (drop (length xs / 2) xs) (at + 6 + 6 * z)) e (held (second_boxed r.boxed l))

  module _ {b : Best} (lb : Length (root b.square)) (tb : BestLimited b) (l : 8 < length xs) where
    pub first_ready : {a : Float} → a ≡ reach_of words (at + 6) spot → SearchReady points spot words (at + 6) (width / 2) a (take (length xs / 2) xs) b
    first_ready e = record {
      boxed = first_boxed r.boxed l;
      narrow = omega (arith, r.narrow);
      few = omega (arith, r.few, length-take-le (length xs / 2) xs (omega arith));
      spot_finite = r.spot_finite;
      square_is = e;
      best_length = lb;
      best_limit = tb;
    }

    pub second_ready : {a : Float} {p : ℕ} → p ≡ boxes_below (width / 2) (length xs / 2) → a ≡ reach_of words (at + 6 + 6 * p) spot
        → SearchReady points spot words (at + 6 + 6 * p) (width / 2) a (take (length xs - length xs / 2) (drop (length xs / 2) xs)) b
    second_ready {a} {p} ep e = record {
      boxed = subst⁻¹ (λ (z : ℕ). Boxed points words (take (length xs - length xs / 2) (drop (length xs / 2) xs)) (at + 6 + 6 * z) (width / 2)) ep
          (subst⁻¹ (λ (z : List ℕ). Boxed points words z (secondAt at width (length xs)) (width / 2)) (rest_is xs (length xs / 2)) (second_boxed r.boxed l));
      narrow = omega (arith, r.narrow);
      few = omega (arith, r.few, second_size xs (length xs / 2));
      spot_finite = r.spot_finite;
      square_is = e;
      best_length = lb;
      best_limit = tb;
    }

  -- after one half the best is a length still
  size_of : (part : List ℕ) → ((v : ℕ) → In v part → In v xs) → {a : Best} → KeepsBest a (scanned key part (near_of_best best)) → Length (root a.square)
  size_of part from k = subst⁻¹ (λ (z : Near). Length z.distance) k.found_is
      (found key part (λ v i. good v (from v i)) (near_of_best best) r.best_length).size

  pub first_size : {a : Best} → KeepsBest a (scanned key (take (length xs / 2) xs) (near_of_best best)) → Length (root a.square)
  first_size k = size_of (take (length xs / 2) xs) (in_first xs (length xs / 2)) k

  pub second_length : {a : Best} → KeepsBest a (scanned key (take (length xs - length xs / 2) (drop (length xs / 2) xs)) (near_of_best best))
      → Length (root a.square)
  second_length {a} k = size_of (drop (length xs / 2) xs) (in_second xs (length xs / 2))
      (subst (λ (z : List ℕ). KeepsBest a (scanned key z (near_of_best best))) (rest_is xs (length xs / 2)) k)

  pub in_turn : {a z : Best} → KeepsBest a (scanned key (take (length xs / 2) xs) (near_of_best best))
      → KeepsBest z (scanned key (take (length xs - length xs / 2) (drop (length xs / 2) xs)) (near_of_best a)) → KeepsBest z (scanned key xs (near_of_best best))
  in_turn {a} {z} ka kz =
      let m = length xs / 2 in
      record {
        found_is = kz.found_is ∙ ap (λ (l : List ℕ). scanned key l (near_of_best a)) (rest_is xs m) ∙ ap (λ (n : Near). scanned key (drop m xs) n) ka.found_is
            ∙ sym (scanned_append key (take m xs) (drop m xs) (near_of_best best)) ∙ ap (λ (l : List ℕ). scanned key l (near_of_best best)) (take-append-drop m xs);
        limited = kz.limited;
      }

  pub turned : {a z : Best} → KeepsBest a (scanned key (take (length xs - length xs / 2) (drop (length xs / 2) xs)) (near_of_best best))
      → KeepsBest z (scanned key (take (length xs / 2) xs) (near_of_best a)) → KeepsBest z (scanned key xs (near_of_best best))
  turned {a} {z} ka kz =
      let m = length xs / 2 in
      let both = drop m xs ++ take m xs in
      let to : (v : ℕ) → In v both → In v xs = λ v i. omega (arith, i, counted v m xs, count_append (eqb v) (drop m xs) (take m xs)) in
      let from : (v : ℕ) → In v xs → In v both = λ v i. omega (arith, i, counted v m xs, count_append (eqb v) (drop m xs) (take m xs)) in
      record {
        found_is = kz.found_is ∙ ap (λ (n : Near). scanned key (take m xs) n)
            (ka.found_is ∙ ap (λ (l : List ℕ). scanned key l (near_of_best best)) (rest_is xs m))
            ∙ sym (scanned_append key (drop m xs) (take m xs) (near_of_best best)) ∙ any_order key both xs (λ v i. good v (to v i)) (near_of_best best)
            r.best_length to from;
        limited = kz.limited;
      }
