-- The listed points are put in another order, in a part of the slice that is lent. Assumes nothing.
use Prim.Native.Nat.{ℕ, ◌+◌, ◌*◌, ◌-◌, ◌≤◌, ◌<◌}
use mathlib.Core.Path.{◌≡◌, refl, sym, ap, ◌∙◌, subst, subst⁻¹}
use mathlib.Core.List.{List, ◌++◌}
use native.Mathlib.Omega.{arith}
use borrow.Rule.Slice.PartMut.{put_mid, same_len_mid, take_put, drop_put}
use lib.Dec.{eqb}
use lib.ListN.{length, take, drop, get_or, length-drop}
use lib.Seq.{length-take-le, take_at, drop_at, get_or-take, get_or-drop}
use Rattle.lists.specs.Lists.{count}
use Rattle.lists.proofs.Members.{in_at}
use Rattle.sifting.proofs.Parts.{drop_more}
use Rattle.decisions.specs.declared.Scene.{Scene}
use Rattle.nearby.specs.Inner.Ready.{NeighborsListed, neighbors_listed, nth}
use Rattle.listed_boxes.specs.Inner.Boxes.{SameWords}
use Rattle.seedless.specs.Inner.Seedless.{Stands, ListReordered}
use Rattle.seedless.proofs.Threes.{listed_place}

-- the m-th of the listed points is in the list
stands_in : (s : Scene) (w : List ℕ) (c k : ℕ) → 4 * s.n + c ≤ length w → Stands s w c k → 1 ≤ count (eqb k) (neighbors_listed s w c)
stands_in s w c k long p =
    let l : length (neighbors_listed s w c) ≡ c = length-take-le c (drop (4 * s.n) w) (omega (arith, length-drop (4 * s.n) w)) in
    let e : get_or (neighbors_listed s w c) p.0 0 ≡ k = get_or-take c (drop (4 * s.n) w) p.0 0 p.1.0 ∙ get_or-drop (4 * s.n) w p.0 0 ∙ p.1.1 in
    subst (λ (x : ℕ). 1 ≤ count (eqb x) (neighbors_listed s w c)) e (in_at (neighbors_listed s w c) p.0 (omega (arith, l, p.1.0)))

module _ {s : Scene} {w : List ℕ} {c : ℕ} (few : 24 * s.n + 64 ≤ length w) (points : NeighborsListed s w c) where
  same_size : 4 * s.n + c - 4 * s.n ≡ c
  same_size = omega arith

  inside : 4 * s.n + c ≤ length w
  inside = omega (arith, points.most)

  module _ (b : List ℕ) (same : SameWords (neighbors_listed s w c) b) where
    abbrev now : List ℕ
    now = put_mid (4 * s.n) c w b

    part_size : length b ≡ c
    part_size = same.size ∙ length-take-le c (drop (4 * s.n) w) (omega (arith, length-drop (4 * s.n) w, inside))

    now_listed : neighbors_listed s now c ≡ b
    now_listed =
        ap (take c) (drop_at (take (4 * s.n) w) (b ++ drop c (drop (4 * s.n) w)) (4 * s.n) (length-take-le (4 * s.n) w (omega (arith, inside))))
        ∙ take_at b (drop c (drop (4 * s.n) w)) c part_size

    counts : (k : ℕ) → count (eqb k) (neighbors_listed s now c) ≡ count (eqb k) (neighbors_listed s w c)
    counts k = ap (count (eqb k)) now_listed ∙ same.counts k

    now_long : length now ≡ length w
    now_long = same_len_mid (4 * s.n) c w b same.size

    put_reordered : ListReordered s w now c
    put_reordered = record {
      listed = record {
        most = points.most;
        below = λ m h.
            let i = stands_in s now c (nth s now m) (omega (arith, now_long, inside)) (m, (h, refl)) in
            let p = listed_place s w c (nth s now m) (omega (arith, i, counts (nth s now m))) in
            subst (λ (x : ℕ). x < s.n) p.1.1 (points.below p.0 p.1.0);
      };
      complete = λ k p. listed_place s now c k (omega (arith, counts k, stands_in s w c k inside p));
      kept = record {
        before = take_put (4 * s.n) c w b (omega (arith, inside));
        after = drop_more w now (4 * s.n + c) (5 * s.n) (omega (arith, points.most))
            (subst (λ (k : ℕ). drop (4 * s.n + c) (put_mid (4 * s.n) k w b) ≡ drop (4 * s.n + c) w) same_size
            (drop_put (4 * s.n) (4 * s.n + c) w b (omega arith) inside (part_size ∙ sym same_size)));
      };
    }

  pub reordered : (b : List ℕ) → SameWords (take (4 * s.n + c - 4 * s.n) (drop (4 * s.n) w)) b
      → ListReordered s w (put_mid (4 * s.n) (4 * s.n + c - 4 * s.n) w b) c
  reordered b = subst⁻¹ (λ (k : ℕ). SameWords (take k (drop (4 * s.n) w)) b → ListReordered s w (put_mid (4 * s.n) k w b) c) same_size (put_reordered b)
