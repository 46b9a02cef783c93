-- What a look within a limit finds: turn by turn of the loop over the listed points, and that it decides. Assumes
-- nothing.
use mathlib.Core.Path.{◌≡◌, refl, sym, ap, ◌∙◌, subst}
use mathlib.Core.Bool.{Bool, false, cond}
use mathlib.Core.List.{List, [], ◌∷◌}
use Prim.Native.Nat.{ℕ, zero, suc, ◌+◌, ◌*◌, ◌≤◌, ◌<◌}
use native.Mathlib.Omega.{arith}
use borrow.Author.Tests.{eq-eqb, ne_eqb}
use lib.Dec.{T, eqb}
use lib.ListN.{length, take, drop, get_or, drop_of_length-le}
use lib.Seq.{drop-cons}
use lib.Ieee.{Float, inf, lt, le}
use Rattle.numbers.specs.Root.{root}
use Rattle.numbers.proofs.OrderLaws.{unsigned_number_lem, le_top}
use Rattle.vector.specs.declared.Point3f.{Point3f}
use Rattle.vector.specs.Vector.{squared, distance}
use Rattle.points.specs.Points.{point_at}
use Rattle.lists.specs.Lists.{up_from, count}
use Rattle.sorting.proofs.Insertion.{part_length, part_at}
use Rattle.lists.specs.Members.{Below}
use Rattle.spatial_hash.specs.declared.Hash.{Hash}
use Rattle.spatial_hash.specs.Inner.Near.{none_out, Surrounds, NearPlace, HashedAll}
use Rattle.spatial_hash.proofs.Kept.{hashed_all_behind}
use Rattle.spatial_hash.proofs.Nearby.{near_all, surrounds_near}
use Rattle.estimate.specs.Estimate.{nearer, nearest_from, least_distance}
use Rattle.estimate.specs.Inner.Squares.{lesser_square, least_square, LookedWithin}
use Rattle.spatial_hash.proofs.Squares.{Good, squared_good, distance_back}
use Rattle.estimate.proofs.Least.{least_of, least_ext, least_is, root_least, top_good}

-- ---- one point
module _ (pts : List Float) (i j : ℕ) (s : Float) where
  pub lesser_self : i ≡ j → s ≡ lesser_square pts i j s
  unfolding lesser_square
  lesser_self e = rw (eq-eqb i j e)

  pub lesser_other : (e : Float) (p q : Point3f) → (i ≡ j → ⊥) → p ≡ point_at pts j → q ≡ point_at pts i → e ≡ squared p q → lesser_square pts i j s
      ≡ cond (lt e s) e s
  unfolding lesser_square
  lesser_other e p q two hp hq he =
      let far : Float = squared (point_at pts j) (point_at pts i) in
      let same : far ≡ e = cc in
      ap (λ (b : Bool). cond b s (cond (lt far s) far s)) (ne_eqb i j two) ∙ ap (λ (x : Float). cond (lt x s) x s) same

-- ---- the listed points to come
module _ (pts : List Float) (i : ℕ) (w : List ℕ) (at count : ℕ) (long : at + count ≤ length w) where
  pub square_step : (s r : Float) (k : ℕ) → k < count → r ≡ lesser_square pts i (get_or w (at + k) 0) s
      → least_square pts i s (drop k (take count (drop at w))) ≡ least_square pts i r (drop (k + 1) (take count (drop at w)))
  unfolding least_square
  square_step s r k h e =
      let n : suc k ≡ k + 1 = omega arith in
      ap (least_square pts i s) (
      drop-cons (take count (drop at w)) k 0 (subst (λ (m : ℕ). k < m) (sym (part_length w at count long)) h)
      ∙ ap (λ (j : ℕ). j ∷ drop (suc k) (take count (drop at w))) (part_at w at count long k 0 h)
      ∙ ap (λ (m : ℕ). get_or w (at + k) 0 ∷ drop m (take count (drop at w))) n
      )
      ∙ ap (λ (x : Float). least_square pts i x (drop (k + 1) (take count (drop at w)))) (sym e)

  pub square_end : (s : Float) (k : ℕ) → count ≤ k → least_square pts i s (drop k (take count (drop at w))) ≡ s
  unfolding least_square
  square_end s k h = ap (least_square pts i s) (drop_of_length-le (take count (drop at w)) (subst (λ (m : ℕ). m ≤ k) (sym (part_length w at count long)) h))

-- ---- both folds are of one form
module _ (pts : List Float) (i : ℕ) where
  abbrev key : ℕ → Float
  key j = squared (point_at pts j) (point_at pts i)

  square_is : (s : Float) (js : List ℕ) → least_square pts i s js ≡ least_of key i s js
  unfolding least_square least_of lesser_square
  square_is s [] = refl
  square_is s (j ∷ js) = square_is (lesser_square pts i j s) js

  distance_fold : (d : Float) (j m : ℕ) → nearest_from pts i d j m ≡ least_of (λ (k : ℕ). distance (point_at pts i) (point_at pts k)) i d (up_from j m)
  unfolding nearest_from least_of nearer up_from
  distance_fold d j zero = refl
  distance_fold d j (suc m) = distance_fold (nearer pts i j d) (j + 1) m

  least_distance_is : (n : ℕ) → least_distance pts n i ≡ least_of (λ (j : ℕ). root (key j)) i (inf false) (up_from 0 n)
  unfolding least_distance
  least_distance_is n =
      distance_fold (inf false) 0 n
      ∙ least_ext (λ (j : ℕ). distance (point_at pts i) (point_at pts j)) (λ (j : ℕ). root (key j)) i (inf false) (up_from 0 n)
      (λ (j : ℕ) _. distance_back (point_at pts i) (point_at pts j))

-- ---- a look
pub looked : (h : Hash) (pts : List Float) (n i : ℕ) (limit : Float) (w u : List ℕ) (p : Point3f) (found : ℕ) (s : Float) → i < n → HashedAll h pts n w
    → length u ≡ length w
    → p ≡ point_at pts i → NearPlace pts n p limit w u found → s ≡ least_square pts i (inf false) (take found (drop (4 * n) u)) → LookedWithin h pts n i limit s u
looked h pts n i limit w u p found s inside x same hp g hs = record {
  decides = λ (l : T (le s limit)).
      ap root is
      ∙ root_least (key pts i) n i js limit good below near (subst (λ (z : Float). T (le z limit)) is l)
      ∙ sym (least_distance_is pts i n);
  number = subst (λ (z : Float). T (le z (inf false))) (sym is)
      (le_top (least_of (key pts i) i (inf false) js) (unsigned_number_lem (least_of (key pts i) i (inf false) js) square_good.1));
  hashed = hashed_all_behind h pts n (5 * n) w u (omega arith) g.after same x;
}
  where
    js : List ℕ
    js = take found (drop (4 * n) u)

    is : s ≡ least_of (key pts i) i (inf false) js
    is = hs ∙ square_is pts i (inf false) js

    good : (j : ℕ) → j < n → Good (key pts i j)
    good j k = squared_good (point_at pts j) (point_at pts i) (x.linked.ready.numbers j k) (x.linked.ready.numbers i inside)

    below : Below n js
    below = g.surrounds.below

    near : (j : ℕ) → j < n → T (le (key pts i j) limit) → 1 ≤ count (eqb j) js
    near = surrounds_near (subst (λ (q : Point3f). Surrounds pts n none_out q limit js) hp (near_all x g))

    square_good : Good (least_of (key pts i) i (inf false) js)
    square_good = least_is (key pts i) i Good (inf false) js top_good (λ (j : ℕ) (c : 1 ≤ count (eqb j) js) _. good j (below j c))
