-- The least squares of a sample, turn by turn of the loops. Assumes nothing.
use mathlib.Core.Path.{◌≡◌, refl, sym, ap, ◌∙◌, subst}
use mathlib.Core.Bool.{Bool, true, false, cond, not, ◌&&◌}
use mathlib.Core.List.{List, [], ◌∷◌}
use Prim.Native.Nat.{ℕ, suc, ◌+◌, ◌-◌, ◌≤◌, ◌<◌}
use native.Mathlib.Omega.{arith}
use borrow.Author.Tests.{eqb-true}
use lib.Dec.{T, eqb}
use lib.ListN.{length, take, drop, get_or, length-take, drop_of_length-le}
use lib.Seq.{drop-cons}
use lib.Ieee.{Float, nan, inf, le, is_nan}
use Rattle.numbers.proofs.OrderLaws.{lt_le, not_le_lt, le_top, unsigned_number_lem}
use Rattle.vector.specs.declared.Point3f.{Point3f}
use Rattle.vector.specs.Vector.{squared}
use Rattle.vector.specs.Inner.Numbers.{Finite}
use Rattle.points.specs.Points.{point_at}
use Rattle.lists.specs.Lists.{up_from}
use Rattle.sorting.specs.Sorted.{insert, insert_all}
use Rattle.sorting.specs.Inner.Rising.{Rising}
use Rattle.sorting.proofs.Insertion.{part_length, part_at}
use Rattle.sorting.proofs.Least.{least_step, least_end}
use Rattle.sorting.proofs.Rising.{all_at}
use Rattle.spatial_hash.proofs.Squares.{Good, squared_good}
use Rattle.neighbor_squares.specs.Inner.Squares.{within_limit, tenth_of, squares_to, least_squares, with_square}
use Rattle.neighbor_squares.proofs.Rising.{Ordered, least_ordered, rising_settled}

-- ---- the rest of a part of a slice
pub part_next : {A : Type 0} (w : List A) (at count k : ℕ) (d : A) → at + count ≤ length w → k < count → drop k (take count (drop at w))
    ≡ get_or w (at + k) d ∷ drop (k + 1) (take count (drop at w))
part_next {A = A} w at count k d long h =
    let e : suc k ≡ k + 1 = omega arith in
    drop-cons (take count (drop at w)) k d (subst (λ (m : ℕ). k < m) (sym (part_length w at count long)) h)
    ∙ ap (λ (x : A). x ∷ drop (suc k) (take count (drop at w))) (part_at w at count long k d h)
    ∙ ap (λ (m : ℕ). get_or w (at + k) d ∷ drop m (take count (drop at w))) e

pub part_over : {A : Type 0} (w : List A) (at count k : ℕ) → at + count ≤ length w → count ≤ k → drop k (take count (drop at w)) ≡ []
part_over w at count k long h = drop_of_length-le (take count (drop at w)) (subst (λ (m : ℕ). m ≤ k) (sym (part_length w at count long)) h)

-- ---- one point is looked at
module _ (near : ℕ → Bool) (pts : List Float) (i j : ℕ) where
  -- squares above the limit go no further
  pub with_within : (limit : Float) (kept : List Float) → with_square (within_limit limit near pts i) pts i j kept
      ≡ cond (le (squared (point_at pts j) (point_at pts i)) limit) (with_square near pts i j kept) kept
  unfolding with_square
  with_within limit kept = go (not (eqb j i)) (near j) (le (squared (point_at pts j) (point_at pts i)) limit)
    where
      go : (a b c : Bool) → cond (a && (b && c)) (take 10 (insert (squared (point_at pts j) (point_at pts i)) kept)) kept
          ≡ cond c (cond (a && b) (take 10 (insert (squared (point_at pts j) (point_at pts i)) kept)) kept) kept
      go true true true = refl
      go true true false = refl
      go true false true = refl
      go true false false = refl
      go false b true = refl
      go false b false = refl

  -- ten that are in rising order, and a square that is not below the last
  with_far : (kept : List Float) → Rising kept → length kept ≡ 10 → T (le (get_or kept 9 nan) (squared (point_at pts j) (point_at pts i))) → kept
      ≡ with_square near pts i j kept
  unfolding with_square
  with_far kept rising ten h = go (not (eqb j i) && near j)
    where
      go : (b : Bool) → kept ≡ cond b (take 10 (insert (squared (point_at pts j) (point_at pts i)) kept)) kept
      go true = sym (rising_settled kept (squared (point_at pts j) (point_at pts i)) rising ten h)
      go false = refl

  -- so beyond the tenth none counts
  pub with_tenth : (n : ℕ) (f : List Float) (m : ℕ) → i < n → j < n → ((k : ℕ) → k < n → Finite (point_at pts k)) → n + 10 ≤ length f → m ≤ 10
      → Ordered (take m (drop n f))
      → with_square (within_limit (tenth_of f n m) near pts i) pts i j (take m (drop n f)) ≡ with_square near pts i j (take m (drop n f))
  unfolding tenth_of
  with_tenth n f m hi hj numbers long few o = with_within (tenth_of f n m) kept ∙ go (eqb m 10) refl (le s (tenth_of f n m)) refl
    where
      kept : List Float
      kept = take m (drop n f)

      s : Float
      s = squared (point_at pts j) (point_at pts i)

      room : n + m ≤ length f
      room = omega arith

      number : T (not (is_nan s))
      number = unsigned_number_lem s (squared_good (point_at pts j) (point_at pts i) (numbers j hj) (numbers i hi)).1

      go : (a : Bool) → eqb m 10 ≡ a → (b : Bool) → le s (cond a (get_or f (n + 9) nan) (inf false)) ≡ b → cond b (with_square near pts i j kept) kept
          ≡ with_square near pts i j kept
      go a t true e = refl
      go true t false e =
          let ten : m ≡ 10 = eqb-true m 10 t in
          let size : length kept ≡ m = part_length f n m room in
          let last : get_or kept 9 nan ≡ get_or f (n + 9) nan = part_at f n m room 9 nan (omega arith) in
          let good = all_at Good kept 9 o.1 (omega arith) in
          let l : T (le (get_or kept 9 nan) s) = lt_le (get_or kept 9 nan) s
          (not_le_lt s (get_or kept 9 nan) number (unsigned_number_lem (get_or kept 9 nan) good.1)
          (subst (λ (b : Bool). T (not b)) (sym (ap (le s) last ∙ e)) tt)) in
          with_far kept o.0 (size ∙ ten) l
      go false t false e = absurd (subst T e (le_top s number))

  pub with_ordered : (n : ℕ) (kept kept' : List Float) → i < n → j < n → ((k : ℕ) → k < n → Finite (point_at pts k)) → kept' ≡ with_square near pts i j kept
      → Ordered kept → Ordered kept'
  unfolding with_square
  with_ordered n kept kept' hi hj numbers e o = subst (λ (l : List Float). Ordered l) (sym e) (go (not (eqb j i) && near j))
    where
      go : (b : Bool) → Ordered (cond b (take 10 (insert (squared (point_at pts j) (point_at pts i)) kept)) kept)
      go true = least_ordered 10 (squared (point_at pts j) (point_at pts i)) kept (squared_good (point_at pts j) (point_at pts i) (numbers j hj) (numbers i hi)) o
      go false = o

module _ (near : ℕ → Bool) (pts : List Float) (i j : ℕ) (limit : Float) (kept : List Float) (p q : Point3f) (s : Float) (hp : p ≡ point_at pts j)
    (hq : q ≡ point_at pts i) (hs : s ≡ squared p q) where
  same : s ≡ squared (point_at pts j) (point_at pts i)
  same = cc

  pub with_above : le s limit ≡ false → kept ≡ with_square (within_limit limit near pts i) pts i j kept
  with_above e = sym (with_within near pts i j limit kept ∙ ap (λ (b : Bool). cond b (with_square near pts i j kept) kept)
      (ap (λ (x : Float). le x limit) (sym same) ∙ e))

  -- not above the limit: as if there were none
  upto : le s limit ≡ true → with_square near pts i j kept ≡ with_square (within_limit limit near pts i) pts i j kept
  upto e = sym (with_within near pts i j limit kept ∙ ap (λ (b : Bool). cond b (with_square near pts i j kept) kept)
      (ap (λ (x : Float). le x limit) (sym same) ∙ e))

  module _ (b : Bool) (is : b ≡ (not (eqb j i) && near j)) where
    pub with_none : le s limit ≡ true → b ≡ false → kept ≡ with_square (within_limit limit near pts i) pts i j kept
    unfolding with_square
    with_none l e = let f : (not (eqb j i) && near j) ≡ false = sym is ∙ e in (rw f) ∙ upto l

    pub with_one : le s limit ≡ true → b ≡ true → take 10 (insert s kept) ≡ with_square (within_limit limit near pts i) pts i j kept
    unfolding with_square
    with_one l e =
        let t : (not (eqb j i) && near j) ≡ true = sym is ∙ e in
        let kept-one : take 10 (insert s kept) ≡ with_square near pts i j kept = rw t (ap (λ (x : Float). take 10 (insert x kept)) same) in
        kept-one ∙ upto l

-- ---- the points to come are looked at
module _ (near : ℕ → Bool) (pts : List Float) (i : ℕ) where
  turn : (j : ℕ) (js : List ℕ) (kept : List Float) → take 10 (insert_all kept (squares_to near pts i (j ∷ js)))
      ≡ take 10 (insert_all (with_square near pts i j kept) (squares_to near pts i js))
  unfolding squares_to with_square
  turn j js kept = go (not (eqb j i) && near j)
    where
      go : (b : Bool) → take 10 (insert_all kept (cond b (squared (point_at pts j) (point_at pts i) ∷ squares_to near pts i js) (squares_to near pts i js)))
          ≡ take 10 (insert_all (cond b (take 10 (insert (squared (point_at pts j) (point_at pts i)) kept)) kept) (squares_to near pts i js))
      go true = least_step 10 kept (squared (point_at pts j) (point_at pts i)) (squares_to near pts i js)
      go false = refl

  module _ (w : List ℕ) (at count : ℕ) (long : at + count ≤ length w) where
    pub look_step : (k : ℕ) (kept kept' : List Float) → k < count → kept' ≡ with_square near pts i (get_or w (at + k) 0) kept
        → take 10 (insert_all kept (squares_to near pts i (drop k (take count (drop at w)))))
        ≡ take 10 (insert_all kept' (squares_to near pts i (drop (k + 1) (take count (drop at w)))))
    look_step k kept kept' h e =
        ap (λ (js : List ℕ). take 10 (insert_all kept (squares_to near pts i js))) (part_next w at count k 0 long h)
        ∙ turn (get_or w (at + k) 0) (drop (k + 1) (take count (drop at w))) kept
        ∙ ap (λ (l : List Float). take 10 (insert_all l (squares_to near pts i (drop (k + 1) (take count (drop at w)))))) (sym e)

    pub look_end : (k : ℕ) (f : List Float) (m : ℕ) → count ≤ k → m ≤ 10
        → take 10 (insert_all (take m f) (squares_to near pts i (drop k (take count (drop at w))))) ≡ take m f
    unfolding squares_to
    look_end k f m h few =
        ap (λ (js : List ℕ). take 10 (insert_all (take m f) (squares_to near pts i js))) (part_over w at count k long h) ∙ least_end 10 (take m f)
        (simp length-take (omega arith))

  -- all points, from j on
  pub all_start : (n : ℕ) (f : List Float) → least_squares near pts i (up_from 0 n) ≡ take 10 (insert_all (take 0 f) (squares_to near pts i (up_from 0 (n - 0))))
  unfolding least_squares
  all_start n f = let e : n ≡ n - 0 = omega arith in ap (λ (k : ℕ). take 10 (insert_all [] (squares_to near pts i (up_from 0 k)))) e

  pub all_step : (n j : ℕ) (kept kept' : List Float) → j < n → kept' ≡ with_square near pts i j kept
      → take 10 (insert_all kept (squares_to near pts i (up_from j (n - j)))) ≡ take 10 (insert_all kept' (squares_to near pts i (up_from (j + 1) (n - (j + 1)))))
  unfolding up_from
  all_step n j kept kept' h e =
      let m : n - j ≡ suc (n - (j + 1)) = omega arith in
      ap (λ (k : ℕ). take 10 (insert_all kept (squares_to near pts i (up_from j k)))) m
      ∙ turn j (up_from (j + 1) (n - (j + 1))) kept
      ∙ ap (λ (l : List Float). take 10 (insert_all l (squares_to near pts i (up_from (j + 1) (n - (j + 1)))))) (sym e)

  pub all_end : (n j : ℕ) (f : List Float) (m : ℕ) → n ≤ j → m ≤ 10 → take 10 (insert_all (take m f) (squares_to near pts i (up_from j (n - j)))) ≡ take m f
  unfolding up_from squares_to
  all_end n j f m h few =
      let z : n - j ≡ 0 = omega arith in
      ap (λ (k : ℕ). take 10 (insert_all (take m f) (squares_to near pts i (up_from j k)))) z ∙ least_end 10 (take m f) (simp length-take (omega arith))
