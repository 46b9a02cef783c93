-- The least squares among the points that were found are those of all neighbours, if ten are not above the limit.
-- Assumes nothing.
use mathlib.Core.Path.{◌≡◌, refl, sym, ap, ◌∙◌, subst}
use mathlib.Core.Bool.{Bool, true, false, cond, not, ◌&&◌, ◌||◌}
use mathlib.Core.List.{List, [], ◌∷◌}
use Prim.Native.Nat.{ℕ, ◌+◌, ◌*◌, ◌≤◌, ◌<◌, min}
use native.Mathlib.Omega.{arith}
use borrow.Author.Tests.{eq-eqb, ltb-true}
use lib.Dec.{T, eqb, ltb}
use lib.ListN.{length, take, drop, length-take, length-drop}
use lib.Seq.{length-take-le}
use lib.Ieee.{Float, lt, le, is_nan}
use lib.Ieee.Bits.{is_true}
use Rattle.numbers.proofs.OrderLaws.{le_refl, le_trans, le_right, lt_le, not_le_lt}
use Rattle.vector.specs.declared.Point3f.{Point3f}
use Rattle.vector.specs.Vector.{squared}
use Rattle.vector.specs.Inner.Numbers.{Finite}
use Rattle.points.specs.Points.{point_at}
use Rattle.lists.specs.Lists.{up_from, count, bit}
use Rattle.sorting.specs.Sorted.{sorted}
use Rattle.sorting.specs.Each.{All}
use Rattle.grid.specs.declared.SpatialGrid.{SpatialGrid}
use Rattle.grid.specs.Grid.{cell_of, in_range}
use Rattle.grid.specs.Inner.Index.{CellsIndexed, cell_in}
use Rattle.lists.specs.Members.{Below}
use Rattle.grid.proofs.Near.{indexed_kept}
use Rattle.bounds.specs.declared.Bounds.{Bounds}
use Rattle.cell_bounds.specs.Inner.CellBounds.{Holding, Reaching}
use Rattle.lists.proofs.Members.{below_first, below_rest}
use Rattle.lists.proofs.Bools.{not-true, and_both}
use Rattle.lists.proofs.Counts.{count_mono, count_zero, count_all}
use Rattle.spatial_hash.specs.declared.Hash.{Hash}
use Rattle.spatial_hash.specs.Inner.Near.{none_out, Surrounds, NearPlace, Gathered}
use Rattle.spatial_hash.proofs.Kept.{hashed_all_behind}
use Rattle.spatial_hash.proofs.Squares.{Good, squared_good}
use Rattle.spatial_hash.proofs.Nearby.{count_same, near_all, listed_count, surrounds_count, up_whole}
use Rattle.neighbor_squares.specs.declared.Around.{Around}
use Rattle.neighbor_squares.specs.Inner.Squares.{is_neighbor_cell, within_limit, squares_to, least_squares, Whole, Prepared, SquaresKept, LookedForTen}
use Rattle.neighbor_squares.specs.Inner.Squares.{SquaresFound}
use Rattle.neighbor_squares.proofs.Rising.{at_most, sorted_count, least_same}

-- ---- squares of some points
abbrev pub key : List Float → ℕ → ℕ → Float
key pts i j = squared (point_at pts j) (point_at pts i)

module _ (near : ℕ → Bool) (pts : List Float) (i : ℕ) where
  -- another neighbour whose square is at most v
  abbrev close : Float → ℕ → Bool
  close v j = (not (eqb j i) && near j) && le (key pts i j) v

  close_le : (v : Float) (j : ℕ) → close v j ≡ true → ((not (eqb j i) && near j) ≡ true) × T (le (key pts i j) v)
  close_le v j e = let r = and_both {p = not (eqb j i) && near j} {q = le (key pts i j) v} e in (r.0, subst T (sym r.1) tt)

  le_close : (v : Float) (j : ℕ) → (not (eqb j i) && near j) ≡ true → T (le (key pts i j) v) → close v j ≡ true
  le_close v j t l = let e : le (key pts i j) v ≡ true = is_true (le (key pts i j) v) l in rw (t, e)

  close_nan : (v : Float) → is_nan v ≡ true → (j : ℕ) → close v j ≡ false
  close_nan v e j = not-true (λ (t : close v j ≡ true). subst (λ (b : Bool). T (not b)) e (le_right (key pts i j) v (close_le v j t).1))

  squares_count : (v : Float) (js : List ℕ) → count (at_most v) (squares_to near pts i js) ≡ count (close v) js
  unfolding squares_to
  squares_count v [] = refl
  squares_count v (j ∷ js) = go (not (eqb j i) && near j) (squares_count v js)
    where
      go : (b : Bool) → count (at_most v) (squares_to near pts i js) ≡ count (close v) js
          → count (at_most v) (cond b (key pts i j ∷ squares_to near pts i js) (squares_to near pts i js)) ≡ bit (b && le (key pts i j) v) + count (close v) js
      go true r = omega arith
      go false r = omega arith

  squares_length : (js : List ℕ) → length (squares_to near pts i js) ≡ count (λ (j : ℕ). not (eqb j i) && near j) js
  unfolding squares_to
  squares_length [] = refl
  squares_length (j ∷ js) = go (not (eqb j i) && near j) (squares_length js)
    where
      go : (b : Bool) → length (squares_to near pts i js) ≡ count (λ (k : ℕ). not (eqb k i) && near k) js
          → length (cond b (key pts i j ∷ squares_to near pts i js) (squares_to near pts i js)) ≡ bit b + count (λ (k : ℕ). not (eqb k i) && near k) js
      go true r = omega arith
      go false r = omega arith

  pub squares_good : (n : ℕ) → i < n → ((j : ℕ) → j < n → Finite (point_at pts j)) → (js : List ℕ) → Below n js → All Good (squares_to near pts i js)
  unfolding squares_to
  squares_good n h numbers [] b = tt
  squares_good n h numbers (j ∷ js) b = go (not (eqb j i) && near j) (squares_good n h numbers js (λ (k : ℕ) (c : 1 ≤ count (eqb k) js). b k (omega arith)))
    where
      inside : j < n
      inside = b j (rw (eq-eqb j j refl) (omega arith))

      go : (t : Bool) → All Good (squares_to near pts i js) → All Good (cond t (key pts i j ∷ squares_to near pts i js) (squares_to near pts i js))
      go true r = (squared_good (point_at pts j) (point_at pts i) (numbers j inside) (numbers i h), r)
      go false r = r

pub whole_below : (n : ℕ) (all : List ℕ) → Whole n all → Below n all
whole_below n all whole j c = go (ltb j n) refl
  where
    go : (b : Bool) → ltb j n ≡ b → j < n
    go true e = ltb-true j n e
    go false e = let z : bit (ltb j n) ≡ 0 = ap bit e in absurd (omega (arith, whole j))

-- the order in which all points are listed is of no matter
pub whole_same : (near : ℕ → Bool) (pts : List Float) (n i : ℕ) → i < n → ((j : ℕ) → j < n → Finite (point_at pts j)) → (xs ys : List ℕ) → Whole n xs
    → Whole n ys
    → take 10 (sorted (squares_to near pts i xs)) ≡ take 10 (sorted (squares_to near pts i ys))
whole_same near pts n i inside numbers xs ys a b =
    least_same 10 (squares_to near pts i xs) (squares_to near pts i ys) (squares_good near pts i n inside numbers xs (whole_below n xs a))
    (squares_good near pts i n inside numbers ys (whole_below n ys b))
    (λ (v : Float). ap (min 10)
    (squares_count near pts i v xs ∙ count_same (close near pts i v) xs ys (λ (j : ℕ) _. a j ∙ sym (b j)) ∙ sym (squares_count near pts i v ys)))

-- ---- those found decide
module _ (near : ℕ → Bool) (pts : List Float) (n i : ℕ) (js all : List ℕ) (limit : Float) (inside : i < n) (numbers : (j : ℕ) → j < n → Finite (point_at pts j))
    (g : Surrounds pts n none_out (point_at pts i) limit js) (whole : Whole n all) where
  abbrev passing : Float → List ℕ → ℕ
  passing v xs = count (close near pts i v) xs

  -- up to the limit there are equally many
  upto : (v : Float) → T (le v limit) → passing v js ≡ passing v all
  upto v l =
      surrounds_count js all g whole (close near pts i v)
      (λ (j : ℕ) (h : j < n) (e : close near pts i v j ≡ true). le_trans (key pts i j) v limit (close_le near pts i v j e).1 l)

  more : (v : Float) → T (lt limit v) → (xs : List ℕ) → passing limit xs ≤ passing v xs
  more v l xs =
      count_mono (close near pts i limit) (close near pts i v)
      (λ (j : ℕ) (e : close near pts i limit j ≡ true). let c = close_le near pts i limit j e in le_close near pts i v j c.0
      (le_trans (key pts i j) limit v c.1 (lt_le limit v l))) xs

  -- the squares that are not above the limit
  abbrev kept : ℕ → Bool
  kept = within_limit limit near pts i

  kept_other : (j : ℕ) → (not (eqb j i) && kept j) ≡ true → close near pts i limit j ≡ true
  kept_other j e =
      let a = and_both {p = not (eqb j i)} {q = kept j} e in
      let b = and_both {p = near j} {q = le (key pts i j) limit} a.1 in
      rw (a.0, b.0, b.1)

  other_kept : (j : ℕ) → close near pts i limit j ≡ true → (not (eqb j i) && kept j) ≡ true
  other_kept j e =
      let a = and_both {p = not (eqb j i) && near j} {q = le (key pts i j) limit} e in
      let b = and_both {p = not (eqb j i)} {q = near j} a.0 in
      rw (b.0, b.1, a.1)

  kept_count : (v : Float) → T (le v limit) → count (close kept pts i v) js ≡ passing v js
  kept_count v l =
      let a = count_mono (close kept pts i v) (close near pts i v)
      (λ (j : ℕ) (e : close kept pts i v j ≡ true). let c = close_le kept pts i v j e in le_close near pts i v j
      (close_le near pts i limit j (kept_other j c.0)).0 c.1) js in
      let b = count_mono (close near pts i v) (close kept pts i v)
      (λ (j : ℕ) (e : close near pts i v j ≡ true). let c = close_le near pts i v j e in le_close kept pts i v j
      (other_kept j (le_close near pts i limit j c.0 (le_trans (key pts i j) v limit c.1 l))) c.1) js in
      omega arith

  kept_more : (v : Float) → T (lt limit v) → passing limit js ≤ count (close kept pts i v) js
  kept_more v l =
      count_mono (close near pts i limit) (close kept pts i v)
      (λ (j : ℕ) (e : close near pts i limit j ≡ true). le_close kept pts i v j (other_kept j e)
      (le_trans (key pts i j) limit v (close_le near pts i limit j e).1 (lt_le limit v l))) js

  agree : 10 ≤ passing limit js → (v : Float) → min 10 (count (close kept pts i v) js) ≡ min 10 (passing v all)
  agree enough v = go (le v limit) refl (is_nan v) refl
    where
      number : (b : Bool) → is_nan limit ≡ b → T (not (is_nan limit))
      number true e = absurd (omega (arith, count_zero (close near pts i limit) (close_nan near pts i limit e) js))
      number false e = subst (λ (b : Bool). T (not b)) (sym e) tt

      go : (c : Bool) → le v limit ≡ c → (d : Bool) → is_nan v ≡ d → min 10 (count (close kept pts i v) js) ≡ min 10 (passing v all)
      go true e d k = let l : T (le v limit) = subst T (sym e) tt in ap (min 10) (kept_count v l ∙ upto v l)
      go false e true k =
          ap (min 10) (count_zero (close kept pts i v) (close_nan kept pts i v k) js ∙ sym (count_zero (close near pts i v) (close_nan near pts i v k) all))
      go false e false k =
          let f : T (not (is_nan limit)) = number (is_nan limit) refl in
          let l : T (lt limit v) = not_le_lt v limit (subst (λ (x : Bool). T (not x)) (sym k) tt) f (subst (λ (x : Bool). T (not x)) (sym e) tt) in
          omega (arith, enough, upto limit (le_refl limit f), kept_more v l, more v l all)

  -- ten of them
  pub decided_full : (f : List Float) → n + 10 ≤ length f → take 10 (drop n f) ≡ least_squares kept pts i js → least_squares kept pts i js
      ≡ least_squares near pts i all
  unfolding least_squares
  decided_full f long e =
      least_same 10 ys (squares_to near pts i all) (squares_good kept pts i n inside numbers js g.below)
      (squares_good near pts i n inside numbers all (whole_below n all whole))
      (λ (v : Float). ap (min 10) (squares_count kept pts i v js) ∙ agree ten v ∙ ap (min 10) (sym (squares_count near pts i v all)))
    where
      ys : List Float
      ys = squares_to kept pts i js

      ten : 10 ≤ passing limit js
      ten =
          let a : length (take 10 (drop n f)) ≡ 10 = length-take-le 10 (drop n f) (simp length-drop (omega arith)) in
          let c = ap length e in
          let all_true : Float → Bool = λ (x : Float). true in
          omega (
            arith,
            length-take 10 (sorted ys),
            count_all (sorted ys),
            sorted_count all_true ys,
            count_all ys,
            squares_length kept pts i js,
            count_mono
                (λ (j : ℕ). not (eqb j i) && kept j) (close near pts i limit) kept_other js,
          )

-- ---- a look
pub looked : (a : Around) (pts : List Float) (n i : ℕ) (limit : Float) (w u : List ℕ) (f g : List Float) (h : Hash) (p : Point3f) (found r : ℕ)
    → Prepared h pts n i w f → length g ≡ length f → p ≡ point_at pts i → NearPlace pts n p limit w u found
    → take r (drop n g) ≡ least_squares (within_limit limit (is_neighbor_cell a u n) pts i) pts i (take found (drop (4 * n) u)) → r ≤ 10 → take n g ≡ take n f
    → LookedForTen a pts n i w u f g r
looked a pts n i limit w u f g h p found r x size hp found-near squares few front = record {
  few = few;
  full = λ (e : r ≡ 10).
      squares ∙ decided_full near pts n i js (up_from 0 n) limit x.inside x.hashed.linked.ready.numbers
      (subst (λ (q : Point3f). Surrounds pts n none_out q limit js) hp (near_all x.hashed found-near)) (up_whole n) g (omega (arith, x.room))
      (ap (λ (k : ℕ). take k (drop n g)) (sym e) ∙ squares);
  kept = record { front = front; before = found-near.before; after = found-near.after };
}
  where
    near : ℕ → Bool
    near = is_neighbor_cell a u n

    js : List ℕ
    js = take found (drop (4 * n) u)

-- ---- a look within bounds that hold every neighbour
agree_below : (n : ℕ) (p q : ℕ → Bool) → ((j : ℕ) → j < n → p j ≡ q j) → (js : List ℕ) → Below n js → count p js ≡ count q js
agree_below n p q h [] b = refl
agree_below n p q h (j ∷ js) b = rw (h j (below_first n j js b)) (ap (λ (m : ℕ). bit (q j) + m) (agree_below n p q h js (below_rest n j js b)))

module _ (near : ℕ → Bool) (pts : List Float) (n i : ℕ) (js all : List ℕ) (limit : Float) (inside : i < n) (numbers : (j : ℕ) → j < n → Finite (point_at pts j))
    (below : Below n js) (once : (j : ℕ) → count (eqb j) js ≤ 1) (whole : Whole n all)
    (held : (j : ℕ) → j < n → near j ≡ true → (1 ≤ count (eqb j) js) × T (le (key pts i j) limit)) where
  same_test : (j : ℕ) → j < n → within_limit limit near pts i j ≡ near j
  same_test j h = go (near j) refl
    where
      go : (b : Bool) → near j ≡ b → (b && le (key pts i j) limit) ≡ b
      go true e = is_true (le (key pts i j) limit) (held j h e).1
      go false e = refl

  same_close : (v : Float) (j : ℕ) → j < n → close (within_limit limit near pts i) pts i v j ≡ close near pts i v j
  same_close v j h = ap (λ (b : Bool). (not (eqb j i) && b) && le (key pts i j) v) (same_test j h)

  close_near : (v : Float) (j : ℕ) → close near pts i v j ≡ true → near j ≡ true
  close_near v j e = (and_both {p = not (eqb j i)} {q = near j} (close_le near pts i v j e).0).1

  pub decided_whole : least_squares (within_limit limit near pts i) pts i js ≡ least_squares near pts i all
  unfolding least_squares
  decided_whole =
      least_same 10 (squares_to (within_limit limit near pts i) pts i js) (squares_to near pts i all)
      (squares_good (within_limit limit near pts i) pts i n inside numbers js below) (squares_good near pts i n inside numbers all (whole_below n all whole))
      (λ (v : Float). ap (min 10)
      (squares_count (within_limit limit near pts i) pts i v js
      ∙ agree_below n (close (within_limit limit near pts i) pts i v) (close near pts i v) (same_close v) js below
      ∙ listed_count js all below once whole (close near pts i v) (λ j h e. (held j h (close_near v j e)).0)
      ∙ sym (squares_count near pts i v all)))

pub found_in_range : (a : Around) (g : SpatialGrid) (pts : List Float) (n i : ℕ) (b : Bounds) (limit : Float) (w u : List ℕ) (f e : List Float) (h : Hash)
    (p : Point3f) (found r : ℕ)
    → Prepared h pts n i w f → CellsIndexed g pts n w → a.indexed ≡ true → length u ≡ length w → p ≡ point_at pts i → Holding g a.cell a.range b
    → Reaching b p limit → Gathered pts n b w u found
    → take r (drop n e) ≡ least_squares (within_limit limit (is_neighbor_cell a u n) pts i) pts i (take found (drop (4 * n) u)) → r ≤ 10 → take n e ≡ take n f
    → SquaresFound a pts n i w u f e r
unfolding is_neighbor_cell
found_in_range a g pts n i b limit w u f e h p found r x indexed on size hp holding reaching gathered squares few front = record {
  few = few;
  decided = squares ∙ decided_whole (is_neighbor_cell a u n) pts n i (take found (drop (4 * n) u)) (up_from 0 n) limit x.inside numbers
      gathered.gathers.below gathered.gathers.once (up_whole n) held;
  kept = record { front = front; before = gathered.before; after = gathered.after };
}
  where
    numbers : (j : ℕ) → j < n → Finite (point_at pts j)
    numbers = x.hashed.linked.ready.numbers

    in_range_lem : (j : ℕ) → j < n → is_neighbor_cell a u n j ≡ true → in_range a.range a.cell (cell_of g (point_at pts j)) ≡ true
    in_range_lem j k t = ap (in_range a.range a.cell) (sym ((indexed_kept u indexed size gathered.before).cells j k)) ∙ sym
        (ap (λ (c : Bool). not c || in_range a.range a.cell (cell_in u n j)) on) ∙ t

    held : (j : ℕ) → j < n → is_neighbor_cell a u n j ≡ true → (1 ≤ count (eqb j) (take found (drop (4 * n) u))) × T (le (key pts i j) limit)
    held j k t =
        let inside = holding (point_at pts j) (numbers j k) (in_range_lem j k t) in (
          gathered.gathers.complete j k (x.hashed.all_in j k) inside,
          subst (λ (q : Point3f). T (le (squared (point_at pts j) q) limit)) hp
              (reaching (point_at pts j) (numbers j k) inside),
        )

-- ---- one look after another
pub kept_start : (n : ℕ) (w : List ℕ) (f : List Float) → SquaresKept n w w f f
kept_start n w f = record { front = refl; before = refl; after = refl }

pub kept_then : {n : ℕ} {w u v : List ℕ} {f g e : List Float} → SquaresKept n w u f g → SquaresKept n u v g e → SquaresKept n w v f e
kept_then x y = record { front = y.front ∙ x.front; before = y.before ∙ x.before; after = y.after ∙ x.after }

pub prepared_kept : {h : Hash} {pts : List Float} {n i : ℕ} {w u : List ℕ} {f g : List Float} → Prepared h pts n i w f → length u ≡ length w → length g
    ≡ length f → SquaresKept n w u f g → Prepared h pts n i u g
prepared_kept {h} {pts} {n} {i} {w} {u} x words floats k = record {
  inside = x.inside;
  room = omega (arith, x.room);
  hashed = hashed_all_behind h pts n (5 * n) w u (omega arith) k.after words x.hashed;
}
