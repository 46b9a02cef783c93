-- If the faces have a valid order, the greedy order is valid; so the test decides exactly whether there is one. Assumes
-- nothing.
use Prim.Native.Nat.{ℕ, zero, suc, ◌+◌, ◌≤◌, ◌<◌}
use mathlib.Core.Path.{◌≡◌, refl, ap, ◌∙◌}
use mathlib.Core.Logic.{◌↔◌, ⊎_elim}
use mathlib.Core.Bool.{true, false, not}
use mathlib.Core.List.{List, [], ◌∷◌}
use native.Mathlib.Omega.{arith}
use lib.Dec.{ltb}
use borrow.Author.Tests.{not-true as unnot, lt-ltb, ltb-true, ltb-false}
use lib.ListN.{length}
use Rattle.lists.specs.Lists.{bit, count, any, up_from}
use Rattle.patch.specs.Lay.{Edge, same, Face, edges_of}
use Rattle.patch.specs.Shape.{has}
use Rattle.lists.proofs.Bools.{either, not-true, and_both}
use Rattle.lists.proofs.Counts.{any_true, any_false, true_any}
use Rattle.patch.proofs.Edges.{laid_congr}
use Rattle.orders.specs.Order.{face_at, all_fit, greedy, loose, Permutes, Valid, AllDifferent, crowded, order_accepted}
use Rattle.orders.proofs.Sums.{some_one}
use Rattle.orders.proofs.Points.{Inside}
use Rattle.orders.proofs.Totals.{fit_total, total_fit, same_total, same_length}
use Rattle.orders.proofs.Least.{numbers_once, greedy_count, least_all}

-- a number above all points
bound : List Face → ℕ
bound [] = 0
bound (f ∷ fs) = suc (f.a + f.b + f.c) + bound fs

under : (fs : List Face) (i : ℕ) → i < length fs → ((face_at fs i).a < bound fs) × ((face_at fs i).b < bound fs) × ((face_at fs i).c < bound fs)
unfolding bound
under [] i h = absurd (omega arith)
under (f ∷ fs) zero h = omega arith
under (f ∷ fs) (suc i) h = let ih = under fs i (omega arith) in omega arith

pub numbers_length : (m k : ℕ) → length (up_from k m) ≡ m
unfolding up_from
numbers_length zero k = refl
numbers_length (suc m) k = let ih = numbers_length m (k + 1) in omega arith

pub numbers_permute : (n : ℕ) → Permutes n (up_from 0 n)
numbers_permute n j =
    let z : bit (ltb j 0) ≡ 0 = ap bit (not-true (λ (t : ltb j 0 ≡ true). let l = ltb-true j 0 t in omega arith)) in
    let e : bit (ltb j (0 + n)) ≡ bit (ltb j n) = let q : 0 + n ≡ n = omega arith in ap (λ (k : ℕ). bit (ltb j k)) q in
    omega (arith, numbers_once n 0 j)

pub greedy_permutes : (fs : List Face) → Permutes (length fs) (greedy fs)
unfolding greedy
greedy_permutes fs j =
    let l = numbers_length (length fs) 0 in
    greedy_count (face_at fs) (length fs) [] (up_from 0 (length fs)) (omega arith) j ∙ numbers_permute (length fs) j

module _ (fs : List Face) (different : AllDifferent fs) where
  inside : (i : ℕ) → i < length fs → Inside (face_at fs) (bound fs) i
  inside i h =
      let u = under fs i h in
      let d = different i h in
      record { distinct = record { ab = d.0; bc = d.1; ca = d.2 }; a_below = u.0; b_below = u.1; c_below = u.2 }

  least_greedy : (order : List ℕ) → Permutes (length fs) order → loose (face_at fs) [] (greedy fs) ≤ loose (face_at fs) [] order
  unfolding greedy
  least_greedy order h =
      let l = numbers_length (length fs) 0 in
      least_all (face_at fs) (length fs) order h (length fs) (up_from 0 (length fs)) (omega arith) (numbers_permute (length fs))

  pub greedy_fits : (order : List ℕ) → Permutes (length fs) order → all_fit (face_at fs) [] order ≡ true → all_fit (face_at fs) [] (greedy fs) ≡ true
  greedy_fits order h f =
      let g = greedy_permutes fs in
      total_fit (face_at fs) [] (greedy fs) (omega (
        arith,
        fit_total (face_at fs) [] order f,
        same_total (face_at fs) (bound fs) (length fs) inside order (greedy fs) h g,
        same_length (length fs) order (greedy fs) h g,
        least_greedy order h,
      ))

  -- the theorem
  pub greedy_valid : (order : List ℕ) → Valid fs order → Valid fs (greedy fs)
  greedy_valid order h = record { permutes = greedy_permutes fs; fit = greedy_fits order h.permutes h.fit; few = h.few }

  -- ---- and the test
  pub few_uncrowded : ((e : Edge) → count (has e) fs ≤ 2) → crowded fs ≡ false
  unfolding crowded
  few_uncrowded h = not-true (λ t.
      let f = some_one (λ f. any (λ e. ltb 2 (count (has e) fs)) (edges_of f)) fs (any_true (λ f. any (λ e. ltb 2 (count (has e) fs)) (edges_of f)) fs t) in
      let e = some_one (λ e. ltb 2 (count (has e) fs)) (edges_of f.x) (any_true (λ e. ltb 2 (count (has e) fs)) (edges_of f.x) f.passes) in
      let l = ltb-true 2 (count (has e.x) fs) e.passes in
      let k = h e.x in
      omega arith)

  pub uncrowded_few : crowded fs ≡ false → (e : Edge) → count (has e) fs ≤ 2
  unfolding crowded has
  uncrowded_few h e = ⊎_elim
      (λ (t : ltb 2 (count (has e) fs) ≡ true).
      let l = ltb-true 2 (count (has e) fs) t in
      let f = some_one (has e) fs (omega arith) in
      let d = some_one (same e) (edges_of f.x) (any_true (same e) (edges_of f.x) f.passes) in
      let c = laid_congr e d.x d.passes fs in
      let o = true_any (λ e. ltb 2 (count (has e) fs)) (edges_of f.x)
      (d.within (λ e. ltb 2 (count (has e) fs)) (lt-ltb 2 (count (has d.x) fs) (omega arith))) in
      let m = f.within (λ f. any (λ e. ltb 2 (count (has e) fs)) (edges_of f)) o in
      let z = any_false (λ f. any (λ e. ltb 2 (count (has e) fs)) (edges_of f)) fs h in
      absurd (omega arith))
      (λ (t : ltb 2 (count (has e) fs) ≡ false). ltb-false 2 (count (has e) fs) t)
      (either (ltb 2 (count (has e) fs)))

  pub valid_accepted : (order : List ℕ) → Valid fs order → order_accepted fs ≡ true
  unfolding order_accepted crowded
  valid_accepted order h = rw (few_uncrowded h.few, greedy_fits order h.permutes h.fit)

  pub accepted_valid : order_accepted fs ≡ true → Valid fs (greedy fs)
  unfolding order_accepted crowded
  accepted_valid h =
      let b = and_both {p = not (crowded fs)} {q = all_fit (face_at fs) [] (greedy fs)} h in
      record { permutes = greedy_permutes fs; fit = b.1; few = uncrowded_few (unnot (crowded fs) b.0) }

  pub decided : (order_accepted fs ≡ true) ↔ ((order : List ℕ) × Valid fs order)
  decided = (λ h. (greedy fs, accepted_valid h), λ v. valid_accepted v.0 v.1)
