-- Faces with a valid order are few: F + 2S is at most the number of points. Assumes nothing.
use Prim.Native.Nat.{ℕ, zero, suc, ◌+◌, ◌*◌, ◌≤◌, ◌<◌}
use mathlib.Core.Path.{◌≡◌, refl, ap}
use mathlib.Core.Bool.{Bool, true, not}
use mathlib.Core.List.{List, [], ◌∷◌}
use native.Mathlib.Omega.{arith}
use lib.ListN.{length}
use Rattle.lists.specs.Lists.{bit, any, up_from}
use Rattle.patch.specs.Lay.{Face}
use Rattle.lists.proofs.Counts.{bit_le, false_any}
use Rattle.orders.specs.Order.{neighbours, reached, joined, all_fit, loose, face_at, greedy, Permutes, AllDifferent, order_accepted}
use Rattle.orders.proofs.Sums.{sum}
use Rattle.orders.proofs.Points.{Inside}
use Rattle.orders.proofs.Totals.{pour, fit_total, cover_total, below, same_length}
use Rattle.orders.proofs.Decide.{numbers_length, numbers_permute, accepted_valid}

-- ---- accepted faces are few
sum_few : (p : ℕ → Bool) (n : ℕ) → sum (λ x. bit (p x)) n ≤ n
sum_few p zero = omega arith
sum_few p (suc n) = let ih = sum_few p n in let b = bit_le (p n) in omega arith

first_loose : (at : ℕ → Face) (order : List ℕ) → 1 ≤ length order → 1 ≤ loose at [] order
unfolding joined
first_loose at [] h = absurd (omega arith)
first_loose at (i ∷ order) h =
    let z : bit (not (any (λ j. neighbours (at i) (at j)) [])) ≡ 1 = ap (λ (b : Bool). bit (not b)) (false_any (λ j. neighbours (at i) (at j)) [] refl) in
    omega arith

-- F + 2S is at most the number of points
module _ (n : ℕ) (fs : List Face) (inside : (i : ℕ) → i < length fs → Inside (face_at fs) n i) (order : List ℕ) (permutes : Permutes (length fs) order)
    (fit : all_fit (face_at fs) [] order ≡ true) where
  pub valid_room : length fs + 2 * loose (face_at fs) [] order ≤ n
  valid_room =
      let a = fit_total (face_at fs) [] order fit in
      let b = cover_total (face_at fs) n (length fs) inside [] order (below (face_at fs) n (length fs) inside order permutes) in
      let c = sum_few (reached (face_at fs) (pour (face_at fs) [] order)) n in
      let l = same_length (length fs) order (up_from 0 (length fs)) permutes (numbers_permute (length fs)) in
      omega (arith, numbers_length (length fs) 0)

  -- so more than n - 2 faces need no look
  pub valid_few : 1 ≤ length fs → length fs + 2 ≤ n
  valid_few h =
      let l = same_length (length fs) order (up_from 0 (length fs)) permutes (numbers_permute (length fs)) in
      let m = numbers_length (length fs) 0 in
      let f = first_loose (face_at fs) order (omega arith) in
      let r = valid_room in
      omega arith

pub accepted_few : (n : ℕ) (fs : List Face) → AllDifferent fs → ((i : ℕ) → i < length fs → Inside (face_at fs) n i) → order_accepted fs ≡ true → 1 ≤ length fs
    → length fs + 2 ≤ n
accepted_few n fs different inside h =
    let v = accepted_valid fs different h in
    valid_few n fs inside (greedy fs) v.permutes v.fit
