-- What the call answers and leaves, from what the search over the front of the found slice does. Assumes nothing.
use mathlib.Core.Path.{◌≡◌, sym, ap, ◌∙◌, subst, subst⁻¹}
use mathlib.Core.Bool.{Bool, cond}
use mathlib.Core.List.{List, ◌++◌, map}
use Prim.Native.Nat.{ℕ, zero, suc, ◌+◌, ◌/◌, ◌≤◌, ◌<◌, min}
use native.Mathlib.Omega.{arith}
use lib.Ieee.{Float}
use lib.ListN.{length, get_or, take, drop, take-append-drop}
use lib.Seq.{length-take-le}
use borrow.Author.Tests.{eq-eqb, ne_eqb}
use Rattle.lists.specs.Lists.{up_from}
use Rattle.nearest_points.specs.declared.Searched.{Searched}
use Rattle.nearest_points.specs.Found.{Answers, search_refusal, nearest_refusal, number_at, numbers_in, Searches}
use Rattle.nearest_points.proofs.Refused.{accepted}
use Rattle.nearest_distances.specs.Measured.{distances_in, Measures}
use Rattle.nearest_distances.proofs.Numbers.{numbers_whole, number_at_lem, found_room}

front_fits : (f : ℕ → ℕ) (j m : ℕ) (rest : List ℕ) → m ≤ length (map f (up_from j m) ++ rest)
unfolding up_from
front_fits f j zero rest = omega arith
front_fits f j (suc m) rest = omega (arith, front_fits f (j + 1) m rest)

module _ (points spots : List Float) (index found : List ℕ) (distances : List Float) (words : List ℕ) (floats : List Float) (room : ℕ)
    (is : room ≡ min (length found) (length distances)) where
  pub in_found : room ≤ length found
  in_found = omega arith

  in_distances : room ≤ length distances
  in_distances = omega arith

  pub part_length : length (take room found) ≡ room
  part_length = length-take-le room found in_found

  module _ {r : Searched} {a words' : List ℕ} {floats' : List Float} (s : Searches points spots index (take room found) words floats r a words' floats') where
    answers_whole : Answers r (nearest_refusal points spots index (length words) (length floats) (min (length found) (length distances)))
    answers_whole = subst (λ (k : ℕ). Answers r (nearest_refusal points spots index (length words) (length floats) k)) (part_length ∙ is) s.answers

    pub unmeasured : (r.answer ≡ 0 → ⊥) → Measures points spots index found distances words floats r (a ++ drop room found) distances words' floats'
    unmeasured h = record {
      answers = answers_whole;
      found_left = rw (ne_eqb r.answer 0 h)
          (ap (λ (x : List ℕ). x ++ drop room found)
          (s.found_left ∙ ap (λ (b : Bool). cond b (numbers_in points spots (take room found)) (take room found)) (ne_eqb r.answer 0 h))
          ∙ take-append-drop room found);
      distances_left = rw (ne_eqb r.answer 0 h);
      words_left = s.words_left;
      floats_left = s.floats_left;
    }

    module _ (h : r.answer ≡ 0) where
      passed : ((search_refusal points spots (length index) (length words) (length floats)).answer ≡ 0) × (length spots / 3 ≤ room)
      passed = found_room points spots index (length words) (length floats) room
          (ap (λ (k : ℕ). (nearest_refusal points spots index (length words) (length floats) k).answer) (sym part_length) ∙ sym s.answers.answered ∙ h)

      numbers_are : a ++ drop room found ≡ numbers_in points spots found
      numbers_are =
          ap (λ (x : List ℕ). x ++ drop room found)
          (s.found_left ∙ ap (λ (b : Bool). cond b (numbers_in points spots (take room found)) (take room found)) (eq-eqb r.answer 0 h))
          ∙ numbers_whole points spots room found passed.1

      pub some : 0 < length points / 3
      some = (accepted points spots (length index) (length words) (length floats) passed.0).cloud.some

      pub room_found : length spots / 3 ≤ length (a ++ drop room found)
      room_found = subst⁻¹ (λ (l : List ℕ). length spots / 3 ≤ length l) numbers_are
          (front_fits (number_at points spots) 0 (length spots / 3) (drop (length spots / 3) found))

      pub room_distances : length spots / 3 ≤ length distances
      room_distances = omega (arith, passed.1, in_distances)

      pub at_found : (i : ℕ) → i < length spots / 3 → get_or (a ++ drop room found) i 0 ≡ number_at points spots i
      at_found i k = ap (λ (l : List ℕ). get_or l i 0) numbers_are ∙ number_at_lem points spots found i k

      pub measured : {distances' : List Float} → distances' ≡ distances_in points spots distances
          → Measures points spots index found distances words floats r (a ++ drop room found) distances' words' floats'
      measured e = record {
        answers = answers_whole;
        found_left = rw (eq-eqb r.answer 0 h) numbers_are;
        distances_left = rw (eq-eqb r.answer 0 h) e;
        words_left = s.words_left;
        floats_left = s.floats_left;
      }
