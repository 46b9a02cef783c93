-- What the search leaves in the front of a slice, and when it has room for all spots. Assumes nothing.
use mathlib.Core.Path.{◌≡◌, refl, ap, ◌∙◌}
use mathlib.Core.Bool.{Bool, true, false, cond}
use mathlib.Core.List.{List, [], ◌∷◌, ◌++◌, map, append_assoc}
use Prim.Native.Nat.{ℕ, zero, suc, ◌+◌, ◌/◌, ◌≤◌, ◌<◌}
use native.Mathlib.Omega.{arith}
use lib.Dec.{leb}
use lib.Ieee.{Float}
use lib.ListN.{length, get_or, take, drop, take-append-drop}
use borrow.Author.Tests.{eq-eqb, leb-true, eqb-true}
use Rattle.lists.specs.Lists.{up_from}
use Rattle.lists.proofs.Bools.{true_not_false}
use Rattle.domain.specs.Refusals.{check, first_refusal}
use Rattle.domain.proofs.Refusals.{check_accepted}
use Rattle.kd_tree.specs.Tree.{belongs}
use Rattle.nearest_points.specs.Found.{search_refusal, checked, nearest_refusal, number_at, numbers_in}

drop_front : {A : Type 0} (m room : ℕ) (xs : List A) → m ≤ room → drop m (take room xs) ++ drop room xs ≡ drop m xs
drop_front zero room xs h = take-append-drop room xs
drop_front (suc m) zero xs h = absurd (omega arith)
drop_front (suc m) (suc room) [] h = refl
drop_front (suc m) (suc room) (x ∷ xs) h = drop_front m room xs (omega arith)

-- numbers in front of a part, with the rest behind it, are numbers in front of the whole
pub numbers_whole : (points spots : List Float) (room : ℕ) (found : List ℕ) → length spots / 3 ≤ room → numbers_in points spots (take room found)
    ++ drop room found ≡ numbers_in points spots found
numbers_whole points spots room found h =
    let m = length spots / 3 in
    let a = map (number_at points spots) (up_from 0 m) in
    append_assoc a (drop m (take room found)) (drop room found) ∙ ap (λ (x : List ℕ). a ++ x) (drop_front m room found h)

mapped_at : (f : ℕ → ℕ) (j m i : ℕ) (rest : List ℕ) → i < m → get_or (map f (up_from j m) ++ rest) i 0 ≡ f (j + i)
unfolding up_from
mapped_at f j zero i rest h = absurd (omega arith)
mapped_at f j (suc m) zero rest h = ap f (let e : j ≡ j + 0 = omega arith in e)
mapped_at f j (suc m) (suc i) rest h = mapped_at f (j + 1) m i rest (omega arith) ∙ ap f (let e : j + 1 + i ≡ j + suc i = omega arith in e)

pub number_at_lem : (points spots : List Float) (found : List ℕ) (i : ℕ) → i < length spots / 3 → get_or (numbers_in points spots found) i 0 ≡ number_at points spots i
number_at_lem points spots found i h =
    mapped_at (number_at points spots) 0 (length spots / 3) i (drop (length spots / 3) found) h
    ∙ ap (number_at points spots) (let e : 0 + i ≡ i = omega arith in e)

-- where the answer is 0 the checks up to 7 pass, and there is room for all spots
pub found_room : (points spots : List Float) (index : List ℕ) (words floats room : ℕ) → (nearest_refusal points spots index words floats room).answer ≡ 0
    → ((search_refusal points spots (length index) words floats).answer ≡ 0) × (length spots / 3 ≤ room)
unfolding nearest_refusal
found_room points spots index words floats room h = go (checked points spots (length index) words floats) refl h
  where
    m : ℕ
    m = length spots / 3

    go : (b : Bool) → checked points spots (length index) words floats ≡ b
        → (cond b (first_refusal (check (leb m room) 13 0 ∷ check (belongs points index) 22 0 ∷ []))
        (search_refusal points spots (length index) words floats)).answer ≡ 0 → ((search_refusal points spots (length index) words floats).answer ≡ 0)
        × (m ≤ room)
    go true e k = (
      eqb-true (search_refusal points spots (length index) words floats).answer 0 e,
      leb-true m room
          (check_accepted (check (leb m room) 13 0) _ (λ z. omega arith) k).0,
    )
    go false e k = absurd (true_not_false (eq-eqb (search_refusal points spots (length index) words floats).answer 0 k) e)
