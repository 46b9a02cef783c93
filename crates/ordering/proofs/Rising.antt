-- The faces left, in rising order, and which of them comes next. Assumes nothing.
use Prim.Native.Nat.{ℕ, zero, suc, ◌+◌, ◌≤◌, ◌<◌}
use mathlib.Core.Path.{◌≡◌, refl, sym, ap, ◌∙◌}
use mathlib.Core.Logic.{⊎_elim}
use mathlib.Core.Bool.{Bool, true, false}
use mathlib.Core.List.{List, [], ◌∷◌}
use native.Mathlib.Omega.{arith}
use lib.Dec.{eqb, ltb}
use borrow.Author.Tests.{eqb-true, ltb-false}
use Rattle.lists.specs.Lists.{bit, count, up_from}
use Rattle.lists.specs.Members.{In}
use Rattle.lists.proofs.Bools.{either}
use Rattle.lists.proofs.Counts.{bit_le}
use Rattle.lists.proofs.Members.{in_head}
use Rattle.orders.specs.Order.{first_or, without}
use Rattle.orders.proofs.Least.{numbers_once, first_yes, first_no, without_yes, without_no}

-- each is below all later ones
abbrev pub Rising : List ℕ → Type 0
Rising [] = Unit {0}
Rising (x ∷ xs) = ((k : ℕ) → In k xs → x < k) × Rising xs

up_least : (i m k : ℕ) → In k (up_from i m) → i ≤ k
up_least i m k h =
    let o = numbers_once m i k in
    let b = bit_le (ltb k (i + m)) in
    ⊎_elim
    (λ (t : ltb k i ≡ true). let one : bit (ltb k i) ≡ 1 = ap bit t in absurd (omega arith))
    (λ (t : ltb k i ≡ false). ltb-false k i t)
    (either (ltb k i))

pub rising_up : (m i : ℕ) → Rising (up_from i m)
unfolding up_from
rising_up zero i = tt
rising_up (suc m) i = ((λ k h. let l = up_least (i + 1) m k h in omega arith), rising_up m (i + 1))

without_fewer : (i : ℕ) (xs : List ℕ) (k : ℕ) → count (eqb k) (without i xs) ≤ count (eqb k) xs
unfolding without
without_fewer i [] k = omega arith
without_fewer i (x ∷ xs) k = ⊎_elim
    (λ (t : eqb i x ≡ true). rw (without_yes i x xs t) (omega arith))
    (λ (t : eqb i x ≡ false). rw (without_no i x xs t) (let ih = without_fewer i xs k in omega arith))
    (either (eqb i x))

pub rising_without : (i : ℕ) (xs : List ℕ) → Rising xs → Rising (without i xs)
unfolding without
rising_without i [] h = tt
rising_without i (x ∷ xs) h = ⊎_elim
    (λ (t : eqb i x ≡ true). rw (without_yes i x xs t) h.1)
    (λ (t : eqb i x ≡ false). rw (without_no i x xs t) ((λ k l. let f = without_fewer i xs k in h.0 k (omega arith)), rising_without i xs h.1))
    (either (eqb i x))

-- the least that passes is the first that does
pub first_is : (p : ℕ → Bool) (d g : ℕ) (xs : List ℕ) → Rising xs → In g xs → p g ≡ true → ((k : ℕ) → In k xs → p k ≡ true → g ≤ k) → first_or p d xs ≡ g
first_is p d g [] r h q least = absurd (omega arith)
first_is p d g (x ∷ xs) r h q least = ⊎_elim
    (λ (t : eqb g x ≡ true). let e = eqb-true g x t in first_yes p d x xs (ap p (sym e) ∙ q) ∙ sym e)
    (λ (t : eqb g x ≡ false).
    let z : bit (eqb g x) ≡ 0 = ap bit t in
    let later : In g xs = omega arith in
    ⊎_elim
    (λ (u : p x ≡ true). let a = least x (in_head x xs) u in let b = r.0 g later in absurd (omega arith))
    (λ (u : p x ≡ false). first_no p d x xs u ∙ first_is p d g xs r.1 later q (λ k l. least k (omega arith)))
    (either (p x)))
    (either (eqb g x))

pub first_default : (p : ℕ → Bool) (d : ℕ) (xs : List ℕ) → ((k : ℕ) → In k xs → p k ≡ true → ⊥) → first_or p d xs ≡ d
unfolding first_or
first_default p d [] none = refl
first_default p d (x ∷ xs) none = ⊎_elim
    (λ (u : p x ≡ true). absurd (none x (in_head x xs) u))
    (λ (u : p x ≡ false). first_no p d x xs u ∙ first_default p d xs (λ k l. none k (omega arith)))
    (either (p x))

pub head_least : (x g : ℕ) (xs : List ℕ) → Rising (x ∷ xs) → In g (x ∷ xs) → ((k : ℕ) → In k (x ∷ xs) → g ≤ k) → x ≡ g
head_least x g xs r h least = ⊎_elim
    (λ (t : eqb g x ≡ true). sym (eqb-true g x t))
    (λ (t : eqb g x ≡ false).
    let z : bit (eqb g x) ≡ 0 = ap bit t in
    let a = r.0 g (omega arith) in
    let b = least x (in_head x xs) in
    absurd (omega arith))
    (either (eqb g x))
