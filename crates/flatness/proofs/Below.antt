-- What holds of each number below a place, step by step. Assumes nothing.
use Prim.Native.Nat.{ℕ, ◌+◌, ◌<◌}
use mathlib.Core.Path.{◌≡◌, sym, subst}
use mathlib.Core.Logic.{⊎_elim}
use mathlib.Core.Bool.{true, false}
use native.Mathlib.Omega.{arith}
use lib.Dec.{eqb, ltb}
use borrow.Author.Tests.{ltb-true, ltb-false, eqb-true, eqb-false}
use Rattle.lists.proofs.Bools.{either}

-- what holds below m and of m holds below m + 1
pub below_next : {P : ℕ → Type 0} {m : ℕ} → ((x : ℕ) → x < m → P x) → P m → (x : ℕ) → x < m + 1 → P x
below_next {P} {m} f p x h =
    ⊎_elim (λ (t : eqb x m ≡ true). subst P (sym (eqb-true x m t)) p) (λ (t : eqb x m ≡ false). f x (less (eqb-false x m t))) (either (eqb x m))
  where
    less : (x ≡ m → ⊥) → x < m
    less n = ⊎_elim (λ (t : ltb x m ≡ true). ltb-true x m t) (λ (t : ltb x m ≡ false). absurd (n (let z = ltb-false x m t in omega arith))) (either (ltb x m))
