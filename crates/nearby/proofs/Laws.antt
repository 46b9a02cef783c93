-- A definition that goes by cases. Assumes nothing.
use Prim.Native.Nat.{ℕ}
use mathlib.Core.Path.{◌≡◌, refl}
use mathlib.Core.Bool.{Bool, true, false}
use native.Mathlib.Omega.{arith}

pub chosen : {A : Type 0} (b : Bool) (x y : A) → b ≡ true → elim b as (λ c. A) [ true ↦ x | false ↦ y ] ≡ x
chosen true x y h = refl
chosen false x y h = absurd (let z : ◌≡◌ {A = ℕ} 0 1 = cc in omega arith)

pub passed : {A : Type 0} (b : Bool) (x y : A) → b ≡ false → elim b as (λ c. A) [ true ↦ x | false ↦ y ] ≡ y
passed true x y h = absurd (let z : ◌≡◌ {A = ℕ} 0 1 = cc in omega arith)
passed false x y h = refl
