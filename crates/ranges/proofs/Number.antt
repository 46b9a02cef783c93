-- Laws of numbers that may be missing. Assumes nothing.
use mathlib.Core.Path.{◌≡◌, refl}
use mathlib.Core.Bool.{Bool, true, false}
use Prim.Native.Nat.{ℕ, zero, suc, ◌≤◌, ◌<◌, min}
use native.Mathlib.Nat.{min-le_left, min-eq_left, min-eq_right}
use native.Mathlib.Omega.{arith}
use lib.Dec.{ltb}
use borrow.Author.Tests.{lt-ltb, le-ltb, ltb-true, ltb-false}
use Rattle.std.specs.Prelude.{Option, Some, None}
use Rattle.ranges.specs.Inner.Number.{some_below, some_number, first_there}

-- what a number that is there says
pub below_some : {n k x : ℕ} → Some x ≡ some_below n k → (x ≡ k) × (k < n)
below_some {n} {k} {x} e = go (ltb k n) refl
  where
    go : (b : Bool) → ltb k n ≡ b → (x ≡ k) × (k < n)
    go true q = let z : ◌≡◌ {A = Option ℕ} (Some x) (Some k) = rw q at e in (cc, ltb-true k n q)
    go false q = let z : ◌≡◌ {A = Option ℕ} (Some x) None = rw q at e in cc

pub below_none : {n k : ℕ} → None ≡ some_below n k → n ≤ k
below_none {n} {k} e = go (ltb k n) refl
  where
    go : (b : Bool) → ltb k n ≡ b → n ≤ k
    go true q = let z : ◌≡◌ {A = Option ℕ} None (Some k) = rw q at e in cc
    go false q = ltb-false k n q

pub number_some : {k x : ℕ} → Some x ≡ some_number k → (x ≡ k) × (k ≡ 0 → ⊥)
number_some {k = zero} e = cc
number_some {k = suc k} {x} e = let z : x ≡ suc k = cc in (z, omega arith)

pub number_none : {k : ℕ} → None ≡ some_number k → k ≡ 0
number_none {k = zero} e = refl
number_none {k = suc k} e = cc

-- of two numbers below the same one
pub first_there_below : (n a b : ℕ) → first_there (some_below n a) (some_below n b) ≡ some_below n (min a b)
first_there_below n a b = go (ltb a n) (ltb b n) refl refl
  where
    go : (s t : Bool) → ltb a n ≡ s → ltb b n ≡ t → first_there (some_below n a) (some_below n b) ≡ some_below n (min a b)
    go true true p q = rw (p, q, lt-ltb (min a b) n (let l = ltb-true a n p in let m = min-le_left a b in omega arith))
    go true false p q = rw (min-eq_left {n = a} {m = b} (let l = ltb-true a n p in let m = ltb-false b n q in omega arith), p, q)
    go false true p q = let l = ltb-false a n p in let m = ltb-true b n q in let h : b ≤ a = omega arith in rw (min-eq_right h, p, q)
    go false false p q = rw (p, q, le-ltb (min a b) n (let l = ltb-false a n p in let m = ltb-false b n q in omega arith))
