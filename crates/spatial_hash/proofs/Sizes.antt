-- Bounds on products: of a side, and of a remainder joined to another number. Assumes nothing.
use Prim.Native.Nat.{ℕ, suc, ◌+◌, ◌*◌, ◌≤◌, ◌<◌}
use native.Mathlib.Nat.{mul-le-mul, mul-le-mul_right}
use native.Mathlib.Omega.{arith}

pub square_few : (m : ℕ) → m ≤ 24 → m * m ≤ 576
square_few m h = mul-le-mul h h

pub rows_few : (m : ℕ) → m ≤ 24 → m * m * (m + 1) ≤ 14400
rows_few m h = let l : m + 1 ≤ 25 = omega arith in mul-le-mul (square_few m h) l

pub joined_below : (k m p q : ℕ) → p < k → q < m → p * m + q < k * m
joined_below k m p q h l = let s : suc p * m ≤ k * m = mul-le-mul_right m h in omega arith
