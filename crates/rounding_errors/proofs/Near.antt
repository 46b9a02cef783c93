-- `Near k p q`: p is at most q, but for k rounding errors, each of a part of at most 2 ^ -24. It goes through products
-- and sums (`near_mul`, `near_add`) and roots (`near_root`), so that an error analysis is a chain of such facts, and at
-- its end the count of errors is set against a margin (`near_within`). Assumes nothing.
use mathlib.Core.Path.{◌≡◌, sym, ap, ◌∙◌, subst}
use Prim.Native.Nat.{ℕ, ◌+◌, ◌*◌, ◌^◌, ◌≤◌, ◌<◌}
use native.Mathlib.Nat.{le_trans, le_of_eq, mul_assoc, mul_comm, mul_right_comm, mul-mul-mul_comm, mul-le-mul, mul-le-mul_left, mul-le-mul_right}
use native.Mathlib.Nat.{mul-lt-mul_of_pos_right, le_of_mul-le-mul_right, add-mul, pow-le-pow_left, one-le-pow}
use native.Mathlib.Omega.{arith}
use native.Mathlib.Bridge.{IsLe, le_by_compare}
use native.Mathlib.Decide.{dec_le}
use lib.Pow.{pow-add}

pub record Near (k p q : ℕ) : Type 0 where
  pub near : p * 16777215 ^ k ≤ q * 16777216 ^ k

pub near_le : {p q : ℕ} → p ≤ q → Near 0 p q
near_le h = record { near = mul-le-mul_right 1 h }

pub near_self : (k p : ℕ) → Near k p p
unfolding IsLe
near_self k p = record { near = mul-le-mul_left p (pow-le-pow_left (le_by_compare 16777215 16777216 tt) k) }

pub near_eq : {k p q r s : ℕ} → p ≡ r → q ≡ s → Near k p q → Near k r s
near_eq {k} {p} {q} {r} {s} e g h = subst (λ (x : ℕ). Near k x s) e (subst (λ (x : ℕ). Near k p x) g h)

pub near_trans : {j k p q r : ℕ} → Near j p q → Near k q r → Near (j + k) p r
near_trans {j} {k} {p} {q} {r} h i = record {
  near =
      let L : ℕ = 16777215 in
      let H : ℕ = 16777216 in
      rw (pow-add L j k, pow-add H j k)
      (le_trans (le_of_eq (sym (mul_assoc p (L ^ j) (L ^ k))))
      (le_trans (mul-le-mul_right (L ^ k) h.near)
      (le_trans (le_of_eq (mul_right_comm q (H ^ j) (L ^ k)))
      (le_trans (mul-le-mul_right (H ^ j) i.near) (le_of_eq (mul_assoc r (H ^ k) (H ^ j) ∙ ap (λ (x : ℕ). r * x) (mul_comm (H ^ k) (H ^ j))))))));
}

pub near_mul : {j k p q r s : ℕ} → Near j p q → Near k r s → Near (j + k) (p * r) (q * s)
near_mul {j} {k} {p} {q} {r} {s} h i = record {
  near = rw (pow-add 16777215 j k, pow-add 16777216 j k, mul-mul-mul_comm p r, mul-mul-mul_comm q s) (mul-le-mul h.near i.near);
}

pub near_add : {k p q r s : ℕ} → Near k p q → Near k r s → Near k (p + r) (q + s)
near_add {k} {p} {q} {r} {s} h i = record {
  near = let a = h.near in let b = i.near in rw (add-mul p r, add-mul q s) (omega arith);
}

-- more errors
pub near_more : {j p q : ℕ} (k : ℕ) → Near j p q → Near (j + k) p q
near_more {j} {p} {q} k h = near_trans h (near_self k q)

pub near_square : {k p q : ℕ} → Near k p q → Near (k + k) (p * p) (q * q)
near_square h = near_mul h h

-- p and q many times
pub near_times : {k p q : ℕ} (c : ℕ) → Near k p q → Near k (p * c) (q * c)
near_times {k} {p} {q} c h = record { near = rw (mul_right_comm p c, mul_right_comm q c) (mul-le-mul_right c h.near) }

pub near_cancel : {k p q : ℕ} (c : ℕ) → 0 < c → Near k (p * c) (q * c) → Near k p q
near_cancel {k} {p} {q} c C h = record {
  near = le_of_mul-le-mul_right (rw (mul_right_comm p c, mul_right_comm q c) at h.near) C;
}

pub square_back : (p q : ℕ) → p * p ≤ q * q → p ≤ q
square_back p q h = go (dec_le p q)
  where
    go : Dec (p ≤ q) → p ≤ q
    go (yes k) = k
    go (no k) =
        let l : q < p = omega arith in
        let a : q * p < p * p = mul-lt-mul_of_pos_right l (omega arith) in
        let b : q * q ≤ q * p = mul-le-mul_left q (omega arith) in
        absurd (omega arith)

pub near_root : {k p q : ℕ} → Near (k + k) (p * p) (q * q) → Near k p q
near_root {k} {p} {q} h = record {
  near = square_back (p * 16777215 ^ k) (q * 16777216 ^ k)
      (rw (pow-add 16777215 k k, pow-add 16777216 k k, mul-mul-mul_comm p p, mul-mul-mul_comm q q) at h.near);
}

-- k errors set against a margin: they are less than the part that n is above m
pub near_within : {p q : ℕ} (k m n : ℕ) → m * 16777216 ^ k ≤ n * 16777215 ^ k → Near k p q → p * m ≤ q * n
near_within {p} {q} k m n c h = go (16777215 ^ k) (16777216 ^ k) (one-le-pow k 16777215 (omega arith)) c h.near
  where
    go : (l u : ℕ) → 0 < l → m * u ≤ n * l → p * l ≤ q * u → p * m ≤ q * n
    go l u L c h =
        let i : p * l * m ≤ q * u * m = mul-le-mul_right m h in
        let j : q * (m * u) ≤ q * (n * l) = mul-le-mul_left q c in
        let g : p * m * l ≤ q * n * l = omega arith in
        le_of_mul-le-mul_right g L

-- three errors are less than a half
pub near_twice : {p q : ℕ} → Near 3 p q → p ≤ 2 * q
unfolding IsLe
near_twice {p} {q} h = let i = near_within {p = p} {q = q} 3 1 2 (le_by_compare (1 * 16777216 ^ 3) (2 * 16777215 ^ 3) tt) h in omega arith
