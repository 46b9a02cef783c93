-- Laws of the whole-number root: `nearestRoot n` is the one r with (r - 1/2)^2 < n < (r + 1/2)^2 (`Near`), for n above
-- 0 and below 2^48, and of a number of 47 or 48 binary digits it has 24, or is 2^24 (`nearest_bounds`).
use mathlib.Core.Path.{◌≡◌, refl}
use Prim.Native.Nat.{ℕ, zero, suc, ◌+◌, ◌*◌, ◌/◌, ◌^◌, ◌≤◌, ◌<◌}
use native.Mathlib.Nat.{le_antisymm, lt_of_not-le, mul-add, add-mul, mul_assoc, mul_left_comm, mul-le-mul_left, mul-le-mul_right}
use native.Mathlib.Nat.{pow-succ'}
use native.Mathlib.Omega.{arith}
use native.Mathlib.Decide.{dec_le}
use mathlib.Core.Bool.{Bool, true, false, cond}
use lib.Dec.{leb, ltb}
use borrow.Author.Tests.{leb-true, leb-false, ltb-true, ltb-false}
use Rattle.numbers.specs.Root.{isqrt, nearest_root}

-- s is the root of n, cut
abbrev pub Floor : ℕ → ℕ → Type 0
Floor n s = (s * s ≤ n) × (n < (s + 1) * (s + 1))

-- r is the whole number nearest to the root of n
abbrev pub Near : ℕ → ℕ → Type 0
Near n r = (r * r < n + r) × (n ≤ r * r + r)

-- ---- squares

sq_suc : (a : ℕ) → (a + 1) * (a + 1) ≡ a * a + 2 * a + 1
sq_suc a = simp (mul-add, add-mul) (omega arith)

sq_dbl : (a : ℕ) → (2 * a) * (2 * a) ≡ 4 * (a * a)
sq_dbl a = simp (mul_assoc, mul_left_comm) (omega arith)

-- ---- `isqrt` is the root, cut

floor_step : (n s : ℕ) (b : Bool) → leb ((2 * s + 1) * (2 * s + 1)) n ≡ b → Floor (n / 4) s → Floor n (cond b (2 * s + 1) (2 * s))
floor_step n s true e (lo, hi) =
    let h : (2 * s + 1) * (2 * s + 1) ≤ n = leb-true _ _ e in
    (h, omega (arith, sq_suc (2 * s + 1), sq_suc (2 * s), sq_dbl s, sq_suc s))
floor_step n s false e (lo, hi) =
    let h : n < (2 * s + 1) * (2 * s + 1) = leb-false _ _ e in
    (omega (arith, sq_dbl s), h)

quarter : (k n : ℕ) → n < 4 ^ suc k → n / 4 < 4 ^ k
quarter k n h = omega (arith, pow-succ' 4 k)

isqrt_floor : (k n : ℕ) → n < 4 ^ k → Floor n (isqrt k n)
unfolding isqrt
isqrt_floor zero n h = (omega arith, omega arith)
isqrt_floor (suc k) n h = floor_step n (isqrt k (n / 4)) _ refl (isqrt_floor k (n / 4) (quarter k n h))

-- ---- from the cut root to the nearest

low : (n s : ℕ) → 0 < n → s * s ≤ n → s * s < n + s
low n zero p h = omega arith
low n (suc s) p h = omega arith

pub near_up : (n s : ℕ) → Floor n s → s * s + s < n → Near n (s + 1)
near_up n s (lo, hi) h = (omega (arith, sq_suc s), omega (arith, sq_suc s))

pub near_stay : (n s : ℕ) → 0 < n → Floor n s → n ≤ s * s + s → Near n s
near_stay n s p (lo, hi) h = (low n s p lo, h)

near_step : (n s : ℕ) (b : Bool) → 0 < n → ltb (s * s + s) n ≡ b → Floor n s → Near n (cond b (s + 1) s)
near_step n s true p e f = near_up n s f (ltb-true _ _ e)
near_step n s false p e f = near_stay n s p f (ltb-false _ _ e)

pub nearest_near : (n : ℕ) → 0 < n → n < 2 ^ 48 → Near n (nearest_root n)
unfolding nearest_root
nearest_near n p h = near_step n (isqrt 24 n) _ p refl (isqrt_floor 24 n h)

-- ---- `Near` pins the number

near_le : (n a b : ℕ) → Near n a → Near n b → a ≤ b
near_le n a b x y = go (dec_le a b)
  where
    go : Dec (a ≤ b) → a ≤ b
    go (yes h) = h
    go (no f) =
        let g : b + 1 ≤ a = omega (arith, lt_of_not-le f) in
        let u : b * (b + 1) ≤ b * a = mul-le-mul_left b g in
        let v : (b + 1) * a ≤ a * a = mul-le-mul_right a g in
        let u' : b * b + b ≤ b * a = omega (arith, mul-add b b 1) in
        let v' : b * a + a ≤ a * a = omega (arith, add-mul b 1 a) in
        absurd (omega arith)

pub nearest_is : (n r : ℕ) → (0 < n) × (n < 2 ^ 48) → Near n r → r ≡ nearest_root n
nearest_is n r (p, h) x = let y = nearest_near n p h in le_antisymm (near_le n r (nearest_root n) x y) (near_le n (nearest_root n) r y x)

-- ---- how long it is

near_top : (n r : ℕ) → Near n r → n < 2 ^ 48 → r ≤ 2 ^ 24
near_top n r x h = go (dec_le r (2 ^ 24))
  where
    go : Dec (r ≤ 2 ^ 24) → r ≤ 2 ^ 24
    go (yes k) = k
    go (no f) =
        let g : 2 ^ 24 + 1 ≤ r = omega (arith, lt_of_not-le f) in
        let u : r * (2 ^ 24 + 1) ≤ r * r = mul-le-mul_left r g in
        absurd (omega arith)

near_bottom : (n r : ℕ) → Near n r → 2 ^ 46 ≤ n → 2 ^ 23 ≤ r
near_bottom n r x h = go (dec_le (2 ^ 23) r)
  where
    go : Dec (2 ^ 23 ≤ r) → 2 ^ 23 ≤ r
    go (yes k) = k
    go (no f) =
        let g : r + 1 ≤ 2 ^ 23 = omega (arith, lt_of_not-le f) in
        let u : r * (r + 1) ≤ r * 2 ^ 23 = mul-le-mul_left r g in
        let v : r * (r + 1) ≡ r * r + r * 1 = mul-add r r 1 in
        absurd (omega arith)

pub nearest_bounds : (n : ℕ) → 2 ^ 46 ≤ n → n < 2 ^ 48 → (2 ^ 23 ≤ nearest_root n) × (nearest_root n ≤ 2 ^ 24)
nearest_bounds n lo hi = let x = nearest_near n (omega arith) hi in (near_bottom n (nearest_root n) x lo, near_top n (nearest_root n) x hi)
