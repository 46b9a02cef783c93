-- The root of a number above zero, by its number of units. With x = n * 2^(2h) units of 2^-298, n of 47 or 48 digits,
-- `root x` is `nearestRoot n` * 2^h units of 2^-149 (`scaled`), and so has the pattern h * 2^23 + nearestRoot n
-- (`root_pattern`).
use mathlib.Core.Path.{◌≡◌, sym, ap, ◌∙◌, subst}
use Prim.Native.Nat.{ℕ, zero, suc, ◌+◌, ◌-◌, ◌*◌, ◌/◌, ◌%◌, ◌^◌, ◌≤◌, ◌<◌}
use native.Mathlib.Nat.{lt_irrefl, zero-mul, add_comm, mul_assoc, mul_right_comm, mul-pos, mul-div_cancel}
use native.Mathlib.Omega.{arith}
use mathlib.Core.Bool.{true, false, not, true≢false}
use lib.Dec.{T}
use lib.Pow.{pow-add, pow_pos, shl_lt, shl-shr}
use lib.Ieee.{Float, nan, inf, fin, binary32, up, down, size, units, is_nan, of_bits, nan_bits}
use lib.Ieee.Digits.{size-le}
use lib.Ieee.Fits.{down_pos}
use lib.Ieee.Exact.{HasValue}
use Rattle.numbers.specs.Root.{nearest_root, root_of_units, root}
use Rattle.numbers.proofs.RootWhole.{nearest_bounds}
use Rattle.numbers.proofs.RootPattern.{size_gt, shl_ge, units_value, units_written, value_no_nan, no_nan_bits, small_value, normal_value}

-- ---- of the root's digits 24 are kept and h dropped

dropped : (n h : ℕ) → 2 ^ 46 ≤ n → n < 2 ^ 48 → (size (n * 2 ^ (2 * h)) + 1) / 2 - 24 ≡ h
dropped n h lo hi =
    half (size (n * 2 ^ (2 * h))) h (size-le (n * 2 ^ (2 * h)) (48 + 2 * h) (shl_lt 48 (2 * h) hi))
    (size_gt (46 + 2 * h) (n * 2 ^ (2 * h)) (shl_ge 46 (2 * h) lo))
  where
    half : (z h : ℕ) → z ≤ 48 + 2 * h → 46 + 2 * h < z → (z + 1) / 2 - 24 ≡ h
    half z h a b = omega arith

pub scaled : (n h : ℕ) → 2 ^ 46 ≤ n → n < 2 ^ 48 → root_of_units (n * 2 ^ (2 * h)) ≡ units binary32 false (nearest_root n) h
unfolding root_of_units
scaled n h lo hi =
    ap (λ (k : ℕ). units binary32 false (nearest_root (n * 2 ^ (2 * h) / 2 ^ (2 * k))) k) (dropped n h lo hi)
    ∙ ap (λ (m : ℕ). units binary32 false (nearest_root m) h) (shl-shr n (2 * h))

-- ---- a number above zero

nothing : (w c a d : ℕ) → w * c ≡ a * d → w ≡ 0 → 0 < a → 0 < d → ⊥
nothing w c a d h z A D = lt_irrefl 0 (subst (λ (x : ℕ). 0 < x) (sym h ∙ ap (λ (x : ℕ). x * c) z ∙ zero-mul c) (mul-pos A D))

pub root_of_value : (x : Float) (n : ℕ) → 0 < n → HasValue x false n (2 ^ 298) → root x ≡ root_of_units n
unfolding root
root_of_value nan n p h = absurd h
root_of_value (inf s) n p h = absurd h
root_of_value (fin s zero e) n p (q, h) = absurd (nothing (0 * up e) (2 ^ 298) n (down e) h (zero-mul (up e)) p (down_pos e))
root_of_value (fin true (suc m) e) n p (q, h) = absurd (true≢false q)
root_of_value (fin false (suc m) e) n p (q, h) = ap root_of_units (ap (λ (w : ℕ). w / down e) h ∙ mul-div_cancel n (down_pos e))

-- from units of 2^-149 to units of 2^-298
pub finer : (x : Float) (a : ℕ) → HasValue x false a (2 ^ 149) → HasValue x false (a * 2 ^ 149) (2 ^ 298)
finer nan a h = h
finer (inf s) a h = h
finer (fin s m e) a (q, h) = (q, twice (m * up e) (2 ^ 149) a (down e) h)
  where
    twice : (w c a d : ℕ) → w * c ≡ a * d → w * (c * c) ≡ a * c * d
    twice w c a d h = sym (mul_assoc w c c) ∙ ap (λ (z : ℕ). z * c) h ∙ mul_right_comm a d c

-- ---- its root's pattern

split_place : (q k : ℕ) → q * 2 ^ (k + 23) ≡ q * 2 ^ (23 + k % 2) * 2 ^ (2 * (k / 2))
split_place q k =
    let e : k + 23 ≡ 23 + k % 2 + 2 * (k / 2) = omega arith in
    ap (λ (j : ℕ). q * 2 ^ j) e ∙ ap (λ (y : ℕ). q * y) (pow-add 2 (23 + k % 2) (2 * (k / 2))) ∙ sym (mul_assoc q (2 ^ (23 + k % 2)) (2 ^ (2 * (k / 2))))

pub long : (q k : ℕ) → 2 ^ 23 ≤ q → q < 2 ^ 24 → (2 ^ 46 ≤ q * 2 ^ (23 + k % 2)) × (q * 2 ^ (23 + k % 2) < 2 ^ 48)
long q k lo hi = go (k % 2) (omega arith)
  where
    go : (d : ℕ) → d < 2 → (2 ^ 46 ≤ q * 2 ^ (23 + d)) × (q * 2 ^ (23 + d) < 2 ^ 48)
    go zero h = (omega arith, omega arith)
    go (suc zero) h = (omega arith, omega arith)
    go (suc (suc d)) h = absurd (omega arith)

-- b is the pattern of x's root
abbrev pub RootBits : ℕ → Float → Type 0
RootBits b x = (of_bits binary32 b ≡ root x) × T (not (nan_bits binary32 b))

pub root_pattern : (x : Float) (q k b : ℕ) → 2 ^ 23 ≤ q → q < 2 ^ 24 → k < 400 → HasValue x false (q * 2 ^ (k + 23)) (2 ^ 298)
    → b ≡ k / 2 * 8388608 + nearest_root (q * 2 ^ (23 + k % 2)) → RootBits b x
root_pattern x q k b lo hi K h e =
    let n = q * 2 ^ (23 + k % 2) in
    let l = long q k lo hi in
    let w = nearest_bounds n l.0 l.1 in
    let H : k / 2 < 253 = omega arith in
    let p : 0 < q * 2 ^ (k + 23) = mul-pos (omega arith) (pow_pos (k + 23)) in
    let is : of_bits binary32 b
    ≡ units binary32 false (nearest_root n) (k / 2) = ap (of_bits binary32) e ∙ units_written (nearest_root n) (k / 2) w.0 w.1 H in (
      is ∙ sym (root_of_value x (q * 2 ^ (k + 23)) p h ∙ ap root_of_units (split_place q k) ∙ scaled n (k / 2) l.0 l.1),
      no_nan_bits b (subst (λ (v : Float). T (not (is_nan v))) (sym is) (value_no_nan _ false _ (2 ^ 149) (units_value (nearest_root n) (k / 2) w.1 H))),
    )

-- ---- a pattern's number in units of 2^-298, as a number of 24 digits and its place

-- below 0x00800000, with the digits moved up z places
pub small_scaled : (b q z : ℕ) → b < 2 ^ 23 → q ≡ b * 2 ^ z → z ≤ 23 → HasValue (of_bits binary32 b) false (q * 2 ^ (126 - z + 23)) (2 ^ 298)
small_scaled b q z h e Z =
    let p : z + (126 - z + 23) ≡ 149 = omega arith in
    let w : b * 2 ^ 149 ≡ q * 2 ^ (126 - z + 23) =
    ap (λ (j : ℕ). b * 2 ^ j) (sym p) ∙ ap (λ (y : ℕ). b * y) (pow-add 2 z (126 - z + 23)) ∙ sym (mul_assoc b (2 ^ z) (2 ^ (126 - z + 23)))
    ∙ ap (λ (y : ℕ). y * 2 ^ (126 - z + 23)) (sym e) in
    subst (λ (n : ℕ). HasValue (of_bits binary32 b) false n (2 ^ 298)) w (finer (of_bits binary32 b) b (small_value b h))

-- from 0x00800000 to 0x7f7fffff
pub normal_scaled : (b : ℕ) → 2 ^ 23 ≤ b → b < 0x7f800000
    → HasValue (of_bits binary32 b) false ((b % 8388608 + 8388608) * 2 ^ (b / 8388608 + 125 + 23)) (2 ^ 298)
normal_scaled b lo hi =
    let e = b / 8388608 in
    let t = b % 8388608 in
    let p : e - 1 + 149 ≡ e + 125 + 23 = omega arith in
    let w : (8388608 + t) * 2 ^ (e - 1) * 2 ^ 149 ≡ (t + 8388608) * 2 ^ (e + 125 + 23) =
    mul_assoc (8388608 + t) (2 ^ (e - 1)) (2 ^ 149) ∙ ap (λ (y : ℕ). (8388608 + t) * y) (sym (pow-add 2 (e - 1) 149) ∙ ap (λ (j : ℕ). 2 ^ j) p)
    ∙ ap (λ (y : ℕ). y * 2 ^ (e + 125 + 23)) (add_comm 8388608 t) in
    subst (λ (n : ℕ). HasValue (of_bits binary32 b) false n (2 ^ 298)) w (finer (of_bits binary32 b) ((8388608 + t) * 2 ^ (e - 1)) (normal_value b lo hi))
