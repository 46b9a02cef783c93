-- The computed aspect ratio from the computed lengths and cross product, over whole numbers: the errors of its
-- operations (`ratio_below`). w is 2 ^ 149, the units of 1. Assumes nothing.
use mathlib.Core.Path.{◌≡◌, refl, sym, subst}
use Prim.Native.Nat.{ℕ, ◌+◌, ◌*◌, ◌^◌, ◌≤◌, ◌<◌}
use native.Mathlib.Nat.{mul-pos, mul-le-mul_right}
use native.Mathlib.Omega.{arith}
use native.Mathlib.Bridge.{IsLe, le_by_compare}
use Rattle.rounding_errors.proofs.Near.{Near, near_le, near_eq, near_trans, near_mul, near_add, near_more, near_square, near_times, near_cancel, near_root}
use Rattle.rounding_errors.proofs.Near.{near_within}
use Rattle.euler.proofs.Inequality.{Floor, spread}

-- ---- over and under the bar

-- m is the square of the cross product, r its root, g the area, h half the edges' sum, f four times the area, q the
-- inradius
pub above_bar : (w m r g h f q : ℕ) → Near 3 (r * r) (m * w) → Near 1 (2 * g) r → Near 1 (q * h) (g * w) → Near 1 f (4 * g)
    → Near 7 (q * h * f * w) (m * (w * w * w))
above_bar w m r g h f q a b c d =
    let s : Near 5 (2 * g * (2 * g)) (m * w) = near_trans (near_square b) a in
    let t : Near 2 (q * h * f) (g * w * (4 * g)) = near_mul c d in
    let e : g * w * (4 * g) * w ≡ 2 * g * (2 * g) * (w * w) = omega arith in
    let i : m * w * (w * w) ≡ m * (w * w * w) = omega arith in
    near_trans (near_eq {k = 2} refl e (near_times w t)) (near_eq {k = 5} refl i (near_times (w * w) s))

-- x, y, z are the lengths, s their sum, p1 and p products, ρ the circumradius
pub under_bar : (w x y z s h p1 p f ρ : ℕ) → Near 2 (x + y + z) s → Near 1 s (2 * h) → Near 1 (x * y) (p1 * w) → Near 1 (p1 * z) (p * w)
    → Near 1 (p * w) (ρ * f) → Near 6 (spread x y z) (2 * h * (ρ * f * w))
under_bar w x y z s h p1 p f ρ a b c d e =
    let i : p1 * z * w ≡ p1 * w * z = omega arith in
    let l : Near 3 (x * y * z) (ρ * f * w) = near_trans (near_times z c) (near_trans (near_eq {k = 1} i refl (near_times w d)) (near_times w e)) in
    near_mul (near_trans a b) l

-- a cut root against the computed length
pub length_near : (A a x : ℕ) → Floor A a → Near 9 A (x * x) → Near 5 a x
length_near A a x f h = near_root (near_more 1 (near_trans (near_le f.low) h))

pub spread_near : {a b c x y z : ℕ} → Near 5 a x → Near 5 b y → Near 5 c z → Near 20 (spread a b c) (spread x y z)
spread_near h i j = near_mul (near_add (near_add h i) j) (near_mul (near_mul h i) j)

-- ---- the ratio

-- 38 errors are less than a part of 8 / 2 ^ 20
near_margin : (q ρ : ℕ) → Near 38 (1048576 * (2 * q)) (1048596 * ρ) → 1048576 * (2 * q) ≤ 1048604 * ρ
unfolding IsLe
near_margin q ρ h =
    let i = near_within {p = 1048576 * (2 * q)} {q = 1048596 * ρ} 38 1048596 1048604 (le_by_compare (1048596 * 16777216 ^ 38) (1048604 * 16777215 ^ 38) tt) h in
    omega arith

-- v is 2 ^ 128, the bound 1048604 of it
module _ (w v m q h f ρ a b c x y z Y : ℕ) (W : 0 < w) (H : 0 < h) (F : 0 < f) where
  pub ratio_below : w ≡ 2097152 * v → 1048576 * (4 * Y) ≤ 1048596 * spread a b c → Near 5 (m * (w * w * w)) Y → Near 7 (q * h * f * w) (m * (w * w * w))
      → Near 20 (spread a b c) (spread x y z) → Near 6 (spread x y z) (2 * h * (ρ * f * w))
      → q * w ≤ 1048604 * v * ρ
  ratio_below e euler near over lengths under =
      let i : Near 12 (q * h * f * w * (1048576 * 4)) (Y * (1048576 * 4)) = near_times (1048576 * 4) (near_trans over near) in
      let j : Near 0 (Y * (1048576 * 4)) (spread a b c * 1048596) = near_le (regrouped Y (spread a b c) euler) in
      let l : Near 26 (spread a b c * 1048596) (2 * h * (ρ * f * w) * 1048596) = near_times 1048596 (near_trans lengths under) in
      let chain : Near 38 (q * h * f * w * (1048576 * 4)) (2 * h * (ρ * f * w) * 1048596) = near_trans (near_trans i j) l in
      ended (near_margin q ρ
      (near_cancel (2 * (h * f * w)) (mul-pos (omega arith) (mul-pos (mul-pos H F) W)) (near_eq {k = 38} (left q h f w) (right ρ h f w) chain)))
    where
      regrouped : (Y s : ℕ) → 1048576 * (4 * Y) ≤ 1048596 * s → Y * (1048576 * 4) ≤ s * 1048596
      regrouped Y s h = omega arith

      left : (q h f w : ℕ) → q * h * f * w * (1048576 * 4) ≡ 1048576 * (2 * q) * (2 * (h * f * w))
      left q h f w = omega arith

      right : (ρ h f w : ℕ) → 2 * h * (ρ * f * w) * 1048596 ≡ 1048596 * ρ * (2 * (h * f * w))
      right ρ h f w = omega arith

      ended : 1048576 * (2 * q) ≤ 1048604 * ρ → q * w ≤ 1048604 * v * ρ
      ended i = let j : 1048576 * (2 * q) * v ≤ 1048604 * ρ * v = mul-le-mul_right v i in by j
        where
          by : 1048576 * (2 * q) * v ≤ 1048604 * ρ * v → q * w ≤ 1048604 * v * ρ
          by j = subst (λ (w : ℕ). q * w ≤ 1048604 * v * ρ) (sym e) (omega arith)
