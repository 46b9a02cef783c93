-- The errors of the arc cosine's correction (z - d²) / (s + d), over whole numbers: z, its root s, d with s's low
-- digits cleared and the other values are numbers of units, w of them to 1. Assumes nothing.
use mathlib.Core.Path.{◌≡◌, refl, ap}
use Prim.Native.Nat.{ℕ, ◌+◌, ◌*◌, ◌^◌, ◌≤◌, ◌<◌}
use native.Mathlib.Nat.{mul-le-mul, mul-le-mul_right}
use native.Mathlib.Omega.{arith}
use native.Mathlib.Bridge.{IsLe, le_by_compare}
use Rattle.rounding_errors.proofs.Near.{Near, near_le, near_eq, near_trans, near_times, near_cancel, near_within}

-- v units are 2 ^ -11: y is 3 z / 2048, and e is s / 1024
module _ (w v z s d y : ℕ) (U : 0 < v) (W : w ≡ 2048 * v) (S : 0 < s) (cut : s * 2048 ≤ d * 2049) where
  positive_w : 0 < w
  positive_w = omega arith

  assoc : (z : ℕ) → z * (3 * v) ≡ z * 3 * v
  assoc z = omega arith

  scaled : (y : ℕ) → y * w ≡ y * 2048 * v
  scaled y = let i = ap (λ (x : ℕ). y * x) W in omega arith

  -- z - d² is at most y
  pub rest_under : (p : ℕ) → Near 3 (z * w) (s * s) → Near 1 (d * d) (p * w) → Near 1 (z * (3 * v)) (y * w) → z ≤ p + y
  unfolding IsLe
  rest_under p r q h =
      let squares : s * 2048 * (s * 2048) ≤ d * 2049 * (d * 2049) = mul-le-mul cut cut in
      let m : s * s * 4194304 ≤ d * d * 4198401 = omega arith in
      let t : Near 4 (z * w * 4194304) (p * w * 4198401) = near_trans (near_trans (near_times 4194304 r) (near_le m)) (near_times 4198401 q) in
      let u : Near 4 (z * 4194304) (p * 4198401) = near_cancel w positive_w (near_eq (moved z 4194304) (moved p 4198401) t) in
      let i = near_within {p = z * 4194304} {q = p * 4198401} 4 1000000 1000001 (le_by_compare (1000000 * 16777216 ^ 4) (1000001 * 16777215 ^ 4) tt) u in
      let k : Near 1 (z * 3 * v) (y * 2048 * v) = near_eq (assoc z) (scaled y) h in
      let j = near_within {p = z * 3} {q = y * 2048} 1 1000000 1000001 (le_by_compare (1000000 * 16777216 ^ 1) (1000001 * 16777215 ^ 1) tt)
      (near_cancel v U k) in
      sum i j
    where
      moved : (z k : ℕ) → z * w * k ≡ z * k * w
      moved z k = omega arith

      sum : z * 4194304 * 1000000 ≤ p * 4198401 * 1000001 → z * 3 * 1000000 ≤ y * 2048 * 1000001 → z ≤ p + y
      sum i j = omega arith

  -- d² - z is at most y
  pub rest_over : (p : ℕ) → d ≤ s → Near 3 (s * s) (z * w) → Near 1 (p * w) (d * d) → Near 1 (z * (3 * v)) (y * w) → p ≤ z + y
  unfolding IsLe
  rest_over p u r q h =
      let t : Near 4 (p * w) (z * w) = near_trans q (near_trans (near_le (mul-le-mul u u)) r) in
      let i = near_within {p = p} {q = z} 4 1000000 1000001 (le_by_compare (1000000 * 16777216 ^ 4) (1000001 * 16777215 ^ 4) tt) (near_cancel w positive_w t) in
      let k : Near 1 (z * 3 * v) (y * 2048 * v) = near_eq (assoc z) (scaled y) h in
      let j = near_within {p = z * 3} {q = y * 2048} 1 1000000 1000001 (le_by_compare (1000000 * 16777216 ^ 1) (1000001 * 16777215 ^ 1) tt)
      (near_cancel v U k) in
      sum i j
    where
      sum : p * 1000000 ≤ z * 1000001 → z * 3 * 1000000 ≤ y * 2048 * 1000001 → p ≤ z + y
      sum i j = omega arith

  -- k, s less a part of 1024, is at most d
  pub less_under : (k : ℕ) → Near 1 (k * w) (s * (2046 * v)) → k ≤ d
  unfolding IsLe
  less_under k h =
      let e : Near 1 (k * 2048 * v) (s * 2046 * v) = near_eq (scaled k) (factor s) h in
      let j = near_within {p = k * 2048} {q = s * 2046} 1 1000000 1000001 (le_by_compare (1000000 * 16777216 ^ 1) (1000001 * 16777215 ^ 1) tt)
      (near_cancel v U e) in
      last j
    where
      factor : (s : ℕ) → s * (2046 * v) ≡ s * 2046 * v
      factor s = omega arith

      last : k * 2048 * 1000000 ≤ s * 2046 * 1000001 → k ≤ d
      last j = omega arith

  -- y / (s + d) is at most e
  pub quotient_under : (a g e : ℕ) → Near 3 (z * w) (s * s) → Near 1 (y * w) (z * (3 * v)) → Near 1 (s + d) a → Near 1 (g * a) (y * w)
      → Near 1 (s * (2 * v)) (e * w) → g ≤ e
  unfolding IsLe
  quotient_under a g e r h b q f =
      let sum : Near 1 ((s + d) * g) (a * g) = near_times g b in
      let i : Near 3 ((s + d) * g) (z * (3 * v)) = near_trans (near_trans sum (near_eq (comm g a) refl q)) h in
      let j : Near 6 ((s + d) * g * w) (s * s * (3 * v)) = near_trans (near_times w i) (near_eq (first z) refl (near_times (3 * v) r)) in
      let k : Near 6 ((s + d) * g * w * 2049) (s * s * (3 * v) * 2049) = near_times 2049 j in
      let l : s * 4097 * (g * w) ≤ (s + d) * 2049 * (g * w) = mul-le-mul_right (g * w) (omega arith) in
      let m : Near 6 (g * 4097 * w * s) (s * (3 * v) * 2049 * s) = near_trans (near_eq (second g) (third g) (near_le l)) (near_eq refl fourth k) in
      let n : Near 6 (g * 4097 * w) (s * (3 * v) * 2049) = near_cancel s S m in
      let o : Near 7 (g * 4097 * w * 2) (e * w * 6147) = near_trans (near_times 2 n) (near_eq fifth refl (near_times 6147 f)) in
      let t : Near 7 (g * 8194) (e * 6147) = near_cancel w positive_w (near_eq (sixth g) (seventh e) o) in
      let c = near_within {p = g * 8194} {q = e * 6147} 7 1000000 1000001 (le_by_compare (1000000 * 16777216 ^ 7) (1000001 * 16777215 ^ 7) tt) t in
      last c
    where
      comm : (g a : ℕ) → g * a ≡ a * g
      comm g a = omega arith

      first : (z : ℕ) → z * w * (3 * v) ≡ z * (3 * v) * w
      first z = omega arith

      second : (g : ℕ) → s * 4097 * (g * w) ≡ g * 4097 * w * s
      second g = omega arith

      third : (g : ℕ) → (s + d) * 2049 * (g * w) ≡ (s + d) * g * w * 2049
      third g = omega arith

      fourth : s * s * (3 * v) * 2049 ≡ s * (3 * v) * 2049 * s
      fourth = omega arith

      fifth : s * (2 * v) * 6147 ≡ s * (3 * v) * 2049 * 2
      fifth = omega arith

      sixth : (g : ℕ) → g * 4097 * w * 2 ≡ g * 8194 * w
      sixth g = omega arith

      seventh : (e : ℕ) → e * w * 6147 ≡ e * 6147 * w
      seventh e = omega arith

      last : g * 8194 * 1000000 ≤ e * 6147 * 1000001 → g ≤ e
      last c = omega arith
