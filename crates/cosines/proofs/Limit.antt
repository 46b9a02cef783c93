-- The limit is one (`limit_is`, `no_limit`), and less of it serves for edges that are more unlike (`wide_limit`).
-- Assumes nothing.
use mathlib.Core.Path.{◌≡◌, refl, ap, ◌∙◌}
use mathlib.Core.Logic.{◌⊎◌, inl, inr}
use Prim.Native.Nat.{ℕ, ◌+◌, ◌-◌, ◌*◌, ◌^◌, ◌≤◌, ◌<◌}
use native.Mathlib.Nat.{le_refl, mul-le-mul_right}
use native.Mathlib.Omega.{arith}
use native.Mathlib.Bridge.{IsLe, le_by_compare}
use mathlib.Core.Bool.{Bool, true, false}
use lib.Dec.{T}
use lib.Pow.{pow_pos}
use lib.Ieee.{Float, nan, inf, fin, binary32, add, sub, neg, sum, round, lt, le, fits, is_nan, of_bits}
use lib.Ieee.Exact.{HasValue}
use lib.Ieee.Order.{le_of_values}
use lib.Ieee.Scale.{finite}
use Rattle.numbers.specs.Rounded.{f32, ◌⊖◌, ◌⊗◌}
use Rattle.numbers.proofs.OrderLaws as order
use Rattle.numbers.proofs.SumOrder.{sub_monotone, sub_nonpositive}
use Rattle.rounding_errors.proofs.Near.{Near, near_eq, near_cancel}
use Rattle.rounding_errors.proofs.Rounding.{Units, Summed}
use Rattle.rounding_errors.proofs.Operations.{between_units, mul_units}
use Rattle.rounding_errors.proofs.Signed.{value_finite, Is, sub_whole, sub_units, units_order}
use Rattle.cosines.specs.Inner.Cosine.{Margin, NarrowLimit}
use Rattle.cosines.proofs.Points.{finite_between}

-- ---- the limit

one_units : Units (f32 0x3f800000) (2 ^ 149) 149 149
unfolding of_bits
one_units = record { value = (refl, refl); low = le_refl (2 ^ 149); high = le_refl (2 ^ 149) }

-- 5 / 2 ^ 19
margin_units : Units (f32 0x37200000) (5 * 2 ^ 130) 132 133
unfolding of_bits IsLe
margin_units = record { value = (refl, refl); low = le_by_compare (2 ^ 132) (5 * 2 ^ 130) tt; high = le_by_compare (5 * 2 ^ 130) (2 ^ 133) tt }

-- 31 / 32
factor_units : Units (f32 0x3f780000) (31 * 2 ^ 144) 148 149
unfolding of_bits IsLe
factor_units = record { value = (refl, refl); low = le_by_compare (2 ^ 148) (31 * 2 ^ 144) tt; high = le_by_compare (31 * 2 ^ 144) (2 ^ 149) tt }

-- what is left of 1, and of that without the margin
left : (w k v : ℕ) → k + v ≤ w → (d : ℕ) × (w ≡ k + d) × (v ≤ d)
left w k v h = (w - k, omega arith, omega arith)

room : (g v e : ℕ) → 16 * g ≤ e → v ≡ 8 * g → 5 * g + v ≤ e
room g v e h k = omega arith

first_step : (d e : ℕ) → Near 1 e d → e * 10000 ≤ d * 10001
first_step d e h = let i = h.near in omega arith

scaled : (w v l e : ℕ) → 0 < v → w ≡ 32 * v → Near 1 (l * w) (e * (31 * v)) → Near 1 (32 * l) (31 * e)
scaled w v l e W i h = near_cancel v W (near_eq (ap (λ (z : ℕ). l * z) i ∙ moved l v 32) (moved e v 31) h)
  where
    moved : (e v c : ℕ) → e * (c * v) ≡ c * e * v
    moved e v c = omega arith

-- d is 1 - κ, e its rounding, c that less the margin, b its rounding, and l the limit
limit_short : (w g k d e c b l : ℕ) → w ≡ k + d → e ≡ 5 * g + c → 16 * g ≤ d → e * 10000 ≤ d * 10001 → b * 10000 ≤ c * 10001 → 32 * l * 10000 ≤ 31 * b * 10001
    → 32 * (k + 5 * g) + 33 * l ≤ 32 * w
limit_short w g k d e c b l i j h m n o =
    let a : 33 * l * 10000 ≤ 319800 * b = omega arith in
    let p : 319800 * b ≤ 319850 * c = omega arith in
    let q : 319850 * c ≤ 320000 * (d - 5 * g) = omega arith in
    omega arith

pub limit_is : (κ : Float) → T (fits binary32 κ) → T (le (f32 0x3f000000) κ) → T (le κ (f32 0x3f7ffe00))
    → NarrowLimit κ ((f32 0x3f800000 ⊖ κ ⊖ f32 0x37200000) ⊗ f32 0x3f780000)
unfolding of_bits IsLe
limit_is κ f lo hi =
    let w : ℕ = 2 ^ 149 in
    let u = between_units κ (f32 0x3f000000) (f32 0x3f800000) 148 149 f (refl, refl) (refl, refl) lo
    (order.le_trans κ (f32 0x3f7ffe00) (f32 0x3f800000) hi (unfold le in tt)) in
    let k = u.0 in
    let top : k ≤ 32767 * 2 ^ 134 = units_order κ (f32 0x3f7ffe00) k (32767 * 2 ^ 134) u.1.value (refl, refl) hi in
    let d = left w k (2 ^ 134) (above_rest k top) in
    let e = sub_units 134 d.0 one_units u.1 d.1 d.2 tt in
    let c = left e.n (5 * 2 ^ 130) (2 ^ 133) (room (2 ^ 130) (2 ^ 133) e.n e.is.low refl) in
    let b = sub_units 133 c.0 e.is margin_units c.1 c.2 tt in
    let l = mul_units 132 149 b.is factor_units tt in
    record {
      margin = λ h. record {
        k = k;
        l = l.n;
        bound = u.1.value;
        limit = l.is.value;
        half = u.1.low;
        short =
            limit_short w (2 ^ 130) k d.0 e.n c.0 b.n l.n d.1 c.1 d.2 (first_step d.0 e.n e.below)
            (first_step c.0 b.n b.below)
            (first_step (31 * b.n) (32 * l.n) (scaled w (2 ^ 144) l.n b.n (pow_pos 144) refl l.below));
      };
    }
  where
    above_rest : (k : ℕ) → k ≤ 32767 * 2 ^ 134 → k + 2 ^ 134 ≤ 2 ^ 149
    above_rest k h = under k (2 ^ 134) (2 ^ 149) h refl
      where
        under : (k v w : ℕ) → k ≤ 32767 * v → w ≡ 32768 * v → k + v ≤ w
        under k v w h e = omega arith

pub no_limit : (κ : Float) → NarrowLimit κ (f32 0)
no_limit κ = record { margin = λ h. absurd (unfold le of_bits in h) }

-- ---- what a limit is

pub limit_most : {κ t : Float} {r : ℕ} (m : Margin r κ t) → m.l ≤ 2 ^ 149
limit_most {κ} {t} {r} m = below (32 * (m.k + (r + 1) * 2 ^ 130)) m.l (2 ^ 149) m.short
  where
    below : (c l w : ℕ) → c + 33 * l ≤ 32 * w → l ≤ w
    below c l w h = omega arith

pub limit_units : {κ t : Float} {r : ℕ} (m : Margin r κ t) → T (le (f32 0x35800000) t) → Units t m.l 129 149
unfolding of_bits
limit_units {κ} {t} m h = record { value = m.limit; low = units_order (f32 0x35800000) t (2 ^ 129) m.l (refl, refl) m.limit h; high = limit_most m }

-- ---- edges that are more unlike

-- m / 2 ^ 19, which is taken off the limit
pub record Less (m : ℕ) (less : Float) : Type 0 where
  value : HasValue less false (m * 2 ^ 130) (2 ^ 149)
  some : 2 ≤ m
  less_finite : T (finite less)
  rest_finite : T (finite (f32 0x3f800000 ⊖ less))
  none_left : T (le (f32 0x35800000) (f32 0x35800000 ⊖ less)) → ⊥
  none_below : T (le (f32 0x35800000) (inf true ⊖ less)) → ⊥

pub less_12 : Less 12 (f32 0x37c00000)
unfolding sub add neg sum round le of_bits
less_12 = record { value = (refl, refl); some = omega arith; less_finite = tt; rest_finite = tt; none_left = λ h. h; none_below = λ h. h }

pub less_60 : Less 60 (f32 0x38f00000)
unfolding sub add neg sum round le of_bits
less_60 = record { value = (refl, refl); some = omega arith; less_finite = tt; rest_finite = tt; none_left = λ h. h; none_below = λ h. h }

pub less_252 : Less 252 (f32 0x39fc0000)
unfolding sub add neg sum round le of_bits
less_252 = record { value = (refl, refl); some = omega arith; less_finite = tt; rest_finite = tt; none_left = λ h. h; none_below = λ h. h }

module _ {m : ℕ} {less : Float} (L : Less m less) where
  -- above 2 ^ -20 with that taken off, so above it without
  not_less : (t : Float) → T (le (f32 0x35800000) (t ⊖ less)) → T (le (f32 0x35800000) t)
  unfolding is_nan
  not_less nan h = absurd (unfold sub add le of_bits in h)
  not_less (inf true) h = absurd (L.none_below h)
  not_less (inf false) h = unfold le of_bits in tt
  not_less (fin s n e) h = go (order.le_or_lt (f32 0x35800000) (fin s n e) (unfold of_bits in tt) tt)
    where
      go : T (le (f32 0x35800000) (fin s n e)) ⊎ T (lt (fin s n e) (f32 0x35800000)) → T (le (f32 0x35800000) (fin s n e))
      go (inl k) = k
      go (inr k) =
          let i = sub_monotone (fin s n e) (f32 0x35800000) less tt (unfold of_bits in tt) L.less_finite (order.lt_le (fin s n e) (f32 0x35800000) k) in
          absurd (L.none_left (order.le_trans (f32 0x35800000) (fin s n e ⊖ less) (f32 0x35800000 ⊖ less) h i))

  -- g is 2 ^ 130; a is l without x, and n its rounding
  wide_short : (w g k l a n x : ℕ) → w ≡ 524288 * g → l ≡ x + a → 2 * g ≤ x → 32 * (k + 5 * g) + 33 * l ≤ 32 * w → Near 1 n a → 32 * (k + (5 * g + x))
      + 33 * n ≤ 32 * w
  wide_short w g k l a n x e h z i c =
      let j : n * 16777215 ≤ a * 16777216 = c.near in
      let p : a ≤ 524288 * g = omega arith in
      let r : 31 * n ≤ 31 * a + g = omega arith in
      omega arith

  pub wide_limit : (κ t : Float) → NarrowLimit κ t → T (le (f32 0x35800000) (t ⊖ less)) → Margin (m + 4) κ (t ⊖ less)
  wide_limit κ t N h =
      let w : ℕ = 2 ^ 149 in
      let M = N.margin (not_less t h) in
      let f = value_finite t false M.l w M.limit in
      let i = sub_monotone t (f32 0x3f800000) less f (unfold of_bits in tt) L.less_finite
      (le_of_values t (f32 0x3f800000) M.l w w w (pow_pos 149) (pow_pos 149) M.limit one_units.value (mul-le-mul_right w (limit_most M))) in
      let g = finite_between (t ⊖ less) (f32 0x3f800000 ⊖ less) (order.le_trans (f32 0) (f32 0x35800000) (t ⊖ less) (unfold le of_bits in tt) h) i
      L.rest_finite in
      let D = sub_whole t less false false M.l (m * 2 ^ 130) M.limit L.value g in
      go f M D.s D.a D.is D.rounded
    where
      go : T (finite t) → (M : Margin 4 κ t) (s : Bool) (a : ℕ) → Is s a (M.l + 0) (0 + m * 2 ^ 130) → Summed (t ⊖ less) s a → Margin (m + 4) κ (t ⊖ less)
      go f M true a e r =
          let k = le_of_values t less M.l (2 ^ 149) (m * 2 ^ 130) (2 ^ 149) (pow_pos 149) (pow_pos 149) M.limit L.value
          (mul-le-mul_right (2 ^ 149) (below M.l a (m * 2 ^ 130) e)) in
          absurd (unfold le of_bits in (order.le_trans (f32 0x35800000) (t ⊖ less) (f32 0) h (sub_nonpositive t less f L.less_finite k)))
        where
          below : (l a c : ℕ) → 0 + c ≡ l + 0 + a → l ≤ c
          below l a c e = omega arith
      go f M false a e r = record {
        k = M.k;
        l = r.n;
        bound = M.bound;
        limit = r.value;
        half = M.half;
        short = grown (2 ^ 130)
            (wide_short (2 ^ 149) (2 ^ 130) M.k M.l a r.n (m * 2 ^ 130) refl (plain M.l (m * 2 ^ 130) a e) (mul-le-mul_right (2 ^ 130) L.some)
            M.short r.below);
      }
        where
          plain : (l c a : ℕ) → l + 0 ≡ 0 + c + a → l ≡ c + a
          plain l c a e = omega arith

          grown : (g : ℕ) → 32 * (M.k + (5 * g + m * g)) + 33 * r.n ≤ 32 * 2 ^ 149 → 32 * (M.k + (m + 4 + 1) * g) + 33 * r.n ≤ 32 * 2 ^ 149
          grown g = moved g M.k r.n (2 ^ 149)
            where
              moved : (g k n w : ℕ) → 32 * (k + (5 * g + m * g)) + 33 * n ≤ 32 * w → 32 * (k + (m + 4 + 1) * g) + 33 * n ≤ 32 * w
              moved g k n w h = omega arith
