-- The limit is one (`limit_is`, `no_limit`), and a triangle that passes the test is thin in each order of its lengths,
-- with every cross product that is no longer, and with longer edges (`thin_up_to`). Assumes nothing.
use mathlib.Core.Logic.{inl, inr}
use mathlib.Core.Path.{◌≡◌, refl, sym, ap, subst}
use Prim.Native.Nat.{ℕ, zero, suc, ◌+◌, ◌*◌, ◌^◌, ◌≤◌, ◌<◌}
use native.Mathlib.Nat.{le_of_eq, mul-pos, mul-le-mul, mul-le-mul_right, le_of_mul-le-mul_right}
use native.Mathlib.Nat as nat
use native.Mathlib.Decide.{dec_le}
use native.Mathlib.Omega.{arith}
use native.Mathlib.Bridge.{IsLe, le_by_compare}
use mathlib.Core.Bool.{Bool, true, false, not, ◌&&◌}
use lib.Dec.{T, leb, leb→le}
use lib.Pow.{pow-add, pow_pos, pow_mono}
use lib.Ieee.{Float, nan, inf, fin, binary32, up, down, round, neg, mul, lt, le, fits, is_nan, of_bits}
use lib.Ieee.Fits.{and_i, and_l, and_r}
use lib.Ieee.Order.{le_of_values, round_mono}
use lib.Ieee.Positive.{num, den, value→cross, mul_at}
use Rattle.numbers.specs.Rounded.{f32, ◌⊗◌}
use Rattle.numbers.specs.Root.{root}
use Rattle.numbers.proofs.OrderLaws.{le_left, le_right, le_refl, lt_le, le_or_lt, le_not_lt, not_lt_le, le_trans, unsigned_le}
use Rattle.quality.specs.Measures.{half, one, tiny}
use Rattle.area_bounds.specs.Inner.AreaBound.{AreaLimit}
use Rattle.area_bounds.proofs.AreaBound as area
use Rattle.thin.specs.Inner.Thin.{square_between, is_plain_triangle, spread, Quartered, ThinLimit, Thin, AllThin, LongerThan, ThinUpTo}
use Rattle.rounding_errors.proofs.Near.{Near, near_eq, near_trans, near_mul, near_add, near_self, near_more, near_times, near_cancel, near_within}
use Rattle.rounding_errors.proofs.Rounding.{Units, units_positive, Rounded, round_units}
use Rattle.rounding_errors.proofs.Operations.{between_units, units_le, minimum_units, mul_units, add_units}
use Rattle.thin.proofs.Squares.{test_near}
use Rattle.thin.proofs.Aspect.{two_units, four_units, bound_units, times_below, Passed, passed_less, passed_longer, passed_turned, passed_swapped, Edge}
use Rattle.thin.proofs.Aspect.{Cross, not_negative, aspect_below, flat_below, none_below}

-- ---- the limit

-- 1/4 - 2 ^ -18
factor_units : Units (f32 0x3e7fff00) (65535 * 2 ^ 131) 146 147
unfolding of_bits IsLe
factor_units = record { value = (refl, refl); low = le_by_compare (2 ^ 146) (65535 * 2 ^ 131) tt; high = le_by_compare (65535 * 2 ^ 131) (2 ^ 147) tt }

quarter : (w v p q t : ℕ) → 0 < w → v * 262144 ≡ 65535 * w → Near 1 (q * w) (p * p) → Near 1 (t * w) (q * v) → 524288 * t * w ≤ 131071 * (p * p)
unfolding IsLe
quarter w v p q t W e a b =
    let c : Near 2 (t * w * w) (p * p * v) = near_trans (near_times w b) (near_eq (moved q w v) refl (near_times v a)) in
    let d : Near 2 (t * w * 262144) (65535 * (p * p)) = near_cancel w W (near_eq (left t w) (right (p * p) v w e) (near_times 262144 c)) in
    let i = near_within {p = t * w * 262144} {q = 65535 * (p * p)} 2 131070 131071 (le_by_compare (131070 * 16777216 ^ 2) (131071 * 16777215 ^ 2) tt) d in
    omega arith
  where
    moved : (q w v : ℕ) → q * w * v ≡ q * v * w
    moved q w v = omega arith

    left : (t w : ℕ) → t * w * w * 262144 ≡ t * w * 262144 * w
    left t w = omega arith

    right : (s v w : ℕ) → v * 262144 ≡ 65535 * w → s * v * 262144 ≡ 65535 * s * w
    right s v w e = let i = ap (λ (z : ℕ). s * z) e in omega arith

limit_of : {α t : Float} {p q i j k l : ℕ} → Units α p i j → Units t q k l → 524288 * q * 2 ^ 149 ≤ 131071 * (p * p)
    → 2 ^ 19 * num t * (den α * den α) ≤ 131071 * (num α * num α) * den t
limit_of {α} {t} {p} {q} u v s =
    let w : ℕ = 2 ^ 149 in
    crossed w (num α) (den α) (num t) (den t) (pow_pos 149) (value→cross α p w u.value) (value→cross t q w v.value) s
  where
    crossed : (w a d b e : ℕ) → 0 < w → a * w ≡ p * d → b * w ≡ q * e → 524288 * q * w ≤ 131071 * (p * p) → 524288 * b * (d * d) ≤ 131071 * (a * a) * e
    crossed w a d b e W g h s =
        let i : 524288 * q * w * (d * d * e) ≤ 131071 * (p * p) * (d * d * e) = mul-le-mul_right (d * d * e) s in
        let j = ap (λ (z : ℕ). z * (d * d * w)) h in
        let k = ap (λ (z : ℕ). z * (a * w) * e) g in
        let l = ap (λ (z : ℕ). p * d * z * e) g in
        let m : 524288 * b * (d * d) * (w * w) ≤ 131071 * (a * a) * e * (w * w) = omega arith in
        le_of_mul-le-mul_right m (mul-pos W W)

pub limit_is : (α : Float) → T (fits binary32 α) → T (square_between α (f32 0x3b000000) (f32 0x40800000)) → ThinLimit α (α ⊗ α ⊗ f32 0x3e7fff00)
unfolding square_between
limit_is α f h =
    let w : ℕ = 2 ^ 149 in
    let lo = and_l (le (f32 0x3b000000) α) (le α (f32 0x40800000)) h in
    let hi = and_r (le (f32 0x3b000000) α) (le α (f32 0x40800000)) h in
    let u = bound_units α f lo hi in
    let q = mul_units 131 153 u.1 u.1 tt in
    let t = mul_units 128 151 q.is factor_units tt in
    record {
      quartered =
          λ _.
          record {
            held = f;
            low = lo;
            high = hi;
            bounded = le_of_values (α ⊗ α ⊗ f32 0x3e7fff00) (f32 0x40800000) t.n w (2 ^ 151) w (pow_pos 149) (pow_pos 149) t.is.value four_units.value
                (mul-le-mul_right w t.is.high);
            short = limit_of u.1 t.is (quarter w (65535 * 2 ^ 131) u.0 q.n t.n (pow_pos 149) refl q.below t.below);
          };
    }

pub no_limit : (α : Float) → ThinLimit α (neg one)
no_limit α = record { quartered = λ h. absurd (none h) }
  where
    none : T (le (f32 0x35800000) (neg one)) → ⊥
    none h = unfold le neg of_bits in h

-- ---- the test

-- what is at most x, or not a number, is not above x
pub not_below : (x y : Float) → (T (not (is_nan y)) → T (le y x)) → T (not (lt x y))
not_below x y h = go (lt x y) refl
  where
    go : (b : Bool) → lt x y ≡ b → T (not b)
    go true e = let k : T (lt x y) = rw e tt in absurd (le_not_lt y x (h (le_right x y (lt_le x y k))) k)
    go false e = tt

edge : (x : Float) → T (fits binary32 x) → T (square_between x (f32 0x2b800000) (f32 0x4c800000)) → Edge x
unfolding square_between of_bits
edge x f h =
    let u = between_units x (f32 0x2b800000) (f32 0x4c800000) 109 175 f (refl, refl) (refl, refl) (and_l (le (f32 0x2b800000) x) _ h)
    (and_r (le (f32 0x2b800000) x) _ h) in
    record { n = u.0; held = f; is = u.1 }

cross : (x : Float) → T (fits binary32 x) → T (le (f32 0x1e800000) x) → T (le x (f32 0x5d800000)) → Cross x
unfolding of_bits
cross x f l h =
    let u = between_units x (f32 0x1e800000) (f32 0x5d800000) 83 209 f (refl, refl) (refl, refl) l h in
    record { n = u.0; held = f; is = u.1 }

limit_units : (α t : Float) → T (fits binary32 t) → T (le (f32 0x35800000) t) → Quartered α t → (n : ℕ) × Units t n 129 151
limit_units α t f l k = between_units t (f32 0x35800000) (f32 0x40800000) 129 151 f (unfold of_bits in (refl, refl)) four_units.value l k.bounded

-- a product that is not below 2 ^ 29 units is a normal number, wherever the ranges of its factors begin
product_above : {x y z : Float} {m n o i j k l g : ℕ} (f : ℕ) → Units x m i j → Units y n k l → Units z o 29 g → T (le z (x ⊗ y))
    → T (leb f 276 && leb (j + l) (f + 149)) → Rounded (x ⊗ y) (2 ^ 149) (m * n) 28 f
product_above {x} {y} {z} {m} {n} {o} {i} {j} {k} {l} f u v d h r =
    let w : ℕ = 2 ^ 149 in
    let is : x ⊗ y ≡ round binary32 false (m * n) (w * w) = mul_at binary32 x y m w n w (units_positive u) (units_positive v) (pow_pos 149) (pow_pos 149)
    u.value v.value in
    subst (λ (p : Float). Rounded p w (m * n) 28 f) (sym is) (go (dec_le (2 ^ 28 * w) (m * n)) (subst (λ (p : Float). T (le z p)) is h))
  where
    high : m * n ≤ 2 ^ f * 2 ^ 149
    high =
        nat.le_trans (mul-le-mul u.high v.high)
        (nat.le_trans (le_of_eq (sym (pow-add 2 j l)))
        (nat.le_trans (pow_mono (leb→le (j + l) (f + 149) (and_r (leb f 276) _ r))) (le_of_eq (pow-add 2 f 149))))

    -- up to 2 ^ 28 units it would be rounded to no more than that
    small : m * n ≤ 2 ^ 28 * 2 ^ 149 → T (le z (round binary32 false (m * n) (2 ^ 149 * 2 ^ 149))) → ⊥
    small s h =
        let w : ℕ = 2 ^ 149 in
        let W : 0 < w * w = mul-pos (pow_pos 149) (pow_pos 149) in
        let b = round_units (2 ^ 28 * w) w 28 28 (pow_pos 149) (omega arith) (omega arith) (omega arith) (nat.le_refl (2 ^ 28 * w))
        (nat.le_refl (2 ^ 28 * w)) in
        let q = round_mono binary32 (m * n) (w * w) (2 ^ 28 * w) (w * w) W W (mul-le-mul_right (w * w) s) in
        let i = units_le d b.is (le_trans z (round binary32 false (m * n) (w * w)) (round binary32 false (2 ^ 28 * w) (w * w)) h q) in
        omega (arith, d.low, b.is.high, i)

    not_above : (a b : ℕ) → ((a ≤ b) → ⊥) → b ≤ a
    not_above a b h = omega arith

    go : Dec (2 ^ 28 * 2 ^ 149 ≤ m * n) → T (le z (round binary32 false (m * n) (2 ^ 149 * 2 ^ 149)))
        → Rounded (round binary32 false (m * n) (2 ^ 149 * 2 ^ 149)) (2 ^ 149) (m * n) 28 f
    go (yes s) h = round_units (m * n) (2 ^ 149) 28 f (pow_pos 149) (omega arith) (omega arith) (leb→le f 276 (and_l (leb f 276) _ r)) s high
    go (no s) h = absurd (small (not_above (2 ^ 28 * 2 ^ 149) (m * n) s) h)

module _ (a b c x t : Float) (ea : Edge a) (eb : Edge b) (ec : Edge c) {X : ℕ} (ux : Units x X 89 209) where
  test_passed : {q : ℕ} → Units t q 129 151 → T (le (x ⊗ x) (t ⊗ spread a b c ⊗ (a ⊗ b ⊗ c))) → Passed ea.n eb.n ec.n X q
  unfolding spread
  test_passed {q} ut h =
      let w : ℕ = 2 ^ 149 in
      let W : 0 < w = pow_pos 149 in
      let l = minimum_units ea.is eb.is in
      let m = minimum_units eb.is ec.is in
      let n = minimum_units ec.is ea.is in
      let s1 = add_units 109 176 ea.is eb.is tt tt in
      let s2 = add_units 109 177 s1.is ec.is tt tt in
      let d1 = add_units 109 176 l.is m.is tt tt in
      let d2 = add_units 109 177 d1.is n.is tt tt in
      let d = mul_units 110 178 two_units d2.is tt in
      let s = add_units 109 179 s2.is d.is tt tt in
      let k = mul_units 89 181 ut s.is tt in
      let p1 = mul_units 69 201 ea.is eb.is tt in
      let p = mul_units 29 227 p1.is ec.is tt in
      let e = mul_units 29 269 ux ux tt in
      let N = product_above 259 k.is p.is e.is h tt in
      let sums : Near 2 s2.n (ea.n + eb.n + ec.n) = near_trans s2.below (near_add s1.below (near_self 1 ec.n)) in
      let twos : Near 3 d.n (2 * (l.k + m.k + n.k)) =
      near_trans (times_below w (2 ^ 150) 2 d.n d2.n W refl d.below)
      (near_mul (near_self 0 2) (near_trans d2.below (near_add d1.below (near_self 1 n.k)))) in
      record {
        l = l.k;
        m = m.k;
        n = n.k;
        l_first = l.first;
        l_second = l.second;
        m_first = m.first;
        m_second = m.second;
        n_first = n.first;
        n_second = n.second;
        near =
            test_near w X e.n N.n k.n p.n p1.n q s.n (ea.n + eb.n + ec.n + 2 * (l.k + m.k + n.k)) ea.n eb.n ec.n e.above
            (units_le e.is N.is h) N.below k.below p.below p1.below
            (near_trans s.below (near_add (near_more 1 sums) twos));
      }

-- what the test says of every bound that the limit is for
abbrev Passes : {a b c : Float} (t : Float) → Edge a → Edge b → Edge c → ℕ → Type 0
Passes t ea eb ec X = (q : ℕ) → Units t q 129 151 → Passed ea.n eb.n ec.n X q

-- ---- cross products whose square is not above the tested one

-- such a square has no root, or is that of next to no area, or is in the range that is analysed and at most X units
data Kind (y : Float) (X : ℕ) : Type 0 where
  rootless : root y ≡ nan → Kind y X
  flat : T (lt (root y ⊗ half) tiny) → Kind y X
  measured : (e : Cross y) → e.n ≤ X → Kind y X

root_below : (y : Float) → T (lt y (f32 0)) → root y ≡ nan
unfolding root
root_below nan h = refl
root_below (inf true) h = refl
root_below (inf false) h = absurd (unfold lt of_bits in h)
root_below (fin true zero e) h = let k = leb→le 1 (0 * up e * 1 + 0 * down e) (unfold lt of_bits in h) in absurd (omega arith)
root_below (fin false zero e) h = absurd (le_not_lt (f32 0) (fin false 0 e) (unsigned_le (fin false 0 e) tt) h)
root_below (fin true (suc m) e) h = refl
root_below (fin false (suc m) e) h = absurd (le_not_lt (f32 0) (fin false (suc m) e) (unsigned_le (fin false (suc m) e) tt) h)

-- the root of 2 ^ -66 is 2 ^ -33
pub flat_limit : AreaLimit tiny (f32 0x1e800000)
flat_limit = area.limit_is tiny (f32 0x1e800000) (unfold fits of_bits in tt) (unfold root mul lt of_bits in tt)

kind : (x y : Float) {X : ℕ} → Units x X 89 209 → T (le x (f32 0x5d800000)) → T (fits binary32 y) → T (not (lt x y)) → Kind y X
unfolding is_nan
kind x y {X} u h f g = go (is_nan y) refl
  where
    none : (y : Float) → is_nan y ≡ true → root y ≡ nan
    none nan e = unfold root in refl
    none (inf s) e = absurd (subst T (sym e) tt)
    none (fin s m d) e = absurd (subst T (sym e) tt)

    own : T (not (is_nan x))
    own = le_left x (f32 0x5d800000) h

    number : T (not (is_nan y)) → Kind y X
    number n =
        elim (le_or_lt (f32 0) y (unfold of_bits in tt) n) [
          | inl z ↦
              elim (le_or_lt (f32 0x1e800000) y (unfold of_bits in tt) n) [
                | inl l ↦ let k = not_lt_le x y own n g in let e = cross y f l (le_trans y x (f32 0x5d800000) k h) in measured e (units_le e.is u k)
                | inr l ↦ flat (flat_limit.below y f z (lt_le y (f32 0x1e800000) l))
              ]
          | inr z ↦ rootless (root_below y z)
        ]

    go : (b : Bool) → is_nan y ≡ b → Kind y X
    go true e = rootless (none y e)
    go false e = number (rw e tt)

thin_of : (a b c y t : Float) (ea : Edge a) (eb : Edge b) (ec : Edge c) {X : ℕ} → T (fits binary32 t) → T (le (f32 0x35800000) t) → Passes t ea eb ec X
    → Kind y X → Thin t a b c y
thin_of a b c y t ea eb ec f l h (rootless e) = record { below = λ α z. none_below (root a) (root b) (root c) y α (not_negative (z.quartered l)) e }
thin_of a b c y t ea eb ec f l h (flat e) = record { below = λ α z. flat_below (root a) (root b) (root c) y α (not_negative (z.quartered l)) e }
thin_of a b c y t ea eb ec f l h (measured ey g) = record {
  below =
      λ α z.
      let k = z.quartered l in
      let u = limit_units α t f l k in
      aspect_below a b c y t α ea eb ec ey u.1 (passed_less g (h u.0 u.1)) k;
}

-- a longer edge is in the range too
longer_edge : (a u : Float) → T (le (f32 0x2b800000) a) → LongerThan a u → Edge u
unfolding square_between
longer_edge a u l g = edge u g.held (and_i (le (f32 0x2b800000) u) (le u (f32 0x4c800000)) (le_trans (f32 0x2b800000) a u l g.above) g.high)

longer_units : {a u : Float} (e : Edge a) (d : Edge u) → LongerThan a u → e.n ≤ d.n
longer_units e d g = units_le e.is d.is g.above

module _ (a b c x t : Float) (fa : T (fits binary32 a)) (fb : T (fits binary32 b)) (fc : T (fits binary32 c)) (fx : T (fits binary32 x))
    (f : T (fits binary32 t)) (l : T (le (f32 0x35800000) t)) (p : T (is_plain_triangle a b c x))
    (h : T (le (x ⊗ x) (t ⊗ spread a b c ⊗ (a ⊗ b ⊗ c)))) where
  in_range_lem : T (square_between a (f32 0x2b800000) (f32 0x4c800000)) × T (square_between b (f32 0x2b800000) (f32 0x4c800000))
      × T (square_between c (f32 0x2b800000) (f32 0x4c800000)) × T (square_between x (f32 0x21800000) (f32 0x5d800000))
  unfolding is_plain_triangle
  in_range_lem =
      let p1 = and_r (square_between a (f32 0x2b800000) (f32 0x4c800000)) _ p in
      let p2 = and_r (square_between b (f32 0x2b800000) (f32 0x4c800000)) _ p1 in (
        and_l (square_between a (f32 0x2b800000) (f32 0x4c800000)) _ p,
        and_l (square_between b (f32 0x2b800000) (f32 0x4c800000)) _ p1,
        and_l
            (square_between c (f32 0x2b800000) (f32 0x4c800000)) _ p2,
        and_r (square_between c (f32 0x2b800000) (f32 0x4c800000)) _ p2,
      )

  all_thin : (u v w y : Float) → LongerThan a u → LongerThan b v → LongerThan c w → T (fits binary32 y) → T (not (lt x y)) → AllThin t u v w y
  unfolding square_between of_bits
  all_thin u v w y gu gv gw fy g =
      let ea = edge a fa in_range_lem.0 in
      let eb = edge b fb in_range_lem.1 in
      let ec = edge c fc in_range_lem.2 in
      let eu = longer_edge a u (and_l (le (f32 0x2b800000) a) _ in_range_lem.0) gu in
      let ev = longer_edge b v (and_l (le (f32 0x2b800000) b) _ in_range_lem.1) gv in
      let ew = longer_edge c w (and_l (le (f32 0x2b800000) c) _ in_range_lem.2) gw in
      let hi = and_r (le (f32 0x21800000) x) (le x (f32 0x5d800000)) in_range_lem.3 in
      let ux = between_units x (f32 0x21800000) (f32 0x5d800000) 89 209 fx (refl, refl) (refl, refl)
      (and_l (le (f32 0x21800000) x) (le x (f32 0x5d800000)) in_range_lem.3) hi in
      let uvw : Passes t eu ev ew ux.0 = λ q z. passed_longer (longer_units ea eu gu) (longer_units eb ev gv) (longer_units ec ew gw)
      (test_passed a b c x t ea eb ec ux.1 z h) in
      let k = kind x y ux.1 hi fy g in
      record {
        abc = thin_of u v w y t eu ev ew f l uvw k;
        acb = thin_of u w v y t eu ew ev f l (λ q z. passed_swapped (passed_turned (passed_turned (uvw q z)))) k;
        bac = thin_of v u w y t ev eu ew f l (λ q z. passed_swapped (uvw q z)) k;
        bca = thin_of v w u y t ev ew eu f l (λ q z. passed_turned (uvw q z)) k;
        cab = thin_of w u v y t ew eu ev f l (λ q z. passed_turned (passed_turned (uvw q z))) k;
        cba = thin_of w v u y t ew ev eu f l (λ q z. passed_swapped (passed_turned (uvw q z))) k;
      }

  -- no longer than itself
  own_length : (z : Float) → T (fits binary32 z) → T (square_between z (f32 0x2b800000) (f32 0x4c800000)) → LongerThan z z
  unfolding square_between
  own_length z g r = let hi = and_r (le (f32 0x2b800000) z)
      (le z (f32 0x4c800000)) r in record { held = g; above = le_refl z (le_left z (f32 0x4c800000) hi); high = hi }

  pub thin_up_to : ThinUpTo t a b c x
  thin_up_to =
      let k : (y : Float) → T (fits binary32 y) → T (not (lt x y))
      → AllThin t a b c y = λ y. all_thin a b c y (own_length a fa in_range_lem.0) (own_length b fb in_range_lem.1) (own_length c fc in_range_lem.2) in
      record { own = k x fx (not_below x x (le_refl x)); less = k; longer = all_thin }
