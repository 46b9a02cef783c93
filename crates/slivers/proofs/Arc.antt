-- The parts of the arc cosine of a number v from 0.5 to below 1: z = (1 - v) / 2 and its root s are normal numbers, d
-- is at most s and at least 1023 / 1024 of it, and the size of the correction c is at most s / 1024 (`parts`). Assumes
-- nothing.
use mathlib.Core.Path.{◌≡◌, refl, sym, ap, ◌∙◌, subst}
use Prim.Native.Nat.{ℕ, zero, suc, ◌+◌, ◌-◌, ◌*◌, ◌/◌, ◌%◌, ◌^◌, ◌≤◌, ◌<◌}
use native.Mathlib.Nat.{le_refl, mul-pos, mul-le-mul_right, le_of_mul-le-mul_right, le_of_lt}
use native.Mathlib.Nat as nat
use native.Mathlib.Omega.{arith}
use native.Mathlib.Bridge.{IsLe, le_by_compare}
use native.Mathlib.Decide.{dec_lt}
use mathlib.Core.Bool.{true, false}
use lib.Dec.{T, eqb-suc-zero}
use lib.Pow.{pow-add, pow_pos}
use lib.Ieee.{Float, nan, inf, fin, binary32, up, down, add, sub, neg, mul, div, lt, le, fits, is_nan, of_bits, to_bits}
use lib.Ieee.Bits.{of_bits-to_bits, is_false}
use lib.Ieee.Fits.{mul-fits, neg-fits}
use lib.Ieee.Exact.{HasValue}
use lib.Ieee.Order.{le_of_values}
use lib.Ieee.Scale.{finite}
use lib.Ieee.Positive.{positive, positive-finite, between, num, den, den_pos, value→cross}
use Rattle.numbers.specs.Rounded.{f32, ◌⊕◌, ◌⊖◌, ◌⊗◌, ◌⊘◌}
use Rattle.numbers.specs.Root.{root}
use Rattle.numbers.specs.Acos.{high_part}
use Rattle.numbers.proofs.OrderLaws.{plus, minus, side, le_not_lt, lt_le, le_trans, le_lt_trans, finite_number, unsigned_le}
use Rattle.numbers.proofs.RoundedOrder.{Rounds, neg_le, round_neg, rounds_le, rounds_own, nonnegative_minus, nonnegative_plus}
use Rattle.numbers.proofs.RootMonotone.{root_above}
use Rattle.numbers.proofs.Above.{positive_signless}
use Rattle.numbers.proofs.SumOrder.{rounds_sub, sub_antitone}
use Rattle.numbers.proofs.ProductOrder.{mul_monotone_finite}
use Rattle.numbers.proofs.QuotientOrder.{div_monotone}
use Rattle.six_orders.proofs.Positive.{above_zero}
use Rattle.patterns.specs.Pattern.{units_of}
use Rattle.patterns.proofs.Pattern.{units_zero, units_more, bits_value, number_bits, bits_units, units_mono}
use Rattle.rounding_errors.proofs.Rounding.{Units, units_pos, units_positive}
use Rattle.rounding_errors.proofs.Operations.{between_units, mul_units, div_units, add_units, root_units}
use Rattle.slivers.proofs.Chain.{rest_under, rest_over, less_under, quotient_under}

abbrev pub w : ℕ
w = 2 ^ 149

-- ---- patterns

bits_le : (b c : ℕ) → b ≤ c → c < 0x7f800000 → T (le (f32 b) (f32 c))
bits_le b c h l =
    le_of_values (f32 b) (f32 c) (units_of b) w (units_of c) w (pow_pos 149) (pow_pos 149) (bits_value b (omega arith)) (bits_value c l)
    (mul-le-mul_right w (go (dec_lt b c)))
  where
    go : Dec (b < c) → units_of b ≤ units_of c
    go (yes k) = le_of_lt (units_mono b c k)
    go (no k) = let e : b ≡ c = omega arith in rw e (le_refl (units_of c))

-- an f32 below 1 is at most the one before it
below_one : (v : Float) → T (fits binary32 v) → T (le (f32 0x3f000000) v) → T (lt v (f32 0x3f800000)) → T (le v (f32 0x3f7fffff))
below_one v f lo hi = go (dec_lt b 0x3f800000)
  where
    b : ℕ
    b = to_bits binary32 v

    u : (n : ℕ) × Units v n 148 149
    u = between_units v (f32 0x3f000000) (f32 0x3f800000) 148 149 f (unfold of_bits in (refl, refl)) (unfold of_bits in (refl, refl)) lo
        (lt_le v (f32 0x3f800000) hi)

    number : b < 0x7f800000
    number = number_bits v u.0 f u.1.value

    own : of_bits binary32 b ≡ v
    own = of_bits-to_bits binary32 v f

    go : Dec (b < 0x3f800000) → T (le v (f32 0x3f7fffff))
    go (yes l) = subst (λ (x : Float). T (le x (f32 0x3f7fffff))) own (bits_le b 0x3f7fffff (omega arith) (omega arith))
    go (no g) = absurd (le_not_lt (f32 0x3f800000) v (subst (λ (x : Float). T (le (f32 0x3f800000) x)) own (bits_le 0x3f800000 b (omega arith) number)) hi)

-- ---- a number whose low digits are cleared

-- x is n units but for the low 12 of 24 digits
record Cleared (x : Float) (n : ℕ) : Type 0 where
  d : ℕ
  is : Units x d 135 149
  under : d ≤ n
  cut : n * 2048 ≤ d * 2049

cleared_units : (s : Float) (n : ℕ) → T (fits binary32 s) → Units s n 136 149 → Cleared (high_part s) n
unfolding high_part IsLe
cleared_units s n f u =
    rw (is_false (is_nan s) (finite_number s (positive-finite s (units_positive u))))
    (record {
      d = m;
      is = record { value = value; low = least; high = nat.le_trans at_most u.high };
      under = at_most;
      cut = within;
    })
  where
    b : ℕ
    b = to_bits binary32 s

    c : ℕ
    c = b - b % 4096

    number : b < 0x7f800000
    number = number_bits s n f u.value

    units : units_of b ≡ n
    units = bits_units s n f u.value

    -- not below the normal numbers
    normal : 8388608 ≤ b
    normal = go (dec_lt b 8388608)
      where
        go : Dec (b < 8388608) → 8388608 ≤ b
        go (yes l) =
            let e : b ≡ n = sym (units_zero b l) ∙ units in
            let h : 8388608 ≤ n = nat.le_trans (le_by_compare 8388608 (2 ^ 136) tt) u.low in
            absurd (omega arith)
        go (no g) = omega arith

    k : ℕ
    k = 2 ^ (b / 8388608 - 1)

    m : ℕ
    m = (8388608 + (b % 8388608 - b % 4096)) * k

    n_is : n ≡ (8388608 + b % 8388608) * k
    n_is = sym units ∙ units_more b normal

    c_is : units_of c ≡ m
    c_is =
        let e : c / 8388608 ≡ b / 8388608 = omega arith in
        let g : c % 8388608 ≡ b % 8388608 - b % 4096 = omega arith in
        units_more c (omega (arith, normal)) ∙ rw (e, g)

    value : HasValue (f32 c) false m w
    value = subst (λ (x : ℕ). HasValue (f32 c) false x w) c_is (bits_value c (omega (arith, number)))

    at_most : m ≤ n
    at_most = rw n_is (mul-le-mul_right k (omega arith))

    within : n * 2048 ≤ m * 2049
    within = go (8388608 + b % 8388608) (8388608 + (b % 8388608 - b % 4096)) n_is (omega arith)
      where
        go : (x y : ℕ) → n ≡ x * k → x * 2048 ≤ y * 2049 → n * 2048 ≤ y * k * 2049
        go x y e h = let i = mul-le-mul_right k h in omega arith

    least : 2 ^ 135 ≤ m
    least = go (2 ^ 135) u.low within
      where
        go : (p : ℕ) → p + p ≤ n → n * 2048 ≤ m * 2049 → p ≤ m
        go p h i = omega arith

-- ---- a difference

sizes : {x : Float} {n i j : ℕ} → Units x n i j → (minus x ≡ 0) × (plus x * w ≡ n * den x)
sizes {x} {n} u =
    let q = units_positive u in
    let f = positive-finite x q in
    let l = unsigned_le x (positive_signless x q) in
    (nonnegative_minus x f l, rw (nonnegative_plus x f l) (value→cross x n w u.value))

-- z is u units, or v below zero
record Signed (z : Float) (u v : ℕ) : Type 0 where
  fitting : T (fits binary32 z)
  finite_is : T (finite z)
  plus_is : plus z * w ≡ u * den z
  minus_is : minus z * w ≡ v * den z

none : (p q : ℕ) → 0 * p ≡ 0 * q
none p q = omega arith

signed_units : {y : Float} {n i j : ℕ} → T (fits binary32 y) → Units y n i j → Signed y n 0
signed_units {y} {n} f t =
    let s = sizes t in
    record { fitting = f; finite_is = positive-finite y (units_positive t); plus_is = s.1; minus_is = rw s.0 (none w (den y)) }

negated : (y : Float) → T (positive y) → (plus (neg y) ≡ 0) × (minus (neg y) ≡ num y) × (den (neg y) ≡ den y) × T (finite (neg y))
unfolding neg
negated nan p = absurd p
negated (inf s) p = absurd p
negated (fin true m e) p = absurd p
negated (fin false m e) p = (refl, refl, refl, tt)

signed_neg : {y : Float} {n i j : ℕ} → T (fits binary32 y) → Units y n i j → Signed (neg y) 0 n
signed_neg {y} {n} f t =
    let q = negated y (units_positive t) in
    record {
      fitting = neg-fits binary32 y f;
      finite_is = q.3;
      plus_is = rw q.0 (none w (den (neg y)));
      minus_is = rw (q.1, q.2)
          (value→cross y n w t.value);
    }

scaled : (X o a d e f g : ℕ) → d * e * f ≡ g → X * o ≡ a * d → X * e * f * o ≡ a * g
scaled X o a d e f g i h =
    let q = ap (λ (r : ℕ). r * (e * f)) h in
    let r = ap (λ (r : ℕ). a * r) i in
    omega arith

-- x - p against z, each a fraction of plus and minus
module _ (a b u v X mx dx P mp dp Z mz dz o : ℕ) (ex : mx ≡ 0) (ep : mp ≡ 0) (i : X * o ≡ a * dx) (j : P * o ≡ b * dp) (k : Z * o ≡ u * dz)
    (l : mz * o ≡ v * dz) (W : 0 < o) where
  fraction_x : X * dp * dz * o ≡ a * (dx * dp * dz)
  fraction_x = scaled X o a dx dp dz (dx * dp * dz) refl i

  fraction_p : P * dx * dz * o ≡ b * (dx * dp * dz)
  fraction_p = scaled P o b dp dx dz (dx * dp * dz) (omega arith) j

  fraction_z : Z * dx * dp * o ≡ u * (dx * dp * dz)
  fraction_z = scaled Z o u dz dx dp (dx * dp * dz) (omega arith) k

  fraction_m : mz * dx * dp * o ≡ v * (dx * dp * dz)
  fraction_m = scaled mz o v dz dx dp (dx * dp * dz) (omega arith) l

  under_fraction : a + v ≤ b + u → (X * dp + mp * dx) * dz + mz * (dx * dp) ≤ Z * (dx * dp) + (P * dx + mx * dp) * dz
  under_fraction h = rw (ex, ep)
      (last (le_of_mul-le-mul_right
      (gathered (X * dp * dz) (mz * dx * dp) (Z * dx * dp) (P * dx * dz) (dx * dp * dz) fraction_x fraction_m fraction_z fraction_p) W))
    where
      gathered : (x m z p e : ℕ) → x * o ≡ a * e → m * o ≡ v * e → z * o ≡ u * e → p * o ≡ b * e → (x + m) * o ≤ (z + p) * o
      gathered x m z p e q r s t = let y = mul-le-mul_right e h in omega arith

      last : X * dp * dz + mz * dx * dp ≤ Z * dx * dp + P * dx * dz → (X * dp + 0 * dx) * dz + mz * (dx * dp) ≤ Z * (dx * dp) + (P * dx + 0 * dp) * dz
      last y = omega arith

  over_fraction : b + u ≤ a + v → Z * (dx * dp) + (P * dx + mx * dp) * dz ≤ (X * dp + mp * dx) * dz + mz * (dx * dp)
  over_fraction h = rw (ex, ep)
      (last (le_of_mul-le-mul_right
      (gathered (X * dp * dz) (mz * dx * dp) (Z * dx * dp) (P * dx * dz) (dx * dp * dz) fraction_x fraction_m fraction_z fraction_p) W))
    where
      gathered : (x m z p e : ℕ) → x * o ≡ a * e → m * o ≡ v * e → z * o ≡ u * e → p * o ≡ b * e → (z + p) * o ≤ (x + m) * o
      gathered x m z p e q r s t = let y = mul-le-mul_right e h in omega arith

      last : Z * dx * dp + P * dx * dz ≤ X * dp * dz + mz * dx * dp → Z * (dx * dp) + (P * dx + 0 * dp) * dz ≤ (X * dp + 0 * dx) * dz + mz * (dx * dp)
      last y = omega arith

module _ {x p z : Float} {a b u v i j k l : ℕ} (ux : Units x a i j) (up : Units p b k l) (sz : Signed z u v) where
  rounds_x : Rounds (x ⊖ p) (side x p) (side p x) (den x * den p)
  rounds_x = rounds_sub x p (positive-finite x (units_positive ux)) (positive-finite p (units_positive up))

  -- x - p is rounded to at most z where it is at most z
  signed_le : a + v ≤ b + u → T (le (x ⊖ p) z)
  signed_le h =
      rounds_le (mul-pos (den_pos x) (den_pos p)) (den_pos z) rounds_x (rounds_own z sz.fitting sz.finite_is)
      (under_fraction a b u v (plus x) (minus x) (den x) (plus p) (minus p) (den p) (plus z) (minus z) (den z) w (sizes ux).0 (sizes up).0 (sizes ux).1
      (sizes up).1 sz.plus_is sz.minus_is (pow_pos 149) h)

  -- and to at least z where it is at least z
  signed_ge : b + u ≤ a + v → T (le z (x ⊖ p))
  signed_ge h =
      rounds_le (den_pos z) (mul-pos (den_pos x) (den_pos p)) (rounds_own z sz.fitting sz.finite_is) rounds_x
      (over_fraction a b u v (plus x) (minus x) (den x) (plus p) (minus p) (den p) (plus z) (minus z) (den z) w (sizes ux).0 (sizes up).0 (sizes ux).1
      (sizes up).1 sz.plus_is sz.minus_is (pow_pos 149) h)

left : (a b : ℕ) → a ≤ b → a + 0 ≤ b
left a b h = omega arith

right : (a b : ℕ) → a ≤ b → a ≤ b + 0
right a b h = omega arith

-- with a number above zero, and with one below
module _ {x p y : Float} {a b c i j k l m n : ℕ} (f : T (fits binary32 y)) (ux : Units x a i j) (up : Units p b k l) (uy : Units y c m n) where
  pub difference_le : a ≤ b + c → T (le (x ⊖ p) y)
  difference_le h = signed_le ux up (signed_units f uy) (left a (b + c) h)

  pub difference_over : b + c ≤ a → T (le y (x ⊖ p))
  difference_over h = signed_ge ux up (signed_units f uy) (right (b + c) a h)

  pub difference_ge : b ≤ a + c → T (le (neg y) (x ⊖ p))
  difference_ge h = signed_ge ux up (signed_neg f uy) (left b (a + c) h)

  pub difference_under : a + c ≤ b → T (le (x ⊖ p) (neg y))
  difference_under h = signed_le ux up (signed_neg f uy) (right (a + c) b h)

-- a quotient of a number with its sign changed
pub div_neg : (x c : Float) → T (positive x) → T (positive c) → neg x ⊘ c ≡ neg (x ⊘ c)
unfolding div neg
div_neg nan c f p = absurd f
div_neg (inf s) c f p = absurd f
div_neg (fin true m e) c f p = absurd f
div_neg (fin false m e) nan f p = absurd p
div_neg (fin false m e) (inf t) f p = absurd p
div_neg (fin false m e) (fin true n d) f p = absurd p
div_neg (fin false m e) (fin false zero d) f p = absurd p
div_neg (fin false m e) (fin false (suc n) d) f p = rw (eqb-suc-zero n) (round_neg binary32 false (m * up e * down d) (suc n * up d * down e))

-- ---- the parts

-- what is known of z, its root s and d, s with its low digits cleared
pub record Parts (z s d : Float) : Type 0 where
  pub z_positive : T (positive z)
  pub z_most : T (le z (f32 0x3e800000))
  pub s_positive : T (positive s)
  pub s_most : T (le s (f32 0x3f800000))
  pub d_most : T (le d s)
  pub d_least : T (le (s ⊗ f32 0x3f7fc000) d)
  pub correction : T (le ((z ⊖ d ⊗ d) ⊘ (s ⊕ d)) (s ⊗ f32 0x3a800000))
  pub correction_least : T (le (neg (s ⊗ f32 0x3a800000)) ((z ⊖ d ⊗ d) ⊘ (s ⊕ d)))

-- 3 / 2048
factor_units : Units (f32 0x3ac00000) (3 * 2 ^ 138) 139 140
unfolding of_bits IsLe
factor_units = record { value = (refl, refl); low = le_by_compare (2 ^ 139) (3 * 2 ^ 138) tt; high = le_by_compare (3 * 2 ^ 138) (2 ^ 140) tt }

-- 1 / 1024
small_units : Units (f32 0x3a800000) (2 * 2 ^ 138) 139 139
unfolding of_bits IsLe
small_units = record { value = (refl, refl); low = le_by_compare (2 ^ 139) (2 * 2 ^ 138) tt; high = le_by_compare (2 * 2 ^ 138) (2 ^ 139) tt }

-- 1023 / 1024
less_units : Units (f32 0x3f7fc000) (2046 * 2 ^ 138) 148 149
unfolding of_bits IsLe
less_units = record { value = (refl, refl); low = le_by_compare (2 ^ 148) (2046 * 2 ^ 138) tt; high = le_by_compare (2046 * 2 ^ 138) (2 ^ 149) tt }

one_value : HasValue (f32 0x3f800000) false (2 ^ 149) w
unfolding of_bits
one_value = (refl, refl)

parts_of : (z : Float) → T (fits binary32 z) → T (le (f32 0x33000000) z) → T (le z (f32 0x3e800000)) → Parts z (root z) (high_part (root z))
parts_of z f lo hi =
    let zu = between_units z (f32 0x33000000) (f32 0x3e800000) 124 147 f (unfold of_bits in (refl, refl)) (unfold of_bits in (refl, refl)) lo hi in
    let s = root z in
    let r = root_units 136 149 f zu.1 tt in
    let d = high_part s in
    let e = cleared_units s r.n (root_above z f (above_zero z (units_positive zu.1))).1 r.is in
    let p = mul_units 121 149 e.is e.is tt in
    let y = mul_units 114 138 zu.1 factor_units tt in
    let a = add_units 136 150 r.is e.is tt tt in
    let g = div_units 113 151 y.is a.is tt in
    let t = mul_units 126 139 r.is small_units tt in
    let under = rest_under w (2 ^ 138) zu.0 r.n e.d y.n (pow_pos 138) (pow-add 2 11 138) (units_pos r.is) e.cut p.n r.above p.above
    y.above in
    let most = quotient_under w (2 ^ 138) zu.0 r.n e.d y.n (pow_pos 138) (pow-add 2 11 138) (units_pos r.is) e.cut a.n g.n t.n
    r.above y.below a.above g.below t.above in
    let k = mul_units 134 149 r.is less_units tt in
    let over = rest_over w (2 ^ 138) zu.0 r.n e.d y.n (pow_pos 138) (pow-add 2 11 138) (units_pos r.is) e.cut p.n e.under r.below
    p.below y.above in
    let less = less_under w (2 ^ 138) zu.0 r.n e.d y.n (pow_pos 138) (pow-add 2 11 138) (units_pos r.is) e.cut k.n k.below in
    let most_is : T (le (z ⊗ f32 0x3ac00000 ⊘ (s ⊕ d)) (s ⊗ f32 0x3a800000)) =
    le_of_values (z ⊗ f32 0x3ac00000 ⊘ (s ⊕ d)) (s ⊗ f32 0x3a800000) g.n w t.n w (pow_pos 149) (pow_pos 149) g.is.value t.is.value
    (mul-le-mul_right w most) in
    let step : T (le ((z ⊖ d ⊗ d) ⊘ (s ⊕ d)) (z ⊗ f32 0x3ac00000 ⊘ (s ⊕ d))) =
    div_monotone (z ⊖ d ⊗ d) (z ⊗ f32 0x3ac00000) (s ⊕ d) (units_positive a.is)
    (difference_le (mul-fits binary32 z (f32 0x3ac00000)) zu.1 p.is y.is under) in
    record {
      z_positive = units_positive zu.1;
      z_most = hi;
      s_positive = units_positive r.is;
      s_most = le_of_values s (f32 0x3f800000) r.n w (2 ^ 149) w (pow_pos 149) (pow_pos 149) r.is.value one_value (mul-le-mul_right w r.is.high);
      d_most = le_of_values d s e.d w r.n w (pow_pos 149) (pow_pos 149) e.is.value r.is.value (mul-le-mul_right w e.under);
      correction =
          le_trans ((z ⊖ d ⊗ d) ⊘ (s ⊕ d)) (z ⊗ f32 0x3ac00000 ⊘ (s ⊕ d)) (s ⊗ f32 0x3a800000) step most_is;
      d_least = le_of_values (s ⊗ f32 0x3f7fc000) d k.n w e.d w (pow_pos 149) (pow_pos 149) k.is.value e.is.value (mul-le-mul_right w less);
      correction_least =
          le_trans (neg (s ⊗ f32 0x3a800000)) (neg (z ⊗ f32 0x3ac00000 ⊘ (s ⊕ d))) ((z ⊖ d ⊗ d) ⊘ (s ⊕ d))
          (neg_le (z ⊗ f32 0x3ac00000 ⊘ (s ⊕ d)) (s ⊗ f32 0x3a800000) most_is)
          (rw (← div_neg (z ⊗ f32 0x3ac00000) (s ⊕ d) (units_positive y.is) (units_positive a.is))
          (div_monotone (neg (z ⊗ f32 0x3ac00000)) (z ⊖ d ⊗ d) (s ⊕ d) (units_positive a.is)
          (difference_ge (mul-fits binary32 z (f32 0x3ac00000)) zu.1 p.is y.is over)));
    }

-- ---- of a number from 0.5 to below 1

abbrev pub z_of : Float → Float
z_of v = (f32 0x3f800000 ⊖ v) ⊗ f32 0x3f000000

smallest : f32 0x3f800000 ⊖ f32 0x3f7fffff ≡ f32 0x33800000
unfolding sub add neg of_bits
smallest = refl

largest : f32 0x3f800000 ⊖ f32 0x3f000000 ≡ f32 0x3f000000
unfolding sub add neg of_bits
largest = refl

halved_smallest : f32 0x33800000 ⊗ f32 0x3f000000 ≡ f32 0x33000000
unfolding mul of_bits
halved_smallest = refl

halved_largest : f32 0x3f000000 ⊗ f32 0x3f000000 ≡ f32 0x3e800000
unfolding mul of_bits
halved_largest = refl

module _ (v : Float) (f : T (fits binary32 v)) (lo : T (le (f32 0x3f000000) v)) (hi : T (lt v (f32 0x3f800000))) where
  abbrev rest : Float
  rest = f32 0x3f800000 ⊖ v

  abbrev z : Float
  z = z_of v

  v_finite : T (finite v)
  v_finite = positive-finite v (between (f32 0x3f000000) v (f32 0x3f800000) (unfold of_bits in tt) (unfold of_bits in tt) lo (lt_le v (f32 0x3f800000) hi))

  rest_low : T (le (f32 0x33800000) rest)
  rest_low = subst (λ (x : Float). T (le x rest)) smallest
      (sub_antitone v (f32 0x3f7fffff) (f32 0x3f800000) v_finite (unfold of_bits in tt) (unfold of_bits in tt) (below_one v f lo hi))

  rest_high : T (le rest (f32 0x3f000000))
  rest_high = subst (λ (x : Float). T (le rest x)) largest
      (sub_antitone (f32 0x3f000000) v (f32 0x3f800000) (unfold of_bits in tt) v_finite (unfold of_bits in tt) lo)

  rest_finite : T (finite rest)
  rest_finite = positive-finite rest (between (f32 0x33800000) rest (f32 0x3f000000) (unfold of_bits in tt) (unfold of_bits in tt) rest_low rest_high)

  z_low : T (le (f32 0x33000000) z)
  z_low = subst (λ (x : Float). T (le x z)) halved_smallest
      (mul_monotone_finite (f32 0x33800000) rest (f32 0x3f000000) (unfold of_bits in tt) rest_finite (unfold of_bits in tt) rest_low (unfold le of_bits in tt))

  z_high : T (le z (f32 0x3e800000))
  z_high = subst (λ (x : Float). T (le z x)) halved_largest
      (mul_monotone_finite rest (f32 0x3f000000) (f32 0x3f000000) rest_finite (unfold of_bits in tt) (unfold of_bits in tt) rest_high (unfold le of_bits in tt))

  pub z_fits : T (fits binary32 z)
  z_fits = mul-fits binary32 rest (f32 0x3f000000)

  pub parts : Parts z (root z) (high_part (root z))
  parts = parts_of z z_fits z_low z_high

-- z falls as v grows
pub z_falls : (u v : Float) → T (fits binary32 u) → T (fits binary32 v) → T (le (f32 0x3f000000) u) → T (le u v) → T (lt v (f32 0x3f800000))
    → T (le (z_of v) (z_of u))
z_falls u v f g l h hi =
    let k = le_lt_trans u v (f32 0x3f800000) h hi in
    let m = le_trans (f32 0x3f000000) u v l h in
    mul_monotone_finite (f32 0x3f800000 ⊖ v) (f32 0x3f800000 ⊖ u) (f32 0x3f000000) (rest_finite v g m hi) (rest_finite u f l k) (unfold of_bits in tt)
    (sub_antitone u v (f32 0x3f800000) (v_finite u f l k) (v_finite v g m hi) (unfold of_bits in tt) h) (unfold le of_bits in tt)
