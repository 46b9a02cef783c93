-- The rounding errors of the f32 sum, product, quotient and root of numbers above zero (`add_units`, `mul_units`,
-- `div_units`, `root_units`). Assumes nothing.
use mathlib.Core.Path.{◌≡◌, refl, sym, ap, ◌∙◌, subst}
use Prim.Native.Nat.{ℕ, zero, suc, ◌+◌, ◌*◌, ◌^◌, ◌≤◌, ◌<◌}
use native.Mathlib.Nat.{le_trans, le_of_eq, le-add_right, zero-lt-suc, mul-one, mul-le-mul, mul-le-mul_left, mul-le-mul_right, le_of_mul-le-mul_right, mul-pos}
use native.Mathlib.Nat.{two-pow-succ}
use native.Mathlib.Omega.{arith}
use native.Mathlib.Bridge.{IsLe, le_by_compare}
use mathlib.Core.Bool.{Bool, true, false, true≢false, not, ◌&&◌, cond}
use lib.Dec.{T, leb, leb→le, eqb-suc-zero}
use lib.Pow.{pow-add, pow_pos, pow_mono}
use lib.Ieee.{Float, nan, inf, fin, Format, binary32, up, down, round, units, add, sum, div, lt, le, fits, is_nan}
use lib.Ieee.Fits.{down_pos, and_l, and_r}
use lib.Ieee.Exact.{HasValue}
use lib.Ieee.Scale.{round_same}
use lib.Ieee.Positive.{num, den, den_pos, positive, positive-finite, values_of_le, value→cross, between, mul_at, positive_of_value}
use Rattle.numbers.specs.Rounded.{◌⊕◌, ◌⊗◌, ◌⊘◌}
use Rattle.numbers.specs.Root.{nearest_root, root_of_units, root}
use Rattle.numbers.specs.Order.{minimum}
use Rattle.numbers.proofs.OrderLaws.{finite_number, lt_le, not_lt_le}
use Rattle.numbers.proofs.RootPattern.{units_value}
use Rattle.numbers.proofs.RootWhole as whole
use Rattle.numbers.proofs.RootUnits.{finer, scaled, root_of_value}
use Rattle.numbers.proofs.RootGrid.{f32_whole, on_grid, scaling, below_top}
use Rattle.rounding_errors.proofs.Near.{Near, near_eq, near_times, near_twice, square_back}
use Rattle.rounding_errors.proofs.Rounding.{Units, units_pos, units_positive, Rounded, round_units}

-- ---- ranges

-- 2 ^ e to 2 ^ f units are normal numbers, and p ≤ q and r ≤ s
abbrev pub in_range : ℕ → ℕ → ℕ → ℕ → ℕ → ℕ → Bool
in_range e f p q r s = leb 23 e && (leb e 276 && (leb f 276 && (leb p q && leb r s)))

record Ranged (e f p q r s : ℕ) : Type 0 where
  normal : 23 ≤ e
  small : e ≤ 276
  bounded : f ≤ 276
  under : p ≤ q
  over : r ≤ s

ranged : (e f p q r s : ℕ) → T (in_range e f p q r s) → Ranged e f p q r s
ranged e f p q r s t =
    let u = and_r (leb 23 e) _ t in
    let v = and_r (leb e 276) _ u in
    let x = and_r (leb f 276) _ v in
    record {
      normal = leb→le 23 e (and_l (leb 23 e) _ t);
      small = leb→le e 276 (and_l (leb e 276) _ u);
      bounded = leb→le f 276 (and_l (leb f 276) _ v);
      under = leb→le p q (and_l (leb p q) _ x);
      over = leb→le r s (and_r (leb p q) _ x);
    }

powers : (a b c d : ℕ) → a + b ≤ c + d → 2 ^ a * 2 ^ b ≤ 2 ^ c * 2 ^ d
powers a b c d h = le_trans (le_of_eq (sym (pow-add 2 a b))) (le_trans (pow_mono h) (le_of_eq (pow-add 2 c d)))

-- an f32 from one power of two to another
pub between_units : (x lo hi : Float) (i j : ℕ) → T (fits binary32 x) → HasValue lo false (2 ^ i) (2 ^ 149) → HasValue hi false (2 ^ j) (2 ^ 149) → T (le lo x)
    → T (le x hi) → (n : ℕ) × Units x n i j
between_units x lo hi i j f v w l h =
    let p = positive_of_value lo (2 ^ i) (2 ^ 149) v (pow_pos i) in
    let q = positive_of_value hi (2 ^ j) (2 ^ 149) w (pow_pos j) in
    let k = between lo x hi p q l h in
    let u = value x f k in (
      u.0,
      record {
        value = u.1;
        low = le_of_mul-le-mul_right (values_of_le lo x (2 ^ i) (2 ^ 149) u.0 (2 ^ 149) p k v u.1 l) (pow_pos 149);
        high = le_of_mul-le-mul_right (values_of_le x hi u.0 (2 ^ 149) (2 ^ j) (2 ^ 149) k q u.1 w h) (pow_pos 149);
      },
    )
  where
    value : (x : Float) → T (fits binary32 x) → T (positive x) → (n : ℕ) × HasValue x false n (2 ^ 149)
    value nan f p = absurd p
    value (inf s) f p = absurd p
    value (fin true m e) f p = absurd p
    value (fin false m e) f p = let w = f32_whole false m e f in (w.0, w.1)

pub units_le : {x y : Float} {m n i j k l : ℕ} → Units x m i j → Units y n k l → T (le x y) → m ≤ n
units_le {x} {y} {m} {n} u v h =
    le_of_mul-le-mul_right (values_of_le x y m (2 ^ 149) n (2 ^ 149) (units_positive u) (units_positive v) u.value v.value h) (pow_pos 149)

-- the smaller of two
pub record Least (x : Float) (m n i j : ℕ) : Type 0 where
  pub k : ℕ
  pub is : Units x k i j
  pub first : k ≤ m
  pub second : k ≤ n

pub minimum_units : {x y : Float} {m n i j : ℕ} → Units x m i j → Units y n i j → Least (minimum x y) m n i j
unfolding minimum
minimum_units {x} {y} {m} {n} {i} {j} u v =
    let N = finite_number x (positive-finite x (units_positive u)) in
    let M = finite_number y (positive-finite y (units_positive v)) in
    rw (no_nan x N) (go (lt y x) (λ h. units_le v u (lt_le y x h)) (λ h. units_le u v (not_lt_le y x M N h)))
  where
    no_nan : (x : Float) → T (not (is_nan x)) → is_nan x ≡ false
    no_nan x h = flag (is_nan x) h
      where
        flag : (b : Bool) → T (not b) → b ≡ false
        flag true h = absurd h
        flag false h = refl

    go : (b : Bool) → (T b → n ≤ m) → (T (not b) → m ≤ n) → Least (cond b y x) m n i j
    go true h k = record { k = n; is = v; first = h tt; second = omega arith }
    go false h k = record { k = m; is = u; first = omega arith; second = k tt }

-- ---- products, quotients and sums

pub mul_units : {x y : Float} {m n i j k l : ℕ} (e f : ℕ) → Units x m i j → Units y n k l → T (in_range e f (e + 149) (i + k) (j + l) (f + 149))
    → Rounded (x ⊗ y) (2 ^ 149) (m * n) e f
mul_units {x} {y} {m} {n} {i} {j} {k} {l} e f u v t =
    let r = ranged e f (e + 149) (i + k) (j + l) (f + 149) t in
    subst (λ (z : Float). Rounded z (2 ^ 149) (m * n) e f)
    (sym (mul_at binary32 x y m (2 ^ 149) n (2 ^ 149) (units_positive u) (units_positive v) (pow_pos 149) (pow_pos 149) u.value v.value))
    (round_units (m * n) (2 ^ 149) e f (pow_pos 149) r.normal r.small r.bounded (le_trans (powers e 149 i k r.under) (mul-le-mul u.low v.low))
    (le_trans (mul-le-mul u.high v.high) (powers j l f 149 r.over)))

div_is : (f : Format) (x y : Float) → T (positive x) → T (positive y) → div f x y ≡ round f false (num x * den y) (num y * den x)
unfolding div
div_is f nan y p q = absurd p
div_is f (inf s) y p q = absurd p
div_is f (fin true m e) y p q = absurd p
div_is f (fin false m e) nan p q = absurd q
div_is f (fin false m e) (inf t) p q = absurd q
div_is f (fin false m e) (fin true n d) p q = absurd q
div_is f (fin false m e) (fin false zero d) p q = absurd q
div_is f (fin false m e) (fin false (suc n) d) p q = rw (eqb-suc-zero n)

pub div_at : {x y : Float} {m n i j k l : ℕ} → Units x m i j → Units y n k l → x ⊘ y ≡ round binary32 false (m * 2 ^ 149) (n * 2 ^ 149)
div_at {x} {y} {m} {n} u v =
    div_is binary32 x y (units_positive u) (units_positive v)
    ∙ round_same binary32 false (num x * den y) (num y * den x) (m * 2 ^ 149) (n * 2 ^ 149)
    (mul-pos (num_pos (num y) (2 ^ 149) n (den y) (value→cross y n (2 ^ 149) v.value) (units_pos v) (den_pos y)) (den_pos x))
    (mul-pos (units_pos v) (pow_pos 149))
    (crossed (num x) (den x) (num y) (den y) (2 ^ 149) m n (value→cross x m (2 ^ 149) u.value) (value→cross y n (2 ^ 149) v.value))
  where
    num_pos : (a w n d : ℕ) → a * w ≡ n * d → 0 < n → 0 < d → 0 < a
    num_pos zero w n d e N D = let p = mul-pos N D in absurd (omega arith)
    num_pos (suc a) w n d e N D = zero-lt-suc a

    crossed : (a d b e w m n : ℕ) → a * w ≡ m * d → b * w ≡ n * e → a * e * (n * w) ≡ m * w * (b * d)
    crossed a d b e w m n p q = let i = ap (λ (z : ℕ). z * (n * e)) p in let j = ap (λ (z : ℕ). m * d * z) q in omega arith

pub div_units : {x y : Float} {m n i j k l : ℕ} (e f : ℕ) → Units x m i j → Units y n k l → T (in_range e f (e + l) (i + 149) (j + 149) (f + k))
    → Rounded (x ⊘ y) n (m * 2 ^ 149) e f
div_units {x} {y} {m} {n} {i} {j} {k} {l} e f u v t =
    let r = ranged e f (e + l) (i + 149) (j + 149) (f + k) t in
    subst (λ (z : Float). Rounded z n (m * 2 ^ 149) e f) (sym (div_at u v))
    (round_units (m * 2 ^ 149) n e f (units_pos v) r.normal r.small r.bounded
    (le_trans (mul-le-mul_left (2 ^ e) v.high) (le_trans (powers e l i 149 r.under) (mul-le-mul_right (2 ^ 149) u.low)))
    (le_trans (mul-le-mul_right (2 ^ 149) u.high) (le_trans (powers j 149 f k r.over) (mul-le-mul_left (2 ^ f) v.low))))

-- a sum of two that are not below zero, before it is rounded
pub sum_at : (x y : Float) (a b c : ℕ) → 0 < c → HasValue x false a c → HasValue y false b c → x ⊕ y ≡ round binary32 false (a + b) (1 * c)
unfolding add sum
sum_at nan y a b c C h k = absurd h
sum_at (inf s) y a b c C h k = absurd h
sum_at (fin s m e) nan a b c C h k = absurd k
sum_at (fin s m e) (inf t) a b c C h k = absurd k
sum_at (fin true m e) (fin t n d) a b c C h k = absurd (true≢false h.0)
sum_at (fin false m e) (fin true n d) a b c C h k = absurd (true≢false k.0)
sum_at (fin false m e) (fin false n d) a b c C h k =
    round_same binary32 false (m * up e * down d + n * up d * down e) (down e * down d) (a + b) (1 * c) (mul-pos (down_pos e) (down_pos d))
    (mul-pos {m = 1} (omega arith) C)
    (crossed (m * up e) (down e) (n * up d) (down d) h.1 k.1)
  where
    crossed : (p e q d : ℕ) → p * c ≡ a * e → q * c ≡ b * d → (p * d + q * e) * (1 * c) ≡ (a + b) * (e * d)
    crossed p e q d h k = let i = ap (λ (z : ℕ). z * d) h in let j = ap (λ (z : ℕ). z * e) k in omega arith

-- a sum is rounded once, and nothing is scaled
pub record Added (x : Float) (q i j : ℕ) : Type 0 where
  pub n : ℕ
  pub is : Units x n i j
  pub below : Near 1 n q
  pub above : Near 1 q n

pub add_units : {x y : Float} {m n i j k l : ℕ} (e f : ℕ) → Units x m i j → Units y n k l → T (in_range e f e i (suc j) f) → T (leb (suc l) f)
    → Added (x ⊕ y) (m + n) e f
add_units {x} {y} {m} {n} {i} {j} {k} {l} e f u v t h =
    let r = ranged e f e i (suc j) f t in
    let w : ℕ = 2 ^ 149 in
    let at : x ⊕ y ≡ round binary32 false (m + n) (1 * w) = sum_at x y m n w (pow_pos 149) u.value v.value in
    let lo : 2 ^ e * 1 ≤ m + n = le_trans (le_of_eq (mul-one (2 ^ e))) (le_trans (le_trans (pow_mono r.under) u.low) (le-add_right m n)) in
    let hi : m + n ≤ 2 ^ f * 1 = top (2 ^ j) (2 ^ l) (2 ^ f) (two-pow-succ j) (two-pow-succ l) u.high v.high (pow_mono r.over)
    (pow_mono (leb→le (suc l) f h)) in
    let d = round_units (m + n) 1 e f (zero-lt-suc 0) r.normal r.small r.bounded lo hi in
    record {
      n = d.n;
      is = subst (λ (z : Float). Units z d.n e f) (sym at) d.is;
      below = near_eq (mul-one d.n) refl d.below;
      above = near_eq refl (mul-one d.n) d.above;
    }
  where
    top : {c d : ℕ} (a b p : ℕ) → c ≡ a + a → d ≡ b + b → m ≤ a → n ≤ b → c ≤ p → d ≤ p → m + n ≤ p * 1
    top a b p e g h i j k = omega arith

-- ---- the root

-- x is the root of q, but for rounding
pub record Rooted (x : Float) (q i j : ℕ) : Type 0 where
  pub n : ℕ
  pub is : Units x n i j
  pub below : Near 3 (n * n) q
  pub above : Near 3 q (n * n)

whole_near : (n r : ℕ) → whole.Near n r → 2 ^ 23 ≤ r → Near 3 (r * r) n × Near 3 n (r * r)
unfolding IsLe
whole_near n r x h =
    let b : 8388608 * r ≤ r * r = mul-le-mul_right r h in
    let u : r * r * 8388607 ≤ n * 8388608 = omega (arith, x.0) in
    let v : n * 8388608 ≤ r * r * 8388609 = omega (arith, x.1) in (
      record {
        near = wider (r * r) n 8388607 8388608 (16777215 ^ 3) (16777216 ^ 3) (omega arith) u
            (le_by_compare (16777215 ^ 3 * 8388608) (16777216 ^ 3 * 8388607) tt);
      },
      record {
        near = wider n (r * r) 8388608 8388609 (16777215 ^ 3) (16777216 ^ 3) (omega arith) v
            (le_by_compare (16777215 ^ 3 * 8388609) (16777216 ^ 3 * 8388608) tt);
      },
    )
  where
    wider : (s n a b l u : ℕ) → 0 < b → s * a ≤ n * b → l * b ≤ u * a → s * l ≤ n * u
    wider s n a b l u B h k =
        let i : s * (l * b) ≤ s * (u * a) = mul-le-mul_left s k in
        let j : s * a * u ≤ n * b * u = mul-le-mul_right u h in
        let g : s * l * b ≤ n * u * b = omega arith in
        le_of_mul-le-mul_right g B

pub root_units : {x : Float} {m i j : ℕ} (e f : ℕ) → T (fits binary32 x) → Units x m i j → T (leb (suc (e + e)) (i + 149) && leb (suc (j + 149)) (f + f))
    → Rooted (root x) (m * 2 ^ 149) e f
root_units {x} {m} {i} {j} e f t u c =
    let w : ℕ = 2 ^ 149 in
    let v = u.value in
    let p = units_pos u in
    let s = scaling m (on_grid x false m t v) p (below_top x false m t v p) in
    let n = s.n in
    let h = s.h in
    let r = nearest_root n in
    let b = whole.nearest_bounds n s.low s.high in
    let is : root x ≡ units binary32 false r h =
    root_of_value x (m * w) (mul-pos p (pow_pos 149)) (finer x m v) ∙ ap root_of_units s.is ∙ scaled n h s.low s.high in
    let N = whole_near n r (whole.nearest_near n (le_trans (pow_pos 46) s.low) s.high) b.0 in
    let even : 2 ^ (2 * h) ≡ 2 ^ h * 2 ^ h = powered h in
    let q : m * w ≡ n * (2 ^ h * 2 ^ h) = s.is ∙ ap (λ (z : ℕ). n * z) even in
    let below : Near 3 (r * 2 ^ h * (r * 2 ^ h)) (m * w) = near_eq (squared r (2 ^ h)) (sym q) (near_times (2 ^ h * 2 ^ h) N.0) in
    let above : Near 3 (m * w) (r * 2 ^ h * (r * 2 ^ h)) = near_eq (sym q) (squared r (2 ^ h)) (near_times (2 ^ h * 2 ^ h) N.1) in
    let lo : 2 ^ suc (e + e) ≤ m * w = le_trans (pow_mono (leb→le (suc (e + e)) (i + 149) (and_l (leb (suc (e + e)) (i + 149)) _ c)))
    (le_trans (le_of_eq (pow-add 2 i 149)) (mul-le-mul_right w u.low)) in
    let hi : 2 * (m * w) ≤ 2 ^ (f + f) =
    doubled (m * w) (2 ^ (j + 149)) (two-pow-succ (j + 149)) (le_trans (mul-le-mul_right w u.high) (le_of_eq (sym (pow-add 2 j 149))))
    (pow_mono (leb→le (suc (j + 149)) (f + f) (and_r (leb (suc (e + e)) (i + 149)) _ c))) in
    record {
      n = r * 2 ^ h;
      is =
          record {
            value = subst (λ (z : Float). HasValue z false (r * 2 ^ h) w) (sym is) (units_value r h b.1 s.short);
            low = square_back (2 ^ e) (r * 2 ^ h)
                (halved (2 ^ (e + e)) (r * 2 ^ h * (r * 2 ^ h)) (m * w) (pow-add 2 e e) (two-pow-succ (e + e)) lo (near_twice above));
            high = square_back (r * 2 ^ h) (2 ^ f) (le_trans (near_twice below) (le_trans hi (le_of_eq (pow-add 2 f f))));
          };
      below = below;
      above = above;
    }
  where
    powered : (h : ℕ) → 2 ^ (2 * h) ≡ 2 ^ h * 2 ^ h
    powered h = let e : 2 * h ≡ h + h = omega arith in ap (λ (i : ℕ). 2 ^ i) e ∙ pow-add 2 h h

    squared : (r p : ℕ) → r * r * (p * p) ≡ r * p * (r * p)
    squared r p = omega arith

    doubled : {d c : ℕ} (a b : ℕ) → d ≡ b + b → a ≤ b → d ≤ c → 2 * a ≤ c
    doubled a b e h k = omega arith

    halved : {d g : ℕ} (a b c : ℕ) → a ≡ g → d ≡ a + a → d ≤ c → c ≤ 2 * b → g ≤ b
    halved a b c e i h k = omega arith
