-- The rounding errors of f32 sums, differences and products of any sign and size, where the result is finite
-- (`sum_whole`, `sub_whole`, `mul_whole`). Then the operands are finite too (`add_finite`, `sub_finite`, `mul_finite`).
-- And the difference of numbers above zero (`sub_units`). Assumes nothing.
use mathlib.Core.Path.{◌≡◌, refl, sym, ap, ap₂, ◌∙◌, subst}
use Prim.Native.Nat.{ℕ, ◌+◌, ◌-◌, ◌*◌, ◌^◌, ◌≤◌, ◌<◌}
use native.Mathlib.Nat.{le_trans, le_of_eq, lt_of_lt_of_le, zero-lt-suc, mul-one, mul-pos, le_of_mul-le-mul_right}
use native.Mathlib.Omega.{arith}
use mathlib.Core.Bool.{Bool, true, false, ◌&&◌, cond}
use lib.Dec.{T, eqb, leb, leb→le}
use lib.Pow.{pow_pos}
use lib.Ieee.{Float, nan, inf, fin, binary32, unlike, up, down, round, neg, add, sub, mul, le, fits}
use lib.Ieee.Fits.{down_pos, and_l, and_r}
use lib.Ieee.Exact.{HasValue}
use lib.Ieee.Scale.{finite, round_same}
use lib.Ieee.Positive.{den, den_pos}
use Rattle.numbers.specs.Rounded.{◌⊕◌, ◌⊖◌, ◌⊗◌}
use Rattle.numbers.proofs.OrderLaws.{plus, minus, side, le→side}
use Rattle.numbers.proofs.RoundedOrder.{Rounds, above, under}
use Rattle.numbers.proofs.SumOrder.{rounds_sub}
use Rattle.numbers.proofs.RootGrid.{f32_whole}
use Rattle.rounding_errors.proofs.Near.{near_eq}
use Rattle.rounding_errors.proofs.Rounding.{Units, round_units, Whole, Summed, round_whole, round_sum}
use Rattle.rounding_errors.proofs.Operations.{Added, sum_at}

-- ---- where the result is finite

pub add_finite : (x y : Float) → T (finite (x ⊕ y)) → T (finite x) × T (finite y)
unfolding add
add_finite nan y h = absurd h
add_finite (inf s) nan h = absurd h
add_finite (inf true) (inf true) h = absurd h
add_finite (inf true) (inf false) h = absurd h
add_finite (inf false) (inf true) h = absurd h
add_finite (inf false) (inf false) h = absurd h
add_finite (inf s) (fin t n d) h = absurd h
add_finite (fin s m e) nan h = absurd h
add_finite (fin s m e) (inf t) h = absurd h
add_finite (fin s m e) (fin t n d) h = (tt, tt)

pub sub_finite : (x y : Float) → T (finite (x ⊖ y)) → T (finite x) × T (finite y)
unfolding sub neg
sub_finite x nan h = absurd (add_finite x nan h).1
sub_finite x (inf t) h = absurd (add_finite x (neg (inf t)) h).1
sub_finite x (fin t n d) h = ((add_finite x (neg (fin t n d)) h).0, tt)

none_finite : (b s : Bool) → T (finite (cond b nan (inf s))) → ⊥
none_finite true s h = h
none_finite false s h = h

pub mul_finite : (x y : Float) → T (finite (x ⊗ y)) → T (finite x) × T (finite y)
unfolding mul
mul_finite nan y h = absurd h
mul_finite (inf s) nan h = absurd h
mul_finite (inf s) (inf t) h = absurd h
mul_finite (inf s) (fin t n d) h = absurd (none_finite (eqb n 0) (unlike s t) h)
mul_finite (fin s m e) nan h = absurd h
mul_finite (fin s m e) (inf t) h = absurd (none_finite (eqb m 0) (unlike s t) h)
mul_finite (fin s m e) (fin t n d) h = (tt, tt)

-- a finite f32 in units
pub record Signed (x : Float) : Type 0 where
  pub s : Bool
  pub n : ℕ
  pub value : HasValue x s n (2 ^ 149)

pub finite_signed : (x : Float) → T (fits binary32 x) → T (finite x) → Signed x
finite_signed nan f h = absurd h
finite_signed (inf s) f h = absurd h
finite_signed (fin s m e) f h = let w = f32_whole s m e f in record { s = s; n = w.0; value = w.1 }

-- ---- sums and products

pub sum_whole : (x y : Float) (m n : ℕ) → HasValue x false m (2 ^ 149) → HasValue y false n (2 ^ 149) → T (finite (x ⊕ y)) → Summed (x ⊕ y) false (m + n)
sum_whole x y m n h k f =
    let e = sum_at x y m n (2 ^ 149) (pow_pos 149) h k in
    subst (λ (z : Float). Summed z false (m + n)) (sym e) (round_sum false (m + n) (subst (λ (z : Float). T (finite z)) e f))

mul_whole_at : (x y : Float) (s t : Bool) (m n : ℕ) → HasValue x s m (2 ^ 149) → HasValue y t n (2 ^ 149) → x ⊗ y
    ≡ round binary32 (unlike s t) (m * n) (2 ^ 149 * 2 ^ 149)
unfolding mul
mul_whole_at nan y s t m n h k = absurd h
mul_whole_at (inf u) y s t m n h k = absurd h
mul_whole_at (fin u a e) nan s t m n h k = absurd k
mul_whole_at (fin u a e) (inf v) s t m n h k = absurd k
mul_whole_at (fin u a e) (fin v b d) s t m n h k =
    ap₂ (λ (p q : Bool). round binary32 (unlike p q) (a * up e * (b * up d)) (down e * down d)) h.0 k.0
    ∙ round_same binary32 (unlike s t) (a * up e * (b * up d)) (down e * down d) (m * n) (2 ^ 149 * 2 ^ 149) (mul-pos (down_pos e) (down_pos d))
    (mul-pos (pow_pos 149) (pow_pos 149))
    (crossed (a * up e) (down e) (b * up d) (down d) (2 ^ 149) h.1 k.1)
  where
    crossed : (p e q d w : ℕ) → p * w ≡ m * e → q * w ≡ n * d → p * q * (w * w) ≡ m * n * (e * d)
    crossed p e q d w h k = let i : p * w * (q * w) ≡ m * e * (n * d) = ap₂ ◌*◌ h k in omega arith

pub mul_whole : (x y : Float) (s t : Bool) (m n : ℕ) → HasValue x s m (2 ^ 149) → HasValue y t n (2 ^ 149) → T (finite (x ⊗ y))
    → Whole (x ⊗ y) (unlike s t) (m * n) (2 ^ 149)
mul_whole x y s t m n h k f =
    let e = mul_whole_at x y s t m n h k in
    subst (λ (z : Float). Whole z (unlike s t) (m * n) (2 ^ 149)) (sym e)
    (round_whole (unlike s t) (m * n) (2 ^ 149) (pow_pos 149) (subst (λ (z : Float). T (finite z)) e f))

-- ---- differences

-- p - n is a with the sign s
abbrev pub Is : Bool → ℕ → ℕ → ℕ → Type 0
Is true a p n = n ≡ p + a
Is false a p n = p ≡ n + a

-- what of s m is above zero, and what is below
abbrev pub over : Bool → ℕ → ℕ
over s m = cond s 0 m

abbrev pub short : Bool → ℕ → ℕ
short s m = cond s m 0

-- x is p - n units but for a rounding error
pub record Difference (x : Float) (p n : ℕ) : Type 0 where
  pub s : Bool
  pub a : ℕ
  pub is : Is s a p n
  pub rounded : Summed x s a

units_parts : (x : Float) (s : Bool) (m c : ℕ) → HasValue x s m c → (plus x * c ≡ over s m * den x) × (minus x * c ≡ short s m * den x)
units_parts nan s m c h = absurd h
units_parts (inf t) s m c h = absurd h
units_parts (fin t a e) s m c h =
    subst (λ (s : Bool). (cond t 0 (a * up e) * c ≡ over s m * down e) × (cond t (a * up e) 0 * c ≡ short s m * down e)) h.0 (go t)
  where
    none : 0 * c ≡ 0 * down e
    none = omega arith

    go : (t : Bool) → (cond t 0 (a * up e) * c ≡ over t m * down e) × (cond t (a * up e) 0 * c ≡ short t m * down e)
    go true = (none, h.1)
    go false = (h.1, none)

pub value_finite : (x : Float) (s : Bool) (m c : ℕ) → HasValue x s m c → T (finite x)
value_finite nan s m c h = absurd h
value_finite (inf t) s m c h = absurd h
value_finite (fin t a e) s m c h = tt

-- c over d e is a whole number k over w
units_apart : (p o d q r e w a b u v c : ℕ) → 0 < d → 0 < e → p * w ≡ a * d → o * w ≡ b * d → q * w ≡ u * e → r * w ≡ v * e → p * e + r * d ≡ q * d + o * e + c
    → (k : ℕ) × (a + v ≡ b + u + k) × (c * (1 * w) ≡ k * (d * e))
units_apart p o d q r e w a b u v c D E g h i j l =
    let g' = ap (λ (z : ℕ). z * e) g in
    let h' = ap (λ (z : ℕ). z * e) h in
    let i' = ap (λ (z : ℕ). z * d) i in
    let j' = ap (λ (z : ℕ). z * d) j in
    let l' = ap (λ (z : ℕ). z * w) l in
    let m : (b + u) * (d * e) ≤ (a + v) * (d * e) = omega arith in
    let n : b + u ≤ a + v = le_of_mul-le-mul_right m (mul-pos D E) in
    let k = a + v - (b + u) in
    let s : a + v ≡ b + u + k = omega arith in
    let s' = ap (λ (z : ℕ). z * (d * e)) s in
    (k, s, omega arith)

-- over whole units
module _ (x y : Float) (s t : Bool) (m n : ℕ) (h : HasValue x s m (2 ^ 149)) (k : HasValue y t n (2 ^ 149)) where
  apart_above : (c : ℕ) → side x y ≡ side y x + c → (k : ℕ) × (over s m + short t n ≡ short s m + over t n + k) × (c * (1 * 2 ^ 149) ≡ k * (den x * den y))
  apart_above c l =
      let i = units_parts x s m (2 ^ 149) h in
      let j = units_parts y t n (2 ^ 149) k in
      units_apart (plus x) (minus x) (den x) (plus y) (minus y) (den y) (2 ^ 149) (over s m) (short s m) (over t n) (short t n) c (den_pos x) (den_pos y) i.0
      i.1 j.0 j.1 l

  apart_under : (c : ℕ) → side y x ≡ side x y + c → (k : ℕ) × (short s m + over t n ≡ over s m + short t n + k) × (c * (1 * 2 ^ 149) ≡ k * (den x * den y))
  apart_under c l =
      let i = units_parts x s m (2 ^ 149) h in
      let j = units_parts y t n (2 ^ 149) k in
      units_apart (minus x) (plus x) (den x) (minus y) (plus y) (den y) (2 ^ 149) (short s m) (over s m) (short t n) (over t n) c (den_pos x) (den_pos y) i.1
      i.0 j.1 j.0 (omega arith)

  -- a difference before it is rounded
  pub record Rounding : Type 0 where
    pub s' : Bool
    pub a : ℕ
    pub is : Is s' a (over s m + short t n) (short s m + over t n)
    pub at : x ⊖ y ≡ round binary32 s' a (1 * 2 ^ 149)

  pub sub_rounding : Rounding
  sub_rounding = go (rounds_sub x y (value_finite x s m (2 ^ 149) h) (value_finite y t n (2 ^ 149) k))
    where
      to_units : (r : Bool) (c k : ℕ) → x ⊖ y ≡ round binary32 r c (den x * den y) → c * (1 * 2 ^ 149) ≡ k * (den x * den y) → x ⊖ y
          ≡ round binary32 r k (1 * 2 ^ 149)
      to_units r c k z q = z ∙ round_same binary32 r c (den x * den y) k (1 * 2 ^ 149) (mul-pos (den_pos x) (den_pos y)) (pow_pos 149) q

      go : Rounds (x ⊖ y) (side x y) (side y x) (den x * den y) → Rounding
      go (above c l z) = let q = apart_above c l in record { s' = false; a = q.0; is = q.1; at = to_units false c q.0 z q.2 }
      go (under c l z) = let q = apart_under c l in record { s' = true; a = q.0; is = q.1; at = to_units true c q.0 z q.2 }

  pub sub_whole : T (finite (x ⊖ y)) → Difference (x ⊖ y) (over s m + short t n) (short s m + over t n)
  sub_whole f =
      let r = sub_rounding in
      record {
        s = r.s';
        a = r.a;
        is = r.is;
        rounded = subst (λ (z : Float). Summed z r.s' r.a) (sym r.at) (round_sum r.s' r.a (subst (λ (z : Float). T (finite z)) r.at f));
      }

-- of numbers above zero, the second below the first
pub sub_units : {x y : Float} {m n i j k l : ℕ} (e d : ℕ) → Units x m i j → Units y n k l → m ≡ n + d → 2 ^ e ≤ d → T (leb 23 e && (leb e 276 && leb j 276))
    → Added (x ⊖ y) d e j
sub_units {x} {y} {m} {n} {i} {j} {k} {l} e d u v h lo t =
    let t' = and_r (leb 23 e) _ t in
    let r = round_units d 1 e j (zero-lt-suc 0) (leb→le 23 e (and_l (leb 23 e) _ t)) (leb→le e 276 (and_l (leb e 276) _ t'))
    (leb→le j 276 (and_r (leb e 276) _ t')) (le_trans (le_of_eq (mul-one (2 ^ e))) lo)
    (le_trans (top (2 ^ j) u.high) (le_of_eq (sym (mul-one (2 ^ j))))) in
    record {
      n = r.n;
      is = subst (λ (z : Float). Units z r.n e j) (sym (at (sub_rounding x y false false m n u.value v.value))) r.is;
      below = near_eq (mul-one r.n) refl r.below;
      above = near_eq refl (mul-one r.n) r.above;
    }
  where
    top : (b : ℕ) → m ≤ b → d ≤ b
    top b g = omega arith

    some : 0 < d
    some = lt_of_lt_of_le (pow_pos e) lo

    at : Rounding x y false false m n u.value v.value → x ⊖ y ≡ round binary32 false d (1 * 2 ^ 149)
    at r = go r.s' r.a r.is r.at
      where
        go : (s : Bool) (a : ℕ) → Is s a (m + 0) (0 + n) → x ⊖ y ≡ round binary32 s a (1 * 2 ^ 149) → x ⊖ y ≡ round binary32 false d (1 * 2 ^ 149)
        go true a g z = let p = some in absurd (omega arith)
        go false a g z = let e : a ≡ d = omega arith in z ∙ ap (λ (b : ℕ). round binary32 false b (1 * 2 ^ 149)) e

-- ---- the order, zero included

pub units_order : (x y : Float) (m n : ℕ) → HasValue x false m (2 ^ 149) → HasValue y false n (2 ^ 149) → T (le x y) → m ≤ n
units_order x y m n h k l =
    let s = le→side x y (value_finite x false m (2 ^ 149) h) (value_finite y false n (2 ^ 149) k) l in
    let c = side y x - side x y in
    let e : side y x ≡ side x y + c = omega arith in
    let q = apart_under x y false false m n h k c e in
    omega (arith, q.1)
