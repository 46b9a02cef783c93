-- Rounding keeps the order of numbers of any sign (`rounds_le`), and an f32 is its own rounding (`rounds_own`). So an
-- operation keeps the order where the exact one does. A number is (p - n) / c over the natural numbers, as a finite
-- float is of its `plus`, `minus` and `den`. Assumes nothing.
use mathlib.Core.Path.{◌≡◌, refl, sym, ap, ◌∙◌, subst}
use mathlib.Core.Logic.{◌⊎◌, inl, inr}
use Prim.Native.Nat.{ℕ, zero, suc, ◌+◌, ◌*◌, ◌^◌, ◌≤◌, ◌<◌}
use native.Mathlib.Nat.{zero-lt-suc, zero-mul, eq-zero-or-pos, eq_of_mul-eq-mul_right}
use native.Mathlib.Omega.{arith}
use mathlib.Core.Bool.{Bool, true, false, not, cond}
use lib.IntN.{ℤ}
use lib.Dec.{T, ltb}
use lib.Pow.{pow_pos}
use lib.Ieee.{Float, nan, inf, fin, Format, binary32, prec, emax, low, up, down, odd, units, round, neg, le, fits, is_nan, of_bits}
use lib.Ieee.Fits.{round_is, round-fits, down_pos}
use lib.Ieee.Exact.{round_exact}
use lib.Ieee.Order.{round_mono, kept, drop}
use lib.Ieee.Scale.{finite}
use lib.Ieee.Positive.{num, den}
use Rattle.numbers.specs.Rounded.{f32}
use Rattle.numbers.proofs.OrderLaws.{plus, minus, side, le→side, side→le, le_left, le_trans, unsigned_le, value_unique}
use Rattle.numbers.specs.Inner.Bounds.{unsigned}
use Rattle.numbers.proofs.RootGrid.{f32_whole, below_top}

-- ---- the sign

odd_neg : (d : ℕ) (s : Bool) (q k l : ℕ) → odd d (not s) q k l ≡ neg (odd d s q k l)
unfolding odd neg
odd_neg d s zero k l = refl
odd_neg d s (suc q) k l = refl

units_neg : (f : Format) (s : Bool) (q k : ℕ) → units f (not s) q k ≡ neg (units f s q k)
unfolding units neg
units_neg f s q k = go (ltb (q * 2 ^ k) (2 ^ (low f + suc (emax f))))
  where
    go : (b : Bool) → cond b (odd (suc (prec f)) (not s) q k (low f)) (inf (not s)) ≡ neg (cond b (odd (suc (prec f)) s q k (low f)) (inf s))
    go true = odd_neg (suc (prec f)) s q k (low f)
    go false = refl

pub round_neg : (f : Format) (s : Bool) (a c : ℕ) → round f (not s) a c ≡ neg (round f s a c)
round_neg f s a c =
    let n = a * 2 ^ low f in
    round_is f (not s) a c ∙ units_neg f s (kept (prec f) n c) (drop (prec f) n c) ∙ ap neg (sym (round_is f s a c))

units_unsigned : (f : Format) (q k : ℕ) → T (unsigned (units f false q k))
unfolding units
units_unsigned f q k = go (ltb (q * 2 ^ k) (2 ^ (low f + suc (emax f))))
  where
    plain : (d q k l : ℕ) → T (unsigned (odd d false q k l))
    plain d zero k l = unfold odd in tt
    plain d (suc q) k l = unfold odd in tt

    go : (b : Bool) → T (unsigned (cond b (odd (suc (prec f)) false q k (low f)) (inf false)))
    go true = plain (suc (prec f)) q k (low f)
    go false = tt

pub round_unsigned : (f : Format) (a c : ℕ) → T (unsigned (round f false a c))
round_unsigned f a c =
    let n = a * 2 ^ low f in
    subst (λ (x : Float). T (unsigned x)) (sym (round_is f false a c)) (units_unsigned f (kept (prec f) n c) (drop (prec f) n c))

pub neg_le : (x y : Float) → T (le x y) → T (le (neg y) (neg x))
unfolding le neg
neg_le nan y h = absurd h
neg_le (inf s) nan h = absurd h
neg_le (fin s m e) nan h = absurd h
neg_le (inf true) (inf true) h = tt
neg_le (inf true) (inf false) h = tt
neg_le (inf false) (inf true) h = absurd h
neg_le (inf false) (inf false) h = tt
neg_le (inf true) (fin t n d) h = tt
neg_le (inf false) (fin t n d) h = absurd h
neg_le (fin s m e) (inf true) h = absurd h
neg_le (fin s m e) (inf false) h = tt
neg_le (fin s m e) (fin t n d) h = side→le (fin (not t) n d) (fin (not s) m e) tt tt (go s t (le→side (fin s m e) (fin t n d) tt tt h))
  where
    go : (s t : Bool) → side (fin s m e) (fin t n d) ≤ side (fin t n d) (fin s m e)
        → side (fin (not t) n d) (fin (not s) m e) ≤ side (fin (not s) m e) (fin (not t) n d)
    go true true h = omega arith
    go true false h = omega arith
    go false true h = omega arith
    go false false h = omega arith

-- ---- what is rounded

-- x is (p - n) / c rounded to an f32; a zero may have either sign
pub data Rounds : Float → ℕ → ℕ → ℕ → Type 0 where
  above : {x : Float} {p n c : ℕ} (a : ℕ) → p ≡ n + a → x ≡ round binary32 false a c → Rounds x p n c
  under : {x : Float} {p n c : ℕ} (a : ℕ) → n ≡ p + a → x ≡ round binary32 true a c → Rounds x p n c

zero_is : round binary32 false 0 1 ≡ f32 0
unfolding round of_bits
zero_is = refl

pub minus_zero_le : T (le (neg (f32 0)) (f32 0)) × T (le (f32 0) (neg (f32 0)))
unfolding le neg of_bits
minus_zero_le = (tt, tt)

rounds_zero : Rounds (f32 0) 0 0 1
rounds_zero = above 0 refl (sym zero_is)

-- ---- the order, by the signs of the two

negated : (x y : Float) (a c b d : ℕ) → x ≡ round binary32 true a c → y ≡ round binary32 true b d → T (le (round binary32 false b d) (round binary32 false a c))
    → T (le x y)
negated x y a c b d r t h =
    rw (r, t, round_neg binary32 false a c, round_neg binary32 false b d) (neg_le (round binary32 false b d) (round binary32 false a c) h)

-- what is rounded from below zero is below what is not
across : (a c b d : ℕ) → T (le (round binary32 true a c) (round binary32 false b d))
across a c b d =
    let z = f32 0 in
    let low : T (le (round binary32 true a c) (neg z)) = rw (round_neg binary32 false a c)
    (neg_le z (round binary32 false a c) (unsigned_le (round binary32 false a c) (round_unsigned binary32 a c))) in
    le_trans (round binary32 true a c) z (round binary32 false b d) (le_trans (round binary32 true a c) (neg z) z low minus_zero_le.0)
    (unsigned_le (round binary32 false b d) (round_unsigned binary32 b d))

-- a zero of either sign is at most another
zero_le_zero : (c d : ℕ) → 0 < c → 0 < d → T (le (round binary32 false 0 c) (round binary32 true 0 d))
zero_le_zero c d C D =
    let z = f32 0 in
    let low : (c : ℕ) → 0 < c
    → T (le (round binary32 false 0 c) z) = λ c C. subst (λ (x : Float). T (le (round binary32 false 0 c) x)) zero_is
    (round_mono binary32 0 c 0 1 C (zero-lt-suc 0) (omega arith)) in
    let high : T (le (neg z) (round binary32 true 0 d)) = rw (round_neg binary32 false 0 d) (neg_le (round binary32 false 0 d) z (low d D)) in
    le_trans (round binary32 false 0 c) z (round binary32 true 0 d) (low c C) (le_trans z (neg z) (round binary32 true 0 d) minus_zero_le.1 high)

apart : (p n a q o b c d : ℕ) → p ≡ n + a → q ≡ o + b → p * d + o * c ≤ q * c + n * d → a * d ≤ b * c
apart p n a q o b c d e g h = let i = ap (λ (k : ℕ). k * d) e in let j = ap (λ (k : ℕ). k * c) g in omega arith

none_left : (p n a q o b c d : ℕ) → p ≡ n + a → o ≡ q + b → p * d + o * c ≤ q * c + n * d → a * d + b * c ≡ 0
none_left p n a q o b c d e g h = let i = ap (λ (k : ℕ). k * d) e in let j = ap (λ (k : ℕ). k * c) g in omega arith

pub rounds_le : {x y : Float} {p n c q o d : ℕ} → 0 < c → 0 < d → Rounds x p n c → Rounds y q o d → p * d + o * c ≤ q * c + n * d → T (le x y)
rounds_le {x} {y} {p} {n} {c} {q} {o} {d} C D (above a e r) (above b g t) h = rw (r, t) (round_mono binary32 a c b d C D (apart p n a q o b c d e g h))
rounds_le {x} {y} {p} {n} {c} {q} {o} {d} C D (under a e r) (under b g t) h =
    negated x y a c b d r t (round_mono binary32 b d a c D C (apart o q b n p a d c g e (omega arith)))
rounds_le {x} {y} {p} {n} {c} {q} {o} {d} C D (under a e r) (above b g t) h = rw (r, t) (across a c b d)
rounds_le {x} {y} {p} {n} {c} {q} {o} {d} C D (above a e r) (under b g t) h =
    let z = none_left p n a q o b c d e g h in
    let a0 : a ≡ 0 = none a d D (omega arith) in
    let b0 : b ≡ 0 = none b c C (omega arith) in
    rw (r, t, a0, b0) (zero_le_zero c d C D)
  where
    none : (a d : ℕ) → 0 < d → a * d ≡ 0 → a ≡ 0
    none a d D h = eq_of_mul-eq-mul_right d D a 0 (h ∙ sym (zero-mul d))

pub rounds_number : {x : Float} {p n c : ℕ} → 0 < c → Rounds x p n c → T (not (is_nan x))
rounds_number {x} C r = le_left x x (rounds_le C C r r (omega arith))

pub round_number : (s : Bool) (a c : ℕ) → 0 < c → T (not (is_nan (round binary32 s a c)))
round_number true a c C = let z : a ≡ 0 + a = omega arith in rounds_number C (under a z refl)
round_number false a c C = let z : a ≡ 0 + a = omega arith in rounds_number C (above a z refl)

-- roundings of opposite numbers
pub rounds_turned : {x y : Float} {p n c : ℕ} → Rounds x p n c → Rounds y n p c → (x ≡ y) ⊎ (x ≡ neg y)
rounds_turned {x} {y} {p} {n} {c} (above a e r) (above b g t) = let z : a ≡ b = omega arith in inl (rw (r, t, z))
rounds_turned {x} {y} {p} {n} {c} (under a e r) (under b g t) = let z : a ≡ b = omega arith in inl (rw (r, t, z))
rounds_turned {x} {y} {p} {n} {c} (above a e r) (under b g t) = let z : a ≡ b = omega arith in inr (rw (r, t, z) (round_neg binary32 true b c))
rounds_turned {x} {y} {p} {n} {c} (under a e r) (above b g t) = let z : a ≡ b = omega arith in inr (rw (r, t, z) (round_neg binary32 false b c))

-- ---- an f32 is its own rounding

round_own : (s : Bool) (m : ℕ) (e : ℤ) → T (fits binary32 (fin s m e)) → fin s m e ≡ round binary32 s (m * up e) (down e)
round_own s m e f =
    let w = f32_whole s m e f in
    let g = w.2 in
    let small : g.q * 2 ^ g.j < 2 ^ 277 = subst (λ (k : ℕ). k < 2 ^ 277) g.is (elim (eq-zero-or-pos w.0) [
      | inl z ↦ subst (λ (k : ℕ). k < 2 ^ 277) (sym z) (pow_pos 277)
      | inr p ↦ below_top (fin s m e) s w.0 f w.1 p
    ]) in
    let v = round_exact binary32 s (m * up e) (down e) g.q g.j (down_pos e) g.few small (w.1.1 ∙ ap (λ (k : ℕ). k * down e) g.is) in
    value_unique binary32 (fin s m e) (round binary32 s (m * up e) (down e)) s (m * up e) (down e) (down_pos e) f (round-fits binary32 s (m * up e) (down e))
    (refl, refl) v

pub rounds_own : (x : Float) → T (fits binary32 x) → T (finite x) → Rounds x (plus x) (minus x) (den x)
rounds_own nan f k = absurd k
rounds_own (inf s) f k = absurd k
rounds_own (fin true m e) f k = let z : m * up e ≡ 0 + m * up e = omega arith in under (m * up e) z (round_own true m e f)
rounds_own (fin false m e) f k = let z : m * up e ≡ 0 + m * up e = omega arith in above (m * up e) z (round_own false m e f)

-- ---- zero

pub nonnegative_minus : (x : Float) → T (finite x) → T (le (f32 0) x) → minus x ≡ 0
unfolding of_bits
nonnegative_minus nan f h = absurd f
nonnegative_minus (inf s) f h = absurd f
nonnegative_minus (fin true m e) f h = omega (arith, le→side (f32 0) (fin true m e) tt tt h)
nonnegative_minus (fin false m e) f h = refl

pub nonnegative_plus : (x : Float) → T (finite x) → T (le (f32 0) x) → plus x ≡ num x
nonnegative_plus nan f h = absurd f
nonnegative_plus (inf s) f h = absurd f
nonnegative_plus (fin true m e) f h = sym (nonnegative_minus (fin true m e) f h)
nonnegative_plus (fin false m e) f h = refl

pub rounds_nonnegative : {x : Float} {p n c : ℕ} → 0 < c → Rounds x p n c → n ≤ p → T (le (f32 0) x)
rounds_nonnegative C r h = rounds_le (zero-lt-suc 0) C rounds_zero r (omega arith)

pub rounds_nonpositive : {x : Float} {p n c : ℕ} → 0 < c → Rounds x p n c → p ≤ n → T (le x (f32 0))
rounds_nonpositive C r h = rounds_le C (zero-lt-suc 0) r rounds_zero (omega arith)
