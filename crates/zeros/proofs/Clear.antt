-- Numbers that are not -0: sums, differences, doubles and roots of such f32, and squares. Assumes nothing.
use Prim.Native.Nat.{ℕ, zero, suc, ◌+◌, ◌-◌, ◌*◌, ◌^◌, ◌≤◌, ◌<◌}
use native.Mathlib.Nat.{mul-pos, mul-lt-mul_of_pos_right, mul-le-mul_right}
use native.Mathlib.Omega.{arith}
use native.Mathlib.Decide.{dec_lt}
use mathlib.Core.Path.{◌≡◌, refl, sym, ap, ◌∙◌, subst}
use mathlib.Core.Bool.{Bool, true, false, cond, beq}
use lib.IntN.{ℤ}
use lib.Dec.{T, ltb, ltb→lt}
use lib.Pow.{pow_pos}
use lib.Count.{count_trailing_zeros}
use lib.Ieee.{Float, nan, inf, fin, binary32, up, down, span, climb, size, odd, units, round, neg, sum, add, sub, mul}
use lib.Ieee.{le, fits, of_bits}
use lib.Ieee.Fits.{up_pos, down_pos, neg-fits}
use lib.Ieee.Order.{round_mono}
use lib.Ieee.Positive.{positive, above, above_of_le}
use borrow.Author.Tests.{ltb-true, eqb-false, ne_eqb}
use Rattle.numbers.specs.Rounded.{f32, ◌⊕◌, ◌⊖◌, ◌⊗◌}
use Rattle.numbers.specs.Root.{root}
use Rattle.numbers.proofs.RoundedOrder.{round_neg, round_unsigned, nonnegative_minus}
use Rattle.numbers.proofs.RootGrid.{f32_whole}
use Rattle.spatial_hash.proofs.Squares.{root_good}
use Rattle.zeros.specs.Zeros.{is_zero_of}
use Rattle.numbers.specs.Inner.Bounds.{unsigned}

-- not -0
abbrev pub Clear : Float → Type 0
Clear x = is_zero_of true x ≡ false

pub unsigned_clear : (x : Float) → T (unsigned x) → Clear x
unsigned_clear nan u = absurd u
unsigned_clear (inf s) u = refl
unsigned_clear (fin true m e) u = absurd u
unsigned_clear (fin false m e) u = refl

clear_cond : (b : Bool) (x y : Float) → Clear x → Clear y → Clear (cond b x y)
clear_cond true x y h k = h
clear_cond false x y h k = k

-- the digits of a number below 0
clear_digits : (m : ℕ) (e : ℤ) → Clear (fin true m e) → 0 < m
clear_digits m e h = let z = eqb-false m 0 h in omega arith

-- ---- what is at least the smallest f32 does not round to zero
least_positive : T (positive (round binary32 false 1 (2 ^ 149)))
unfolding count_trailing_zeros span climb size odd units round
least_positive = tt

neg_clear : (x : Float) → T (above x) → Clear (neg x)
unfolding neg
neg_clear nan h = refl
neg_clear (inf s) h = refl
neg_clear (fin true m e) h = refl
neg_clear (fin false m e) h = ne_eqb m 0 (λ z. let l = ltb→lt 0 m h in omega arith)

round_clear : (a c : ℕ) → 0 < c → c ≤ a * 2 ^ 149 → Clear (round binary32 true a c)
round_clear a c C h =
    subst Clear (sym (round_neg binary32 false a c))
    (neg_clear (round binary32 false a c)
    (above_of_le (round binary32 false 1 (2 ^ 149)) (round binary32 false a c) least_positive
    (round_mono binary32 1 (2 ^ 149) a c (pow_pos 149) C (go (2 ^ 149) h))))
  where
    go : (w : ℕ) → c ≤ a * w → 1 * c ≤ a * w
    go w h = omega arith

-- ---- in units of it, w to one
more : (a b c k w : ℕ) → 0 < c → 0 < w → a * w ≡ k * c → 0 < a → c ≤ (a + b) * w
more a b c zero w C W h p = absurd (let q = mul-pos p W in omega arith)
more a b c (suc k) w C W h p = omega (arith, h)

less : (a b c k j w : ℕ) → 0 < c → 0 < w → a * w ≡ k * c → b * w ≡ j * c → a < b → c ≤ (b - a) * w
less a b c k j w C W h g l = go (dec_lt k j)
  where
    split : (d : ℕ) → (a + d) * w ≡ a * w + d * w
    split d = omega arith

    parts : b * w ≡ a * w + (b - a) * w
    parts = let e : b ≡ a + (b - a) = omega arith in ap (λ (v : ℕ). v * w) e ∙ split (b - a)

    go : Dec (k < j) → c ≤ (b - a) * w
    go (yes m) = let n : suc k * c ≤ j * c = mul-le-mul_right c m in omega (arith, parts)
    go (no m) =
        let n : j * c ≤ k * c = mul-le-mul_right c (omega arith) in
        let o : a * w < b * w = mul-lt-mul_of_pos_right l W in
        absurd (omega arith)

sum_clear : (s t : Bool) (a b c k j : ℕ) → 0 < c → a * 2 ^ 149 ≡ k * c → b * 2 ^ 149 ≡ j * c → (s ≡ true → 0 < a)
    → Clear (sum binary32 s a t b c)
unfolding sum
sum_clear false false a b c k j C h g p =
    unsigned_clear (round binary32 false (a + b) c) (round_unsigned binary32 (a + b) c)
sum_clear true true a b c k j C h g p = round_clear (a + b) c C (more a b c k (2 ^ 149) C (pow_pos 149) h (p refl))
sum_clear false true a b c k j C h g p = go (ltb a b) refl
  where
    go : (l : Bool) → ltb a b ≡ l → Clear (cond l (round binary32 true (b - a) c) (round binary32 false (a - b) c))
    go true e = round_clear (b - a) c C (less a b c k j (2 ^ 149) C (pow_pos 149) h g (ltb-true a b e))
    go false e = unsigned_clear (round binary32 false (a - b) c) (round_unsigned binary32 (a - b) c)
sum_clear true false a b c k j C h g p = go (ltb a b) (ltb b a) refl
  where
    go : (l m : Bool) → ltb b a ≡ m → Clear (cond l (round binary32 false (b - a) c) (round binary32 m (a - b) c))
    go true m e = unsigned_clear (round binary32 false (b - a) c) (round_unsigned binary32 (b - a) c)
    go false true e = round_clear (a - b) c C (less b a c j k (2 ^ 149) C (pow_pos 149) g h (ltb-true b a e))
    go false false e = unsigned_clear (round binary32 false (a - b) c) (round_unsigned binary32 (a - b) c)

scaled : (x d n e w : ℕ) → x * w ≡ n * e → x * d * w ≡ n * (e * d)
scaled x d n e w h = omega (arith, ap (λ (v : ℕ). v * d) h)

turned : (x d n e w : ℕ) → x * w ≡ n * e → x * d * w ≡ n * (d * e)
turned x d n e w h = omega (arith, ap (λ (v : ℕ). v * d) h)

pub add_clear : (x y : Float) → T (fits binary32 x) → T (fits binary32 y) → Clear x → Clear (x ⊕ y)
unfolding add
add_clear nan y f g h = refl
add_clear (inf s) nan f g h = refl
add_clear (inf s) (inf t) f g h = clear_cond (beq s t) (inf s) nan refl refl
add_clear (inf s) (fin t n d) f g h = refl
add_clear (fin s m e) nan f g h = refl
add_clear (fin s m e) (inf t) f g h = refl
add_clear (fin s m e) (fin t n d) f g h =
    let x = f32_whole s m e f in
    let y = f32_whole t n d g in
    sum_clear s t (m * up e * down d) (n * up d * down e) (down e * down d) x.0 y.0
    (mul-pos (down_pos e) (down_pos d))
    (scaled (m * up e) (down d) x.0 (down e) (2 ^ 149) x.1.1)
    (turned (n * up d) (down e) y.0 (down d) (2 ^ 149) y.1.1)
    (λ z. mul-pos (mul-pos (clear_digits m e (subst (λ (b : Bool). Clear (fin b m e)) z h)) (up_pos e)) (down_pos d))

pub sub_clear : (x y : Float) → T (fits binary32 x) → T (fits binary32 y) → Clear x → Clear (x ⊖ y)
unfolding sub
sub_clear x y f g h = add_clear x (neg y) f (neg-fits binary32 y g) h

-- twice a number
pub twice_clear : (x : Float) → T (fits binary32 x) → Clear x → Clear (f32 0x40000000 ⊗ x)
unfolding mul of_bits
twice_clear nan f h = refl
twice_clear (inf t) f h = refl
twice_clear (fin false n d) f h =
    unsigned_clear (round binary32 false (2 * (n * up d)) (1 * down d))
    (round_unsigned binary32 (2 * (n * up d)) (1 * down d))
twice_clear (fin true n d) f h =
    let x = f32_whole true n d f in
    let p = mul-pos (clear_digits n d h) (up_pos d) in
    round_clear (2 * (n * up d)) (1 * down d) (let q = down_pos d in omega arith)
    (go (n * up d) (down d) (2 ^ 149)
    (more (n * up d) (n * up d) (down d) x.0 (2 ^ 149) (down_pos d) (pow_pos 149) x.1.1 p))
  where
    go : (x c w : ℕ) → c ≤ (x + x) * w → 1 * c ≤ 2 * x * w
    go x c w h = omega arith

-- half of an unsigned number
pub half_unsigned : (x : Float) → T (unsigned x) → T (unsigned (x ⊗ f32 0x3f000000))
unfolding mul of_bits
half_unsigned nan u = u
half_unsigned (inf true) u = absurd u
half_unsigned (inf false) u = tt
half_unsigned (fin true m e) u = absurd u
half_unsigned (fin false m e) u = round_unsigned binary32 (m * up e * (1 * 1)) (down e * 2)

-- a square
pub square_clear : (x : Float) → Clear (x ⊗ x)
unfolding mul
square_clear nan = refl
square_clear (inf s) = refl
square_clear (fin true m e) =
    unsigned_clear (round binary32 false (m * up e * (m * up e)) (down e * down e))
    (round_unsigned binary32 (m * up e * (m * up e)) (down e * down e))
square_clear (fin false m e) =
    unsigned_clear (round binary32 false (m * up e * (m * up e)) (down e * down e))
    (round_unsigned binary32 (m * up e * (m * up e)) (down e * down e))

-- a root
pub root_clear : (x : Float) → T (fits binary32 x) → Clear x → Clear (root x)
unfolding root
root_clear nan f h = refl
root_clear (inf s) f h = clear_cond s nan (inf false) refl refl
root_clear (fin true m e) f h = below m (clear_digits m e h)
  where
    below : (m : ℕ) → 0 < m → Clear (root (fin true m e))
    below zero l = absurd (omega arith)
    below (suc m) l = refl
root_clear (fin false m e) f h = unsigned_clear (root (fin false m e)) (root_good (fin false m e) (f, tt)).1

-- a number that is not below 0, and is not -0, is unsigned
pub clear_unsigned : (x : Float) → T (le (f32 0) x) → Clear x → T (unsigned x)
clear_unsigned nan l h = unfold le of_bits in l
clear_unsigned (inf true) l h = absurd (unfold le of_bits in l)
clear_unsigned (inf false) l h = tt
clear_unsigned (fin true m e) l h =
    let z = nonnegative_minus (fin true m e) tt l in
    let p = mul-pos (clear_digits m e h) (up_pos e) in
    absurd (omega arith)
clear_unsigned (fin false m e) l h = tt
