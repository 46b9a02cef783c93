-- What is exact: differences of multiples of 1/64, and the fractions that squares and sums round. Assumes nothing.
use mathlib.Core.Path.{◌≡◌, refl, sym, ap, ap₂, ◌∙◌, subst}
use Prim.Native.Nat.{ℕ, suc, ◌+◌, ◌-◌, ◌*◌, ◌^◌, ◌≤◌, ◌<◌}
use native.Mathlib.Nat.{lt_of_le_of_lt, mul-sub, mul-pos, mul_comm, eq_of_mul-eq-mul_right, mul-le-mul_right, le_of_mul-le-mul_right}
use native.Mathlib.Omega.{arith}
use native.Mathlib.Bridge.{IsLe, le_by_compare}
use mathlib.Core.Bool.{Bool, true, false, not, ◌&&◌, beq, cond}
use lib.Dec.{T, eqb, ltb, ltb→lt, nltb→le, eqb→eq}
use lib.Pow.{pow_pos}
use lib.IntN.{ℤ}
use lib.Ieee.{Float, nan, inf, fin, binary32, up, down, round, add, sub, neg, mul, eq, sum, unlike}
use lib.Ieee.Fits.{down_pos, and_l, and_r}
use lib.Ieee.Exact.{HasValue, round_exact}
use lib.Ieee.Scale.{finite, round_same}
use Rattle.numbers.specs.Rounded.{◌⊖◌, ◌⊗◌}
use Rattle.accuracy.specs.Accuracy.{Signed, Coordinate, gap, signed_apart}

-- from one fraction to another of the same size
pub rescale : (x : Float) (s : Bool) (a c b d : ℕ) → 0 < c → b * c ≡ a * d → HasValue x s a c → HasValue x s b d
rescale nan s a c b d p h v = v
rescale (inf t) s a c b d p h v = v
rescale (fin t m e) s a c b d p h v = (v.0, eq_of_mul-eq-mul_right c p (m * up e * d) (b * down e) (crossed (m * up e) (down e) a c b d h v.1))
  where
    crossed : (m e a c b d : ℕ) → b * c ≡ a * d → m * c ≡ a * e → m * d * c ≡ b * e * c
    crossed m e a c b d h k = let i = ap (λ (z : ℕ). z * e) h in let j = ap (λ (z : ℕ). z * d) k in omega arith

-- a multiple of 1/64 below 2 ^ 18 is an f32
round_multiple : (s : Bool) (num den g : ℕ) → 0 < den → num * 64 ≡ g * den → g ≤ 128000 → HasValue (round binary32 s num den) s g 64
unfolding IsLe
round_multiple s num den g D h l =
    rescale (round binary32 s num den) s num den g 64 D (sym h)
    (round_exact binary32 s num den g 143 D few (lt_of_le_of_lt (mul-le-mul_right (2 ^ 143) l) under) (scaled num den g (2 ^ 143) (2 ^ 149) refl h))
  where
    few : g < 2 ^ 24
    few = omega arith

    under : 128000 * 2 ^ 143 < 2 ^ 277
    under = le_by_compare (suc (128000 * 2 ^ 143)) (2 ^ 277) tt

    scaled : (num den g p w : ℕ) → w ≡ p * 64 → num * 64 ≡ g * den → num * w ≡ g * p * den
    scaled num den g p w e h = let i = ap (λ (z : ℕ). z * p) h in let j = ap (λ (z : ℕ). num * z) e in omega arith

-- so each such number is a coordinate
pub on_lattice : (v : Signed) → v.size ≤ 64000 → Coordinate (round binary32 v.negative v.size 64) v
on_lattice v h = record { value = round_multiple v.negative v.size 64 v.size (omega arith) refl (omega arith); small = h }

-- x - y
module _ (m : ℕ) (e : ℤ) (n : ℕ) (d : ℤ) (a b : ℕ) (hx : m * up e * 64 ≡ a * down e) (hy : n * up d * 64 ≡ b * down d) where
  A : ℕ
  A = m * up e * down d

  B : ℕ
  B = n * up d * down e

  C : ℕ
  C = down e * down d

  a_is : A * 64 ≡ a * C
  unfolding A C
  a_is = go (m * up e) (down e) (down d) hx
    where
      go : (p e d : ℕ) → p * 64 ≡ a * e → p * d * 64 ≡ a * (e * d)
      go p e d h = let i = ap (λ (z : ℕ). z * d) h in omega arith

  b_is : B * 64 ≡ b * C
  unfolding B C
  b_is = go (n * up d) (down d) (down e) hy
    where
      go : (p d e : ℕ) → p * 64 ≡ b * d → p * e * 64 ≡ b * (e * d)
      go p d e h = let i = ap (λ (z : ℕ). z * e) h in omega arith

sub_mul : (a b c : ℕ) → (a - b) * c ≡ a * c - b * c
sub_mul a b c = mul_comm (a - b) c ∙ mul-sub c a b ∙ ap₂ ◌-◌ (mul_comm c a) (mul_comm c b)

minus_scaled : (a b c p q : ℕ) → p * 64 ≡ a * c → q * 64 ≡ b * c → (p - q) * 64 ≡ (a - b) * c
minus_scaled a b c p q h k = sub_mul p q 64 ∙ ap₂ ◌-◌ h k ∙ sym (sub_mul a b c)

ordered : (a b c p q : ℕ) → 0 < c → p * 64 ≡ a * c → q * 64 ≡ b * c → p ≤ q → a ≤ b
ordered a b c p q C h k l =
    let i : p * 64 ≤ q * 64 = mul-le-mul_right 64 l in
    let j : a * c ≤ b * c = omega arith in
    le_of_mul-le-mul_right j C

-- the rounded difference of p / c and q / c, which are a / 64 and b / 64
unlike_parts : (s t : Bool) (a b c p q : ℕ) → 0 < c → p * 64 ≡ a * c → q * 64 ≡ b * c → a ≤ 64000 → b ≤ 64000
    → (r : Bool) × HasValue (cond (ltb p q) (round binary32 t (q - p) c) (round binary32 s (p - q) c)) r (gap a b) 64
unlike_parts s t a b c p q C h k l m = go (ltb p q) (ltb→lt p q) (nltb→le p q)
  where
    go : (x : Bool) → (T x → p < q) → (T (not x) → q ≤ p) → (r : Bool)
        × HasValue (cond x (round binary32 t (q - p) c) (round binary32 s (p - q) c)) r (gap a b) 64
    go true f g =
        let lt = f tt in
        let o = ordered a b c p q C h k (omega arith) in
        let e : b - a ≡ gap a b = omega arith in
        (t, subst (λ (z : ℕ). HasValue (round binary32 t (q - p) c) t z 64) e (round_multiple t (q - p) c (b - a) C (minus_scaled b a c q p k h) (omega arith)))
    go false f g =
        let o = ordered b a c q p C k h (g tt) in
        let e : a - b ≡ gap a b = omega arith in
        (s, subst (λ (z : ℕ). HasValue (round binary32 s (p - q) c) s z 64) e (round_multiple s (p - q) c (a - b) C (minus_scaled a b c p q h k) (omega arith)))

like_parts : (s : Bool) (a b c p q : ℕ) → 0 < c → p * 64 ≡ a * c → q * 64 ≡ b * c → a ≤ 64000 → b ≤ 64000 → (r : Bool)
    × HasValue (round binary32 s (p + q) c) r (a + b) 64
like_parts s a b c p q C h k l m = (s, round_multiple s (p + q) c (a + b) C (omega arith) (omega arith))

difference_fin : (s : Bool) (m : ℕ) (e : ℤ) (t : Bool) (n : ℕ) (d : ℤ) (a b : ℕ) → m * up e * 64 ≡ a * down e → n * up d * 64 ≡ b * down d → a ≤ 64000
    → b ≤ 64000
    → (r : Bool) × HasValue (fin s m e ⊖ fin t n d) r (cond (beq s t) (gap a b) (a + b)) 64
unfolding sub add neg sum A B C
difference_fin true m e true n d a b hx hy l k =
    unlike_parts _ _ a b (C m e n d a b hx hy) (A m e n d a b hx hy) (B m e n d a b hx hy) (mul-pos (down_pos e) (down_pos d)) (a_is m e n d a b hx hy)
    (b_is m e n d a b hx hy) l k
difference_fin true m e false n d a b hx hy l k =
    like_parts _ a b (C m e n d a b hx hy) (A m e n d a b hx hy) (B m e n d a b hx hy) (mul-pos (down_pos e) (down_pos d)) (a_is m e n d a b hx hy)
    (b_is m e n d a b hx hy) l k
difference_fin false m e true n d a b hx hy l k =
    like_parts _ a b (C m e n d a b hx hy) (A m e n d a b hx hy) (B m e n d a b hx hy) (mul-pos (down_pos e) (down_pos d)) (a_is m e n d a b hx hy)
    (b_is m e n d a b hx hy) l k
difference_fin false m e false n d a b hx hy l k =
    unlike_parts _ _ a b (C m e n d a b hx hy) (A m e n d a b hx hy) (B m e n d a b hx hy) (mul-pos (down_pos e) (down_pos d)) (a_is m e n d a b hx hy)
    (b_is m e n d a b hx hy) l k

pub difference_value : (x y : Float) (v w : Signed) → Coordinate x v → Coordinate y w → (s : Bool) × HasValue (x ⊖ y) s (signed_apart v w) 64
difference_value x y v w h k = go x y h.value k.value
  where
    go : (x y : Float) → HasValue x v.negative v.size 64 → HasValue y w.negative w.size 64 → (s : Bool) × HasValue (x ⊖ y) s (signed_apart v w) 64
    go nan y p q = absurd p
    go (inf s) y p q = absurd p
    go (fin s m e) nan p q = absurd q
    go (fin s m e) (inf t) p q = absurd q
    go (fin s m e) (fin t n d) p q =
        let r = difference_fin s m e t n d v.size w.size p.1 q.1 h.small k.small in
        let e' : cond (beq s t) (gap v.size w.size) (v.size + w.size)
        ≡ signed_apart v w = ap₂ (λ (a b : Bool). cond (beq a b) (gap v.size w.size) (v.size + w.size)) p.0 q.0 in
        (r.0, subst (λ (z : ℕ). HasValue (fin s m e ⊖ fin t n d) r.0 z 64) e' r.1)

pub apart_small : (v w : Signed) → v.size ≤ 64000 → w.size ≤ 64000 → signed_apart v w ≤ 128000
apart_small v w h k = go (beq v.negative w.negative)
  where
    go : (b : Bool) → cond b (gap v.size w.size) (v.size + w.size) ≤ 128000
    go true = omega arith
    go false = omega arith

-- the square of a multiple of 1/64, before it is rounded
pub square_is : (x : Float) (s : Bool) (g : ℕ) → HasValue x s g 64 → x ⊗ x ≡ round binary32 false (g * g * 2 ^ 149) (4096 * 2 ^ 149)
unfolding mul
square_is nan s g h = absurd h
square_is (inf t) s g h = absurd h
square_is (fin t m e) s g h =
    ap (λ (b : Bool). round binary32 b (m * up e * (m * up e)) (down e * down e)) (self t)
    ∙ round_same binary32 false (m * up e * (m * up e)) (down e * down e) (g * g * 2 ^ 149) (4096 * 2 ^ 149) (mul-pos (down_pos e) (down_pos e))
    (mul-pos {m = 4096} (omega arith) (pow_pos 149))
    (crossed (m * up e) (down e) (2 ^ 149) h.1)
  where
    self : (t : Bool) → unlike t t ≡ false
    self true = refl
    self false = refl

    crossed : (p d w : ℕ) → p * 64 ≡ g * d → p * p * (4096 * w) ≡ g * g * w * (d * d)
    crossed p d w h = let i : p * 64 * (p * 64) ≡ g * d * (g * d) = ap₂ ◌*◌ h h in let j = ap (λ (z : ℕ). z * w) i in omega arith

-- nothing is rounded to nothing
pub round_zero : (c : ℕ) → 0 < c → HasValue (round binary32 false 0 c) false 0 (2 ^ 149)
round_zero c C =
    rescale (round binary32 false 0 c) false 0 64 0 (2 ^ 149) (omega arith) (none 64 (2 ^ 149)) (round_multiple false 0 c 0 C (none 64 c) (omega arith))
  where
    none : (a b : ℕ) → 0 * a ≡ 0 * b
    none a b = omega arith

-- the difference of equal numbers, on the lattice or not
equal_parts : (s t : Bool) (a b c : ℕ) → 0 < c → a ≡ b → (r : Bool) × HasValue (cond (ltb a b) (round binary32 t (b - a) c) (round binary32 s (a - b) c)) r 0 64
equal_parts s t a b c C e = go (ltb a b)
  where
    go : (x : Bool) → (r : Bool) × HasValue (cond x (round binary32 t (b - a) c) (round binary32 s (a - b) c)) r 0 64
    go true = (t, round_multiple t (b - a) c 0 C (omega arith) (omega arith))
    go false = (s, round_multiple s (a - b) c 0 C (omega arith) (omega arith))

zero_parts : (s : Bool) (a b c : ℕ) → 0 < c → a ≡ 0 → b ≡ 0 → (r : Bool) × HasValue (round binary32 s (a + b) c) r 0 64
zero_parts s a b c C e f = (s, round_multiple s (a + b) c 0 C (omega arith) (omega arith))

alike : (s t : Bool) (m : ℕ) (e : ℤ) (n : ℕ) (d : ℤ) → T (eqb (m * up e * down d) (n * up d * down e) && true)
    → (r : Bool) × HasValue
    (cond (ltb (m * up e * down d) (n * up d * down e)) (round binary32 t (n * up d * down e - m * up e * down d) (down e * down d))
    (round binary32 s (m * up e * down d - n * up d * down e) (down e * down d))) r 0 64
alike s t m e n d h =
    let a = m * up e * down d in
    let b = n * up d * down e in
    equal_parts s t a b (down e * down d) (mul-pos (down_pos e) (down_pos d)) (eqb→eq a b (and_l (eqb a b) true h))

opposite : (s : Bool) (m : ℕ) (e : ℤ) (n : ℕ) (d : ℤ) → T (eqb (m * up e * down d) (n * up d * down e) && eqb (m * up e * down d) 0)
    → (r : Bool) × HasValue (round binary32 s (m * up e * down d + n * up d * down e) (down e * down d)) r 0 64
opposite s m e n d h =
    let a = m * up e * down d in
    let b = n * up d * down e in
    let z = eqb→eq a 0 (and_r (eqb a b) (eqb a 0) h) in
    zero_parts s a b (down e * down d) (mul-pos (down_pos e) (down_pos d)) z (sym (eqb→eq a b (and_l (eqb a b) (eqb a 0) h)) ∙ z)

pub equal_value : (x y : Float) → T (finite x) → T (eq x y) → (s : Bool) × HasValue (x ⊖ y) s 0 64
unfolding eq sub add neg sum
equal_value nan y f h = absurd h
equal_value (inf s) y f h = absurd f
equal_value (fin s m e) nan f h = absurd h
equal_value (fin s m e) (inf t) f h = absurd h
equal_value (fin true m e) (fin true n d) f h = alike (true && ltb (n * up d * down e) (m * up e * down d)) false m e n d h
equal_value (fin false m e) (fin false n d) f h = alike (false && ltb (n * up d * down e) (m * up e * down d)) true m e n d h
equal_value (fin true m e) (fin false n d) f h = opposite true m e n d h
equal_value (fin false m e) (fin true n d) f h = opposite false m e n d h
