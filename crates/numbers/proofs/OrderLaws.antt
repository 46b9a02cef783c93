-- `le` and `lt` are a total order on the floats that are not a NaN, with -0 and +0 level, and on those of a format that
-- are `unsigned` the order's equality is that of data. A finite float is (`plus` - `minus`) / `den`, where one of the
-- two is 0: so the order of finite floats of any sign is one of fractions. Assumes nothing.
use mathlib.Core.Path.{◌≡◌, refl, sym, ap, ◌∙◌, subst}
use mathlib.Core.Logic.{◌⊎◌, inl, inr}
use Prim.Native.Nat.{ℕ, suc, ◌+◌, ◌-◌, ◌*◌, ◌/◌, ◌^◌, ◌≤◌, ◌<◌}
use native.Mathlib.Nat.{zero-mul, mul_right_comm, mul-le-mul_right, le_of_mul-le-mul_right, eq_of_mul-eq-mul_right}
use native.Mathlib.Omega.{arith}
use native.Mathlib.Decide.{dec_le}
use mathlib.Core.Bool.{Bool, true, false, not, ◌||◌, beq, cond}
use lib.IntN.{ℤ, pos}
use lib.Dec.{T, eqb, ltb→lt, lt→ltb, eqb→eq, T_not}
use lib.Ieee.{Float, nan, inf, fin, Format, low, up, down, below, level, lt, eq, le, fits, is_nan, of_bits, to_bits, hid, ones, size, prec}
use lib.Ieee.Fits.{and_i, and_l, and_r, eq→eqb, down_pos}
use lib.Ieee.Bits.{of_bits-to_bits}
use lib.Ieee.Nearest.{div_same}
use lib.Ieee.Exact.{HasValue}
use lib.Ieee.Scale.{finite}
use lib.Ieee.Positive.{den, den_pos}
use Rattle.numbers.specs.Rounded.{f32}
use Rattle.numbers.specs.Inner.Bounds.{unsigned}

-- ---- tests

or_l : (a b : Bool) → T a → T (a || b)
or_l true b t = tt
or_l false b t = absurd t

or_r : (a b : Bool) → T b → T (a || b)
or_r true b t = tt
or_r false b t = t

or_split : (a b : Bool) → T (a || b) → T a ⊎ T b
or_split true b t = inl tt
or_split false b t = inr t

-- ---- a finite float's parts

-- its size over `den` if it has no minus sign, and 0 otherwise
abbrev pub plus : Float → ℕ
plus nan = 0
plus (inf s) = 0
plus (fin s m e) = cond s 0 (m * up e)

-- its size over `den` if it has a minus sign, and 0 otherwise
abbrev pub minus : Float → ℕ
minus nan = 0
minus (inf s) = 0
minus (fin s m e) = cond s (m * up e) 0

-- ±a and ±b compared
below→cross : (s : Bool) (a : ℕ) (t : Bool) (b : ℕ) → T (below s a t b) → cond s 0 a + cond t b 0 < cond t 0 b + cond s a 0
below→cross false a false b h = let k = ltb→lt a b h in omega arith
below→cross false a true b h = absurd h
below→cross true a false b h = let k = ltb→lt 0 (a + b) h in omega arith
below→cross true a true b h = let k = ltb→lt b a h in omega arith

cross→below : (s : Bool) (a : ℕ) (t : Bool) (b : ℕ) → cond s 0 a + cond t b 0 < cond t 0 b + cond s a 0 → T (below s a t b)
cross→below false a false b h = lt→ltb a b (omega arith)
cross→below false a true b h = absurd (omega arith)
cross→below true a false b h = lt→ltb 0 (a + b) (omega arith)
cross→below true a true b h = lt→ltb b a (omega arith)

level→cross : (s : Bool) (a : ℕ) (t : Bool) (b : ℕ) → T (level s a t b) → cond s 0 a + cond t b 0 ≡ cond t 0 b + cond s a 0
level→cross s a t b h = go s t (eqb→eq a b (and_l (eqb a b) _ h)) (or_split (beq s t) (eqb a 0) (and_r (eqb a b) _ h))
  where
    go : (s t : Bool) → a ≡ b → T (beq s t) ⊎ T (eqb a 0) → cond s 0 a + cond t b 0 ≡ cond t 0 b + cond s a 0
    go false false e k = omega arith
    go true true e k = omega arith
    go false true e (inl k) = absurd k
    go false true e (inr k) = let z = eqb→eq a 0 k in omega arith
    go true false e (inl k) = absurd k
    go true false e (inr k) = let z = eqb→eq a 0 k in omega arith

cross→level : (s : Bool) (a : ℕ) (t : Bool) (b : ℕ) → cond s 0 a + cond t b 0 ≡ cond t 0 b + cond s a 0 → T (level s a t b)
cross→level false a false b h = let e : a ≡ b = omega arith in and_i (eqb a b) true (eq→eqb e) tt
cross→level true a true b h = let e : a ≡ b = omega arith in and_i (eqb a b) true (eq→eqb e) tt
cross→level false a true b h = let e : a ≡ b = omega arith in let z : a ≡ 0 = omega arith in and_i (eqb a b) (eqb a 0) (eq→eqb e) (eq→eqb z)
cross→level true a false b h = let e : a ≡ b = omega arith in let z : a ≡ 0 = omega arith in and_i (eqb a b) (eqb a 0) (eq→eqb e) (eq→eqb z)

pub plus_mul : (s : Bool) (a k : ℕ) → cond s 0 (a * k) ≡ cond s 0 a * k
plus_mul true a k = sym (zero-mul k)
plus_mul false a k = refl

pub minus_mul : (s : Bool) (a k : ℕ) → cond s (a * k) 0 ≡ cond s a 0 * k
minus_mul true a k = refl
minus_mul false a k = sym (zero-mul k)

-- a claim about two finite floats
pub of_finite : (P : Float → Float → Type 0) → ((s : Bool) (m : ℕ) (e : ℤ) (t : Bool) (n : ℕ) (d : ℤ) → P (fin s m e) (fin t n d)) → (x y : Float)
    → T (finite x) → T (finite y) → P x y
of_finite P h nan y f g = absurd f
of_finite P h (inf s) y f g = absurd f
of_finite P h (fin s m e) nan f g = absurd g
of_finite P h (fin s m e) (inf t) f g = absurd g
of_finite P h (fin s m e) (fin t n d) f g = h s m e t n d

-- x compares with y as `side x y` with `side y x`
abbrev pub side : Float → Float → ℕ
side x y = plus x * den y + minus y * den x

side_is : (s : Bool) (m : ℕ) (e : ℤ) (t : Bool) (n : ℕ) (d : ℤ) → cond s 0 (m * up e * down d) + cond t (n * up d * down e) 0 ≡ side (fin s m e) (fin t n d)
side_is s m e t n d =
    ap (λ (k : ℕ). k + cond t (n * up d * down e) 0) (plus_mul s (m * up e) (down d)) ∙ ap (λ (k : ℕ). cond s 0 (m * up e) * down d + k)
    (minus_mul t (n * up d) (down e))

pub lt→side : (x y : Float) → T (finite x) → T (finite y) → T (lt x y) → side x y < side y x
unfolding lt
lt→side =
    of_finite (λ x y. T (lt x y) → side x y < side y x)
    (λ s m e t n d h. let k = below→cross s (m * up e * down d) t (n * up d * down e) h in omega (arith, side_is s m e t n d, side_is t n d s m e))

pub side→lt : (x y : Float) → T (finite x) → T (finite y) → side x y < side y x → T (lt x y)
unfolding lt
side→lt =
    of_finite (λ x y. side x y < side y x → T (lt x y))
    (λ s m e t n d h. cross→below s (m * up e * down d) t (n * up d * down e) (omega (arith, side_is s m e t n d, side_is t n d s m e)))

eq→side : (x y : Float) → T (finite x) → T (finite y) → T (eq x y) → side x y ≡ side y x
unfolding eq
eq→side =
    of_finite (λ x y. T (eq x y) → side x y ≡ side y x)
    (λ s m e t n d h. let k = level→cross s (m * up e * down d) t (n * up d * down e) h in omega (arith, side_is s m e t n d, side_is t n d s m e))

side→eq : (x y : Float) → T (finite x) → T (finite y) → side x y ≡ side y x → T (eq x y)
unfolding eq
side→eq =
    of_finite (λ x y. side x y ≡ side y x → T (eq x y))
    (λ s m e t n d h. cross→level s (m * up e * down d) t (n * up d * down e) (omega (arith, side_is s m e t n d, side_is t n d s m e)))

pub le→side : (x y : Float) → T (finite x) → T (finite y) → T (le x y) → side x y ≤ side y x
unfolding le
le→side x y f g h = elim (or_split (lt x y) (eq x y) h) [ inl k ↦ omega (arith, lt→side x y f g k) | inr k ↦ omega (arith, eq→side x y f g k) ]

pub side→le : (x y : Float) → T (finite x) → T (finite y) → side x y ≤ side y x → T (le x y)
unfolding le
side→le x y f g h = go (dec_le (side y x) (side x y))
  where
    go : Dec (side y x ≤ side x y) → T (lt x y || eq x y)
    go (yes k) = or_r (lt x y) (eq x y) (side→eq x y f g (omega arith))
    go (no k) = or_l (lt x y) (eq x y) (side→lt x y f g (omega arith))

-- ---- the order of all floats

pub finite_number : (x : Float) → T (finite x) → T (not (is_nan x))
unfolding is_nan
finite_number nan f = f
finite_number (inf s) f = tt
finite_number (fin s m e) f = tt

-- what is compared is not a NaN
pub le_left : (x y : Float) → T (le x y) → T (not (is_nan x))
unfolding le is_nan
le_left nan y h = h
le_left (inf s) y h = tt
le_left (fin s m e) y h = tt

pub le_right : (x y : Float) → T (le x y) → T (not (is_nan y))
unfolding le is_nan
le_right nan y h = absurd h
le_right (inf s) nan h = h
le_right (fin s m e) nan h = h
le_right (inf s) (inf t) h = tt
le_right (fin s m e) (inf t) h = tt
le_right (inf s) (fin t n d) h = tt
le_right (fin s m e) (fin t n d) h = tt

pub lt_le : (x y : Float) → T (lt x y) → T (le x y)
unfolding le
lt_le x y t = or_l (lt x y) (eq x y) t

pub le_or_lt : (x y : Float) → T (not (is_nan x)) → T (not (is_nan y)) → T (le x y) ⊎ T (lt y x)
unfolding le is_nan
le_or_lt nan y f g = absurd f
le_or_lt (inf s) nan f g = absurd g
le_or_lt (fin s m e) nan f g = absurd g
le_or_lt (inf true) (inf true) f g = inl tt
le_or_lt (inf true) (inf false) f g = inl tt
le_or_lt (inf false) (inf true) f g = inr tt
le_or_lt (inf false) (inf false) f g = inl tt
le_or_lt (inf true) (fin t n d) f g = inl tt
le_or_lt (inf false) (fin t n d) f g = inr tt
le_or_lt (fin s m e) (inf true) f g = inr tt
le_or_lt (fin s m e) (inf false) f g = inl tt
le_or_lt (fin s m e) (fin t n d) f g = go (dec_le (side (fin s m e) (fin t n d)) (side (fin t n d) (fin s m e)))
  where
    go : Dec (side (fin s m e) (fin t n d) ≤ side (fin t n d) (fin s m e)) → T (le (fin s m e) (fin t n d)) ⊎ T (lt (fin t n d) (fin s m e))
    go (yes k) = inl (side→le (fin s m e) (fin t n d) tt tt k)
    go (no k) = inr (side→lt (fin t n d) (fin s m e) tt tt (omega arith))

pub le_not_lt : (x y : Float) → T (le x y) → T (lt y x) → ⊥
unfolding le
le_not_lt nan y h k = h
le_not_lt (inf s) nan h k = h
le_not_lt (fin s m e) nan h k = h
le_not_lt (inf true) (inf true) h k = k
le_not_lt (inf true) (inf false) h k = k
le_not_lt (inf false) (inf true) h k = h
le_not_lt (inf false) (inf false) h k = k
le_not_lt (inf true) (fin t n d) h k = k
le_not_lt (inf false) (fin t n d) h k = h
le_not_lt (fin s m e) (inf true) h k = h
le_not_lt (fin s m e) (inf false) h k = k
le_not_lt (fin s m e) (fin t n d) h k = omega (arith, le→side (fin s m e) (fin t n d) tt tt h, lt→side (fin t n d) (fin s m e) tt tt k)

pub not_le_lt : (x y : Float) → T (not (is_nan x)) → T (not (is_nan y)) → T (not (le x y)) → T (lt y x)
not_le_lt x y f g h = elim (le_or_lt x y f g) [ inl k ↦ absurd (T_not (le x y) h k) | inr k ↦ k ]

pub not_lt_le : (x y : Float) → T (not (is_nan x)) → T (not (is_nan y)) → T (not (lt x y)) → T (le y x)
not_lt_le x y f g h = elim (le_or_lt y x g f) [ inl k ↦ k | inr k ↦ absurd (T_not (lt x y) h k) ]

pub le_refl : (x : Float) → T (not (is_nan x)) → T (le x x)
le_refl x f = elim (le_or_lt x x f f) [ inl k ↦ k | inr k ↦ lt_le x x k ]

-- the infinities are at the ends
pub bottom_le : (x : Float) → T (not (is_nan x)) → T (le (inf true) x)
unfolding le is_nan
bottom_le nan f = f
bottom_le (inf true) f = tt
bottom_le (inf false) f = tt
bottom_le (fin s m e) f = tt

pub le_top : (x : Float) → T (not (is_nan x)) → T (le x (inf false))
unfolding le is_nan
le_top nan f = f
le_top (inf true) f = tt
le_top (inf false) f = tt
le_top (fin s m e) f = tt

pub top_le : (x : Float) → T (le (inf false) x) → x ≡ inf false
unfolding le
top_le nan h = absurd h
top_le (inf true) h = absurd h
top_le (inf false) h = refl
top_le (fin s m e) h = absurd h

finite_trans : (x y z : Float) → T (finite x) → T (finite y) → T (finite z) → T (le x y) → T (le y z) → T (le x z)
finite_trans x y z f g k p q =
    side→le x z f k (through (plus x) (minus x) (den x) (plus y) (minus y) (den y) (plus z) (minus z) (den z) (den_pos y) (le→side x y f g p)
    (le→side y z g k q))
  where
    through : (p n d q o c r l b : ℕ) → 0 < c → p * c + o * d ≤ q * d + n * c → q * b + l * c ≤ r * c + o * b → p * b + l * d ≤ r * d + n * b
    through p n d q o c r l b C h k =
        let i : (p * c + o * d) * b ≤ (q * d + n * c) * b = mul-le-mul_right b h in
        let j : (q * b + l * c) * d ≤ (r * c + o * b) * d = mul-le-mul_right d k in
        let z : (p * b + l * d) * c ≤ (r * d + n * b) * c = omega arith in
        le_of_mul-le-mul_right z C

pub le_trans : (x y z : Float) → T (le x y) → T (le y z) → T (le x z)
unfolding le
le_trans nan y z p q = absurd p
le_trans (inf true) y z p q = bottom_le z (le_right y z q)
le_trans (inf false) y z p q = subst (λ (w : Float). T (le w z)) (top_le y p) q
le_trans (fin s m e) nan z p q = absurd p
le_trans (fin s m e) (inf true) z p q = absurd p
le_trans (fin s m e) (inf false) z p q = subst (λ (w : Float). T (le (fin s m e) w)) (sym (top_le z q)) tt
le_trans (fin s m e) (fin t n d) nan p q = absurd q
le_trans (fin s m e) (fin t n d) (inf true) p q = absurd q
le_trans (fin s m e) (fin t n d) (inf false) p q = tt
le_trans (fin s m e) (fin t n d) (fin u k c) p q = finite_trans (fin s m e) (fin t n d) (fin u k c) tt tt tt p q

pub lt_le_trans : (x y z : Float) → T (lt x y) → T (le y z) → T (lt x z)
lt_le_trans x y z p q = elim (le_or_lt z x (le_right y z q) (le_left x y (lt_le x y p))) [ inl k ↦ absurd (le_not_lt y x (le_trans y z x q k) p) | inr k ↦ k ]

pub le_lt_trans : (x y z : Float) → T (le x y) → T (lt y z) → T (lt x z)
le_lt_trans x y z p q = elim (le_or_lt z x (le_right y z (lt_le y z q)) (le_left x y p)) [ inl k ↦ absurd (le_not_lt z y (le_trans z x y k p) q) | inr k ↦ k ]

-- ---- +0 and up

pub unsigned_number_lem : (x : Float) → T (unsigned x) → T (not (is_nan x))
unfolding is_nan
unsigned_number_lem nan u = u
unsigned_number_lem (inf s) u = tt
unsigned_number_lem (fin s m e) u = tt

pub unsigned_le : (x : Float) → T (unsigned x) → T (le (f32 0) x)
unfolding le of_bits
unsigned_le nan u = u
unsigned_le (inf true) u = u
unsigned_le (inf false) u = tt
unsigned_le (fin true m e) u = absurd u
unsigned_le (fin false m e) u = side→le (fin false 0 (pos 0)) (fin false m e) tt tt (omega arith)

pub positive_unsigned : (x : Float) → T (lt (f32 0) x) → T (unsigned x)
unfolding lt of_bits
positive_unsigned nan h = h
positive_unsigned (inf s) h = h
positive_unsigned (fin true m e) h = h
positive_unsigned (fin false m e) h = tt

pub nothing_below : (d : ℤ) → T (lt (f32 0) (fin false 0 d)) → ⊥
unfolding of_bits
nothing_below d p = omega (arith, lt→side (f32 0) (fin false 0 d) tt tt p)

-- ---- a format has one float for a number and a sign: how many of its smallest units it is gives the bits

same_bits : (f : Format) (s : Bool) (m : ℕ) (e : ℤ) (n : ℕ) (d : ℤ) → m * up e * down d ≡ n * up d * down e → to_bits f (fin s m e) ≡ to_bits f (fin s n d)
unfolding to_bits
same_bits f s m e n d h =
    let l = 2 ^ low f in
    let k : m * up e * l / down e ≡ n * up d * l / down d =
    div_same (m * up e * l) (down e) (n * up d * l) (down d) (down_pos e) (down_pos d)
    (mul_right_comm (m * up e) l (down d) ∙ ap (λ (a : ℕ). a * l) h ∙ mul_right_comm (n * up d) (down e) l) in
    ap (λ (a : ℕ). let b = size a - prec f in cond s (hid f * suc (ones f)) 0 + b * hid f + a / 2 ^ b) k

same_number : (f : Format) (s : Bool) (m : ℕ) (e : ℤ) (n : ℕ) (d : ℤ) → T (fits f (fin s m e)) → T (fits f (fin s n d)) → m * up e * down d ≡ n * up d * down e
    → fin s m e ≡ fin s n d
same_number f s m e n d p q h = sym (of_bits-to_bits f (fin s m e) p) ∙ ap (of_bits f) (same_bits f s m e n d h) ∙ of_bits-to_bits f (fin s n d) q

pub value_unique : (f : Format) (x y : Float) (s : Bool) (a c : ℕ) → 0 < c → T (fits f x) → T (fits f y) → HasValue x s a c → HasValue y s a c → x ≡ y
value_unique f nan y s a c C p q v w = absurd v
value_unique f (inf t) y s a c C p q v w = absurd v
value_unique f (fin t m e) nan s a c C p q v w = absurd w
value_unique f (fin t m e) (inf u) s a c C p q v w = absurd w
value_unique f (fin t m e) (fin u n d) s a c C p q v w =
    ap (λ (b : Bool). fin b m e) v.0
    ∙ same_number f s m e n d (subst (λ (b : Bool). T (fits f (fin b m e))) v.0 p) (subst (λ (b : Bool). T (fits f (fin b n d))) w.0 q) cross
    ∙ ap (λ (b : Bool). fin b n d) (sym w.0)
  where
    cross : m * up e * down d ≡ n * up d * down e
    cross =
        let i = ap (λ (k : ℕ). k * down d) v.1 in
        let j = ap (λ (k : ℕ). k * down e) w.1 in
        eq_of_mul-eq-mul_right c C (m * up e * down d) (n * up d * down e) (omega arith)

pub le_antisymmetric : (f : Format) (x y : Float) → T (fits f x) → T (fits f y) → T (unsigned x) → T (unsigned y) → T (le x y) → T (le y x) → x ≡ y
unfolding le
le_antisymmetric f nan y p q u v h k = absurd u
le_antisymmetric f (inf true) y p q u v h k = absurd u
le_antisymmetric f (inf false) y p q u v h k = sym (top_le y h)
le_antisymmetric f (fin true m e) y p q u v h k = absurd u
le_antisymmetric f (fin false m e) nan p q u v h k = absurd v
le_antisymmetric f (fin false m e) (inf true) p q u v h k = absurd v
le_antisymmetric f (fin false m e) (inf false) p q u v h k = absurd k
le_antisymmetric f (fin false m e) (fin true n d) p q u v h k = absurd v
le_antisymmetric f (fin false m e) (fin false n d) p q u v h k =
    let i = le→side (fin false m e) (fin false n d) tt tt h in
    let j = le→side (fin false n d) (fin false m e) tt tt k in
    same_number f false m e n d p q (omega arith)
