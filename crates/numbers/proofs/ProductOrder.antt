-- An f32 product keeps the order in a factor where the other is not below 0 (`mul_monotone`), and a square keeps the
-- order of magnitudes (`square_monotone`, `square_antitone`, `square_beyond`). The square of a difference is the same
-- both ways (`square_turned`). Assumes nothing.
use mathlib.Core.Path.{◌≡◌, refl, sym, ap, ◌∙◌, subst}
use mathlib.Core.Logic.{◌⊎◌, inl, inr}
use Prim.Native.Nat.{ℕ, ◌+◌, ◌*◌, ◌≤◌}
use native.Mathlib.Nat.{add-mul, mul_comm, mul-pos, mul-le-mul, mul-le-mul_right, mul-mul-mul_comm, zero-mul, eq_of_mul-eq-mul_right}
use native.Mathlib.Omega.{arith}
use mathlib.Core.Bool.{Bool, true, false, not, cond}
use lib.Dec.{T, eqb}
use lib.Ieee.{Float, nan, inf, fin, binary32, unlike, up, down, round, neg, add, sub, mul, lt, le, of_bits, is_nan}
use lib.Ieee.Fits.{eq→eqb, up_pos, down_pos}
use lib.Ieee.Order.{round_mono}
use lib.Ieee.Scale.{finite}
use lib.Ieee.Positive.{num, den, den_pos}
use Rattle.numbers.specs.Rounded.{f32, ◌⊖◌, ◌⊗◌}
use Rattle.numbers.proofs.OrderLaws.{plus, minus, side, le→side, of_finite, finite_number, le_refl, le_right, le_or_lt, le_not_lt, lt_le, le_trans}
use Rattle.numbers.proofs.OrderLaws.{le_top, bottom_le, top_le}
use Rattle.numbers.specs.Inner.Bounds.{unsigned}
use Rattle.numbers.proofs.RoundedOrder.{Rounds, above, under, round_unsigned, neg_le, rounds_le, rounds_nonpositive, round_number, rounds_turned}
use Rattle.numbers.proofs.RoundedOrder.{minus_zero_le, nonnegative_minus, nonnegative_plus}
use Rattle.numbers.proofs.SumOrder.{rounds_sub, sub_monotone, sub_nonnegative, sub_nonpositive}

-- ---- the product with a number that is not below 0

rounds_scaled : (x c : Float) → T (finite x) → T (finite c) → T (le (f32 0) c) → Rounds (x ⊗ c) (plus x * plus c) (minus x * plus c) (den x * den c)
unfolding mul
rounds_scaled nan c f g h = absurd f
rounds_scaled (inf s) c f g h = absurd f
rounds_scaled (fin s m e) nan f g h = absurd g
rounds_scaled (fin s m e) (inf t) f g h = absurd g
rounds_scaled (fin true m e) (fin false n d) f g h =
    let z : m * up e * (n * up d) ≡ 0 * (n * up d) + m * up e * (n * up d) = omega arith in under (m * up e * (n * up d)) z refl
rounds_scaled (fin false m e) (fin false n d) f g h =
    let z : m * up e * (n * up d) ≡ 0 * (n * up d) + m * up e * (n * up d) = omega arith in above (m * up e * (n * up d)) z refl
rounds_scaled (fin true m e) (fin true n d) f g h =
    let z : m * up e * (n * up d) ≡ m * up e * 0 = ap (λ (k : ℕ). m * up e * k) (nonnegative_minus (fin true n d) tt h) in
    let w : 0 * 0 ≡ m * up e * 0 + m * up e * (n * up d) = omega arith in
    above (m * up e * (n * up d)) w refl
rounds_scaled (fin false m e) (fin true n d) f g h =
    let z : m * up e * (n * up d) ≡ m * up e * 0 = ap (λ (k : ℕ). m * up e * k) (nonnegative_minus (fin true n d) tt h) in
    let w : 0 * 0 ≡ m * up e * 0 + m * up e * (n * up d) = omega arith in
    under (m * up e * (n * up d)) w refl

pub mul_monotone_finite : (x y c : Float) → T (finite x) → T (finite y) → T (finite c) → T (le x y) → T (le (f32 0) c) → T (le (x ⊗ c) (y ⊗ c))
mul_monotone_finite x y c f g k h z =
    rounds_le (mul-pos (den_pos x) (den_pos c)) (mul-pos (den_pos y) (den_pos c)) (rounds_scaled x c f k z) (rounds_scaled y c g k z)
    (go (plus x) (minus x) (den x) (plus y) (minus y) (den y) (plus c) (den c) (le→side x y f g h))
  where
    go : (p n d q o e k c : ℕ) → p * e + o * d ≤ q * d + n * e → p * k * (e * c) + o * k * (d * c) ≤ q * k * (d * c) + n * k * (e * c)
    go p n d q o e k c h =
        rw (mul-mul-mul_comm p k e c, mul-mul-mul_comm o k d c, mul-mul-mul_comm q k d c, mul-mul-mul_comm n k e c, ← add-mul (p * e), ← add-mul (q * d))
        (mul-le-mul_right (k * c) h)

-- a number that is not above 0, times one that is not below it
pub mul_nonpositive : (x c : Float) → T (finite x) → T (finite c) → T (le x (f32 0)) → T (le (f32 0) c) → T (le (x ⊗ c) (f32 0))
unfolding of_bits
mul_nonpositive x c f g h z =
    let k : plus x ≤ minus x = omega (arith, le→side x (f32 0) f tt h) in
    rounds_nonpositive (mul-pos (den_pos x) (den_pos c)) (rounds_scaled x c f g z) (mul-le-mul_right (plus c) k)

-- an infinity stays, where the product is not a NaN
inf_scaled : (s : Bool) (c : Float) → T (finite c) → T (le (f32 0) c) → T (not (is_nan (inf s ⊗ c))) → inf s ⊗ c ≡ inf s
unfolding mul is_nan
inf_scaled s nan f z k = absurd f
inf_scaled s (inf t) f z k = absurd f
inf_scaled s (fin false n d) f z k = go s (eqb n 0) k
  where
    go : (s b : Bool) → T (not (is_nan (cond b nan (inf (unlike s false))))) → cond b nan (inf (unlike s false)) ≡ inf s
    go s true k = absurd k
    go true false k = refl
    go false false k = refl
inf_scaled s (fin true n d) f z k = go (eqb n 0) (eq→eqb none) k
  where
    none : n ≡ 0
    none = eq_of_mul-eq-mul_right (up d) (up_pos d) n 0 (nonnegative_minus (fin true n d) tt z ∙ sym (zero-mul (up d)))

    go : (b : Bool) → T b → T (not (is_nan (cond b nan (inf (unlike s true))))) → cond b nan (inf (unlike s true)) ≡ inf s
    go true t k = absurd k
    go false t k = absurd t

pub mul_monotone : (x y c : Float) → T (finite c) → T (le x y) → T (le (f32 0) c) → T (not (is_nan (x ⊗ c))) → T (not (is_nan (y ⊗ c))) → T (le (x ⊗ c) (y ⊗ c))
mul_monotone nan y c f h z i j = absurd (unfold le in h)
mul_monotone (inf true) y c f h z i j = rw (inf_scaled true c f z i) (bottom_le (y ⊗ c) j)
mul_monotone (inf false) y c f h z i j = subst (λ (w : Float). T (le (inf false ⊗ c) (w ⊗ c))) (sym (top_le y h)) (le_refl (inf false ⊗ c) i)
mul_monotone (fin s m e) nan c f h z i j = absurd (unfold le in h)
mul_monotone (fin s m e) (inf true) c f h z i j = absurd (unfold le in h)
mul_monotone (fin s m e) (inf false) c f h z i j = rw (inf_scaled false c f z j) (le_top (fin s m e ⊗ c) i)
mul_monotone (fin s m e) (fin t n d) c f h z i j = mul_monotone_finite (fin s m e) (fin t n d) c tt tt f h z

-- with finite factors there is no NaN
pub mul_number : (x c : Float) → T (finite x) → T (finite c) → T (not (is_nan (x ⊗ c)))
mul_number =
    of_finite (λ x c. T (not (is_nan (x ⊗ c))))
    (λ s m e t n d. unfold mul in round_number (unlike s t) (m * up e * (n * up d)) (down e * down d) (mul-pos (down_pos e) (down_pos d)))

unlike_swap : (s t : Bool) → unlike s t ≡ unlike t s
unlike_swap true true = refl
unlike_swap true false = refl
unlike_swap false true = refl
unlike_swap false false = refl

nan_product : (c : Float) → T (lt (f32 0) (nan ⊗ c)) → ⊥
unfolding mul lt of_bits
nan_product nan h = h
nan_product (inf s) h = h
nan_product (fin s m e) h = h

-- a factor is above 0 if the product is, and the other is not below 0
pub factor_above : (y c : Float) → T (finite c) → T (le (f32 0) c) → T (lt (f32 0) (y ⊗ c)) → T (lt (f32 0) y)
factor_above y c f z h = go y (number y h) (le_or_lt y (f32 0) (number y h) (finite_number (f32 0) (unfold of_bits in tt))) h
  where
    number : (y : Float) → T (lt (f32 0) (y ⊗ c)) → T (not (is_nan y))
    number nan h = absurd (nan_product c h)
    number (inf s) h = unfold is_nan in tt
    number (fin s m e) h = unfold is_nan in tt

    go : (y : Float) → T (not (is_nan y)) → T (le y (f32 0)) ⊎ T (lt (f32 0) y) → T (lt (f32 0) (y ⊗ c)) → T (lt (f32 0) y)
    go y n (inr k) h = k
    go y n (inl k) h =
        let m = mul_monotone y (f32 0) c f k z (le_right (f32 0) (y ⊗ c) (lt_le (f32 0) (y ⊗ c) h)) (mul_number (f32 0) c (unfold of_bits in tt) f) in
        let o = mul_nonpositive (f32 0) c (unfold of_bits in tt) f (le_refl (f32 0) (finite_number (f32 0) (unfold of_bits in tt))) z in
        absurd (le_not_lt (y ⊗ c) (f32 0) (le_trans (y ⊗ c) (f32 0 ⊗ c) (f32 0) m o) h)

pub mul_commutative : (x y : Float) → x ⊗ y ≡ y ⊗ x
unfolding mul
mul_commutative nan nan = refl
mul_commutative nan (inf t) = refl
mul_commutative nan (fin t n d) = refl
mul_commutative (inf s) nan = refl
mul_commutative (inf s) (inf t) = ap inf (unlike_swap s t)
mul_commutative (inf s) (fin t n d) = ap (λ (b : Bool). cond (eqb n 0) nan (inf b)) (unlike_swap s t)
mul_commutative (fin s m e) nan = refl
mul_commutative (fin s m e) (inf t) = ap (λ (b : Bool). cond (eqb m 0) nan (inf b)) (unlike_swap s t)
mul_commutative (fin s m e) (fin t n d) =
    ap (λ (b : Bool). round binary32 b (m * up e * (n * up d)) (down e * down d)) (unlike_swap s t)
    ∙ ap (λ (k : ℕ). round binary32 (unlike t s) k (down e * down d)) (mul_comm (m * up e) (n * up d))
    ∙ ap (λ (k : ℕ). round binary32 (unlike t s) (n * up d * (m * up e)) k) (mul_comm (down e) (down d))

-- ---- squares

square_is : (x : Float) → T (finite x) → x ⊗ x ≡ round binary32 false (num x * num x) (den x * den x)
unfolding mul
square_is nan f = absurd f
square_is (inf s) f = absurd f
square_is (fin true m e) f = refl
square_is (fin false m e) f = refl

pub square_neg : (x : Float) → neg x ⊗ neg x ≡ x ⊗ x
unfolding mul neg
square_neg nan = refl
square_neg (inf true) = refl
square_neg (inf false) = refl
square_neg (fin true m e) = refl
square_neg (fin false m e) = refl

pub square_unsigned : (x : Float) → T (not (is_nan x)) → T (unsigned (x ⊗ x))
unfolding mul is_nan
square_unsigned nan h = h
square_unsigned (inf true) h = tt
square_unsigned (inf false) h = tt
square_unsigned (fin true m e) h = round_unsigned binary32 (m * up e * (m * up e)) (down e * down e)
square_unsigned (fin false m e) h = round_unsigned binary32 (m * up e * (m * up e)) (down e * down e)

finite_square : (x y : Float) → T (finite x) → T (finite y) → T (le (f32 0) x) → T (le x y) → T (le (x ⊗ x) (y ⊗ y))
finite_square x y f g z h =
    let w = le_trans (f32 0) x y z h in
    let i = rw (nonnegative_plus x f z, nonnegative_plus y g w, nonnegative_minus x f z, nonnegative_minus y g w) at (le→side x y f g h) in
    let c : num x * den y ≤ num y * den x = omega arith in
    rw (square_is x f, square_is y g)
    (round_mono binary32 (num x * num x) (den x * den x) (num y * num y) (den y * den y) (mul-pos (den_pos x) (den_pos x)) (mul-pos (den_pos y) (den_pos y))
    (rw (mul-mul-mul_comm (num x) (num x) (den y) (den y), mul-mul-mul_comm (num y) (num y) (den x) (den x)) (mul-le-mul c c)))

pub square_monotone : (x y : Float) → T (le (f32 0) x) → T (le x y) → T (le (x ⊗ x) (y ⊗ y))
square_monotone nan y z h = absurd (unfold le in h)
square_monotone (inf true) y z h = absurd (unfold le of_bits in z)
square_monotone (inf false) y z h = subst (λ (w : Float). T (le (inf false ⊗ inf false) (w ⊗ w))) (sym (top_le y h)) (unfold le mul in tt)
square_monotone (fin s m e) nan z h = absurd (unfold le in h)
square_monotone (fin s m e) (inf true) z h = absurd (unfold le in h)
square_monotone (fin s m e) (inf false) z h = unfold mul in le_top (fin s m e ⊗ fin s m e) (mul_number (fin s m e) (fin s m e) tt tt)
square_monotone (fin s m e) (fin t n d) z h = finite_square (fin s m e) (fin t n d) tt tt z h

pub square_antitone : (x y : Float) → T (le x (f32 0)) → T (le y x) → T (le (x ⊗ x) (y ⊗ y))
square_antitone x y z h =
    let w : T (le (f32 0) (neg x)) = le_trans (f32 0) (neg (f32 0)) (neg x) minus_zero_le.1 (neg_le x (f32 0) z) in
    rw (square_neg x, square_neg y) at (square_monotone (neg x) (neg y) w (neg_le y x h))

pub square_swap : (x y : Float) → T (finite x) → T (finite y) → (x ⊖ y) ⊗ (x ⊖ y) ≡ (y ⊖ x) ⊗ (y ⊖ x)
square_swap x y f g =
    let r : Rounds (y ⊖ x) (side y x) (side x y) (den x * den y) = rw (mul_comm (den x) (den y)) (rounds_sub y x g f) in
    elim (rounds_turned (rounds_sub x y f g) r) [
      | inl e ↦ ap (λ (z : Float). z ⊗ z) e
      | inr e ↦ ap (λ (z : Float). z ⊗ z) e ∙ square_neg (y ⊖ x)
    ]

-- the same of all floats
pub square_turned : (x y : Float) → (x ⊖ y) ⊗ (x ⊖ y) ≡ (y ⊖ x) ⊗ (y ⊖ x)
square_turned nan nan = refl
square_turned nan (inf t) = unfold sub add neg mul in refl
square_turned nan (fin t n d) = unfold sub add neg mul in refl
square_turned (inf s) nan = unfold sub add neg mul in refl
square_turned (inf true) (inf true) = refl
square_turned (inf true) (inf false) = unfold sub add neg mul in refl
square_turned (inf false) (inf true) = unfold sub add neg mul in refl
square_turned (inf false) (inf false) = refl
square_turned (inf true) (fin t n d) = unfold sub add neg mul in refl
square_turned (inf false) (fin t n d) = unfold sub add neg mul in refl
square_turned (fin s m e) nan = unfold sub add neg mul in refl
square_turned (fin s m e) (inf true) = unfold sub add neg mul in refl
square_turned (fin s m e) (inf false) = unfold sub add neg mul in refl
square_turned (fin s m e) (fin t n d) = square_swap (fin s m e) (fin t n d) tt tt

-- farther from a on the same side, by a difference
pub square_beyond : (a h p : Float) → T (finite a) → T (finite h) → T (finite p) → (T (le a h) × T (le h p)) ⊎ (T (le h a) × T (le p h))
    → T (le ((h ⊖ a) ⊗ (h ⊖ a)) ((p ⊖ a) ⊗ (p ⊖ a)))
square_beyond a h p f g k (inl o) = square_monotone (h ⊖ a) (p ⊖ a) (sub_nonnegative h a g f o.0) (sub_monotone h p a g k f o.1)
square_beyond a h p f g k (inr o) = square_antitone (h ⊖ a) (p ⊖ a) (sub_nonpositive h a g f o.0) (sub_monotone p h a k g f o.1)
