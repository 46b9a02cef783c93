-- f32 sums and differences of finite numbers keep the order, in each argument (`add_monotone`, `sub_monotone`,
-- `sub_antitone`), and a sum of f32 that are not below 0, +infinity included, is at least each of them. Infinities
-- included, a sum keeps the order in its first argument unless it is a NaN (`add_monotone_left`). Assumes nothing.
use mathlib.Core.Path.{◌≡◌, refl, sym, ap, ◌∙◌, subst}
use mathlib.Core.Logic.{◌⊎◌, inl, inr}
use Prim.Native.Nat.{ℕ, ◌+◌, ◌-◌, ◌*◌, ◌≤◌, ◌<◌}
use native.Mathlib.Nat.{add_comm, add-mul, mul_comm, mul-pos, mul-le-mul_right, mul-mul-mul_comm}
use native.Mathlib.Omega.{arith}
use mathlib.Core.Bool.{Bool, true, false, not, ◌&&◌, cond}
use lib.IntN.{ℤ}
use lib.Dec.{T, ltb, ltb→lt, nltb→le}
use lib.Ieee.{Float, nan, inf, fin, binary32, up, down, round, neg, sum, add, sub, le, fits, of_bits, is_nan}
use lib.Ieee.Scale.{finite}
use lib.Ieee.Positive.{den, den_pos}
use Rattle.numbers.specs.Rounded.{f32, ◌⊕◌, ◌⊖◌}
use Rattle.numbers.proofs.OrderLaws.{plus, minus, plus_mul, minus_mul, side, le→side, of_finite, le_refl, le_right, le_top, bottom_le, top_le}
use Rattle.numbers.proofs.OrderLaws.{finite_number}
use Rattle.numbers.specs.Inner.Bounds.{unsigned}
use Rattle.numbers.proofs.RoundedOrder.{Rounds, above, under, round_unsigned, neg_le, rounds_le, rounds_own, rounds_number, nonnegative_minus}
use Rattle.numbers.proofs.RoundedOrder.{rounds_nonnegative, rounds_nonpositive}

-- ---- a sum as a rounding

rounds_sum : (s : Bool) (a : ℕ) (t : Bool) (b c : ℕ) → Rounds (sum binary32 s a t b c) (cond s 0 a + cond t 0 b) (cond s a 0 + cond t b 0) c
unfolding sum
rounds_sum false a false b c = let z : a + b ≡ 0 + 0 + (a + b) = omega arith in above (a + b) z refl
rounds_sum true a true b c = let z : a + b ≡ 0 + 0 + (a + b) = omega arith in under (a + b) z refl
rounds_sum false a true b c = go (ltb a b) (ltb→lt a b) (nltb→le a b)
  where
    go : (l : Bool) → (T l → a < b) → (T (not l) → b ≤ a) → Rounds (cond l (round binary32 true (b - a) c) (round binary32 false (a - b) c)) (a + 0) (0 + b) c
    go true h k = let l = h tt in let z : 0 + b ≡ a + 0 + (b - a) = omega arith in under (b - a) z refl
    go false h k = let l = k tt in let z : a + 0 ≡ 0 + b + (a - b) = omega arith in above (a - b) z refl
rounds_sum true a false b c = go (ltb a b) (ltb b a) (ltb→lt a b) (nltb→le a b) (ltb→lt b a) (nltb→le b a)
  where
    go : (l m : Bool) → (T l → a < b) → (T (not l) → b ≤ a) → (T m → b < a) → (T (not m) → a ≤ b)
        → Rounds (cond l (round binary32 false (b - a) c) (round binary32 (true && m) (a - b) c)) (0 + b) (a + 0) c
    go true m h k i j = let l = h tt in let z : 0 + b ≡ a + 0 + (b - a) = omega arith in above (b - a) z refl
    go false true h k i j = let l = k tt in let z : a + 0 ≡ 0 + b + (a - b) = omega arith in under (a - b) z refl
    go false false h k i j = let l = k tt in let r = j tt in let z : 0 + b ≡ a + 0 + (a - b) = omega arith in above (a - b) z refl

pub rounds_add : (x y : Float) → T (finite x) → T (finite y)
    → Rounds (x ⊕ y) (plus x * den y + plus y * den x) (minus x * den y + minus y * den x) (den x * den y)
unfolding add
rounds_add = of_finite (λ x y. Rounds (x ⊕ y) (plus x * den y + plus y * den x) (minus x * den y + minus y * den x) (den x * den y)) (λ s m e t n d.
    subst (λ (k : ℕ). Rounds (fin s m e ⊕ fin t n d) k (minus (fin s m e) * down d + minus (fin t n d) * down e) (down e * down d))
    (both (plus_mul s (m * up e) (down d)) (plus_mul t (n * up d) (down e)))
    (subst (λ (k : ℕ). Rounds (fin s m e ⊕ fin t n d) (cond s 0 (m * up e * down d) + cond t 0 (n * up d * down e)) k (down e * down d))
    (both (minus_mul s (m * up e) (down d)) (minus_mul t (n * up d) (down e)))
    (rounds_sum s (m * up e * down d) t (n * up d * down e) (down e * down d))))
  where
    both : {a b c d : ℕ} → a ≡ b → c ≡ d → a + c ≡ b + d
    both {a} {b} {c} {d} h k = cc

-- ---- the order

pub add_monotone : (x x' y y' : Float) → T (finite x) → T (finite x') → T (finite y) → T (finite y') → T (le x x') → T (le y y') → T (le (x ⊕ y) (x' ⊕ y'))
add_monotone x x' y y' f f' g g' h k =
    rounds_le (mul-pos (den_pos x) (den_pos y)) (mul-pos (den_pos x') (den_pos y')) (rounds_add x y f g) (rounds_add x' y' f' g')
    (go (plus x) (minus x) (den x) (plus x') (minus x') (den x') (plus y) (minus y) (den y) (plus y') (minus y') (den y') (le→side x x' f f' h)
    (le→side y y' g g' k))
  where
    spread : (p c q d d' c' : ℕ) → (p * c + q * d) * (d' * c') ≡ p * d' * (c * c') + q * c' * (d * d')
    spread p c q d d' c' = add-mul (p * c) (q * d) (d' * c') ∙ ap (λ (k : ℕ). k + q * d * (d' * c')) (mul-mul-mul_comm p c d' c') ∙ ap
        (λ (k : ℕ). p * d' * (c * c') + k) (ap (λ (k : ℕ). q * d * k) (mul_comm d' c') ∙ mul-mul-mul_comm q d c' d')

    joined : (a b c d e f g h : ℕ) → a + b ≤ c + d → e + f ≤ g + h → a + e + (b + f) ≤ c + g + (d + h)
    joined a b c d e f g h i j = omega arith

    go : (p n d p' n' d' q o c q' o' c' : ℕ) → p * d' + n' * d ≤ p' * d + n * d' → q * c' + o' * c ≤ q' * c + o * c'
        → (p * c + q * d) * (d' * c') + (n' * c' + o' * d') * (d * c) ≤ (p' * c' + q' * d') * (d * c) + (n * c + o * d) * (d' * c')
    go p n d p' n' d' q o c q' o' c' h k =
        let i : p * d' * (c * c') + n' * d * (c * c') ≤ p' * d * (c * c')
        + n * d' * (c * c') = rw (← add-mul (p * d'), ← add-mul (p' * d)) (mul-le-mul_right (c * c') h) in
        let j : q * c' * (d * d') + o' * c * (d * d') ≤ q' * c * (d * d')
        + o * c' * (d * d') = rw (← add-mul (q * c'), ← add-mul (q' * c)) (mul-le-mul_right (d * d') k) in
        rw (spread p c q d d' c', spread n c o d d' c', spread n' c' o' d' d c, spread p' c' q' d' d c, mul_comm c' c, mul_comm d' d)
        (joined (p * d' * (c * c')) (n' * d * (c * c')) (p' * d * (c * c')) (n * d' * (c * c')) (q * c' * (d * d')) (o' * c * (d * d')) (q' * c * (d * d'))
        (o * c' * (d * d')) i j)

pub neg_finite : (x : Float) → T (finite x) → T (finite (neg x))
unfolding neg
neg_finite nan f = f
neg_finite (inf s) f = f
neg_finite (fin s m e) f = tt

pub sub_monotone : (x y a : Float) → T (finite x) → T (finite y) → T (finite a) → T (le x y) → T (le (x ⊖ a) (y ⊖ a))
unfolding sub
sub_monotone x y a f g k h = let n = neg_finite a k in add_monotone x y (neg a) (neg a) f g n n h (le_refl (neg a) (finite_number (neg a) n))

pub sub_antitone : (x y a : Float) → T (finite x) → T (finite y) → T (finite a) → T (le x y) → T (le (a ⊖ y) (a ⊖ x))
unfolding sub
sub_antitone x y a f g k h = add_monotone a a (neg y) (neg x) k k (neg_finite y g) (neg_finite x f) (le_refl a (finite_number a k)) (neg_le x y h)

-- ---- a difference's sign

pub rounds_sub : (x y : Float) → T (finite x) → T (finite y) → Rounds (x ⊖ y) (side x y) (side y x) (den x * den y)
unfolding sub neg
rounds_sub = of_finite (λ x y. Rounds (x ⊖ y) (side x y) (side y x) (den x * den y)) go
  where
    turned : (s : Bool) (m : ℕ) (e : ℤ) (u : Bool) (n : ℕ) (d : ℤ)
        → Rounds (fin s m e ⊕ fin u n d) (plus (fin s m e) * down d + plus (fin u n d) * down e) (minus (fin u n d) * down e + minus (fin s m e) * down d)
        (down e * down d)
    turned s m e u n d =
        subst (λ (k : ℕ). Rounds (fin s m e ⊕ fin u n d) (plus (fin s m e) * down d + plus (fin u n d) * down e) k (down e * down d))
        (add_comm (minus (fin s m e) * down d) (minus (fin u n d) * down e)) (rounds_add (fin s m e) (fin u n d) tt tt)

    go : (s : Bool) (m : ℕ) (e : ℤ) (t : Bool) (n : ℕ) (d : ℤ)
        → Rounds (fin s m e ⊕ fin (not t) n d) (side (fin s m e) (fin t n d)) (side (fin t n d) (fin s m e)) (down e * down d)
    go s m e true n d = turned s m e false n d
    go s m e false n d = turned s m e true n d

pub sub_nonnegative : (x y : Float) → T (finite x) → T (finite y) → T (le y x) → T (le (f32 0) (x ⊖ y))
sub_nonnegative x y f g h = rounds_nonnegative (mul-pos (den_pos x) (den_pos y)) (rounds_sub x y f g) (le→side y x g f h)

pub sub_nonpositive : (x y : Float) → T (finite x) → T (finite y) → T (le x y) → T (le (x ⊖ y) (f32 0))
sub_nonpositive x y f g h = rounds_nonpositive (mul-pos (den_pos x) (den_pos y)) (rounds_sub x y f g) (le→side x y f g h)

-- ---- a sum of what is not below 0

sum_unlike : (a b c : ℕ) → sum binary32 false a true b c ≡ sum binary32 true b false a c
unfolding sum
sum_unlike a b c = go (ltb a b) (ltb b a) (ltb→lt a b) (nltb→le a b) (ltb→lt b a) (nltb→le b a)
  where
    go : (l m : Bool) → (T l → a < b) → (T (not l) → b ≤ a) → (T m → b < a) → (T (not m) → a ≤ b)
        → cond l (round binary32 true (b - a) c) (round binary32 false (a - b) c)
        ≡ cond m (round binary32 false (a - b) c) (round binary32 (true && l) (b - a) c)
    go true true h k i j = absurd (omega (arith, h tt, i tt))
    go true false h k i j = refl
    go false true h k i j = refl
    go false false h k i j = let l = k tt in let r = j tt in let z : a - b ≡ b - a = omega arith in ap (λ (k : ℕ). round binary32 false k c) z

sum_commutative : (s : Bool) (a : ℕ) (t : Bool) (b c : ℕ) → sum binary32 s a t b c ≡ sum binary32 t b s a c
sum_commutative false a false b c = unfold sum in ap (λ (k : ℕ). round binary32 false k c) (add_comm a b)
sum_commutative true a true b c = unfold sum in ap (λ (k : ℕ). round binary32 true k c) (add_comm a b)
sum_commutative false a true b c = sum_unlike a b c
sum_commutative true a false b c = sym (sum_unlike b a c)

pub add_commutative : (x y : Float) → x ⊕ y ≡ y ⊕ x
unfolding add
add_commutative nan nan = refl
add_commutative nan (inf t) = refl
add_commutative nan (fin t n d) = refl
add_commutative (inf s) nan = refl
add_commutative (inf true) (inf true) = refl
add_commutative (inf true) (inf false) = refl
add_commutative (inf false) (inf true) = refl
add_commutative (inf false) (inf false) = refl
add_commutative (inf s) (fin t n d) = refl
add_commutative (fin s m e) nan = refl
add_commutative (fin s m e) (inf t) = refl
add_commutative (fin s m e) (fin t n d) =
    sum_commutative s (m * up e * down d) t (n * up d * down e) (down e * down d)
    ∙ ap (λ (k : ℕ). sum binary32 t (n * up d * down e) s (m * up e * down d) k) (mul_comm (down e) (down d))

-- both are finite, or the sum is +infinity
add_cases : (u v : Float) → T (le (f32 0) u) → T (le (f32 0) v) → (T (finite u) × T (finite v)) ⊎ (u ⊕ v ≡ inf false)
unfolding le add of_bits
add_cases nan v h k = absurd h
add_cases (inf true) v h k = absurd h
add_cases (inf false) nan h k = absurd k
add_cases (inf false) (inf true) h k = absurd k
add_cases (inf false) (inf false) h k = inr refl
add_cases (inf false) (fin t n d) h k = inr refl
add_cases (fin s m e) nan h k = absurd k
add_cases (fin s m e) (inf true) h k = absurd k
add_cases (fin s m e) (inf false) h k = inr refl
add_cases (fin s m e) (fin t n d) h k = inl (tt, tt)

pub add_unsigned : (u v : Float) → T (unsigned u) → T (unsigned v) → T (unsigned (u ⊕ v))
unfolding add
add_unsigned nan v h k = absurd h
add_unsigned (inf true) v h k = absurd h
add_unsigned (inf false) nan h k = absurd k
add_unsigned (inf false) (inf true) h k = absurd k
add_unsigned (inf false) (inf false) h k = tt
add_unsigned (inf false) (fin t n d) h k = tt
add_unsigned (fin s m e) nan h k = absurd k
add_unsigned (fin s m e) (inf t) h k = k
add_unsigned (fin true m e) (fin t n d) h k = absurd h
add_unsigned (fin false m e) (fin true n d) h k = absurd k
add_unsigned (fin false m e) (fin false n d) h k = unfold sum in round_unsigned binary32 (m * up e * down d + n * up d * down e) (down e * down d)

-- an f32 is at most its sum with what is not below 0; another float might be rounded down
pub add_above_left : (u v : Float) → T (fits binary32 u) → T (le (f32 0) u) → T (le (f32 0) v) → T (le u (u ⊕ v))
add_above_left u v b h k = elim (add_cases u v h k) [
  | inl f ↦
      rounds_le (den_pos u) (mul-pos (den_pos u) (den_pos v)) (rounds_own u b f.0) (rounds_add u v f.0 f.1)
      (go (plus u) (minus u) (den u) (plus v) (minus v) (den v) (nonnegative_minus v f.1 k))
  | inr e ↦ subst (λ (x : Float). T (le u x)) (sym e) (le_top u (le_right (f32 0) u h))
]
  where
    go : (p n d q o c : ℕ) → o ≡ 0 → p * (d * c) + (n * c + o * d) * d ≤ (p * c + q * d) * d + n * (d * c)
    go p n d q o c h = rw h (omega arith)

pub add_above_right : (u v : Float) → T (fits binary32 v) → T (le (f32 0) u) → T (le (f32 0) v) → T (le v (u ⊕ v))
add_above_right u v b h k = subst (λ (x : Float). T (le v x)) (add_commutative v u) (add_above_left v u b k h)

-- ---- where there is no NaN

pub sub_number : (x y : Float) → T (finite x) → T (finite y) → T (not (is_nan (x ⊖ y)))
sub_number x y f g = rounds_number (mul-pos (den_pos x) (den_pos y)) (rounds_sub x y f g)

-- a sum that is not a NaN is of two that are not
pub add_number : (u v : Float) → T (not (is_nan (u ⊕ v))) → T (not (is_nan u)) × T (not (is_nan v))
unfolding add is_nan
add_number nan v h = absurd h
add_number (inf s) nan h = absurd h
add_number (fin s m e) nan h = absurd h
add_number (inf s) (inf t) h = (tt, tt)
add_number (inf s) (fin t n d) h = (tt, tt)
add_number (fin s m e) (inf t) h = (tt, tt)
add_number (fin s m e) (fin t n d) h = (tt, tt)

-- ---- the order, infinities included

inf_added : (s : Bool) (u : Float) → T (not (is_nan (inf s ⊕ u))) → inf s ⊕ u ≡ inf s
unfolding add is_nan
inf_added s nan h = absurd h
inf_added true (inf true) h = refl
inf_added true (inf false) h = absurd h
inf_added false (inf true) h = absurd h
inf_added false (inf false) h = refl
inf_added s (fin t n d) h = refl

pub add_monotone_left : (x y u : Float) → T (le x y) → T (not (is_nan (x ⊕ u))) → T (not (is_nan (y ⊕ u))) → T (le (x ⊕ u) (y ⊕ u))
add_monotone_left nan y u h i j = absurd (unfold le in h)
add_monotone_left (inf true) y u h i j = rw (inf_added true u i) (bottom_le (y ⊕ u) j)
add_monotone_left (inf false) y u h i j = subst (λ (w : Float). T (le (inf false ⊕ u) (w ⊕ u))) (sym (top_le y h)) (le_refl (inf false ⊕ u) i)
add_monotone_left (fin s m e) nan u h i j = absurd (unfold le in h)
add_monotone_left (fin s m e) (inf true) u h i j = absurd (unfold le in h)
add_monotone_left (fin s m e) (inf false) u h i j = rw (inf_added false u j) (le_top (fin s m e ⊕ u) i)
add_monotone_left (fin s m e) (fin t n d) nan h i j = absurd (unfold add is_nan in i)
add_monotone_left (fin s m e) (fin t n d) (inf r) h i j = unfold add in le_refl (inf r) (unfold is_nan in tt)
add_monotone_left (fin s m e) (fin t n d) (fin r k c) h i j =
    add_monotone (fin s m e) (fin t n d) (fin r k c) (fin r k c) tt tt tt tt h (le_refl (fin r k c) (unfold is_nan in tt))
