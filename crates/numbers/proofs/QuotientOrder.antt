-- An f32 quotient by a finite number above 0 keeps the order (`div_monotone`), infinities included; one of unsigned
-- numbers is unsigned (`div_unsigned`) and falls as its divisor grows (`div_antitone`). Assumes nothing.
use mathlib.Core.Path.{◌≡◌, refl, sym, subst}
use Prim.Native.Nat.{ℕ, zero, suc, ◌+◌, ◌*◌, ◌≤◌, ◌<◌}
use native.Mathlib.Nat.{add-mul, mul_comm, mul-pos, mul-le-mul_right, mul-mul-mul_comm}
use native.Mathlib.Omega.{arith}
use mathlib.Core.Bool.{Bool, true, false, not}
use lib.IntN.{ℤ}
use lib.Dec.{T, ltb→lt, eqb-suc-zero}
use lib.Ieee.{Float, nan, inf, fin, binary32, unlike, up, down, round, div, le, is_nan}
use lib.Ieee.Fits.{up_pos, down_pos}
use lib.Ieee.Order.{round_mono}
use lib.Ieee.Scale.{finite}
use lib.Ieee.Positive.{num, den, den_pos, positive, le→cross}
use Rattle.numbers.specs.Rounded.{◌⊘◌}
use Rattle.numbers.proofs.OrderLaws.{plus, minus, le→side, le_refl, le_right, le_top, bottom_le, top_le}
use Rattle.numbers.proofs.RoundedOrder.{Rounds, above, under, rounds_le, rounds_number, round_unsigned}
use Rattle.numbers.specs.Inner.Bounds.{unsigned}

divisor_pos : (c : Float) → T (positive c) → 0 < num c
divisor_pos nan p = absurd p
divisor_pos (inf s) p = absurd p
divisor_pos (fin true n d) p = absurd p
divisor_pos (fin false n d) p = mul-pos (ltb→lt 0 n p) (up_pos d)

divided_is : (s : Bool) (m : ℕ) (e : ℤ) (n : ℕ) (d : ℤ) → fin s m e ⊘ fin false (suc n) d
    ≡ round binary32 (unlike s false) (m * up e * down d) (suc n * up d * down e)
unfolding div
divided_is s m e n d = rw (eqb-suc-zero n)

rounds_divided : (x c : Float) → T (finite x) → T (positive c) → Rounds (x ⊘ c) (plus x * den c) (minus x * den c) (num c * den x)
rounds_divided nan c f p = absurd f
rounds_divided (inf s) c f p = absurd f
rounds_divided (fin s m e) nan f p = absurd p
rounds_divided (fin s m e) (inf t) f p = absurd p
rounds_divided (fin s m e) (fin true n d) f p = absurd p
rounds_divided (fin s m e) (fin false zero d) f p = absurd p
rounds_divided (fin true m e) (fin false (suc n) d) f p =
    let z : m * up e * down d ≡ 0 * down d + m * up e * down d = omega arith in under (m * up e * down d) z (divided_is true m e n d)
rounds_divided (fin false m e) (fin false (suc n) d) f p =
    let z : m * up e * down d ≡ 0 * down d + m * up e * down d = omega arith in above (m * up e * down d) z (divided_is false m e n d)

inf_divided : (s : Bool) (c : Float) → T (positive c) → inf s ⊘ c ≡ inf s
unfolding div
inf_divided s nan p = absurd p
inf_divided s (inf t) p = absurd p
inf_divided s (fin true n d) p = absurd p
inf_divided true (fin false n d) p = refl
inf_divided false (fin false n d) p = refl

pub div_number : (x c : Float) → T (positive c) → T (not (is_nan x)) → T (not (is_nan (x ⊘ c)))
div_number nan c p h = absurd (unfold is_nan in h)
div_number (inf s) c p h = rw (inf_divided s c p) (unfold is_nan in tt)
div_number (fin s m e) c p h = rounds_number (mul-pos (divisor_pos c p) (den_pos (fin s m e))) (rounds_divided (fin s m e) c tt p)

-- a quotient that is not a NaN is of one that is not
pub div_number_back : (x c : Float) → T (not (is_nan (x ⊘ c))) → T (not (is_nan x))
unfolding div is_nan
div_number_back nan c h = h
div_number_back (inf s) c h = tt
div_number_back (fin s m e) c h = tt

div_finite : (x y c : Float) → T (finite x) → T (finite y) → T (positive c) → T (le x y) → T (le (x ⊘ c) (y ⊘ c))
div_finite x y c f g p h =
    rounds_le (mul-pos (divisor_pos c p) (den_pos x)) (mul-pos (divisor_pos c p) (den_pos y)) (rounds_divided x c f p) (rounds_divided y c g p)
    (go (plus x) (minus x) (den x) (plus y) (minus y) (den y) (num c) (den c) (le→side x y f g h))
  where
    go : (p n d q o e k c : ℕ) → p * e + o * d ≤ q * d + n * e → p * c * (k * e) + o * c * (k * d) ≤ q * c * (k * d) + n * c * (k * e)
    go p n d q o e k c h =
        rw (
          mul_comm k e,
          mul_comm k d,
          mul-mul-mul_comm p c e k,
          mul-mul-mul_comm o c d k,
          mul-mul-mul_comm q c d k,
          mul-mul-mul_comm n c e k,
          ← add-mul
              (p * e),
          ← add-mul (q * d),
        ) (mul-le-mul_right (c * k) h)

pub div_monotone : (x y c : Float) → T (positive c) → T (le x y) → T (le (x ⊘ c) (y ⊘ c))
div_monotone nan y c p h = absurd (unfold le in h)
div_monotone (inf true) y c p h = rw (inf_divided true c p) (bottom_le (y ⊘ c) (div_number y c p (le_right (inf true) y h)))
div_monotone (inf false) y c p h =
    subst (λ (w : Float). T (le (inf false ⊘ c) (w ⊘ c))) (sym (top_le y h)) (le_refl (inf false ⊘ c) (div_number (inf false) c p (unfold is_nan in tt)))
div_monotone (fin s m e) nan c p h = absurd (unfold le in h)
div_monotone (fin s m e) (inf true) c p h = absurd (unfold le in h)
div_monotone (fin s m e) (inf false) c p h = rw (inf_divided false c p) (le_top (fin s m e ⊘ c) (div_number (fin s m e) c p (unfold is_nan in tt)))
div_monotone (fin s m e) (fin t n d) c p h = div_finite (fin s m e) (fin t n d) c tt tt p h

-- ---- of an unsigned number
pub div_unsigned : (x c : Float) → T (finite x) → T (unsigned x) → T (positive c) → T (unsigned (x ⊘ c))
div_unsigned nan c f u p = absurd f
div_unsigned (inf s) c f u p = absurd f
div_unsigned (fin true m e) c f u p = absurd u
div_unsigned (fin false m e) nan f u p = absurd p
div_unsigned (fin false m e) (inf t) f u p = absurd p
div_unsigned (fin false m e) (fin true n d) f u p = absurd p
div_unsigned (fin false m e) (fin false zero d) f u p = absurd p
div_unsigned (fin false m e) (fin false (suc n) d) f u p =
    rw (divided_is false m e n d) (round_unsigned binary32 (m * up e * down d) (suc n * up d * down e))

pub div_antitone : (x c d : Float) → T (finite x) → T (unsigned x) → T (positive c) → T (positive d) → T (le c d)
    → T (le (x ⊘ d) (x ⊘ c))
div_antitone nan c d f u p q h = absurd f
div_antitone (inf s) c d f u p q h = absurd f
div_antitone (fin true m e) c d f u p q h = absurd u
div_antitone (fin false m e) nan d f u p q h = absurd p
div_antitone (fin false m e) (inf t) d f u p q h = absurd p
div_antitone (fin false m e) (fin true n i) d f u p q h = absurd p
div_antitone (fin false m e) (fin false zero i) d f u p q h = absurd p
div_antitone (fin false m e) (fin false (suc n) i) nan f u p q h = absurd q
div_antitone (fin false m e) (fin false (suc n) i) (inf t) f u p q h = absurd q
div_antitone (fin false m e) (fin false (suc n) i) (fin true k j) f u p q h = absurd q
div_antitone (fin false m e) (fin false (suc n) i) (fin false zero j) f u p q h = absurd q
div_antitone (fin false m e) (fin false (suc n) i) (fin false (suc k) j) f u p q h =
    rw (divided_is false m e n i, divided_is false m e k j)
    (round_mono binary32 (m * up e * down j) (suc k * up j * down e) (m * up e * down i) (suc n * up i * down e)
    (mul-pos (mul-pos (omega arith) (up_pos j)) (down_pos e)) (mul-pos (mul-pos (omega arith) (up_pos i)) (down_pos e))
    (go (m * up e) (down e) (suc n * up i) (down i) (suc k * up j) (down j)
    (le→cross (fin false (suc n) i) (fin false (suc k) j) p q h)))
  where
    go : (a e n i k j : ℕ) → n * j ≤ k * i → a * j * (n * e) ≤ a * i * (k * e)
    go a e n i k j h = let l = mul-le-mul_right (a * e) h in omega (arith, l)
