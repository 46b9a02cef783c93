-- The larger of two floats is at least the first where that is not a NaN (`maximum_left`), at least the second likewise
-- (`maximum_right`), and has no minus sign where the first has none. Assumes nothing.
use mathlib.Core.Logic.{inl, inr}
use mathlib.Core.Path.{◌≡◌, refl}
use mathlib.Core.Bool.{Bool, true, false, not, cond}
use lib.Dec.{T, T_not}
use lib.Ieee.{Float, lt, le, is_nan}
use lib.Ieee.Scale.{finite}
use Rattle.numbers.specs.Rounded.{f32}
use Rattle.numbers.specs.Order.{minimum, maximum}
use Rattle.numbers.proofs.OrderLaws.{le_refl, le_or_lt, lt_le, le_lt_trans, unsigned_number_lem, unsigned_le, positive_unsigned}
use Rattle.numbers.specs.Inner.Bounds.{unsigned}

pub maximum_left : (w d : Float) → T (not (is_nan w)) → T (le w (maximum w d))
unfolding maximum
maximum_left w d f = go (is_nan w) (lt w d) f refl
  where
    go : (n l : Bool) → T (not n) → lt w d ≡ l → T (le w (cond n d (cond l d w)))
    go true l k i = absurd k
    go false true k i = lt_le w d (rw i tt)
    go false false k i = le_refl w f

pub maximum_right : (w d : Float) → T (not (is_nan d)) → T (le d (maximum w d))
unfolding maximum
maximum_right w d f = go (is_nan w) (lt w d) refl refl
  where
    left : T (not (is_nan w)) → T (not (lt w d)) → T (le d w)
    left g k = elim (le_or_lt d w f g) [ inl h ↦ h | inr h ↦ absurd (T_not (lt w d) k h) ]

    go : (n l : Bool) → is_nan w ≡ n → lt w d ≡ l → T (le d (cond n d (cond l d w)))
    go true l e i = le_refl d f
    go false true e i = le_refl d f
    go false false e i = left (rw e tt) (rw i tt)

pub maximum_unsigned : (w d : Float) → T (unsigned w) → T (unsigned (maximum w d))
unfolding maximum
maximum_unsigned w d u = go (is_nan w) (lt w d) (unsigned_number_lem w u) refl
  where
    go : (n l : Bool) → T (not n) → lt w d ≡ l → T (unsigned (cond n d (cond l d w)))
    go true l k i = absurd k
    go false true k i = positive_unsigned d (le_lt_trans (f32 0) w d (unsigned_le w u) (rw i tt))
    go false false k i = u

-- ---- what is one of two finite numbers

cond_finite : (b : Bool) (x y : Float) → T (finite x) → T (finite y) → T (finite (cond b x y))
cond_finite true x y f g = f
cond_finite false x y f g = g

pub minimum_finite : (x y : Float) → T (finite x) → T (finite y) → T (finite (minimum x y))
unfolding minimum
minimum_finite x y f g = cond_finite (is_nan x) y (cond (lt y x) y x) g (cond_finite (lt y x) y x g f)

pub maximum_finite : (x y : Float) → T (finite x) → T (finite y) → T (finite (maximum x y))
unfolding maximum
maximum_finite x y f g = cond_finite (is_nan x) y (cond (lt x y) y x) g (cond_finite (lt x y) y x g f)
