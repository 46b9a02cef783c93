-- The lesser of two floats is one of them (`minimum_either`) and at most each (`minimum_first`, `minimum_le`). Assumes
-- nothing.
use mathlib.Core.Logic.{inl, inr}
use mathlib.Core.Path.{◌≡◌, refl, subst}
use mathlib.Core.Bool.{Bool, true, false, not, cond}
use lib.Dec.{T, T_not}
use lib.Ieee.{Float, lt, le, is_nan}
use Rattle.numbers.specs.Order.{minimum}
use Rattle.numbers.proofs.OrderLaws.{le_refl, lt_le, le_or_lt}

-- what holds of both holds of it
pub minimum_either : (P : Float → Type 0) (a b : Float) → P a → P b → P (minimum a b)
unfolding minimum
minimum_either P a b p q = go (is_nan a) (lt b a)
  where
    go : (n l : Bool) → P (cond n b (cond l b a))
    go true l = q
    go false true = q
    go false false = p

pub minimum_first : (a b : Float) → T (not (is_nan a)) → T (le (minimum a b) a)
unfolding minimum
minimum_first a b f = go (is_nan a) (lt b a) refl refl
  where
    go : (n l : Bool) → is_nan a ≡ n → lt b a ≡ l → T (le (cond n b (cond l b a)) a)
    go true l e i = absurd (subst (λ (t : Bool). T (not t)) e f)
    go false true e i = lt_le b a (rw i tt)
    go false false e i = le_refl a f

-- whatever the first is
pub minimum_le : (x b : Float) → T (not (is_nan b)) → T (le (minimum x b) b)
unfolding minimum
minimum_le x b f = go (is_nan x) (lt b x) refl refl
  where
    left : T (not (is_nan x)) → T (not (lt b x)) → T (le x b)
    left g k = elim (le_or_lt x b g f) [ inl h ↦ h | inr h ↦ absurd (T_not (lt b x) k h) ]

    go : (n l : Bool) → is_nan x ≡ n → lt b x ≡ l → T (le (cond n b (cond l b x)) b)
    go true l e i = le_refl b f
    go false true e i = le_refl b f
    go false false e i = left (rw e tt) (rw i tt)
