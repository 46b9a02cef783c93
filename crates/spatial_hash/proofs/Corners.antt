-- Which floats are numbers: a least one of two, and one between bounds. Assumes nothing.
use mathlib.Core.Path.{◌≡◌, sym, subst}
use mathlib.Core.Bool.{Bool, true, false, cond, true≢false}
use lib.Dec.{T}
use lib.Ieee.{Float, nan, inf, fin, lt, le, eq, is_nan, of_bits}
use lib.Ieee.Scale.{finite}
use Rattle.numbers.specs.Rounded.{f32}
use Rattle.numbers.specs.Order.{minimum}

of_cond : (P : Float → Type 0) (t : Bool) (a b : Float) → P a → P b → P (cond t a b)
of_cond P true a b p q = p
of_cond P false a b p q = q

pub minimum_finite : (a b r : Float) → r ≡ minimum a b → T (finite a) → T (finite b) → T (finite r)
unfolding minimum
minimum_finite a b r e p q =
    subst (λ (v : Float). T (finite v)) (sym e)
    (of_cond (λ (v : Float). T (finite v)) (is_nan a) b (cond (lt b a) b a) q (of_cond (λ (v : Float). T (finite v)) (lt b a) b a q p))

-- above 0 and at most 10 ^ 30
pub bounded_finite : (v : Float) → lt (f32 0) v ≡ true → le v (f32 0x7149f2ca) ≡ true → T (finite v)
unfolding lt le eq of_bits
bounded_finite nan h l = absurd (true≢false (sym h))
bounded_finite (inf true) h l = absurd (true≢false (sym h))
bounded_finite (inf false) h l = absurd (true≢false (sym l))
bounded_finite (fin s m e) h l = tt
