-- Numbers above 0 that are not infinite: what makes one (`positive_is`), that it has no minus sign, and what is finite
-- below a finite number. Assumes nothing.
use mathlib.Core.Path.{subst}
use mathlib.Core.Bool.{true, false}
use Prim.Native.Nat.{zero, suc}
use native.Mathlib.Nat.{zero-lt-suc}
use lib.Dec.{T, lt→ltb}
use lib.Ieee.{Float, nan, inf, fin, lt, le}
use lib.Ieee.Scale.{finite}
use lib.Ieee.Positive.{positive}
use Rattle.numbers.specs.Rounded.{f32}
use Rattle.numbers.specs.Inner.Bounds.{unsigned}
use Rattle.numbers.proofs.OrderLaws.{top_le, positive_unsigned, nothing_below}

pub positive_is : (x : Float) → T (lt (f32 0) x) → T (finite x) → T (positive x)
positive_is nan h f = absurd f
positive_is (inf s) h f = absurd f
positive_is (fin true m e) h f = absurd (positive_unsigned (fin true m e) h)
positive_is (fin false zero e) h f = absurd (nothing_below e h)
positive_is (fin false (suc m) e) h f = lt→ltb 0 (suc m) (zero-lt-suc m)

pub positive_signless : (x : Float) → T (positive x) → T (unsigned x)
positive_signless nan p = absurd p
positive_signless (inf s) p = absurd p
positive_signless (fin true m e) p = absurd p
positive_signless (fin false m e) p = tt

pub finite_under : (u v : Float) → T (unsigned u) → T (le u v) → T (finite v) → T (finite u)
finite_under nan v u h f = absurd u
finite_under (inf true) v u h f = absurd u
finite_under (inf false) v u h f = absurd (subst (λ (w : Float). T (finite w)) (top_le v h) f)
finite_under (fin s m e) v u h f = tt
