-- `is_sliver_of` meets its contract. Assumes nothing.
use mathlib.Core.Path.{sym, subst}
use lib.Dec.{T}
use Rattle.numbers.specs.Rounded.{f32}
use Rattle.filters.proofs.Slivers.{sliver_is}
use Rattle.filters.proofs.is_sliver_of.Goals as goal

pub returns-then-not-are_at_most : goal.returns-then-not-are_at_most
returns-then-not-are_at_most c = λ h. absurd (subst T (sym h) tt)

pub returns-then-not-are_at_most-2 : goal.returns-then-not-are_at_most-2
returns-then-not-are_at_most-2 c = λ h. absurd (subst T (sym h) tt)

pub returns : goal.returns
returns c =
    let o = c in
    let m = o.are_at_most-2 in
    let x = o in
    let k = x.are_at_most in
    λ h.
    record {
      is =
          λ p q t f ex ey ez ea eb ec.
          sliver_is (f32 0x4c800000) ex ey ez ea eb ec f (rw (← k.ensures, x.if-not-are_at_most.false) tt)
          (rw (← m.ensures, o.if-not-are_at_most-2.false) tt)
          o.only.ensures o.only-2.ensures o.only-3.ensures (c.is_sliver.ensures h);
    }
