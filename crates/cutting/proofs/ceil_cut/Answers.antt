-- `ceil_cut` meets its contract: where the cut dropped a fraction it is one more.
use mathlib.Core.Path.{◌≡◌, sym, ap, subst, ◌∙◌}
use Prim.Native.Nat.{ℕ, ◌+◌, ◌<◌}
use native.Mathlib.Omega.{arith}
use lib.Dec.{T, le→leb}
use lib.Ieee.{Float, fin, le, to_unsigned, of_bits, in_float}
use lib.IntN.{pos}
use mathlib.Core.Bool.{false}
use Rattle.cutting.proofs.Cuts.{ceil_large, ceil_up, ceil_stay, cut_small}
use Rattle.cutting.proofs.ceil_cut.Goals as goal

pub returns-then-x : goal.returns-then-x
unfolding of_bits
returns-then-x c =
    c.cut-t.ensures ∙ ceil_large c.args.x (subst T (sym c.well_formed.0.1) tt) c.if-x.true

-- below 2 ^ 24 the cut is
below : (n : ℕ) (x : Float) → n ≡ to_unsigned 32 x → le (fin false 1 (pos 24)) x ≡ false → n < 16777216
below n x e h = subst (λ (m : ℕ). m < 16777216) (sym e) (cut_small x h)

pub int_to_float-t : goal.int_to_float-t
unfolding in_float of_bits
int_to_float-t c = le→leb c.cut-t.result 16777216 (omega (arith, below c.cut-t.result c.args.x c.cut-t.ensures c.if-x.false))

pub overflow_add-result : goal.overflow_add-result
unfolding of_bits
overflow_add-result c = omega (arith, below c.cut-t.result c.args.x c.cut-t.ensures c.if-x.false)

pub returns-then-t-x : goal.returns-then-t-x
unfolding of_bits
returns-then-t-x c =
    let e = c.cut-t.ensures in
    ap (λ (n : ℕ). n + 1) e ∙ ceil_up c.args.x c.if-x.false (rw e at c.if-t-x.true)

pub returns-else-t-x : goal.returns-else-t-x
unfolding of_bits
returns-else-t-x c =
    let e = c.cut-t.ensures in
    e ∙ ceil_stay c.args.x c.if-x.false (rw e at c.if-t-x.false)
