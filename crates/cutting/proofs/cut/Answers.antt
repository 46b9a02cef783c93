-- `cut` meets its contract: the cases of the fields are the cut of the number that the pattern stands for
-- (`pattern_cut`).
use mathlib.Core.Path.{◌≡◌, sym, ◌∙◌, subst}
use lib.Dec.{T}
use lib.Ieee.{Float, binary32, fits, to_bits, to_unsigned}
use Rattle.numbers.proofs.RootSpecial.{not_self, pattern_lt, by_bits}
use Rattle.cutting.proofs.FieldCases.{pattern_cut, nan_cut}
use Rattle.cutting.proofs.cut.Goals.{Start}
use Rattle.cutting.proofs.cut.Goals as goal

-- what owning an `f32` tells: the format holds it
held : (c : Start) → T (fits binary32 c.args.x)
held c = subst T (sym c.well_formed.0.1) tt

pub returns-then-x : goal.returns-then-x
returns-then-x c = nan_cut _ c.if-x.true

pub float_to_bits-b : goal.float_to_bits-b
float_to_bits-b c = not_self _ c.if-x.false

pub returns : goal.returns
returns c =
    let s = c.before.before in
    by_bits (λ (v : Float). c.cut_fields.result ≡ to_unsigned 32 v) s.args.x (held s)
    (c.cut_fields.ensures ∙ pattern_cut (to_bits binary32 s.args.x) (pattern_lt _ (held s)))
