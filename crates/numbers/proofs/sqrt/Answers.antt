-- `sqrt` meets its contract: it is `root` for every f32.
use mathlib.Core.Path.{◌≡◌, sym, ◌∙◌, subst}
use Prim.Native.Nat.{ℕ, ◌<◌}
use native.Mathlib.Omega.{arith}
use lib.Dec.{T}
use lib.Ieee.{Float, nan, binary32, fits, of_bits, to_bits}
use Rattle.numbers.specs.Root.{root}
use Rattle.numbers.proofs.RootSpecial.{nan_root, not_self, zero_root, minus_root, inf_root, pattern_lt, pattern_le, by_bits, no_number}
use Rattle.numbers.proofs.sqrt.Goals.{Else-b-eq2139095040, Start, else-b-gt0-via-then-b-gt0+else-b-lt2139095040, else-b-gt0-via-else-b-gt0}
use Rattle.numbers.proofs.sqrt.Goals as goal

-- what owning an `f32` tells: the format holds it
held : (c : Start) → T (fits binary32 c.args.x)
held c = subst T (sym c.well_formed.0.1) tt

pub returns-then-x : goal.returns-then-x
returns-then-x c = nan_root _ c.if-x.true

pub float_to_bits-b : goal.float_to_bits-b
float_to_bits-b c = not_self _ c.if-x.false

pub returns-then-b-lt2139095040 : goal.returns-then-b-lt2139095040
returns-then-b-lt2139095040 c =
    let s = c.before.before.before.before in
    by_bits (λ (v : Float). of_bits binary32 c.root_bits.result ≡ root v) s.args.x (held s) c.root_bits.ensures.0

pub returns-then-b-eq0 : goal.returns-then-b-eq0
returns-then-b-eq0 c =
    let s = c.before.before.before in
    by_bits (λ (v : Float). v ≡ root v) s.args.x (held s) (zero_root (to_bits binary32 s.args.x) (pattern_lt _ (held s)) c.if-b-eq0.true)

pub returns-then-b-eq2139095040 : goal.returns-then-b-eq2139095040
returns-then-b-eq2139095040 c =
    let s = c.before.before.before.before in
    by_bits (λ (v : Float). v ≡ root v) s.args.x (held s) (subst (λ (b : ℕ). of_bits binary32 b ≡ root (of_bits binary32 b)) (sym c.if-b-eq2139095040.true) inf_root)

-- what is left is below zero
below : (c : Else-b-eq2139095040) → 0x80000000 < to_bits binary32 c.args.x
below c =
    let s = c.before.before.before.before in
    let h = pattern_le s.args.x (held s) (not_self _ c.if-x.false) in
    elim c.else-b-gt0.branch [ else-b-gt0-via-then-b-gt0+else-b-lt2139095040 w ↦ omega (arith, c.if-b-eq2139095040.false, c.if-b-eq0.false) | else-b-gt0-via-else-b-gt0 w ↦ omega (arith, c.if-b-eq2139095040.false, c.if-b-eq0.false) ]

pub returns : goal.returns
returns c =
    let s = c.before.before.before.before in
    no_number ∙ by_bits (λ (v : Float). nan ≡ root v) s.args.x (held s) (minus_root (to_bits binary32 s.args.x) (below c) (pattern_lt _ (held s)))
