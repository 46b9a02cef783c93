-- Where a number that is not below 0 is cut to less than 2 ^ 31 it is the same cut to an i32 (`signed_cut`), and below
-- the end of u32 the same cut to a usize (`usize_cut`); `ceil` gives an unsigned number and moves the cut by one at
-- most. Assumes nothing.
use Prim.Native.Nat.{ℕ, ◌+◌, ◌*◌, ◌/◌, ◌%◌, ◌^◌, ◌≤◌, ◌<◌}
use native.Mathlib.Nat.{zero-div}
use native.Mathlib.Omega.{arith}
use mathlib.Core.Path.{◌≡◌, refl, ap, ◌∙◌}
use mathlib.Core.Bool.{Bool, true, false, cond}
use lib.IntN.{ℤ, pos}
use lib.Dec.{T, ltb}
use lib.Ieee.{Float, nan, inf, fin, binary32, up, down, le, lt, fits, odd, of_int, of_bits, to_unsigned, to_signed}
use lib.Ieee.Exact.{HasValue, odd_sign}
use Rattle.numbers.specs.Rounded.{f32}
use Rattle.numbers.specs.Cut.{cut, ceil}
use Rattle.numbers.proofs.RoundedOrder.{nonnegative_minus}
use Rattle.cutting.proofs.Cuts.{power, ceil_large, ceil_up, ceil_stay}
use Rattle.numbers.specs.Inner.Bounds.{unsigned}

-- ---- to an i32
nothing : (m : ℕ) (e : ℤ) → m * up e ≡ 0 → m * up e / down e ≡ 0
nothing m e z = ap (λ (k : ℕ). k / down e) z ∙ zero-div (down e)

pub signed_cut : (x : Float) → T (le (f32 0) x) → cut x < 2147483648 → to_signed 31 x ≡ pos (cut x)
unfolding to_signed to_unsigned le of_bits
signed_cut nan h l = absurd h
signed_cut (inf true) h l = absurd h
signed_cut (inf false) h l = absurd (omega arith)
signed_cut (fin true m e) h l = rw (nothing m e (nonnegative_minus (fin true m e) tt h)) refl
signed_cut (fin false m e) h l = ap pos (omega arith)

-- ---- to a usize
pub usize_cut : (x : Float) → cut x < 4294967295 → to_unsigned 64 x ≡ cut x
unfolding to_unsigned
usize_cut nan l = refl
usize_cut (inf true) l = refl
usize_cut (inf false) l = absurd (omega arith)
usize_cut (fin true m e) l = refl
usize_cut (fin false m e) l = omega arith

-- ---- `ceil`
value_unsigned : (x : Float) (a c : ℕ) → HasValue x false a c → T (unsigned x)
value_unsigned nan a c v = v
value_unsigned (inf s) a c v = absurd v
value_unsigned (fin s m e) a c v = rw v.0 tt

pub ceil_unsigned : (x : Float) → T (unsigned x) → T (unsigned (ceil x))
unfolding ceil
ceil_unsigned nan u = u
ceil_unsigned (inf s) u = u
ceil_unsigned (fin true m e) u = absurd u
ceil_unsigned (fin false m e) u =
    let n : ℕ = cond (ltb 0 (m * up e % down e)) (m * up e / down e + 1) (m * up e / down e) in
    value_unsigned (odd 128 false n 0 0) (n * 2 ^ 0) (2 ^ 0) (odd_sign 128 false n 0 0)

pub ceil_most : (x : Float) → T (fits binary32 x) → cut (ceil x) ≤ cut x + 1
ceil_most x f = go (le (power 24) x) (lt (of_int binary32 (pos (cut x))) x) refl refl
  where
    go : (a b : Bool) → le (power 24) x ≡ a → lt (of_int binary32 (pos (cut x))) x ≡ b → cut (ceil x) ≤ cut x + 1
    go true b e g = omega (arith, ceil_large x f e)
    go false true e g = omega (arith, ceil_up x e g)
    go false false e g = omega (arith, ceil_stay x e g)
