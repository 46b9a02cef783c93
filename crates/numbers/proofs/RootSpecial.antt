-- The root where no rounding is done: of a NaN, of the two zeros, of what is below zero and of +infinity; and what an
-- f32 tells of its pattern.
use mathlib.Core.Path.{◌≡◌, refl, sym, ap, ◌∙◌, subst}
use Prim.Native.Nat.{ℕ, zero, suc, ◌%◌, ◌^◌, ◌≤◌, ◌<◌}
use native.Mathlib.Nat.{lt_irrefl}
use native.Mathlib.Omega.{arith}
use native.Mathlib.Decide.{dec_lt}
use mathlib.Core.Bool.{Bool, true, false, not, true≢false}
use lib.Dec.{T, nltb→le}
use lib.Ieee.{Float, nan, inf, fin, binary32, ne, div, fits, is_nan, of_bits, to_bits, nan_bits}
use lib.Ieee.Compare.{differs_from_itself}
use lib.Ieee.Bits.{of_bits-to_bits, to_bits-lt, nan_bits_is, nan_bits_above}
use Rattle.numbers.specs.Root.{root}
use Rattle.numbers.proofs.RootPattern.{Below, minus_below}

-- ---- a NaN is what differs from itself

pub nan_root : (x : Float) → ne x x ≡ true → x ≡ root x
unfolding root
nan_root x e = subst (λ (v : Float). v ≡ root v) (sym (differs_from_itself x (subst T (sym e) tt))) refl

pub not_self : (x : Float) → ne x x ≡ false → T (not (is_nan x))
unfolding ne is_nan
not_self nan e = absurd (true≢false e)
not_self (inf s) e = tt
not_self (fin s m k) e = tt

-- ---- by the pattern

pub zero_root : (b : ℕ) → b < 2 ^ 32 → b % 0x80000000 ≡ 0 → of_bits binary32 b ≡ root (of_bits binary32 b)
unfolding root of_bits
zero_root b h e = go (dec_lt b 0x80000000)
  where
    go : Dec (b < 0x80000000) → of_bits binary32 b ≡ root (of_bits binary32 b)
    go (yes l) = let z : 0 ≡ b = omega arith in subst (λ (n : ℕ). of_bits binary32 n ≡ root (of_bits binary32 n)) z refl
    go (no g) = let z : 0x80000000 ≡ b = omega arith in subst (λ (n : ℕ). of_bits binary32 n ≡ root (of_bits binary32 n)) z refl

below_root : (v : Float) → Below v → nan ≡ root v
unfolding root
below_root nan h = refl
below_root (inf true) h = refl
below_root (inf false) h = absurd (true≢false (sym h))
below_root (fin s zero e) (p, h) = absurd (lt_irrefl 0 h)
below_root (fin true (suc m) e) h = refl
below_root (fin false (suc m) e) (p, h) = absurd (true≢false (sym p))

pub minus_root : (b : ℕ) → 0x80000000 < b → b < 2 ^ 32 → nan ≡ root (of_bits binary32 b)
minus_root b lo hi = below_root (of_bits binary32 b) (minus_below b lo hi)

pub inf_root : of_bits binary32 0x7f800000 ≡ root (of_bits binary32 0x7f800000)
unfolding root of_bits
inf_root = refl

-- ---- an f32's own pattern

pub pattern_lt : (x : Float) → T (fits binary32 x) → to_bits binary32 x < 2 ^ 32
pattern_lt x h = to_bits-lt binary32 x h

pub pattern_le : (x : Float) → T (fits binary32 x) → T (not (is_nan x)) → to_bits binary32 x % 0x80000000 ≤ 0x7f800000
pattern_le x h k =
    let b = to_bits binary32 x in
    let n : T (not (nan_bits binary32 b)) = subst (λ (t : Bool). T (not t)) (sym (nan_bits_is binary32 b ∙ ap is_nan (of_bits-to_bits binary32 x h))) k in
    nltb→le 0x7f800000 (b % 0x80000000) (subst (λ (t : Bool). T (not t)) (nan_bits_above binary32 b) n)

pub by_bits : (P : Float → Type 0) (x : Float) → T (fits binary32 x) → P (of_bits binary32 (to_bits binary32 x)) → P x
by_bits P x h p = subst P (of_bits-to_bits binary32 x h) p

-- 0 / 0
pub no_number : div binary32 (of_bits binary32 0) (of_bits binary32 0) ≡ nan
unfolding div of_bits
no_number = refl
