-- A part in a million more of a square has a greater root: seven roundings are less. Assumes nothing.
use mathlib.Core.Path.{◌≡◌, refl, subst, subst⁻¹}
use mathlib.Core.Logic.{⊎_elim}
use Prim.Native.Nat.{ℕ, ◌*◌, ◌^◌, ◌≤◌, ◌<◌}
use native.Mathlib.Nat.{le_refl, mul-pos, mul-le-mul}
use native.Mathlib.Omega.{arith}
use native.Mathlib.Bridge.{IsLe, le_by_compare}
use mathlib.Core.Bool.{Bool, true, false, cond, not}
use lib.Dec.{T}
use lib.Pow.{pow_pos}
use lib.Ieee.{Float, binary32, fits, is_nan, lt, le, of_bits}
use lib.Ieee.Fits.{mul-fits}
use lib.Ieee.Order.{le_of_values}
use lib.Ieee.Positive.{positive-finite}
use Rattle.numbers.specs.Rounded.{◌⊗◌, f32}
use Rattle.numbers.specs.Root.{root}
use Rattle.numbers.proofs.OrderLaws.{finite_number, lt_le, le_right, le_or_lt, le_lt_trans, not_lt_le}
use Rattle.numbers.proofs.RootMonotone.{root_monotone}
use Rattle.rounding_errors.proofs.Near.{Near, near_le, near_trans, near_within}
use Rattle.rounding_errors.proofs.Rounding.{Units, units_pos, units_positive}
use Rattle.rounding_errors.proofs.Operations.{between_units, units_le, mul_units, root_units}
use Rattle.bounds.specs.Inner.Within.{Limit}
use Rattle.bounds.proofs.Beyond.{limit_tested}
use Rattle.nearest.specs.Least.{greater}

-- 1.000001 as an f32 is 8388616 / 8388608
factor : Units (f32 0x3f800008) (8388616 * 2 ^ 126) 149 150
unfolding IsLe of_bits
factor = record { value = (refl, refl); low = le_by_compare (2 ^ 149) (8388616 * 2 ^ 126) tt; high = le_by_compare (8388616 * 2 ^ 126) (2 ^ 150) tt }

-- 2 ^ -100 and 2 ^ 100
least : Units (f32 0x0d800000) (2 ^ 49) 49 49
unfolding of_bits
least = record { value = (refl, refl); low = le_refl (2 ^ 49); high = le_refl (2 ^ 49) }

most : Units (f32 0x71800000) (2 ^ 249) 249 249
unfolding of_bits
most = record { value = (refl, refl); low = le_refl (2 ^ 249); high = le_refl (2 ^ 249) }

nothing : (w n : ℕ) → 0 * w ≤ n * w
nothing w n = omega arith

zero-le : {x : Float} {n i j : ℕ} → Units x n i j → T (le (f32 0) x)
zero-le {x} {n} u = le_of_values (f32 0) x 0 (2 ^ 149) n (2 ^ 149) (pow_pos 149) (pow_pos 149) (unfold of_bits in (refl, refl)) u.value (nothing (2 ^ 149) n)

number : {x : Float} {n i j : ℕ} → Units x n i j → T (not (is_nan x))
number {x} u = finite_number x (positive-finite x (units_positive u))

-- m is the square, v a part in 8388608 of a whole, w the whole
stuck : (m v w : ℕ) → 0 < m * v → w ≡ 8388608 * v → m * (8388616 * v) * 2097151 ≤ m * w * 2097152 → ⊥
stuck m v w p e h =
    let k : m * (8388616 * v) * 2097151 ≤ m * (8388608 * v) * 2097152 = subst (λ (z : ℕ). m * (8388616 * v) * 2097151 ≤ m * z * 2097152) e h in omega arith

-- a and b are the roots of the square and of more than it
apart : (m n a b : ℕ) → 0 < m → Near 1 (m * (8388616 * 2 ^ 126)) (n * 2 ^ 149) → Near 3 (n * 2 ^ 149) (b * b) → Near 3 (a * a) (m * 2 ^ 149) → b ≤ a → ⊥
unfolding IsLe
apart m n a b p x y z h =
    let c : Near 7 (m * (8388616 * 2 ^ 126)) (m * 2 ^ 149) = near_trans (near_trans (near_trans x y) (near_le (mul-le-mul h h))) z in
    stuck m (2 ^ 126) (2 ^ 149) (mul-pos p (pow_pos 126)) refl
    (near_within {p = m * (8388616 * 2 ^ 126)} {q = m * 2 ^ 149} 7 2097151 2097152 (le_by_compare (2097151 * 16777216 ^ 7) (2097152 * 16777215 ^ 7) tt) c)

margin : (s : Float) → T (fits binary32 s) → T (le (f32 0x0d800000) s) → T (le s (f32 0x71800000)) → Limit (root s) (s ⊗ f32 0x3f800008)
margin s f l h =
    let u = between_units s (f32 0x0d800000) (f32 0x71800000) 49 249 f least.value most.value l h in
    let t = s ⊗ f32 0x3f800008 in
    let tf : T (fits binary32 t) = mul-fits binary32 s (f32 0x3f800008) in
    let p = mul_units 49 250 u.1 factor tt in
    let a = root_units 98 200 f u.1 tt in
    let b = root_units 98 200 tf p.is tt in
    limit_tested (root s) t tf (zero-le p.is)
    (⊎_elim (λ k. absurd (apart u.0 p.n a.n b.n (units_pos u.1) p.above b.above a.below (units_le b.is a.is k))) (λ k. k)
    (le_or_lt (root t) (root s) (number b.is) (number a.is)))

-- a square that is less than the least one has no greater root
raised : (s : Float) → T (fits binary32 s) → T (le (f32 0) s) → T (le s (f32 0x71800000)) → (b : Bool) → lt s (f32 0x0d800000) ≡ b
    → Limit (root s) (cond b (f32 0x0d800000) s ⊗ f32 0x3f800008)
raised s f z h true e x g k =
    le_lt_trans (root s) (root (f32 0x0d800000)) (root x)
    (root_monotone s (f32 0x0d800000) f (unfold fits of_bits in tt) z (lt_le s (f32 0x0d800000) (subst⁻¹ T e tt)))
    (margin (f32 0x0d800000) (unfold fits of_bits in tt) (unfold le of_bits in tt) (unfold le of_bits in tt) x g k)
raised s f z h false e x g k =
    margin s f (not_lt_le s (f32 0x0d800000) (le_right (f32 0) s z) (unfold is_nan of_bits in tt) (subst⁻¹ (λ (b : Bool). T (not b)) e tt)) h x g k

pub raised_limit : (s : Float) {m : Float} → T (fits binary32 s) → T (le (f32 0) s) → T (le s (f32 0x71800000)) → m ≡ greater s (f32 0x0d800000)
    → Limit (root s) (m ⊗ f32 0x3f800008)
unfolding greater
raised_limit s f z h e = subst⁻¹ (λ (m : Float). Limit (root s) (m ⊗ f32 0x3f800008)) e (raised s f z h (lt s (f32 0x0d800000)) refl)

pub root_limit : (s t : Float) {d : Float} → d ≡ root s → Limit d t → Limit (root s) t
root_limit s t e l = subst (λ (z : Float). Limit z t) e l
