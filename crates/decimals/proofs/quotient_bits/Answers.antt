-- `decimals::quotient_bits` meets its contract: a guess that stands the test is the nearest whole number of the shifted
-- fraction. Assumes nothing.
use Prim.Native.Nat.{ℕ, ◌+◌, ◌-◌, ◌*◌, ◌/◌, ◌%◌, ◌^◌, ◌≤◌, ◌<◌}
use mathlib.Core.Path.{◌≡◌, subst}
use native.Mathlib.Nat.{mod-eq_of_lt, mul-lt-mul_of_pos_right, pow-le-pow_right}
use native.Mathlib.Omega.{arith}
use lib.Dec.{lit<}
use lib.Pow.{pow_pos}
use Rattle.numbers.proofs.RootPattern.{no_nan_bits}
use Rattle.decimals.specs.Inner.Ready.{Tenths}
use Rattle.decimals.proofs.Nearest.{Rounded, number_no_nan, at_most, guessed}
use Rattle.decimals.proofs.quotient_bits.Goals.{Then-is_nearest}
use Rattle.decimals.proofs.quotient_bits.Goals as goal

small : (m d : ℕ) → Tenths m d → m < 2 ^ 37
small m d t = let b = t.below in let l = at_most m d t in omega arith

-- no digit is shifted out
short : (m s : ℕ) → m < 2 ^ 37 → s ≤ 22 → m * 2 ^ s < 2 ^ 59
short m s M h =
    let p : 2 ^ s ≤ 2 ^ 22 = pow-le-pow_right (lit< tt) h in
    let a : m * 2 ^ s < 2 ^ 37 * 2 ^ s = mul-lt-mul_of_pos_right M (pow_pos s) in
    omega arith

unmoved : (m s : ℕ) → m < 2 ^ 37 → s ≤ 22 → m * 2 ^ s % 2 ^ 64 ≡ m * 2 ^ s
unmoved m s M h = let b = short m s M h in mod-eq_of_lt (omega arith)

tested : (m d s q : ℕ) → Tenths m d → 7 ≤ s → s ≤ 22 → q < 16777216 → (8388608 * d ≤ m * 2 ^ s % 2 ^ 64) × (q * d * 2 < m * 2 ^ s % 2 ^ 64 * 2 + d)
    × (m * 2 ^ s % 2 ^ 64 * 2 < q * d * 2 + d)
    → Rounded m d ((149 - s) * 8388608 + q)
tested m d s q t lo hi l f =
    let g = subst (λ (n : ℕ). (8388608 * d ≤ n) × (q * d * 2 < n * 2 + d) × (n * 2 < q * d * 2 + d)) (unmoved m s (small m d t) hi) f in
    guessed m d s q t lo hi l g.0 g.1 g.2

-- where the guess stands the test
found : (c : Then-is_nearest)
    → Rounded c.args.m c.args.d
    ((149 - (22 - c.guess-g.result / 8388608 % 16)) * 8388608 + (c.guess-g.result % 8388608 + 8388608))
found c = tested _ _ _ _ c.requires.1 (omega arith) (omega arith) (omega arith) (c.is_nearest.ensures c.if-is_nearest.true)

pub guess-g-requires : goal.guess-g-requires
guess-g-requires c = let t = c.requires.1 in (small _ _ t, at_most _ _ t)

pub is_nearest-requires : goal.is_nearest-requires
is_nearest-requires c =
    let t = c.requires.1 in let h = short c.args.m (22 - c.guess-g.result / 8388608 % 16) (small _ _ t) (omega arith) in
    (rw (unmoved c.args.m (22 - c.guess-g.result / 8388608 % 16) (small _ _ t) (omega arith)) (omega arith), at_most _ _ t, omega arith)

pub returns-then-is_nearest : goal.returns-then-is_nearest
returns-then-is_nearest c = let r = found c in (r.value, no_nan_bits _ (number_no_nan _ r.nearest.number))
