-- The computed cosine is at least the bound (`cosine_above`): the errors of each operation from the squares on, put
-- into the chain of `Chain`. Assumes nothing.
use mathlib.Core.Path.{◌≡◌, refl, ap, ◌∙◌, subst}
use Prim.Native.Nat.{ℕ, ◌+◌, ◌-◌, ◌*◌, ◌^◌, ◌≤◌, ◌<◌}
use native.Mathlib.Nat.{le_refl, mul_comm, mul-le-mul, mul-le-mul_right, le_of_mul-le-mul_right}
use native.Mathlib.Omega.{arith}
use lib.Dec.{T}
use lib.Pow.{pow_pos}
use lib.Ieee.{Float, le, of_bits}
use lib.Ieee.Order.{le_of_values}
use Rattle.numbers.specs.Rounded.{f32}
use Rattle.numbers.specs.Root.{root}
use Rattle.rounding_errors.proofs.Near.{Near, near_eq, near_trans, near_mul, near_add, near_times, near_cancel}
use Rattle.rounding_errors.proofs.Rounding.{Units, units_pos}
use Rattle.rounding_errors.proofs.Operations.{mul_units, div_units, add_units, root_units}
use Rattle.rounding_errors.proofs.Signed.{sub_units}
use Rattle.slivers.specs.Inner.Slivers.{cosine_of}
use Rattle.cosines.specs.Inner.Cosine.{Margin}
use Rattle.cosines.proofs.Points.{Square}
use Rattle.cosines.proofs.Chain.{dot_above, difference_some, cosine_large, quotient_large}

two_units : Units (f32 0x40000000) (2 ^ 150) 150 150
unfolding of_bits
two_units = record { value = (refl, refl); low = le_refl (2 ^ 150); high = le_refl (2 ^ 150) }

-- ---- what the squares say

-- of the exact squares A, C, B and X, the limit l and the ratio r
pub record Flat (A C B X l r : ℕ) : Type 0 where
  pub identity : (E : ℕ) → E + B ≡ A + C → 4 * (A * C) ≡ E * E + 4 * X
  pub small : 32 * (X * 2 ^ 149) ≤ 33 * (l * (A * C))
  pub first : Near 13 A (r * r * C)
  pub second : Near 13 C (r * r * A)
  pub third : B ≤ A + C
  pub sum : (z : ℕ) → Near 18 (A * C) (z * z) → A + B + C ≤ 4 * (r * z)

pub flat_swapped : {A C B X l r : ℕ} → Flat A C B X l r → Flat C A B X l r
flat_swapped {A} {C} {B} {X} {l} {r} h = record {
  identity = λ E e. ap (λ (v : ℕ). 4 * v) (mul_comm C A) ∙ h.identity E (turned e);
  small = subst (λ (v : ℕ). 32 * (X * 2 ^ 149) ≤ 33 * (l * v)) (mul_comm A C) h.small;
  first = h.second;
  second = h.first;
  third = again h.third;
  sum = λ z k. again' (4 * (r * z)) (h.sum z (near_eq {k = 18} (mul_comm C A) refl k));
}
  where
    turned : {s : ℕ} → s ≡ C + A → s ≡ A + C
    turned e = omega arith

    again : B ≤ A + C → B ≤ C + A
    again g = omega arith

    again' : (v : ℕ) → A + B + C ≤ v → C + B + A ≤ v
    again' v g = omega arith

-- ---- the cosine

grouped : (a c : ℕ) → a * a * (c * c) ≡ a * c * (a * c)
grouped a c = omega arith

lengths_below : {A C : ℕ} (a c : ℕ) → Near 9 (a * a) A → Near 9 (c * c) C → Near 18 (a * c * (a * c)) (A * C)
lengths_below a c h k = near_eq {k = 18} (grouped a c) refl (near_mul h k)

lengths_above : {A C : ℕ} (a c : ℕ) → Near 9 A (a * a) → Near 9 C (c * c) → Near 18 (A * C) (a * c * (a * c))
lengths_above a c h k = near_eq {k = 18} refl (grouped a c) (near_mul h k)

-- what the limit leaves
left_over : (w l s : ℕ) → s + 33 * l ≤ 32 * w → (j : ℕ) × (j + 33 * l ≡ 32 * w) × (s ≤ j)
left_over w l s h = (32 * w - 33 * l, omega arith, omega arith)

at_most : (j l w : ℕ) → j + l ≡ w → j ≤ w
at_most j l w e = omega arith

doubled : (v w k : ℕ) → w ≡ 2 * v → v ≤ k → w ≤ 2 * k
doubled v w k e h = omega arith

two_times : (w v a q : ℕ) → 0 < w → v ≡ 2 * w → Near 1 (q * w) (v * a) → Near 1 q (2 * a)
two_times w v a q W e h = near_cancel w W (near_eq refl (ap (λ (z : ℕ). z * a) e ∙ moved w a) h)
  where
    moved : (w a : ℕ) → 2 * w * a ≡ 2 * a * w
    moved w a = omega arith

-- a difference that is not below v
rest : (w z b s v : ℕ) → 0 < w → z + 4 * (b * w) ≤ 4 * (s * w) → v * 4 * w ≤ z → (d : ℕ) × (s ≡ b + d) × (v ≤ d)
rest w z b s v W h k =
    let i : b * w ≤ s * w = omega arith in
    let j : b ≤ s = le_of_mul-le-mul_right i W in
    let d = s - b in
    let e : s ≡ b + d = omega arith in
    let t = ap (λ (x : ℕ). x * w) e in
    let l : v * w ≤ d * w = omega arith in
    (d, e, le_of_mul-le-mul_right l W)

sums_near : (w A C a c s : ℕ) → Near 10 A (a * w) → Near 10 C (c * w) → Near 1 (a + c) s → Near 11 (A + C) (s * w)
sums_near w A C a c s h k l = near_trans (near_eq {k = 10} refl (grouped a c w) (near_add h k)) (near_times w l)
  where
    grouped : (a c w : ℕ) → a * w + c * w ≡ (a + c) * w
    grouped a c w = omega arith

product_near : (w a c q p : ℕ) → Near 1 (p * w) (q * c) → Near 1 q (2 * a) → Near 2 (p * w) (2 * (a * c))
product_near w a c q p h k = near_trans h (near_eq {k = 1} refl (grouped a c) (near_times c k))
  where
    grouped : (a c : ℕ) → 2 * a * c ≡ 2 * (a * c)
    grouped a c = omega arith

pub cosine_above : (xa xc xb κ t : Float) {A C B X r : ℕ} → Square xa A → Square xc C → Square xb B → (m : Margin r κ t) → r ≤ 256 → Flat A C B X m.l r
    → T (le κ (cosine_of (root xb) (root xa) (root xc)))
unfolding cosine_of
cosine_above xa xc xb κ t {A} {C} {B} {X} {r} sa sc sb m R h =
    let w : ℕ = 2 ^ 149 in
    let W : 0 < w = pow_pos 149 in
    let ra = root_units 128 163 sa.held sa.is tt in
    let rc = root_units 128 163 sc.held sc.is tt in
    let rb = root_units 128 163 sb.held sb.is tt in
    let aa = mul_units 107 177 ra.is ra.is tt in
    let cc' = mul_units 107 177 rc.is rc.is tt in
    let bb = mul_units 107 177 rb.is rb.is tt in
    let s = add_units 107 178 aa.is cc'.is tt tt in
    let q = mul_units 129 164 two_units ra.is tt in
    let p = mul_units 108 178 q.is rc.is tt in
    let na : Near 9 A (ra.n * ra.n) = near_trans sa.above ra.above in
    let nc : Near 9 C (rc.n * rc.n) = near_trans sc.above rc.above in
    let z = ra.n * rc.n in
    let zb : Near 18 (z * z) (A * C) = lengths_below ra.n rc.n (near_trans ra.below sa.below) (near_trans rc.below sc.below) in
    let E = A + C - B in
    let third = h.third in
    let whole : E + B ≡ A + C = omega (arith, third) in
    let j = left_over w m.l (32 * (m.k + (r + 1) * 2 ^ 130)) m.short in
    let dot = dot_above w A C X E m.l j.0 z (h.identity E whole) h.small j.1 zb in
    let sum : Near 11 (A + C) (s.n * w) = sums_near w A C aa.n cc'.n s.n (near_trans na aa.above) (near_trans nc cc'.above) s.above in
    let bs : Near 10 (bb.n * w) B = near_trans bb.below (near_trans rb.below sb.below) in
    let edges = h.sum z (lengths_above ra.n rc.n na nc) in
    let K = doubled (2 ^ 148) w m.k refl m.half in
    let some = difference_some w (2 ^ 130) m.k r j.0 E A B C z s.n bb.n refl (pow_pos 130) K j.2
    (at_most j.0 (33 * m.l) (32 * w) j.1) R dot whole sum bs edges in
    let d = rest w z bb.n s.n (2 ^ 105) W some (mul-le-mul ra.is.low rc.is.low) in
    let large = cosine_large w (2 ^ 130) m.k r j.0 E A B C z s.n bb.n refl (pow_pos 130) K j.2
    (at_most j.0 (33 * m.l) (32 * w) j.1) R dot whole sum bs edges d.0 d.1 in
    let x = sub_units 105 d.0 s.is bb.is d.1 d.2 tt in
    let v = div_units 76 219 x.is p.is tt in
    le_of_values κ (cosine_of (root xb) (root xa) (root xc)) m.k w v.n w W W m.bound v.is.value
    (mul-le-mul_right w (quotient_large w m.k z d.0 x.n p.n v.n W (units_pos p.is) large x.above
    (product_near w ra.n rc.n q.n p.n p.below (two_times w (2 ^ 150) ra.n q.n W refl q.below)) v.above))
