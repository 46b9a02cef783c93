-- The middle of two f32 coordinates, neither of them below an f32, is not below it either: twice the least and half of
-- that are exact. Assumes nothing.
use Prim.Native.Nat.{ℕ, suc, ◌+◌, ◌*◌, ◌^◌, ◌≤◌, ◌<◌}
use native.Mathlib.Nat.{mul-pos, pow-suc, le_of_mul-le-mul_right, mul-le-mul_right}
use native.Mathlib.Omega.{arith}
use mathlib.Core.Path.{◌≡◌, refl, sym, ap, ◌∙◌, subst}
use mathlib.Core.Bool.{Bool, true, false, true≢false}
use lib.IntN.{ℤ}
use lib.Dec.{T, ltb→lt}
use lib.Pow.{pow_pos}
use lib.Count.{count_trailing_zeros}
use lib.Ieee.{Float, nan, inf, fin, binary32, up, down, span, climb, size, odd, units, round, neg, sum, add, mul, le}
use lib.Ieee.{fits, of_fields, of_bits}
use lib.Ieee.Fits.{down_pos}
use lib.Ieee.Exact.{HasValue, round_exact}
use lib.Ieee.Scale.{finite, round_same}
use Rattle.numbers.specs.Rounded.{f32, ◌⊕◌, ◌⊗◌}
use Rattle.numbers.proofs.OrderLaws.{le→side}
use Rattle.numbers.proofs.OrderLaws as order
use Rattle.numbers.proofs.RoundedOrder.{above, under, rounds_le, rounds_own}
use Rattle.numbers.proofs.SumOrder.{add_monotone}
use Rattle.numbers.proofs.ProductOrder.{mul_monotone_finite}
use Rattle.numbers.specs.Inner.Bounds.{Bounded}
use Rattle.numbers.proofs.Bounded.{bounded_finite, add_bounded, mul_bounded}
use Rattle.numbers.proofs.RootGrid.{f32_whole}
use Rattle.ranges.specs.Range.{farthest}
use Rattle.decisions.specs.Decisions.{halfway}

abbrev half : Float
half = f32 0x3f000000

-- ---- half of twice a number
halved : (s : Bool) (m : ℕ) (e : ℤ) (z : Float) → T (fits binary32 (fin s m e))
    → HasValue z s (2 * (m * up e)) (down e) → T (le (fin s m e) (z ⊗ half))
unfolding mul of_bits
halved s m e nan f v = absurd v
halved s m e (inf t) f v = absurd v
halved true m e (fin true n d) f v =
    let a : n * up d * (1 * 1) ≡ 0 + n * up d * (1 * 1) = omega arith in
    rounds_le (down_pos e) (mul-pos (down_pos d) (pow_pos 1)) (rounds_own (fin true m e) f tt)
    (under {p = 0} (n * up d * (1 * 1)) a refl) (omega (arith, v.1))
halved false m e (fin false n d) f v =
    let a : n * up d * (1 * 1) ≡ 0 + n * up d * (1 * 1) = omega arith in
    rounds_le (down_pos e) (mul-pos (down_pos d) (pow_pos 1)) (rounds_own (fin false m e) f tt)
    (above {n = 0} (n * up d * (1 * 1)) a refl) (omega (arith, v.1))
halved true m e (fin false n d) f v = absurd (true≢false (sym v.0))
halved false m e (fin true n d) f v = absurd (true≢false v.0)

-- ---- twice a number
doubled_is : (s : Bool) (m : ℕ) (e : ℤ)
    → fin s m e ⊕ fin s m e ≡ round binary32 s (m * up e * down e + m * up e * down e) (down e * down e)
unfolding add sum
doubled_is true m e = refl
doubled_is false m e = refl

twice : (x d : ℕ) → (x * d + x * d) * d ≡ 2 * x * (d * d)
twice x d = omega arith

-- at most 10,000 in size
few_units : (s : Bool) (m : ℕ) (e : ℤ) → Bounded (fin s m e) farthest → m * up e ≤ 10000 * down e
unfolding of_bits neg
few_units true m e b = omega (arith, le→side (neg farthest) (fin true m e) tt tt b.lower)
few_units false m e b = omega (arith, le→side (fin false m e) farthest tt tt b.upper)

doubled : (s : Bool) (m : ℕ) (e : ℤ) → T (fits binary32 (fin s m e)) → Bounded (fin s m e) farthest
    → HasValue (fin s m e ⊕ fin s m e) s (2 * (m * up e)) (down e)
doubled s m e f b =
    let w = f32_whole s m e f in
    let g = w.2 in
    let d : ℕ = down e in
    let is : fin s m e ⊕ fin s m e ≡ round binary32 s (2 * (m * up e)) d =
    doubled_is s m e
    ∙ round_same binary32 s (m * up e * d + m * up e * d) (d * d) (2 * (m * up e)) d
    (mul-pos (down_pos e) (down_pos e)) (down_pos e) (twice (m * up e) d) in
    let next : 2 ^ suc g.j ≡ 2 ^ g.j * 2 = pow-suc 2 g.j in
    let whole : g.q * 2 ^ suc g.j ≡ 2 * w.0 = omega (arith, ap (λ (k : ℕ). g.q * k) next, g.is) in
    let grid : 2 * (m * up e) * 2 ^ 149 ≡ g.q * 2 ^ suc g.j * d =
    go (m * up e) d w.0 (2 ^ 149) w.1.1 ∙ ap (λ (k : ℕ). k * d) (sym whole) in
    let most : w.0 ≤ 10000 * 2 ^ 149 =
    le_of_mul-le-mul_right {k = d}
    (few (m * up e) d w.0 (2 ^ 149) w.1.1 (mul-le-mul_right (2 ^ 149) (few_units s m e b))) (down_pos e) in
    let small : g.q * 2 ^ suc g.j < 2 ^ 277 =
    subst (λ (k : ℕ). k < 2 ^ 277) (sym whole)
    (bound w.0 (2 ^ 149) (2 ^ 277) most (ltb→lt (2 * (10000 * 2 ^ 149)) (2 ^ 277) tt)) in
    subst (λ (z : Float). HasValue z s (2 * (m * up e)) d) (sym is)
    (round_exact binary32 s (2 * (m * up e)) d g.q (suc g.j) (down_pos e) g.few small grid)
  where
    go : (x d n w : ℕ) → x * w ≡ n * d → 2 * x * w ≡ 2 * n * d
    go x d n w h = omega (arith, h)

    few : (x d n w : ℕ) → x * w ≡ n * d → x * w ≤ 10000 * d * w → n * d ≤ 10000 * w * d
    few x d n w h k = omega (arith, h, k)

    bound : (n w t : ℕ) → n ≤ 10000 * w → 2 * (10000 * w) < t → 2 * n < t
    bound n w t h k = omega (arith, h, k)

twice_half : (l : Float) → T (fits binary32 l) → Bounded l farthest → T (le l ((l ⊕ l) ⊗ half))
unfolding of_bits
twice_half nan f b = absurd (bounded_finite nan farthest tt b)
twice_half (inf s) f b = absurd (bounded_finite (inf s) farthest tt b)
twice_half (fin s m e) f b = halved s m e (fin s m e ⊕ fin s m e) f (doubled s m e f b)

-- ---- the middle
top_finite : T (finite (farthest ⊕ farthest))
unfolding count_trailing_zeros span climb size odd units round sum add of_fields of_bits
top_finite = tt

module _ (x y : Float) (bx : Bounded x farthest) (by : Bounded y farthest) where
  sum_finite : T (finite (x ⊕ y))
  unfolding of_bits
  sum_finite = bounded_finite (x ⊕ y) (farthest ⊕ farthest) top_finite (add_bounded x y farthest farthest tt tt bx by)

  pub middle_bounded : Bounded (halfway x y) farthest
  unfolding count_trailing_zeros span climb size odd units round neg sum add mul le of_fields of_bits
  middle_bounded =
      mul_bounded (x ⊕ y) half (farthest ⊕ farthest) half top_finite tt tt tt
      (add_bounded x y farthest farthest tt tt bx by) (record { upper = tt; lower = tt })

pub middle_least_lem : (l x y : Float) → T (fits binary32 l) → Bounded l farthest → Bounded x farthest → Bounded y farthest
    → T (le l x) → T (le l y) → T (le l (halfway x y))
unfolding of_bits le
middle_least_lem l x y f bl bx by h k =
    let fl = bounded_finite l farthest tt bl in
    let fx = bounded_finite x farthest tt bx in
    let fy = bounded_finite y farthest tt by in
    order.le_trans l ((l ⊕ l) ⊗ half) (halfway x y) (twice_half l f bl)
    (mul_monotone_finite (l ⊕ l) (x ⊕ y) half (sum_finite l l bl bl) (sum_finite x y bx by) tt
    (add_monotone l x l y fl fx fl fy h k) tt)
