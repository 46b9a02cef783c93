-- The percentile of a part of a slice, and that its index is below the count.
-- Assumes nothing.
use mathlib.Core.Path.{◌≡◌, refl, sym, ap, ◌∙◌, subst}
use mathlib.Core.Bool.{Bool, true, false, cond, ◌&&◌, ◌||◌, true≢false}
use mathlib.Core.List.{List, [], ◌∷◌}
use Prim.Native.Nat.{ℕ, zero, suc, ◌+◌, ◌-◌, ◌*◌, ◌/◌, ◌%◌, ◌^◌, ◌≤◌, ◌<◌, zero-le, compare}
use native.Mathlib.Omega.{arith}
use lib.ListN.{length, take, drop, get_or, get_or-eq_default}
use lib.Dec.{T, ltb, eqb, ltb→lt, eqb→eq, le→leb}
use native.Mathlib.Nat.{le_of_lt, le_of_eq, mul-one, mul_assoc, mul-le-mul_left, mul-pos}
use lib.IntN.{pos}
use lib.Ieee.{Float, nan, inf, fin, Format, binary32, prec, emax, low, size, nearest, odd, units, round, up, down, of_bits, of_int, mul, le, to_unsigned, in_float}
use lib.Ieee.Fits.{down_pos}
use lib.Ieee.Nearest.{div_mono}
use lib.Ieee.Positive.{through}
use lib.Ieee.Exact.{HasValue}
use lib.Ieee.Back.{round_whole}
use lib.Ieee.Order.{round_mono}
use Rattle.numbers.specs.Rounded.{f32}
use Rattle.sorting.specs.Sorted.{index_of, percentile_of}
use Rattle.sorting.proofs.Insertion.{part_length, part_at}

-- a count is an f32 exactly
pub small : (k : ℕ) → k ≤ 4096 → T (in_float binary32 (pos k))
unfolding in_float
small k h = le→leb k 16777216 (omega arith)

get_d_any : {A : Type 0} (l : List A) (i : ℕ) (d e : A) → i < length l → get_or l i d ≡ get_or l i e
get_d_any [] i d e h = absurd (omega arith)
get_d_any (x ∷ xs) zero d e h = refl
get_d_any (x ∷ xs) (suc i) d e h = get_d_any xs i d e (omega arith)

module _ (w : List Float) (at count : ℕ) (p : Float) (k : ℕ) (long : at + count ≤ length w) (ek : k ≡ index_of count p) where
  percentile_at : percentile_of (take count (drop at w)) p ≡ get_or (take count (drop at w)) k (f32 0)
  unfolding percentile_of
  percentile_at = ap (λ (n : ℕ). get_or (take count (drop at w)) (index_of n p) (f32 0)) (part_length w at count long) ∙ ap
      (λ (i : ℕ). get_or (take count (drop at w)) i (f32 0)) (sym ek)

  pub percentile_inside_lem : k < count → get_or w (at + k) nan ≡ percentile_of (take count (drop at w)) p
  percentile_inside_lem h =
      sym (part_at w at count long k nan h) ∙ get_d_any (take count (drop at w)) k nan (f32 0)
      (subst (λ (n : ℕ). k < n) (sym (part_length w at count long)) h) ∙ sym percentile_at

  pub percentile_outside : count ≤ k → f32 0 ≡ percentile_of (take count (drop at w)) p
  percentile_outside h = sym
      (percentile_at ∙ get_or-eq_default (take count (drop at w)) (f32 0) (subst (λ (n : ℕ). n ≤ k) (sym (part_length w at count long)) h))

-- ---- the index is below the count

-- what is negative is cut to 0
cut_negative : (w : ℕ) (f : Format) (a c : ℕ) → to_unsigned w (round f true a c) ≡ 0
unfolding round units to_unsigned odd
cut_negative w f a c =
    let n = a * 2 ^ low f in
    let k = size (n / c) - prec f in
    let u = c * 2 ^ k in
    go (ltb (nearest (n / u) (compare (n % u * 2) u) * 2 ^ k) (2 ^ (low f + suc (emax f)))) (nearest (n / u) (compare (n % u * 2) u)) k
  where
    go : (b : Bool) (q k : ℕ) → to_unsigned w (cond b (odd (suc (prec f)) true q k (low f)) (inf true)) ≡ 0
    go true zero k = refl
    go true (suc q) k = refl
    go false q k = refl

at_most : (a b : ℕ) (t : Bool) → T (ltb a b || (eqb a b && t)) → a ≤ b
at_most a b t = go (ltb a b) (eqb a b) (ltb→lt a b) (eqb→eq a b)
  where
    go : (x y : Bool) → (T x → a < b) → (T y → a ≡ b) → T (x || (y && t)) → a ≤ b
    go true y l e h = le_of_lt (l tt)
    go false true l e h = le_of_eq (e tt)
    go false false l e h = absurd h

-- what is at most a whole number is cut to at most that
cut_under : (w k : ℕ) (x y : Float) → HasValue y false k 1 → T (le x y) → to_unsigned w x ≤ k
unfolding to_unsigned le
cut_under w k nan y v h = zero-le
cut_under w k (inf true) y v h = zero-le
cut_under w k (inf false) nan v h = absurd v
cut_under w k (inf false) (inf t) v h = absurd v
cut_under w k (inf false) (fin t n d) v h = absurd h
cut_under w k (fin true m e) y v h = zero-le
cut_under w k (fin false m e) nan v h = absurd v
cut_under w k (fin false m e) (inf t) v h = absurd v
cut_under w k (fin false m e) (fin true n d) v h = absurd (true≢false v.0)
cut_under w k (fin false m e) (fin false n d) v h =
    let c : m * up e * 1 ≤ k * down e = through (m * up e) (n * up d) k (down e) (down d) 1 (down_pos d)
    (at_most (m * up e * down d) (n * up d * down e) true h) (le_of_eq v.1) in
    let q : m * up e / down e ≤ k / 1 = div_mono (m * up e) (down e) k 1 (down_pos e) (omega arith) c in
    omega arith

-- a whole number times at most 1
product_under : (w k : ℕ) (x p : Float) → k ≤ 4096 → HasValue x false k 1 → T (le (f32 0) p) → T (le p (f32 0x3f800000)) → to_unsigned w (mul binary32 x p) ≤ k
unfolding mul le of_bits
product_under w k nan p h v a b = absurd v
product_under w k (inf s) p h v a b = absurd v
product_under w k (fin true m e) p h v a b = absurd (true≢false v.0)
product_under w k (fin false m e) nan h v a b = absurd b
product_under w k (fin false m e) (inf true) h v a b = absurd a
product_under w k (fin false m e) (inf false) h v a b = absurd b
product_under w k (fin false m e) (fin true n d) h v a b =
    let z : to_unsigned w (round binary32 true (m * up e * (n * up d)) (down e * down d))
    ≡ 0 = cut_negative w binary32 (m * up e * (n * up d)) (down e * down d) in
    omega arith
product_under w k (fin false m e) (fin false n d) h v a b =
    let one : n * up d * 1 ≤ 1 * down d = at_most (n * up d * 1) (1 * down d) true b in
    let few : n * up d ≤ down d = omega arith in
    let same : m * up e ≡ k * down e = omega (arith, v.1) in
    let less : m * up e * (n * up d) * 1 ≤ k * (down e * down d) = simp (mul-one, same, mul_assoc) (mul-le-mul_left k (mul-le-mul_left (down e) few)) in
    cut_under w k (round binary32 false (m * up e * (n * up d)) (down e * down d)) (round binary32 false k 1) (round_whole binary32 false k (omega arith))
    (round_mono binary32 (m * up e * (n * up d)) (down e * down d) k 1 (mul-pos (down_pos e) (down_pos d)) (omega arith) less)

-- so that the default of `percentile_of` is never taken
pub index_below : (count : ℕ) (p : Float) → 1 ≤ count → count ≤ 4096 → T (le (f32 0) p) → T (le p (f32 0x3f800000)) → index_of count p < count
unfolding of_int
index_below count p some few low high =
    let l : index_of count p ≤ count - 1 = product_under 32 (count - 1) (round binary32 false (count - 1) 1) p (omega arith)
    (round_whole binary32 false (count - 1) (omega arith)) low high in
    omega arith
