-- What the test says is of two of the three edges (`long_is`), and then the edge ratio times the root of the area is
-- above every bound that the limit is for, in each order of the edges (`long_edges`). Assumes nothing.
use Prim.Native.Nat.{ℕ, ◌*◌, ◌^◌, ◌≤◌, ◌<◌}
use native.Mathlib.Omega.{arith}
use native.Mathlib.Bridge.{IsLe, le_by_compare}
use mathlib.Core.Path.{◌≡◌, refl, sym, subst}
use mathlib.Core.Bool.{Bool, true, false, not, cond}
use lib.Dec.{T, not_T}
use lib.Pow.{pow-lt}
use lib.Ieee.{Float, binary32, lt, le, fits, is_nan, of_bits}
use lib.Ieee.Bits.{is_true}
use lib.Ieee.Fits.{and_l, and_r, mul-fits}
use lib.Ieee.Scale.{finite}
use lib.Ieee.Positive.{positive-finite}
use Rattle.numbers.specs.Rounded.{f32, ◌⊗◌, ◌⊘◌}
use Rattle.numbers.specs.Root.{root}
use Rattle.numbers.specs.Order.{minimum, maximum}
use Rattle.numbers.proofs.Above.{positive_signless}
use Rattle.numbers.proofs.OrderLaws.{finite_number, unsigned_le, le_trans, lt_le_trans, not_le_lt}
use Rattle.numbers.proofs.Minimum.{minimum_either, minimum_first, minimum_le}
use Rattle.numbers.proofs.Maximum.{maximum_left, maximum_right}
use Rattle.numbers.proofs.ProductOrder.{mul_monotone_finite}
use Rattle.numbers.proofs.QuotientOrder.{div_monotone, div_antitone}
use Rattle.quality.specs.Measures.{half, tiny, least, largest, edge_ratio}
use Rattle.rounding_errors.proofs.Rounding.{Units, units_positive}
use Rattle.rounding_errors.proofs.Operations.{units_le, mul_units, div_units, root_units}
use Rattle.long_edges.specs.Inner.LongEdges.{edge_between, is_plain_triple, is_beyond, extent, LongLimit, OneOf, first, second, third, Long}
use Rattle.long_edges.proofs.Limit.{half_units, short_units, cross_units}

-- ---- the shortest and the longest are two of three

maximum_either : (P : Float → Type 0) (a b : Float) → P a → P b → P (maximum a b)
unfolding maximum
maximum_either P a b p q = go (is_nan a) (lt a b)
  where
    go : (n l : Bool) → P (cond n b (cond l b a))
    go true l = q
    go false true = q
    go false false = p

one_held : (P : Float → Type 0) {x a b c : Float} → P a → P b → P c → OneOf x a b c → P x
one_held P p q r (first e) = subst P (sym e) p
one_held P p q r (second e) = subst P (sym e) q
one_held P p q r (third e) = subst P (sym e) r

abbrev is_short : Float → Bool
is_short x = edge_between x (f32 0x2b800000) (f32 0x4c800000)

pub long_is : (a b c cross limit short long : Float) → short ≡ minimum (minimum a b) c → long ≡ maximum (maximum a b) c → T (is_plain_triple a b c)
    → T (is_beyond short long cross limit) → Long limit a b c cross
unfolding is_plain_triple
long_is a b c cross limit short long es el p h =
    let P : Float → Type 0 = λ x. OneOf x a b c in
    let q = and_r (is_short a) _ p in
    record {
      short = short;
      long = long;
      short_of = subst P (sym es) (minimum_either P (minimum a b) c (minimum_either P a b (first refl) (second refl)) (third refl));
      long_of = subst P (sym el) (maximum_either P (maximum a b) c (maximum_either P a b (first refl) (second refl)) (third refl));
      plain = λ x. one_held (λ v. T (is_short v)) (and_l (is_short a) _ p) (and_l (is_short b) _ q) (and_r (is_short b) (is_short c) q);
      beyond = h;
    }

-- ---- the edge ratio of three lengths

-- a length of such a square
abbrev Length : Float → Type 0
Length x = (n : ℕ) × Units x n 128 163

length_of : (x : Float) → T (fits binary32 x) → T (edge_between x (f32 0x2b800000) (f32 0x4c800000)) → Length (root x)
length_of x f h = let r = root_units 128 163 f (short_units x f h).1 tt in (r.n, r.is)

positive_units : {x : Float} {n i j : ℕ} → Units x n i j → T (finite x)
positive_units {x} u = positive-finite x (units_positive u)

tiny_units : Units tiny (14411519 * 2 ^ 92) 115 116
unfolding of_bits IsLe
tiny_units = record { value = (refl, refl); low = le_by_compare (2 ^ 115) (14411519 * 2 ^ 92) tt; high = le_by_compare (14411519 * 2 ^ 92) (2 ^ 116) tt }

-- not below 2 ^ -21
above_tiny : (x : Float) → Length x → lt tiny x ≡ true
above_tiny x u =
    is_true (lt tiny x)
    (not_le_lt x tiny (finite_number x (positive_units u.1)) (finite_number tiny (positive_units tiny_units))
    (not_T (le x tiny) (λ h. between_none (2 ^ 116) (2 ^ 128) u.0 (14411519 * 2 ^ 92) (pow-lt {i = 116} {j = 128} (omega arith)) u.1.low
    (units_le u.1 tiny_units h) tiny_units.high)))
  where
    between_none : (a b n t : ℕ) → a < b → b ≤ n → n ≤ t → t ≤ a → ⊥
    between_none a b n t h i j k = omega arith

module _ (x y z : Float) (ux : Length x) (uy : Length y) (uz : Length z) where
  nx : T (not (is_nan x))
  nx = finite_number x (positive_units ux.1)

  ny : T (not (is_nan y))
  ny = finite_number y (positive_units uy.1)

  nz : T (not (is_nan z))
  nz = finite_number z (positive_units uz.1)

  least_units : Length (least x y z)
  unfolding least
  least_units = minimum_either Length (minimum x y) z (minimum_either Length x y ux uy) uz

  largest_units : Length (largest x y z)
  unfolding largest
  largest_units = maximum_either Length (maximum x y) z (maximum_either Length x y ux uy) uz

  lesser : T (not (is_nan (minimum x y)))
  lesser = let u = minimum_either Length x y ux uy in finite_number (minimum x y) (positive_units u.1)

  greater : T (not (is_nan (maximum x y)))
  greater = let u = maximum_either Length x y ux uy in finite_number (maximum x y) (positive_units u.1)

  least_below : (s : Float) → OneOf s x y z → T (le (least x y z) s)
  unfolding least
  least_below s (first e) = subst (λ (v : Float). T (le (least x y z) v)) (sym e)
      (le_trans (least x y z) (minimum x y) x (minimum_first (minimum x y) z lesser) (minimum_first x y nx))
  least_below s (second e) = subst (λ (v : Float). T (le (least x y z) v)) (sym e)
      (le_trans (least x y z) (minimum x y) y (minimum_first (minimum x y) z lesser) (minimum_le x y ny))
  least_below s (third e) = subst (λ (v : Float). T (le (least x y z) v)) (sym e) (minimum_le (minimum x y) z nz)

  largest_above : (l : Float) → OneOf l x y z → T (le l (largest x y z))
  unfolding largest
  largest_above l (first e) = subst (λ (v : Float). T (le v (largest x y z))) (sym e)
      (le_trans x (maximum x y) (largest x y z) (maximum_left x y nx) (maximum_left (maximum x y) z greater))
  largest_above l (second e) = subst (λ (v : Float). T (le v (largest x y z))) (sym e)
      (le_trans y (maximum x y) (largest x y z) (maximum_right x y ny) (maximum_left (maximum x y) z greater))
  largest_above l (third e) = subst (λ (v : Float). T (le v (largest x y z))) (sym e) (maximum_right (maximum x y) z nz)

  -- times a number above 0
  ratio_above : (s l g : Float) → Length s → Length l → OneOf s x y z → OneOf l x y z → T (finite g) → T (le (f32 0) g)
      → T (le ((l ⊘ s) ⊗ g) (edge_ratio x y z ⊗ g))
  unfolding edge_ratio
  ratio_above s l g us ul os ol fg zg =
      let m = least x y z in
      let k = largest x y z in
      let um = least_units.1 in
      let uk = largest_units.1 in
      let one = div_units 114 184 ul.1 us.1 tt in
      let two = div_units 114 184 uk um tt in
      rw (above_tiny m least_units)
      (mul_monotone_finite (l ⊘ s) (k ⊘ m) g (positive_units one.is) (positive_units two.is) fg
      (le_trans (l ⊘ s) (k ⊘ s) (k ⊘ m) (div_monotone l k s (units_positive us.1) (largest_above l ol))
      (div_antitone k m s (positive_units uk) (positive_signless k (units_positive uk)) (units_positive um) (units_positive us.1) (least_below s os)))
      zg)

-- ---- the squares

root_of : {x a b c : Float} → OneOf x a b c → OneOf (root x) (root a) (root b) (root c)
root_of (first e) = first (rw e refl)
root_of (second e) = second (rw e refl)
root_of (third e) = third (rw e refl)

-- the last two exchanged
swapped : {x a b c : Float} → OneOf x a b c → OneOf x a c b
swapped (first e) = first e
swapped (second e) = third e
swapped (third e) = second e

-- the first two exchanged
turned : {x a b c : Float} → OneOf x a b c → OneOf x b a c
turned (first e) = second e
turned (second e) = first e
turned (third e) = third e

pub long_swapped : {limit a b c cross : Float} → Long limit a b c cross → Long limit a c b cross
long_swapped h =
    record {
      short = h.short;
      long = h.long;
      short_of = swapped h.short_of;
      long_of = swapped h.long_of;
      plain = λ x o. h.plain x
          (swapped o);
      beyond = h.beyond;
    }

pub long_turned : {limit a b c cross : Float} → Long limit a b c cross → Long limit b a c cross
long_turned h =
    record {
      short = h.short;
      long = h.long;
      short_of = turned h.short_of;
      long_of = turned h.long_of;
      plain = λ x o. h.plain x
          (turned o);
      beyond = h.beyond;
    }

module _ (ℓ limit a b c cross : Float) (fa : T (fits binary32 a)) (fb : T (fits binary32 b)) (fc : T (fits binary32 c)) (fx : T (fits binary32 cross)) where
  pub long_edges : Long limit a b c cross → LongLimit ℓ limit → T (lt ℓ (edge_ratio (root a) (root c) (root b) ⊗ root (root cross ⊗ half)))
  unfolding is_beyond extent
  long_edges h t =
      let pa = h.plain a (first refl) in
      let pb = h.plain b (second refl) in
      let pc = h.plain c (third refl) in
      let s = h.short in
      let l = h.long in
      let fs = one_held (λ x. T (fits binary32 x)) fa fb fc h.short_of in
      let fl = one_held (λ x. T (fits binary32 x)) fa fb fc h.long_of in
      let ps = h.plain s h.short_of in
      let pl = h.plain l h.long_of in
      let k = and_r (edge_between l (f32 0x32800000) (f32 0x4c800000)) _ h.beyond in
      let ux = cross_units cross fx (and_l (edge_between cross (f32 0x21800000) (f32 0x5d800000)) _ k) in
      let rx = root_units 118 180 fx ux.1 tt in
      let i = mul_units 117 179 rx.is half_units tt in
      let g = root_units 132 165 (mul-fits binary32 (root cross) half) i.is tt in
      let y : Float = root (root cross ⊗ half) in
      lt_le_trans ℓ ((root l ⊘ root s) ⊗ y) (edge_ratio (root a) (root c) (root b) ⊗ y) (t.above s l cross fs fl fx ps h.beyond)
      (ratio_above (root a) (root c) (root b) (length_of a fa pa) (length_of c fc pc) (length_of b fb pb) (root s) (root l) y (length_of s fs ps)
      (length_of l fl pl)
      (root_of (swapped h.short_of)) (root_of (swapped h.long_of)) (positive_units g.is)
      (unsigned_le y (positive_signless y (units_positive g.is))))
