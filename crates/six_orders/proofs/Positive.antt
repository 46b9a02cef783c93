-- Numbers above zero that are not infinite: products of them, quotients by them (`div_falls`), and the least and the
-- largest of three. Assumes nothing.
use Prim.Native.Nat.{zero, suc, ◌*◌}
use native.Mathlib.Nat.{mul-pos}
use native.Mathlib.Omega.{arith}
use mathlib.Core.Path.{◌≡◌, refl}
use mathlib.Core.Bool.{Bool, true, false, not, cond}
use lib.Dec.{T, ltb→lt, eqb-suc-zero}
use lib.Ieee.{Float, nan, inf, fin, binary32, up, down, mul, div, lt, le, fits, is_nan, of_bits}
use lib.Ieee.Fits.{up_pos}
use lib.Ieee.Scale.{finite}
use lib.Ieee.Positive.{positive, positive-finite, den_pos}
use Rattle.numbers.specs.Rounded.{f32, ◌⊗◌, ◌⊘◌}
use Rattle.numbers.specs.Order.{minimum, maximum}
use Rattle.numbers.specs.Inner.Bounds.{unsigned}
use Rattle.numbers.proofs.OrderLaws.{side→lt, le_left, le_right, le_refl, lt_le, le_trans, lt_le_trans, positive_unsigned, unsigned_le, unsigned_number_lem}
use Rattle.numbers.proofs.OrderLaws.{le_antisymmetric}
use Rattle.numbers.proofs.Above.{positive_is, positive_signless}
use Rattle.numbers.proofs.RoundedOrder.{round_unsigned}
use Rattle.numbers.proofs.ProductOrder.{mul_monotone, mul_monotone_finite, mul_commutative}
use Rattle.numbers.proofs.QuotientOrder.{div_unsigned, div_antitone}
use Rattle.numbers.proofs.Minimum.{minimum_first, minimum_le}
use Rattle.numbers.proofs.Maximum.{maximum_left, maximum_right}
use Rattle.quality.specs.Measures.{least, largest}

-- ---- what is above zero

pub above_zero : (x : Float) → T (positive x) → T (lt (f32 0) x)
unfolding of_bits
above_zero nan p = absurd p
above_zero (inf s) p = absurd p
above_zero (fin true m e) p = absurd p
above_zero (fin false m e) p = let k = mul-pos (mul-pos (ltb→lt 0 m p) (up_pos e)) (den_pos (f32 0)) in side→lt (f32 0) (fin false m e) tt tt (omega (arith, k))

pub number : (x : Float) → T (positive x) → T (not (is_nan x))
number x p = unsigned_number_lem x (positive_signless x p)

finite_below : (x : Float) → T (unsigned x) → T (lt x (inf false)) → T (finite x)
unfolding lt
finite_below nan u h = absurd u
finite_below (inf true) u h = absurd u
finite_below (inf false) u h = absurd h
finite_below (fin s m e) u h = tt

pub positive_below : (x : Float) → T (lt (f32 0) x) → T (lt x (inf false)) → T (positive x)
positive_below x h k = positive_is x h (finite_below x (positive_unsigned x h) k)

pub same_is : (x y : Float) → T (fits binary32 x) → T (fits binary32 y) → T (lt (f32 0) x) → T (le x y) → T (le y x) → x ≡ y
same_is x y f g h i j = le_antisymmetric binary32 x y f g (positive_unsigned x h) (positive_unsigned y (lt_le_trans (f32 0) x y h i)) i j

-- ---- products and quotients

pub mul_unsigned : (x c : Float) → T (unsigned x) → T (positive c) → T (unsigned (x ⊗ c))
mul_unsigned nan c u p = absurd u
mul_unsigned (inf true) c u p = absurd u
mul_unsigned (fin true m e) c u p = absurd u
mul_unsigned (inf false) nan u p = absurd p
mul_unsigned (inf false) (inf t) u p = absurd p
mul_unsigned (inf false) (fin true n d) u p = absurd p
mul_unsigned (inf false) (fin false zero d) u p = absurd p
mul_unsigned (inf false) (fin false (suc n) d) u p = unfold mul in rw (eqb-suc-zero n) tt
mul_unsigned (fin false m e) nan u p = absurd p
mul_unsigned (fin false m e) (inf t) u p = absurd p
mul_unsigned (fin false m e) (fin true n d) u p = absurd p
mul_unsigned (fin false m e) (fin false n d) u p = unfold mul in round_unsigned binary32 (m * up e * (n * up d)) (down e * down d)

-- times an infinity too
mul_right : (k c z : Float) → T (unsigned k) → T (positive c) → T (positive z) → T (le c z) → T (le (k ⊗ c) (k ⊗ z))
mul_right nan c z u p q h = absurd u
mul_right (inf true) c z u p q h = absurd u
mul_right (fin s m e) c z u p q h =
    rw (mul_commutative (fin s m e) c, mul_commutative (fin s m e) z)
    (mul_monotone_finite c z (fin s m e) (positive-finite c p) (positive-finite z q) tt h (unsigned_le (fin s m e) u))
mul_right (inf false) c z u p q h = rw (infinite c p, infinite z q) (le_refl (inf false) (unfold is_nan in tt))
  where
    infinite : (c : Float) → T (positive c) → inf false ⊗ c ≡ inf false
    infinite nan p = absurd p
    infinite (inf t) p = absurd p
    infinite (fin true n d) p = absurd p
    infinite (fin false zero d) p = absurd p
    infinite (fin false (suc n) d) p = unfold mul in rw (eqb-suc-zero n) refl

pub mul_grows : (x y c z : Float) → T (unsigned x) → T (unsigned y) → T (positive c) → T (positive z) → T (le x y) → T (le c z) → T (le (x ⊗ c) (y ⊗ z))
mul_grows x y c z u v p q h k =
    le_trans (x ⊗ c) (y ⊗ c) (y ⊗ z)
    (mul_monotone x y c (positive-finite c p) h (unsigned_le c (positive_signless c p)) (unsigned_number_lem (x ⊗ c) (mul_unsigned x c u p))
    (unsigned_number_lem (y ⊗ c) (mul_unsigned y c v p)))
    (mul_right y c z v p q k)

-- by an infinity too
pub div_plain : (x d : Float) → T (finite x) → T (unsigned x) → T (lt (f32 0) d) → T (unsigned (x ⊘ d))
div_plain x nan f u h = absurd (unfold is_nan in le_right (f32 0) nan (lt_le (f32 0) nan h))
div_plain x (fin t n e) f u h = div_unsigned x (fin t n e) f u (positive_is (fin t n e) h tt)
div_plain x (inf true) f u h = absurd (unfold lt of_bits in h)
div_plain nan (inf false) f u h = absurd f
div_plain (inf s) (inf false) f u h = absurd f
div_plain (fin true m e) (inf false) f u h = absurd u
div_plain (fin false m e) (inf false) f u h = unfold div in tt

pub div_falls : (x c d : Float) → T (finite x) → T (unsigned x) → T (positive c) → T (le c d) → T (le (x ⊘ d) (x ⊘ c))
div_falls x c d f u p h = go d x f u h (lt_le_trans (f32 0) c d (above_zero c p) h)
  where
    go : (d x : Float) → T (finite x) → T (unsigned x) → T (le c d) → T (lt (f32 0) d) → T (le (x ⊘ d) (x ⊘ c))
    go nan x f u h k = absurd (unfold is_nan in le_right c nan h)
    go (fin t n e) x f u h k = div_antitone x c (fin t n e) f u p (positive_is (fin t n e) k tt) h
    go (inf true) x f u h k = absurd (unfold lt of_bits in k)
    go (inf false) nan f u h k = absurd f
    go (inf false) (inf s) f u h k = absurd f
    go (inf false) (fin true m e) f u h k = absurd u
    go (inf false) (fin false m e) f u h k = le_trans (fin false m e ⊘ inf false) (f32 0) (fin false m e ⊘ c) (unfold div le of_bits in tt)
        (unsigned_le (fin false m e ⊘ c) (div_unsigned (fin false m e) c tt tt p))

-- ---- the least and the largest of three

module _ (u v w : Float) where
  pub least_first : T (not (is_nan u)) → T (le (least u v w) u)
  unfolding least
  least_first f = let k = minimum_first u v f in le_trans (minimum (minimum u v) w) (minimum u v) u
      (minimum_first (minimum u v) w (le_left (minimum u v) u k)) k

  pub least_second : T (not (is_nan v)) → T (le (least u v w) v)
  unfolding least
  least_second f = let k = minimum_le u v f in le_trans (minimum (minimum u v) w) (minimum u v) v (minimum_first (minimum u v) w (le_left (minimum u v) v k)) k

  pub least_third : T (not (is_nan w)) → T (le (least u v w) w)
  unfolding least
  least_third f = minimum_le (minimum u v) w f

  pub largest_first : T (not (is_nan u)) → T (le u (largest u v w))
  unfolding largest
  largest_first f = let k = maximum_left u v f in le_trans u (maximum u v) (maximum (maximum u v) w) k
      (maximum_left (maximum u v) w (le_right u (maximum u v) k))

  pub largest_second : T (not (is_nan v)) → T (le v (largest u v w))
  unfolding largest
  largest_second f = let k = maximum_right u v f in le_trans v (maximum u v) (maximum (maximum u v) w) k
      (maximum_left (maximum u v) w (le_right v (maximum u v) k))

  pub largest_third : T (not (is_nan w)) → T (le w (largest u v w))
  unfolding largest
  largest_third f = maximum_right (maximum u v) w f

-- the larger of two is one of them
pub maximum_either : (P : Float → Type 0) (a b : Float) → P a → P b → P (maximum a b)
unfolding maximum
maximum_either P a b p q = go (is_nan a) (lt a b)
  where
    go : (n l : Bool) → P (cond n b (cond l b a))
    go true l = q
    go false true = q
    go false false = p
