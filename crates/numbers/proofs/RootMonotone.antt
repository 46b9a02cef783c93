-- The root keeps the order: for f32 with 0 ≤ x ≤ y, `root x` ≤ `root y` (`root_monotone`), -0 and +infinity included.
-- Between numbers above zero it follows from `root_nearest`: with X ≤ Y in units and roots R and S, a smaller S would
-- give (R + S)^2 < 4X, since R is nearer to √X, and 4Y < (R + S)^2, since S is nearer to √Y.
use mathlib.Core.Path.{sym, subst}
use Prim.Native.Nat.{ℕ, zero, suc, ◌+◌, ◌*◌, ◌^◌, ◌≤◌, ◌<◌}
use native.Mathlib.Nat.{zero-lt-suc, mul-pos, mul-le-mul_right, le_of_mul-le-mul_right}
use native.Mathlib.Omega.{arith}
use native.Mathlib.Decide.{dec_le}
use mathlib.Core.Bool.{Bool, true, false}
use lib.IntN.{ℤ, pos}
use lib.Dec.{T, ltb→lt, lt→ltb}
use lib.Pow.{pow_pos}
use lib.Ieee.{Float, nan, inf, fin, binary32, fits, lt, le, of_bits}
use lib.Ieee.Fits.{up_pos, down_pos}
use lib.Ieee.Order.{le_of_values}
use lib.Ieee.Positive.{positive, above, above_of_le, values_of_le, positive_of_value, positive-finite}
use Rattle.numbers.specs.Rounded.{f32}
use Rattle.numbers.specs.Root.{root}
use Rattle.numbers.proofs.OrderLaws.{side, le→side, side→lt, lt_le, le_top, top_le, finite_number, positive_unsigned, nothing_below}
use Rattle.numbers.proofs.RootNearest.{root_nearest}

-- ---- between numbers above zero

-- R and S are the roots of X ≤ Y
in_order_lem : (X Y R S : ℕ) → X ≤ Y → (S < R → (R + S) * (R + S) < 4 * X) → (S < R → 4 * Y < (S + R) * (S + R)) → R ≤ S
in_order_lem X Y R S h a b = go (dec_le R S)
  where
    go : Dec (R ≤ S) → R ≤ S
    go (yes k) = k
    go (no k) =
        let l : S < R = omega arith in
        let p = a l in
        let q = b l in
        absurd (omega arith)

between : (x y : Float) → T (fits binary32 x) → T (fits binary32 y) → T (positive x) → T (positive y) → T (le x y) → T (le (root x) (root y))
between x y f g p q h =
    let a = root_nearest x f p in
    let b = root_nearest y g q in
    let l : a.X ≤ b.X = le_of_mul-le-mul_right (values_of_le x y a.X (2 ^ 298) b.X (2 ^ 298) p q a.argument b.argument h) (pow_pos 298) in
    let r : a.R ≤ b.R =
    in_order_lem a.X b.X a.R b.R l (a.nearest (root y) b.R b.held b.result).0 (b.nearest (root x) a.R a.held a.result).1 in
    le_of_values (root x) (root y) a.R (2 ^ 149) b.R (2 ^ 149) (pow_pos 149) (pow_pos 149) a.result b.result (mul-le-mul_right (2 ^ 149) r)

-- ---- at the ends

inf_top : (y : Float) → T (le (inf false) y) → T (le (root (inf false)) (root y))
unfolding le root
inf_top y h = subst (λ (w : Float). T (le (root (inf false)) (root w))) (sym (top_le y h)) tt

-- a zero is below any number above zero, and not below one under it
zero_lt_positive : (s : Bool) (e : ℤ) (v : Float) → T (positive v) → T (lt (fin s 0 e) v)
zero_lt_positive s e nan p = absurd p
zero_lt_positive s e (inf t) p = absurd p
zero_lt_positive s e (fin true n d) p = absurd p
zero_lt_positive s e (fin false n d) p = side→lt (fin s 0 e) (fin false n d) tt tt (go s)
  where
    go : (s : Bool) → side (fin s 0 e) (fin false n d) < side (fin false n d) (fin s 0 e)
    go true = omega (arith, mul-pos (mul-pos (ltb→lt 0 n p) (up_pos d)) (down_pos e))
    go false = omega (arith, mul-pos (mul-pos (ltb→lt 0 n p) (up_pos d)) (down_pos e))

not_under : (s : Bool) (e : ℤ) (n : ℕ) (d : ℤ) → T (le (fin s 0 e) (fin true (suc n) d)) → ⊥
not_under s e n d h = go s (le→side (fin s 0 e) (fin true (suc n) d) tt tt h)
  where
    go : (s : Bool) → side (fin s 0 e) (fin true (suc n) d) ≤ side (fin true (suc n) d) (fin s 0 e) → ⊥
    go true k = omega (arith, mul-pos (mul-pos (zero-lt-suc n) (up_pos d)) (down_pos e))
    go false k = omega (arith, mul-pos (mul-pos (zero-lt-suc n) (up_pos d)) (down_pos e))

root_positive : (x : Float) → T (fits binary32 x) → T (positive x) → T (positive (root x))
root_positive x f p = let a = root_nearest x f p in positive_of_value (root x) a.R (2 ^ 149) a.result a.above_zero

zero_le_root : (s : Bool) (e : ℤ) (y : Float) → T (fits binary32 y) → T (le (fin s 0 e) y) → T (le (root (fin s 0 e)) (root y))
unfolding le root
zero_le_root s e nan g h = absurd h
zero_le_root s e (inf true) g h = absurd h
zero_le_root s e (inf false) g h = tt
zero_le_root s e (fin t zero d) g h = h
zero_le_root s e (fin true (suc n) d) g h = absurd (not_under s e n d h)
zero_le_root s e (fin false (suc n) d) g h =
    lt_le (fin s 0 e) (root (fin false (suc n) d))
    (zero_lt_positive s e (root (fin false (suc n) d)) (root_positive (fin false (suc n) d) g (lt→ltb 0 (suc n) (zero-lt-suc n))))

positive_le_root : (x y : Float) → T (fits binary32 x) → T (fits binary32 y) → T (positive x) → T (above y) → T (le x y) → T (le (root x) (root y))
positive_le_root x nan f g p q h = absurd q
positive_le_root x (inf true) f g p q h = absurd q
positive_le_root x (inf false) f g p q h = unfold root in le_top (root x) (finite_number (root x) (positive-finite (root x) (root_positive x f p)))
positive_le_root x (fin true n d) f g p q h = absurd q
positive_le_root x (fin false n d) f g p q h = between x (fin false n d) f g p q h

-- ---- the theorem

pub root_monotone : (x y : Float) → T (fits binary32 x) → T (fits binary32 y) → T (le (f32 0) x) → T (le x y) → T (le (root x) (root y))
unfolding le of_bits
root_monotone nan y f g z h = absurd z
root_monotone (inf true) y f g z h = absurd z
root_monotone (inf false) y f g z h = inf_top y h
root_monotone (fin s zero e) y f g z h = zero_le_root s e y g h
root_monotone (fin true (suc m) e) y f g z h = absurd (not_under false (pos 0) m e z)
root_monotone (fin false (suc m) e) y f g z h =
    let p = lt→ltb 0 (suc m) (zero-lt-suc m) in
    positive_le_root (fin false (suc m) e) y f g p (above_of_le (fin false (suc m) e) y p h) h

-- above zero it is above zero, and an f32
pub root_above : (x : Float) → T (fits binary32 x) → T (lt (f32 0) x) → T (lt (f32 0) (root x)) × T (fits binary32 (root x))
root_above nan f p = absurd (positive_unsigned nan p)
root_above (inf true) f p = absurd (positive_unsigned (inf true) p)
root_above (inf false) f p = unfold root lt fits of_bits in (tt, tt)
root_above (fin true m e) f p = absurd (positive_unsigned (fin true m e) p)
root_above (fin false zero e) f p = absurd (nothing_below e p)
root_above (fin false (suc m) e) f p =
    let q = lt→ltb 0 (suc m) (zero-lt-suc m) in (
      unfold of_bits in zero_lt_positive false (pos 0) (root (fin false (suc m) e)) (root_positive (fin false (suc m) e) f q),
      (root_nearest
          (fin false (suc m) e) f q).held,
    )
