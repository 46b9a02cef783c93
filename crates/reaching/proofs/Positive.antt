-- The cell size of settings in range is above 0. Assumes nothing.
use Prim.Native.Nat.{zero, suc}
use native.Mathlib.Nat.{mul-pos}
use mathlib.Core.Path.{◌≡◌, sym, subst}
use mathlib.Core.Bool.{Bool, true, false}
use native.Mathlib.Omega.{arith}
use lib.Dec.{T, ltb→lt, lt→ltb}
use lib.Ieee.{Float, nan, inf, fin, lt, le, eq, of_bits, mul, round, odd}
use lib.Ieee.Fits.{down_pos, up_pos}
use lib.Ieee.Positive.{positive, positive-finite}
use lib.Ieee.Scale.{finite}
use Rattle.numbers.specs.Rounded.{f32, ◌⊗◌}
use Rattle.numbers.proofs.OrderLaws.{le→side, le_trans}
use Rattle.numbers.proofs.ProductOrder.{mul_monotone_finite, mul_commutative}
use Rattle.ranges.specs.Range.{inside}
use Rattle.settings.specs.declared.BallPivotingConfig.{BallPivotingConfig}
use Rattle.settings.specs.Inner.Settled.{Settled}
use Rattle.lists.proofs.Bools.{and_both}

between_positive : (lo hi x : Float) → T (positive lo) → T (finite hi) → T (le lo x) → T (le x hi) → T (positive x)
unfolding le lt eq
between_positive nan hi x p q h k = absurd p
between_positive (inf s) hi x p q h k = absurd p
between_positive (fin true m e) hi x p q h k = absurd p
between_positive (fin false m e) nan x p q h k = absurd q
between_positive (fin false m e) (inf t) x p q h k = absurd q
between_positive (fin false m e) (fin t n d) nan p q h k = absurd h
between_positive (fin false m e) (fin t n d) (inf true) p q h k = absurd h
between_positive (fin false m e) (fin t n d) (inf false) p q h k = absurd k
between_positive (fin false m e) (fin t n d) (fin true i f) p q h k =
    absurd (omega (arith, le→side (fin false m e) (fin true i f) tt tt h, mul-pos (mul-pos (ltb→lt 0 m p) (up_pos e)) (down_pos f)))
between_positive (fin false m e) (fin t n d) (fin false zero f) p q h k =
    absurd (omega (arith, le→side (fin false m e) (fin false 0 f) tt tt h, mul-pos (mul-pos (ltb→lt 0 m p) (up_pos e)) (down_pos f)))
between_positive (fin false m e) (fin t n d) (fin false (suc i) f) p q h k = lt→ltb 0 (suc i) (omega arith)

product_between : (a b u v x y : Float) → T (positive a) → T (positive b) → T (positive u) → T (positive v) → T (positive (a ⊗ u)) → T (finite (b ⊗ v))
    → T (le a x) → T (le x b) → T (le u y) → T (le y v)
    → T (le (f32 0) a) → T (le (f32 0) u) → T (le (f32 0) b) → T (positive (x ⊗ y))
product_between a b u v x y pa pb pu pv pl fh ax xb uy yv za zu zb =
    let fx = positive-finite x (between_positive a b x pa (positive-finite b pb) ax xb) in
    let fy = positive-finite y (between_positive u v y pu (positive-finite v pv) uy yv) in
    let fa = positive-finite a pa in
    let fb = positive-finite b pb in
    let zy = le_trans (f32 0) u y zu uy in
    let low : T (le (a ⊗ u) (a ⊗ y)) = turned u y a (mul_monotone_finite u y a (positive-finite u pu) fy fa uy za) in
    let high : T (le (b ⊗ y) (b ⊗ v)) = turned y v b (mul_monotone_finite y v b fy (positive-finite v pv) fb yv zb) in
    between_positive (a ⊗ u) (b ⊗ v) (x ⊗ y) pl fh
    (le_trans (a ⊗ u) (a ⊗ y) (x ⊗ y) low (mul_monotone_finite a x y fa fx fy ax zy))
    (le_trans (x ⊗ y) (b ⊗ y) (b ⊗ v) (mul_monotone_finite x b y fx fb fy xb zy) high)
  where
    turned : (p q k : Float) → T (le (p ⊗ k) (q ⊗ k)) → T (le (k ⊗ p) (k ⊗ q))
    turned p q k h = subst (λ (z : Float). T (le (k ⊗ p) z)) (mul_commutative q k) (subst (λ (z : Float). T (le z (q ⊗ k))) (mul_commutative p k) h)

abbrev a_radius : Float
a_radius = f32 0x3a83126f

abbrev b_radius : Float
b_radius = f32 0x447a0000

abbrev a_factor : Float
a_factor = f32 0x3f000000

abbrev b_factor : Float
b_factor = f32 0x41800000

pub cell_positive : (c : BallPivotingConfig) → Settled c → T (positive (c.radius ⊗ c.spatial_cell_factor))
unfolding inside of_bits mul round odd le lt eq
cell_positive c s =
    let r = and_both {p = le a_radius c.radius} {q = le c.radius b_radius} s.main in
    let f = and_both {p = le a_factor c.spatial_cell_factor} {q = le c.spatial_cell_factor b_factor} s.cell in
    product_between a_radius b_radius a_factor b_factor c.radius c.spatial_cell_factor tt tt tt tt tt tt (holds r.0) (holds r.1) (holds f.0)
    (holds f.1) tt tt tt
  where
    holds : {t : Bool} → t ≡ true → T t
    holds e = subst T (sym e) tt
