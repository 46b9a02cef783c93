-- Triangles of points whose coordinates are at most 10,000: their area is a number (`area_number`), and so are their
-- score (`score_number`) and, where they have an area, their edge ratio times its root (`stretch_number`). Assumes
-- nothing.
use mathlib.Core.Path.{◌≡◌, refl, subst, sym}
use mathlib.Core.Bool.{Bool, true, false, not, cond}
use mathlib.Core.Logic.{◌⊎◌, inl, inr}
use lib.Dec.{T}
use lib.Ieee.{Float, inf, binary32, neg, add, mul, div, lt, le, fits, is_nan, of_bits}
use lib.Ieee.Positive.{positive}
use lib.Ieee.Scale.{finite}
use Rattle.numbers.specs.Rounded.{f32, ◌⊕◌, ◌⊖◌, ◌⊗◌, ◌⊘◌}
use Rattle.numbers.specs.Root.{root}
use Rattle.numbers.specs.Order.{minimum, maximum}
use Rattle.numbers.specs.Inner.Bounds.{unsigned, Bounded}
use Rattle.numbers.proofs.OrderLaws.{le_left, le_right, le_or_lt, lt_le, le_not_lt, not_lt_le, le_trans, lt_le_trans, le_lt_trans, finite_number}
use Rattle.numbers.proofs.RootMonotone.{root_monotone, root_above}
use Rattle.numbers.proofs.ProductOrder.{mul_number, mul_monotone, mul_commutative}
use Rattle.numbers.proofs.SumOrder.{add_monotone}
use Rattle.numbers.proofs.QuotientOrder.{div_number, div_monotone, div_antitone}
use Rattle.numbers.proofs.Bounded.{bounded_finite, add_bounded, sub_bounded, mul_bounded}
use Rattle.numbers.proofs.Maximum.{minimum_finite, maximum_finite}
use Rattle.vector.specs.Vector.{point, difference, magnitude_squared, magnitude, squared, distance}
use Rattle.vector.specs.declared.Point3f.{Point3f}
use Rattle.vector.proofs.Distances.{squared_fits, squared_nonnegative}
use Rattle.ranges.specs.Range.{farthest}
use Rattle.quality.specs.Measures.{half, tiny, radius_of, least, largest, aspect_ratio, edge_ratio, score}
use Rattle.score_bounds.proofs.Aspect.{aspect_limit_is}
use Rattle.triangle.specs.Quality.{area}
use Rattle.area_bounds.specs.Inner.AreaBound.{cross_bound, area_bound}
use Rattle.area_bounds.proofs.AreaBound.{Bounds, Unsigned, area_bounded}
use Rattle.area_bounds.proofs.Tiny.{area_not_below}
use Rattle.numbers.proofs.Above.{positive_is}
use Rattle.plain.proofs.Judged.{number_scaled}
use Rattle.measured.proofs.Edges.{short}

-- ---- constants: how far apart two coordinates are, the square of a distance, a distance
abbrev apart : Float
apart = f32 0x469c4000

abbrev box : Point3f
box = point apart apart apart

-- above 3 × 20,000²: 2^31
abbrev most_square : Float
most_square = f32 0x4f000000

-- 2^16
abbrev far : Float
far = f32 0x47800000

-- 2^30, above every area
abbrev pub wide : Float
wide = f32 0x4e800000

-- a bound of the aspect ratio, 2^100
abbrev highest : Float
highest = f32 0x71800000

abbrev four : Float
four = f32 0x40800000

-- four times the least area that is measured
abbrev base : Float
base = tiny ⊗ four

four_finite : T (finite four)
four_finite = unfold of_bits in tt

short_finite : T (finite short)
short_finite = unfold of_bits in tt

short_number : T (not (is_nan short))
short_number = unfold is_nan of_bits in tt

zero-le : (x : Float) → T (lt (f32 0) x) → T (le (f32 0) x)
zero-le x h = lt_le (f32 0) x h

-- ---- numbers from 0 to a finite bound
pub record Within (b x : Float) : Type 0 where
  pub low : T (le (f32 0) x)
  pub high : T (le x b)

module _ (b : Float) (f : T (finite b)) (n : T (le (neg b) (f32 0))) where
  within_bounded : (x : Float) → Within b x → Bounded x b
  within_bounded x w = record { upper = w.high; lower = le_trans (neg b) (f32 0) x n w.low }

  within_finite : (x : Float) → Within b x → T (finite x)
  within_finite x w = bounded_finite x b f (within_bounded x w)

-- ---- points
twice : farthest ⊕ farthest ≡ apart
unfolding add of_bits
twice = refl

module _ (p q : Point3f) (P : Bounds p (point farthest farthest farthest)) (Q : Bounds q (point farthest farthest farthest)) where
  axis : (x y : Float) → Bounded x farthest → Bounded y farthest → Bounded (x ⊖ y) apart
  axis x y b c = subst (Bounded (x ⊖ y)) twice (sub_bounded x y farthest farthest (unfold of_bits in tt) (unfold of_bits in tt) b c)

  pub edge_bounds : Bounds (difference p q) box
  unfolding difference
  edge_bounds = record {
    bounded_x = axis p.x q.x P.bounded_x Q.bounded_x;
    bounded_y = axis p.y q.y P.bounded_y Q.bounded_y;
    bounded_z = axis p.z q.z P.bounded_z Q.bounded_z;
  }

  pub edge_within : Within far (distance p q)
  unfolding distance squared magnitude_squared fits
  edge_within =
      let d = difference p q in
      let b = edge_bounds in
      let fs : T (finite (apart ⊗ apart)) = unfold mul of_bits in tt in
      let fs2 : T (finite (apart ⊗ apart ⊕ apart ⊗ apart)) = unfold add mul of_bits in tt in
      let u : T (unsigned apart) = unfold of_bits in tt in
      let fa : T (finite apart) = unfold of_bits in tt in
      let x = mul_bounded d.x d.x apart apart fa fa u u b.bounded_x b.bounded_x in
      let y = mul_bounded d.y d.y apart apart fa fa u u b.bounded_y b.bounded_y in
      let z = mul_bounded d.z d.z apart apart fa fa u u b.bounded_z b.bounded_z in
      let s = add_bounded (d.x ⊗ d.x ⊕ d.y ⊗ d.y) (d.z ⊗ d.z) (apart ⊗ apart ⊕ apart ⊗ apart) (apart ⊗ apart) fs2 fs
      (add_bounded (d.x ⊗ d.x) (d.y ⊗ d.y) (apart ⊗ apart) (apart ⊗ apart) fs fs x y) z in
      let top : T (le (apart ⊗ apart ⊕ apart ⊗ apart ⊕ apart ⊗ apart) most_square) = unfold add mul le of_bits in tt in
      let h : T (le (squared p q) most_square) = le_trans (squared p q) (apart ⊗ apart ⊕ apart ⊗ apart ⊕ apart ⊗ apart) most_square s.upper top in
      let z0 : T (le (f32 0) (squared p q)) = squared_nonnegative p q (le_left (squared p q) most_square h) in
      let fits-sq = squared_fits p q in
      let up = root_monotone (squared p q) most_square fits-sq (unfold of_bits in tt) z0 h in
      let down = root_monotone (f32 0) (squared p q) (unfold of_bits in tt) fits-sq (unfold le of_bits in tt) z0 in
      let bottom : T (le (f32 0) (root (f32 0))) = unfold root le of_bits in tt in
      let ceiling : T (le (root most_square) far) = unfold root le of_bits in tt in
      record { low = le_trans (f32 0) (root (f32 0)) (root (squared p q)) bottom down; high = le_trans (root (squared p q)) (root most_square) far up ceiling }

-- ---- the area
module _ (p1 p2 p3 : Point3f) (P1 : Bounds p1 (point farthest farthest farthest)) (P2 : Bounds p2 (point farthest farthest farthest))
    (P3 : Bounds p3 (point farthest farthest farthest)) where
  pub area_within : Within wide (area p1 p2 p3)
  area_within =
      let u : Unsigned box = record { unsigned_x = unfold of_bits in tt; unsigned_y = unfold of_bits in tt; unsigned_z = unfold of_bits in tt } in
      let b : T (lt (area_bound box box) wide) = unfold area_bound cross_bound magnitude magnitude_squared root add mul lt of_bits in tt in
      let h = area_bounded p1 p2 p3 box box wide u u (edge_bounds p2 p1 P2 P1) (edge_bounds p3 p1 P3 P1) b in
      let l = lt_le (area p1 p2 p3) wide h in
      let k : T (not (lt (area p1 p2 p3) (f32 0))) = rw (area_not_below p1 p2 p3) tt in
      record { low = not_lt_le (area p1 p2 p3) (f32 0) (le_left (area p1 p2 p3) wide l) (unfold is_nan of_bits in tt) k; high = l }

-- ---- products
far_finite : T (finite far)
far_finite = unfold of_bits in tt

far_below : T (le (neg far) (f32 0))
far_below = unfold le neg of_bits in tt

wide_finite : T (finite wide)
wide_finite = unfold of_bits in tt

wide_below : T (le (neg wide) (f32 0))
wide_below = unfold le neg of_bits in tt

module _ (a b c A : Float) (wa : Within far a) (wb : Within far b) (wc : Within far c) (wA : Within wide A) where
  fa : T (finite a)
  fa = within_finite far far_finite far_below a wa

  fb : T (finite b)
  fb = within_finite far far_finite far_below b wb

  fc : T (finite c)
  fc = within_finite far far_finite far_below c wc

  f_a : T (finite A)
  f_a = within_finite wide wide_finite wide_below A wA

  -- the edge ratio is a number, and so is its product with the root of an area above 0
  pub ratio_number : T (not (is_nan (edge_ratio a b c)))
  unfolding edge_ratio
  ratio_number = go (lt tiny (least a b c)) refl
    where
      go : (t : Bool) → lt tiny (least a b c) ≡ t → T (not (is_nan (cond t (largest a b c ⊘ least a b c) (inf false))))
      go false e = unfold is_nan in tt
      go true e =
          let h : T (lt tiny (least a b c)) = subst T (sym e) tt in
          let zero_tiny : T (le (f32 0) tiny) = unfold le of_bits in tt in
          let f : T (finite (least a b c)) = unfold least in minimum_finite (minimum a b) c (minimum_finite a b fa fb) fc in
          let g : T (finite (largest a b c)) = unfold largest in maximum_finite (maximum a b) c (maximum_finite a b fa fb) fc in
          div_number (largest a b c) (least a b c) (positive_is (least a b c) (le_lt_trans (f32 0) tiny (least a b c) zero_tiny h) f)
          (finite_number (largest a b c) g)

  pub stretch_number : (r : Float) → T (not (is_nan r)) → T (fits binary32 A) → T (lt (f32 0) A) → T (not (is_nan (r ⊗ root A)))
  unfolding fits
  stretch_number r n f h =
      let up = root_monotone A wide f (unfold of_bits in tt) wA.low wA.high in
      let w : Within (root wide) (root A) = record { low = zero-le (root A) (root_above A f h).0; high = up } in
      let g = within_finite (root wide) (unfold root of_bits in tt) (unfold root le neg of_bits in tt) (root A) w in
      number_scaled r (root A) n (positive_is (root A) (root_above A f h).0 g)

  -- ---- the score of a triangle that is not next to none: its aspect ratio has a bound
  module _ (some : T (le tiny A)) where
    quad_least : T (le base (four ⊗ A))
    quad_least =
        subst (λ (x : Float). T (le base x)) (mul_commutative A four)
        (mul_monotone tiny A four four_finite some (unfold le of_bits in tt) (mul_number tiny four (unfold of_bits in tt) four_finite)
        (mul_number A four f_a four_finite))

    quad_positive : T (positive (four ⊗ A))
    quad_positive =
        let b = mul_bounded four A four wide four_finite wide_finite (unfold of_bits in tt) (unfold of_bits in tt)
        (record { upper = unfold le of_bits in tt; lower = unfold le neg of_bits in tt }) (within_bounded wide wide_finite wide_below A wA) in
        let f = bounded_finite (four ⊗ A) (four ⊗ wide) (unfold mul of_bits in tt) b in
        let zero-base : T (lt (f32 0) base) = unfold lt mul of_bits in tt in
        positive_is (four ⊗ A) (lt_le_trans (f32 0) base (four ⊗ A) zero-base quad_least) f

    -- edges up to d give a circumradius up to d³ over four tiny areas
    module _ (d : Float) (f : T (finite d)) (f2 : T (finite (d ⊗ d))) (f3 : T (finite (d ⊗ d ⊗ d))) (u : T (unsigned d)) (u2 : T (unsigned (d ⊗ d)))
        (u3 : T (unsigned (d ⊗ d ⊗ d))) (n : T (le (neg d) (f32 0))) where
      radius_most : Within d a → Within d b → Within d c → T (le (radius_of a b c A) ((d ⊗ d ⊗ d) ⊘ base))
      unfolding radius_of
      radius_most x y z =
          let bx = within_bounded d f n a x in
          let by = within_bounded d f n b y in
          let bz = within_bounded d f n c z in
          let p = mul_bounded (a ⊗ b) c (d ⊗ d) d f2 f u2 u (mul_bounded a b d d f f u u bx by) bz in
          le_trans ((a ⊗ b ⊗ c) ⊘ (four ⊗ A)) ((d ⊗ d ⊗ d) ⊘ (four ⊗ A)) ((d ⊗ d ⊗ d) ⊘ base)
          (div_monotone (a ⊗ b ⊗ c) (d ⊗ d ⊗ d) (four ⊗ A) quad_positive p.upper)
          (div_antitone (d ⊗ d ⊗ d) base (four ⊗ A) f3 u3 (unfold mul of_bits in tt) quad_positive quad_least)

    -- sums
    sum_finite : T (finite (a ⊕ b)) × T (finite (a ⊕ b ⊕ c))
    sum_finite =
        let ba = within_bounded far far_finite far_below a wa in
        let bb = within_bounded far far_finite far_below b wb in
        let bc = within_bounded far far_finite far_below c wc in
        let ab = add_bounded a b far far far_finite far_finite ba bb in
        let f2 : T (finite (far ⊕ far)) = unfold add of_bits in tt in
        let abc = add_bounded (a ⊕ b) c (far ⊕ far) far f2 far_finite ab bc in
        (bounded_finite (a ⊕ b) (far ⊕ far) f2 ab, bounded_finite (a ⊕ b ⊕ c) (far ⊕ far ⊕ far) (unfold add of_bits in tt) abc)

    halved_finite : T (finite ((a ⊕ b ⊕ c) ⊗ half))
    halved_finite =
        let ba = within_bounded far far_finite far_below a wa in
        let bb = within_bounded far far_finite far_below b wb in
        let bc = within_bounded far far_finite far_below c wc in
        let f2 : T (finite (far ⊕ far)) = unfold add of_bits in tt in
        let f3 : T (finite (far ⊕ far ⊕ far)) = unfold add of_bits in tt in
        let abc = add_bounded (a ⊕ b) c (far ⊕ far) far f2 far_finite (add_bounded a b far far far_finite far_finite ba bb) bc in
        let h = mul_bounded (a ⊕ b ⊕ c) half (far ⊕ far ⊕ far) half f3 (unfold of_bits in tt) (unfold add of_bits in tt) (unfold of_bits in tt) abc
        (record { upper = unfold le of_bits in tt; lower = unfold le neg of_bits in tt }) in
        bounded_finite ((a ⊕ b ⊕ c) ⊗ half) ((far ⊕ far ⊕ far) ⊗ half) (unfold add mul of_bits in tt) h

    sum_above : (x y z : Float) → T (finite x) → T (finite y) → T (finite z) → T (finite (x ⊕ y)) → T (le x a) → T (le y b) → T (le z c)
        → T (le (x ⊕ y ⊕ z) (a ⊕ b ⊕ c))
    sum_above x y z fx fy fz fxy hx hy hz = add_monotone (x ⊕ y) (a ⊕ b) z c fxy sum_finite.0 fz fc (add_monotone x a y b fx fa fy fb hx hy) hz

    -- some edge is not tiny, or the circumradius would be
    long_enough : T (lt tiny (radius_of a b c A)) → T (le short (a ⊕ b ⊕ c))
    long_enough h = pick (le_or_lt short a short_number (le_right (f32 0) a wa.low)) (le_or_lt short b short_number (le_right (f32 0) b wb.low))
        (le_or_lt short c short_number (le_right (f32 0) c wc.low))
      where
        z0 : T (finite (f32 0))
        z0 = unfold of_bits in tt

        pick : T (le short a) ⊎ T (lt a short) → T (le short b) ⊎ T (lt b short) → T (le short c) ⊎ T (lt c short) → T (le short (a ⊕ b ⊕ c))
        pick (inl x) _ _ = le_trans short (short ⊕ f32 0 ⊕ f32 0) (a ⊕ b ⊕ c) (unfold le add of_bits in tt)
            (sum_above short (f32 0) (f32 0) short_finite z0 z0 (unfold add of_bits in tt) x wb.low wc.low)
        pick (inr _) (inl y) _ = le_trans short (f32 0 ⊕ short ⊕ f32 0) (a ⊕ b ⊕ c) (unfold le add of_bits in tt)
            (sum_above (f32 0) short (f32 0) z0 short_finite z0 (unfold add of_bits in tt) wa.low y wc.low)
        pick (inr _) (inr _) (inl z) = le_trans short (f32 0 ⊕ f32 0 ⊕ short) (a ⊕ b ⊕ c) (unfold le add of_bits in tt)
            (sum_above (f32 0) (f32 0) short z0 z0 short_finite (unfold add of_bits in tt) wa.low wb.low z)
        pick (inr x) (inr y) (inr z) =
            let most = radius_most short short_finite (unfold mul of_bits in tt) (unfold mul of_bits in tt) (unfold of_bits in tt) (unfold mul of_bits in tt)
            (unfold mul of_bits in tt) (unfold le neg of_bits in tt)
            (record { low = wa.low; high = lt_le a short x }) (record { low = wb.low; high = lt_le b short y })
            (record { low = wc.low; high = lt_le c short z }) in
            let top : T (le ((short ⊗ short ⊗ short) ⊘ base) tiny) = unfold le mul div of_bits in tt in
            absurd (le_not_lt (radius_of a b c A) tiny (le_trans (radius_of a b c A) ((short ⊗ short ⊗ short) ⊘ base) tiny most top) h)

    aspect_most : T (le (aspect_ratio a b c A (radius_of a b c A)) highest)
    unfolding aspect_ratio
    aspect_most = go (lt tiny (radius_of a b c A)) refl
      where
        go : (t : Bool) → lt tiny (radius_of a b c A) ≡ t → T (le (cond t (A ⊘ ((a ⊕ b ⊕ c) ⊗ half) ⊘ radius_of a b c A) (f32 0)) highest)
        go false e = unfold le of_bits in tt
        go true e =
            let R = radius_of a b c A in
            let h : T (lt tiny R) = subst T (sym e) tt in
            let zero_tiny : T (le (f32 0) tiny) = unfold le of_bits in tt in
            let above_zero = le_lt_trans (f32 0) tiny R zero_tiny h in
            let most = radius_most far far_finite (unfold mul of_bits in tt) (unfold mul of_bits in tt) (unfold of_bits in tt) (unfold mul of_bits in tt)
            (unfold mul of_bits in tt) far_below wa wb wc in
            let fR = within_finite ((far ⊗ far ⊗ far) ⊘ base) (unfold mul div of_bits in tt) (unfold le neg mul div of_bits in tt) R
            (record { low = zero-le R above_zero; high = most }) in
            let pR = positive_is R above_zero fR in
            let sum = long_enough h in
            let fS = sum_finite.1 in
            let s = (a ⊕ b ⊕ c) ⊗ half in
            let fh : T (finite half) = unfold of_bits in tt in
            let lower : T (le (short ⊗ half) s) = mul_monotone short (a ⊕ b ⊕ c) half fh sum (unfold le of_bits in tt) (mul_number short half short_finite fh)
            (mul_number (a ⊕ b ⊕ c) half fS fh) in
            let zero-s : T (lt (f32 0) s) = lt_le_trans (f32 0) (short ⊗ half) s (unfold lt mul of_bits in tt) lower in
            let fs = halved_finite in
            let ps = positive_is s zero-s fs in
            let q3 = le_trans (A ⊘ s) (wide ⊘ s) (wide ⊘ (short ⊗ half)) (div_monotone A wide s ps wA.high)
            (div_antitone wide (short ⊗ half) s wide_finite (unfold of_bits in tt) (unfold mul of_bits in tt) ps lower) in
            let q4 = div_monotone (A ⊘ s) (wide ⊘ (short ⊗ half)) R pR q3 in
            let q5 = div_antitone (wide ⊘ (short ⊗ half)) tiny R (unfold mul div of_bits in tt) (unfold mul div of_bits in tt) (unfold of_bits in tt) pR
            (lt_le tiny R h) in
            le_trans (A ⊘ s ⊘ R) (wide ⊘ (short ⊗ half) ⊘ R) highest q4
            (le_trans (wide ⊘ (short ⊗ half) ⊘ R) (wide ⊘ (short ⊗ half) ⊘ tiny) highest q5 (unfold le mul div of_bits in tt))

    pub score_number : (angle edge : Float) → T (not (is_nan (score angle (aspect_ratio a b c A (radius_of a b c A)) edge)))
    score_number angle edge =
        let low : T (lt (score (f32 0x40490fdb) highest (f32 0x3f800000)) (inf false)) = unfold score minimum add mul div lt is_nan of_bits in tt in
        let aspect = aspect_ratio a b c A (radius_of a b c A) in
        let h = (aspect_limit_is (inf false) highest low).below angle aspect edge aspect_most in
        le_left (score angle aspect edge) (inf false) (lt_le (score angle aspect edge) (inf false) h)
