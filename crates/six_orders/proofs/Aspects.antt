-- The aspect ratio in each order: it grows with the area and falls with the sum and the product of the edges, rounding
-- included (`aspects_bounded`). Assumes nothing.
use mathlib.Core.Path.{◌≡◌}
use mathlib.Core.Bool.{Bool, true, false, not, cond}
use lib.Dec.{T}
use lib.Ieee.{Float, mul, lt, le, is_nan, of_bits}
use lib.Ieee.Scale.{finite}
use lib.Ieee.Positive.{positive, positive-finite}
use Rattle.numbers.specs.Rounded.{f32, ◌⊕◌, ◌⊗◌, ◌⊘◌}
use Rattle.numbers.specs.Inner.Bounds.{unsigned}
use Rattle.numbers.proofs.Above.{positive_signless, positive_is, finite_under}
use Rattle.numbers.proofs.OrderLaws.{le_refl, le_trans, lt_le_trans, positive_unsigned, unsigned_le, unsigned_number_lem}
use Rattle.numbers.proofs.SumOrder.{add_commutative, add_unsigned}
use Rattle.numbers.proofs.ProductOrder.{mul_monotone, mul_commutative}
use Rattle.numbers.proofs.QuotientOrder.{div_unsigned, div_monotone}
use Rattle.quality.specs.Measures.{half, tiny, least, radius_of, aspect_ratio}
use Rattle.intervals.proofs.Ends.{sum_monotone}
use Rattle.six_orders.specs.Inner.SixOrders.{InOrder, abc, acb, bac, bca, cab, cba, NotShorter, AspectFrom}
use Rattle.six_orders.proofs.Positive.{above_zero, number, mul_unsigned, mul_grows, div_plain, div_falls, least_first, least_second, least_third}

-- of sums, or products, in each order
three_least : (f : Float → Float → Float) → ((x y : Float) → f x y ≡ f y x) → {a b c : Float} → T (not (is_nan (f (f a b) c))) → T (not (is_nan (f (f a c) b)))
    → T (not (is_nan (f (f b c) a)))
    → {u v w : Float} → InOrder a b c u v w → T (le (least (f (f a b) c) (f (f a c) b) (f (f b c) a)) (f (f u v) w))
three_least f comm {a} {b} {c} i j k abc = least_first _ _ _ i
three_least f comm {a} {b} {c} i j k acb = least_second _ _ _ j
three_least f comm {a} {b} {c} i j k bca = least_third _ _ _ k
three_least f comm {a} {b} {c} i j k bac = rw (comm b a) (least_first _ _ _ i)
three_least f comm {a} {b} {c} i j k cab = rw (comm c a) (least_second _ _ _ j)
three_least f comm {a} {b} {c} i j k cba = rw (comm c b) (least_third _ _ _ k)

-- ---- edges that are not shorter

-- edges in some order, and those that they are not shorter than
record Matched (a b c u v w : Float) : Type 0 where
  u₀ : Float
  v₀ : Float
  w₀ : Float
  order : InOrder a b c u₀ v₀ w₀
  first : NotShorter u₀ u
  second : NotShorter v₀ v
  third : NotShorter w₀ w

matched : {a b c x y z u v w : Float} → NotShorter a x → NotShorter b y → NotShorter c z → InOrder x y z u v w → Matched a b c u v w
matched {a} {b} {c} A B C abc = record { u₀ = a; v₀ = b; w₀ = c; order = abc; first = A; second = B; third = C }
matched {a} {b} {c} A B C acb = record { u₀ = a; v₀ = c; w₀ = b; order = acb; first = A; second = C; third = B }
matched {a} {b} {c} A B C bac = record { u₀ = b; v₀ = a; w₀ = c; order = bac; first = B; second = A; third = C }
matched {a} {b} {c} A B C bca = record { u₀ = b; v₀ = c; w₀ = a; order = bca; first = B; second = C; third = A }
matched {a} {b} {c} A B C cab = record { u₀ = c; v₀ = a; w₀ = b; order = cab; first = C; second = A; third = B }
matched {a} {b} {c} A B C cba = record { u₀ = c; v₀ = b; w₀ = a; order = cba; first = C; second = B; third = A }

pub as_long : (a : Float) → T (positive a) → NotShorter a a
as_long a p = record { shorter = p; own = p; least = le_refl a (number a p) }

sum_plain : (u v w : Float) → T (positive u) → T (positive v) → T (positive w) → T (unsigned (u ⊕ v ⊕ w))
sum_plain u v w p q r = add_unsigned (u ⊕ v) w (add_unsigned u v (positive_signless u p) (positive_signless v q)) (positive_signless w r)

product_plain : (u v w : Float) → T (positive u) → T (positive v) → T (positive w) → T (unsigned (u ⊗ v ⊗ w))
product_plain u v w p q r = mul_unsigned (u ⊗ v) w (mul_unsigned u v (positive_signless u p) q) r

module _ {a b c x y z : Float} (A : NotShorter a x) (B : NotShorter b y) (C : NotShorter c z) where
  sum_grows : T (le (a ⊕ b ⊕ c) (x ⊕ y ⊕ z))
  sum_grows =
      let ua = positive_signless a A.shorter in
      let ub = positive_signless b B.shorter in
      let ux = positive_signless x A.own in
      let uy = positive_signless y B.own in
      sum_monotone (a ⊕ b) (x ⊕ y) c z (add_unsigned a b ua ub) (add_unsigned x y ux uy) (positive_signless c C.shorter) (positive_signless z C.own)
      (sum_monotone a x b y ua ux ub uy A.least B.least) C.least

  product_grows : T (le (a ⊗ b ⊗ c) (x ⊗ y ⊗ z))
  product_grows =
      mul_grows (a ⊗ b) (x ⊗ y) c z (mul_unsigned a b (positive_signless a A.shorter) B.shorter)
      (mul_unsigned x y (positive_signless x A.own) B.own) C.shorter C.own
      (mul_grows a x b y (positive_signless a A.shorter) (positive_signless x A.own) B.shorter B.own A.least B.least) C.least

half_positive : T (positive half)
unfolding of_bits
half_positive = tt

four_positive : T (positive (f32 0x40800000))
unfolding of_bits
four_positive = tt

tiny_above : T (lt (f32 0) tiny)
unfolding lt of_bits
tiny_above = tt

fourfold_tiny : T (lt (f32 0) (tiny ⊗ f32 0x40800000))
unfolding lt mul of_bits
fourfold_tiny = tt

module _ (a b c X : Float) (pa : T (positive a)) (pb : T (positive b)) (pc : T (positive c)) where
  module _ {S P : Float} (es : S ≡ least (a ⊕ b ⊕ c) (a ⊕ c ⊕ b) (b ⊕ c ⊕ a)) (ep : P ≡ least (a ⊗ b ⊗ c) (a ⊗ c ⊗ b) (b ⊗ c ⊗ a))
      (first : T (positive (S ⊗ half)) × T (positive P) × T (positive (f32 0x40800000 ⊗ X)))
      (second : T (positive X) × T (positive (X ⊘ (S ⊗ half))) × T (positive (P ⊘ (f32 0x40800000 ⊗ X)))) where
    sums : {u v w : Float} → InOrder a b c u v w → T (le S (u ⊕ v ⊕ w))
    sums o = rw es (three_least ◌⊕◌ add_commutative (unsigned_number_lem _ (sum_plain a b c pa pb pc)) (unsigned_number_lem _ (sum_plain a c b pa pc pb))
        (unsigned_number_lem _ (sum_plain b c a pb pc pa)) o)

    products : {u v w : Float} → InOrder a b c u v w → T (le P (u ⊗ v ⊗ w))
    products o = rw ep (three_least ◌⊗◌ mul_commutative (unsigned_number_lem _ (product_plain a b c pa pb pc)) (unsigned_number_lem _ (product_plain a c b pa pc pb))
        (unsigned_number_lem _ (product_plain b c a pb pc pa)) o)

    abbrev H : Float
    H = S ⊗ half

    abbrev F : Float
    F = f32 0x40800000 ⊗ X

    abbrev Q : Float
    Q = X ⊘ H

    abbrev R : Float
    R = P ⊘ F

    module _ (u v w r : Float) (s : T (le S (u ⊕ v ⊕ w))) (p : T (le P (u ⊗ v ⊗ w))) (low : T (le tiny r)) (high : T (le r X))
        (plain-sum : T (unsigned (u ⊕ v ⊕ w))) where
      r_above : T (lt (f32 0) r)
      r_above = lt_le_trans (f32 0) tiny r tiny_above low

      r_finite : T (finite r)
      r_finite = finite_under r X (positive_unsigned r r_above) high (positive-finite X second.0)

      r_positive : T (positive r)
      r_positive = positive_is r r_above r_finite

      -- half the sum
      abbrev h : Float
      h = (u ⊕ v ⊕ w) ⊗ half

      h_above : T (le H h)
      h_above = mul_monotone S (u ⊕ v ⊕ w) half (positive-finite half half_positive) s (unsigned_le half (positive_signless half half_positive))
          (number H first.0) (unsigned_number_lem h (mul_unsigned (u ⊕ v ⊕ w) half plain-sum half_positive))

      -- the inradius
      abbrev q : Float
      q = r ⊘ h

      q_most : T (le q Q)
      q_most = le_trans q (r ⊘ H) Q (div_falls r H h r_finite (positive_signless r r_positive) first.0 h_above) (div_monotone r X H first.0 high)

      q_plain : T (unsigned q)
      q_plain = div_plain r h r_finite (positive_signless r r_positive) (lt_le_trans (f32 0) H h (above_zero H first.0) h_above)

      -- four times the area
      abbrev f : Float
      f = f32 0x40800000 ⊗ r

      grows : (x y : Float) → T (positive x) → T (le x y) → T (positive y) → T (le (f32 0x40800000 ⊗ x) (f32 0x40800000 ⊗ y))
      grows x y i k j =
          rw (mul_commutative (f32 0x40800000) x, mul_commutative (f32 0x40800000) y)
          (mul_monotone x y (f32 0x40800000) (positive-finite (f32 0x40800000) four_positive) k
          (unsigned_le (f32 0x40800000) (positive_signless (f32 0x40800000) four_positive))
          (unsigned_number_lem _ (mul_unsigned x (f32 0x40800000) (positive_signless x i) four_positive))
          (unsigned_number_lem _ (mul_unsigned y (f32 0x40800000) (positive_signless y j) four_positive)))

      f_above : T (lt (f32 0) f)
      f_above = lt_le_trans (f32 0) (f32 0x40800000 ⊗ tiny) f (rw (mul_commutative (f32 0x40800000) tiny) fourfold_tiny)
          (grows tiny r (unfold of_bits in tt) low r_positive)

      f_most : T (le f F)
      f_most = grows r X r_positive high second.0

      f_positive : T (positive f)
      f_positive = positive_is f f_above (finite_under f F (positive_unsigned f f_above) f_most (positive-finite F first.2))

      -- the circumradius
      abbrev d : Float
      d = (u ⊗ v ⊗ w) ⊘ f

      d_least : T (le R d)
      d_least = le_trans R (P ⊘ f) d (div_falls P f F (positive-finite P first.1) (positive_signless P first.1) f_positive f_most)
          (div_monotone P (u ⊗ v ⊗ w) f f_positive p)

      ratio_most : T (le (q ⊘ d) (Q ⊘ R))
      ratio_most = le_trans (q ⊘ d) (q ⊘ R) (Q ⊘ R)
          (div_falls q R d (finite_under q Q q_plain q_most (positive-finite Q second.1)) q_plain second.2 d_least)
          (div_monotone q Q R second.2 q_most)

      aspect_most : T (le (aspect_ratio u v w r (radius_of u v w r)) (Q ⊘ R))
      unfolding aspect_ratio radius_of
      aspect_most = go (lt tiny d)
        where
          go : (t : Bool) → T (le (cond t (q ⊘ d) (f32 0)) (Q ⊘ R))
          go true = ratio_most
          go false = unsigned_le (Q ⊘ R) (div_unsigned Q R (positive-finite Q second.1) (positive_signless Q second.1) second.2)

    -- with edges that are not shorter
    pub aspects_bounded : AspectFrom a b c X (Q ⊘ R)
    aspects_bounded = record { longer = λ x y z A B C. record { most = λ u v w r o low high n. at r low high (matched A B C o) } }
      where
        at : {u v w : Float} (r : Float) → T (le tiny r) → T (le r X) → Matched a b c u v w → T (le (aspect_ratio u v w r (radius_of u v w r)) (Q ⊘ R))
        at {u} {v} {w} r low high m =
            aspect_most u v w r (le_trans S _ _ (sums m.order) (sum_grows m.first m.second m.third))
            (le_trans P _ _ (products m.order) (product_grows m.first m.second m.third)) low high
            (sum_plain u v w m.first.own m.second.own m.third.own)
