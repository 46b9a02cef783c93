-- No arc cosine of a number from `cosine` on is above the limit (`angle_limit_is`): each part of it is at most what the
-- limit has in its place. Assumes nothing.
use mathlib.Core.Path.{◌≡◌, refl, subst}
use mathlib.Core.Bool.{Bool, true, false, ◌||◌, cond}
use lib.Dec.{T, not_T}
use lib.Ieee.{Float, nan, inf, fin, binary32, neg, add, mul, div, lt, le, eq, fits, is_nan, of_bits}
use lib.Ieee.Bits.{is_false}
use lib.Ieee.Scale.{finite}
use lib.Ieee.Positive.{positive, positive-finite, between}
use Rattle.numbers.specs.Rounded.{f32, ◌⊕◌, ◌⊖◌, ◌⊗◌, ◌⊘◌}
use Rattle.numbers.specs.Root.{root}
use Rattle.numbers.specs.Order.{clamp}
use Rattle.numbers.specs.Inner.Bounds.{unsigned, Bounded}
use Rattle.numbers.specs.Acos.{R, abs, high_part, acos_high, acos_inside, acos}
use Rattle.numbers.proofs.Above.{positive_signless, finite_under}
use Rattle.numbers.proofs.OrderLaws.{le_left, le_right, le_refl, lt_le, le_trans, not_lt_le, le_not_lt, finite_number, unsigned_le, unsigned_number_lem}
use Rattle.numbers.proofs.SumOrder.{add_monotone, add_unsigned}
use Rattle.numbers.proofs.ProductOrder.{mul_monotone_finite, mul_nonpositive, mul_commutative}
use Rattle.numbers.proofs.QuotientOrder.{div_monotone, div_unsigned, div_antitone}
use Rattle.numbers.proofs.RootMonotone.{root_monotone}
use Rattle.numbers.proofs.Bounded.{neg_bounded, bounded_finite, add_bounded, mul_unsigned, mul_bounded}
use Rattle.score_bounds.proofs.Aspect.{Low, add_under, doubled_le}
use Rattle.slivers.specs.Inner.Slivers.{AngleLimit}
use Rattle.slivers.proofs.Arc.{Parts, parts, z_of, z_fits, z_falls}

-- ---- bounds

pub low_finite : (x : Float) → T (finite x) → Low x
unfolding lt
low_finite nan f = absurd f
low_finite (inf s) f = absurd f
low_finite (fin s m e) f = tt

-- what has no minus sign and is at most v
pub plain_bounded : (x v : Float) → T (unsigned x) → T (le x v) → T (le (neg v) (f32 0)) → Bounded x v
plain_bounded x v u h n = record { upper = h; lower = le_trans (neg v) (f32 0) x n (unsigned_le x u) }

-- ---- the rational function, up to 0.25

abbrev pub quarter : Float
quarter = f32 0x3e800000

-- the size of what is added to its first coefficient, and of what is taken from 1
abbrev tail : Float
tail = quarter ⊗ (f32 0x3d2f13ba ⊕ quarter ⊗ f32 0x3c0dd36b)

abbrev taken : Float
taken = quarter ⊗ f32 0x3f34e5ae

module _ (z : Float) (p : T (positive z)) (h : T (le z quarter)) where
  z_bounded : Bounded z quarter
  z_bounded = plain_bounded z quarter (positive_signless z p) h (unfold le neg of_bits in tt)

  -- a coefficient below 0 has its size
  size : (c : Float) → T (unsigned c) → T (le (neg c) (f32 0)) → Bounded (neg c) c
  size c u n = neg_bounded (plain_bounded c c u (le_refl c (unsigned_number_lem c u)) n)

  inner_bounded : Bounded (neg (f32 0x3d2f13ba) ⊕ z ⊗ neg (f32 0x3c0dd36b)) (f32 0x3d2f13ba ⊕ quarter ⊗ f32 0x3c0dd36b)
  inner_bounded =
      add_bounded (neg (f32 0x3d2f13ba)) (z ⊗ neg (f32 0x3c0dd36b)) (f32 0x3d2f13ba) (quarter ⊗ f32 0x3c0dd36b) (unfold of_bits in tt) (unfold mul of_bits in tt)
      (size (f32 0x3d2f13ba) (unfold of_bits in tt) (unfold le neg of_bits in tt))
      (mul_bounded z (neg (f32 0x3c0dd36b)) quarter (f32 0x3c0dd36b) (unfold of_bits in tt) (unfold of_bits in tt) (unfold of_bits in tt)
      (unfold of_bits in tt) z_bounded (size (f32 0x3c0dd36b) (unfold of_bits in tt) (unfold le neg of_bits in tt)))

  tail_bounded : Bounded (z ⊗ (neg (f32 0x3d2f13ba) ⊕ z ⊗ neg (f32 0x3c0dd36b))) tail
  tail_bounded = mul_bounded z (neg (f32 0x3d2f13ba) ⊕ z ⊗ neg (f32 0x3c0dd36b)) quarter (f32 0x3d2f13ba ⊕ quarter ⊗ f32 0x3c0dd36b) (unfold of_bits in tt)
      (unfold add mul of_bits in tt) (unfold of_bits in tt) (unfold add mul of_bits in tt) z_bounded inner_bounded

  taken_bounded : Bounded (z ⊗ neg (f32 0x3f34e5ae)) taken
  taken_bounded = mul_bounded z (neg (f32 0x3f34e5ae)) quarter (f32 0x3f34e5ae) (unfold of_bits in tt) (unfold of_bits in tt) (unfold of_bits in tt)
      (unfold of_bits in tt) z_bounded (size (f32 0x3f34e5ae) (unfold of_bits in tt) (unfold le neg of_bits in tt))

  -- a sum with a number of a size lies between the two
  sum_least : (c x t : Float) → T (finite c) → T (finite t) → T (finite (neg t)) → Bounded x t → T (le (c ⊕ neg t) (c ⊕ x))
  sum_least c x t f g n b = add_monotone c c (neg t) x f f n (bounded_finite x t g b) (le_refl c (finite_number c f)) b.lower

  sum_most : (c x t : Float) → T (finite c) → T (finite t) → Bounded x t → T (le (c ⊕ x) (c ⊕ t))
  sum_most c x t f g b = add_monotone c c x t f f (bounded_finite x t g b) g (le_refl c (finite_number c f)) b.upper

  abbrev above : Float
  above = f32 0x3e2aaa75 ⊕ z ⊗ (neg (f32 0x3d2f13ba) ⊕ z ⊗ neg (f32 0x3c0dd36b))

  abbrev under : Float
  under = f32 0x3f800000 ⊕ z ⊗ neg (f32 0x3f34e5ae)

  above_least : T (le (f32 0x3e19999a) above)
  above_least = le_trans (f32 0x3e19999a) (f32 0x3e2aaa75 ⊕ neg tail) above (unfold le neg add mul of_bits in tt)
      (sum_least (f32 0x3e2aaa75) (z ⊗ (neg (f32 0x3d2f13ba) ⊕ z ⊗ neg (f32 0x3c0dd36b))) tail (unfold of_bits in tt) (unfold add mul of_bits in tt)
      (unfold neg add mul of_bits in tt) tail_bounded)

  above_most : T (le above (f32 0x3e3851ec))
  above_most = le_trans above (f32 0x3e2aaa75 ⊕ tail) (f32 0x3e3851ec)
      (sum_most (f32 0x3e2aaa75) (z ⊗ (neg (f32 0x3d2f13ba) ⊕ z ⊗ neg (f32 0x3c0dd36b))) tail (unfold of_bits in tt) (unfold add mul of_bits in tt) tail_bounded)
      (unfold le add mul of_bits in tt)

  under_least : T (le (f32 0x3f51eb85) under)
  under_least = le_trans (f32 0x3f51eb85) (f32 0x3f800000 ⊕ neg taken) under (unfold le neg add mul of_bits in tt)
      (sum_least (f32 0x3f800000) (z ⊗ neg (f32 0x3f34e5ae)) taken (unfold of_bits in tt) (unfold mul of_bits in tt) (unfold neg mul of_bits in tt) taken_bounded)

  under_most : T (le under (f32 0x40000000))
  under_most = le_trans under (f32 0x3f800000 ⊕ taken) (f32 0x40000000)
      (sum_most (f32 0x3f800000) (z ⊗ neg (f32 0x3f34e5ae)) taken (unfold of_bits in tt) (unfold mul of_bits in tt) taken_bounded)
      (unfold le add mul of_bits in tt)

  above_positive : T (positive above)
  above_positive = between (f32 0x3e19999a) above (f32 0x3e3851ec) (unfold of_bits in tt) (unfold of_bits in tt) above_least above_most

  under_positive : T (positive under)
  under_positive = between (f32 0x3f51eb85) under (f32 0x40000000) (unfold of_bits in tt) (unfold of_bits in tt) under_least under_most

  product_plain : T (unsigned (z ⊗ above))
  product_plain = mul_unsigned z above (positive-finite z p) (positive-finite above above_positive) (positive_signless z p)
      (positive_signless above above_positive)

  product_finite : T (finite (z ⊗ above))
  product_finite = bounded_finite (z ⊗ above) (quarter ⊗ f32 0x3e3851ec) (unfold mul of_bits in tt)
      (mul_bounded z above quarter (f32 0x3e3851ec) (unfold of_bits in tt) (unfold of_bits in tt) (unfold of_bits in tt) (unfold of_bits in tt) z_bounded
      (plain_bounded above (f32 0x3e3851ec) (positive_signless above above_positive) above_most (unfold le neg of_bits in tt)))

  pub ratio_plain : T (unsigned (R z))
  unfolding R
  ratio_plain = div_unsigned (z ⊗ above) under product_finite product_plain under_positive

  -- with a larger number in place of z
  pub ratio_most : (y : Float) → T (finite y) → T (le z y) → T (le (R z) (y ⊗ f32 0x3e3851ec ⊘ f32 0x3f51eb85))
  unfolding R
  ratio_most y f k =
      le_trans (z ⊗ above ⊘ under) (z ⊗ above ⊘ f32 0x3f51eb85) (y ⊗ f32 0x3e3851ec ⊘ f32 0x3f51eb85)
      (div_antitone (z ⊗ above) (f32 0x3f51eb85) under product_finite product_plain (unfold of_bits in tt) under_positive under_least)
      (div_monotone (z ⊗ above) (y ⊗ f32 0x3e3851ec) (f32 0x3f51eb85) (unfold of_bits in tt)
      (le_trans (z ⊗ above) (z ⊗ f32 0x3e3851ec) (y ⊗ f32 0x3e3851ec)
      (rw (mul_commutative z above, mul_commutative z (f32 0x3e3851ec))
      (mul_monotone_finite above (f32 0x3e3851ec) z (positive-finite above above_positive) (unfold of_bits in tt) (positive-finite z p) above_most
      (unsigned_le z (positive_signless z p))))
      (mul_monotone_finite z y (f32 0x3e3851ec) (positive-finite z p) f (unfold of_bits in tt) k (unfold le of_bits in tt))))

  under_one : T (le under (f32 0x3f800000))
  under_one =
      le_trans under (f32 0x3f800000 ⊕ f32 0) (f32 0x3f800000)
      (add_monotone (f32 0x3f800000) (f32 0x3f800000) (z ⊗ neg (f32 0x3f34e5ae)) (f32 0) (unfold of_bits in tt) (unfold of_bits in tt)
      (bounded_finite (z ⊗ neg (f32 0x3f34e5ae)) taken (unfold mul of_bits in tt) taken_bounded) (unfold of_bits in tt) (unfold le of_bits in tt)
      (rw (mul_commutative z (neg (f32 0x3f34e5ae)))
      (mul_nonpositive (neg (f32 0x3f34e5ae)) z (unfold neg of_bits in tt) (positive-finite z p) (unfold le neg of_bits in tt)
      (unsigned_le z (positive_signless z p)))))
      (unfold le add of_bits in tt)

  -- with a lesser number in place of z
  pub ratio_least : (y : Float) → T (finite y) → T (le y z) → T (le (y ⊗ f32 0x3e19999a ⊘ f32 0x3f800000) (R z))
  unfolding R
  ratio_least y f k =
      le_trans (y ⊗ f32 0x3e19999a ⊘ f32 0x3f800000) (z ⊗ above ⊘ f32 0x3f800000) (z ⊗ above ⊘ under)
      (div_monotone (y ⊗ f32 0x3e19999a) (z ⊗ above) (f32 0x3f800000) (unfold of_bits in tt)
      (le_trans (y ⊗ f32 0x3e19999a) (z ⊗ f32 0x3e19999a) (z ⊗ above)
      (mul_monotone_finite y z (f32 0x3e19999a) f (positive-finite z p) (unfold of_bits in tt) k (unfold le of_bits in tt))
      (rw (mul_commutative z above, mul_commutative z (f32 0x3e19999a))
      (mul_monotone_finite (f32 0x3e19999a) above z (unfold of_bits in tt) (positive-finite above above_positive) (positive-finite z p) above_least
      (unsigned_le z (positive_signless z p))))))
      (div_antitone (z ⊗ above) under (f32 0x3f800000) product_finite product_plain under_positive (unfold of_bits in tt) under_one)

-- ---- equality

pub level_le : (x y : Float) → T (eq x y) → T (le x y)
unfolding le
level_le x y = go (lt x y) (eq x y)
  where
    go : (a b : Bool) → T b → T (a || b)
    go true b t = tt
    go false b t = t

pub strict : (x y : Float) → T (le x y) → eq x y ≡ false → T (lt x y)
unfolding le
strict x y = go (lt x y) (eq x y)
  where
    go : (a b : Bool) → T (a || b) → b ≡ false → T a
    go true b t e = tt
    go false b t e = absurd (subst T e t)

pub acos_one : acos (f32 0x3f800000) ≡ f32 0
unfolding acos is_nan eq of_bits
acos_one = refl

-- ---- the limit

abbrev pub ratio : Float → Float
ratio z = z ⊗ f32 0x3e3851ec ⊘ f32 0x3f51eb85

abbrev pub limit : Float → Float
limit z = let s = root z in f32 0x40000000 ⊗ (s ⊕ (ratio z ⊗ s ⊕ s ⊗ f32 0x3a800000))

module _ (κ : Float) (f : T (fits binary32 κ)) (lo : T (le (f32 0x3f000000) κ)) (hi : T (lt κ (f32 0x3f800000))) where
  abbrev Z : Float
  Z = z_of κ

  abbrev S : Float
  S = root Z

  known : Parts Z S (high_part S)
  known = parts κ f lo hi

  Z-finite : T (finite Z)
  Z-finite = positive-finite Z known.z_positive

  S-finite : T (finite S)
  S-finite = positive-finite S known.s_positive

  S-plain : T (unsigned S)
  S-plain = positive_signless S known.s_positive

  S-bounded : Bounded S (f32 0x3f800000)
  S-bounded = plain_bounded S (f32 0x3f800000) S-plain known.s_most (unfold le neg of_bits in tt)

  thinned_bounded : Bounded (Z ⊗ f32 0x3e3851ec) (quarter ⊗ f32 0x3e3851ec)
  thinned_bounded = mul_bounded Z (f32 0x3e3851ec) quarter (f32 0x3e3851ec) (unfold of_bits in tt) (unfold of_bits in tt) (unfold of_bits in tt)
      (unfold of_bits in tt) (z_bounded Z known.z_positive known.z_most)
      (plain_bounded (f32 0x3e3851ec) (f32 0x3e3851ec) (unfold of_bits in tt) (unfold le of_bits in tt) (unfold le neg of_bits in tt))

  ratio_unsigned : T (unsigned (ratio Z))
  ratio_unsigned =
      div_unsigned (Z ⊗ f32 0x3e3851ec) (f32 0x3f51eb85)
      (bounded_finite (Z ⊗ f32 0x3e3851ec) (quarter ⊗ f32 0x3e3851ec) (unfold mul of_bits in tt) thinned_bounded)
      (mul_unsigned Z (f32 0x3e3851ec) Z-finite (unfold of_bits in tt) (positive_signless Z known.z_positive) (unfold of_bits in tt)) (unfold of_bits in tt)

  ratio_bounded : Bounded (ratio Z) (ratio quarter)
  ratio_bounded = plain_bounded (ratio Z) (ratio quarter) ratio_unsigned
      (div_monotone (Z ⊗ f32 0x3e3851ec) (quarter ⊗ f32 0x3e3851ec) (f32 0x3f51eb85) (unfold of_bits in tt) thinned_bounded.upper)
      (unfold le neg div mul of_bits in tt)

  ratio_finite : T (finite (ratio Z))
  ratio_finite = bounded_finite (ratio Z) (ratio quarter) (unfold div mul of_bits in tt) ratio_bounded

  abbrev first : Float
  first = ratio Z ⊗ S

  abbrev second : Float
  second = S ⊗ f32 0x3a800000

  pub first_bounded : Bounded first (ratio quarter ⊗ f32 0x3f800000)
  first_bounded = mul_bounded (ratio Z) S (ratio quarter) (f32 0x3f800000) (unfold div mul of_bits in tt) (unfold of_bits in tt) (unfold div mul of_bits in tt)
      (unfold of_bits in tt) ratio_bounded S-bounded

  second_bounded : Bounded second (f32 0x3f800000 ⊗ f32 0x3a800000)
  second_bounded = mul_bounded S (f32 0x3a800000) (f32 0x3f800000) (f32 0x3a800000) (unfold of_bits in tt) (unfold of_bits in tt) (unfold of_bits in tt)
      (unfold of_bits in tt) S-bounded
      (plain_bounded (f32 0x3a800000) (f32 0x3a800000) (unfold of_bits in tt) (unfold le of_bits in tt) (unfold le neg of_bits in tt))

  first_finite : T (finite first)
  first_finite = bounded_finite first (ratio quarter ⊗ f32 0x3f800000) (unfold div mul of_bits in tt) first_bounded

  second_finite : T (finite second)
  second_finite = bounded_finite second (f32 0x3f800000 ⊗ f32 0x3a800000) (unfold mul of_bits in tt) second_bounded

  sum_bounded : Bounded (first ⊕ second) (ratio quarter ⊗ f32 0x3f800000 ⊕ f32 0x3f800000 ⊗ f32 0x3a800000)
  sum_bounded = add_bounded first second (ratio quarter ⊗ f32 0x3f800000) (f32 0x3f800000 ⊗ f32 0x3a800000) (unfold div mul of_bits in tt)
      (unfold mul of_bits in tt) first_bounded second_bounded

  sum_finite : T (finite (first ⊕ second))
  sum_finite = bounded_finite (first ⊕ second) (ratio quarter ⊗ f32 0x3f800000 ⊕ f32 0x3f800000 ⊗ f32 0x3a800000) (unfold add div mul of_bits in tt) sum_bounded

  whole_finite : T (finite (S ⊕ (first ⊕ second)))
  whole_finite =
      let most = f32 0x3f800000 ⊕ (ratio quarter ⊗ f32 0x3f800000 ⊕ f32 0x3f800000 ⊗ f32 0x3a800000) in
      bounded_finite (S ⊕ (first ⊕ second)) most (unfold add div mul of_bits in tt)
      (add_bounded S (first ⊕ second) (f32 0x3f800000) (ratio quarter ⊗ f32 0x3f800000 ⊕ f32 0x3f800000 ⊗ f32 0x3a800000) (unfold of_bits in tt)
      (unfold add div mul of_bits in tt) S-bounded sum_bounded)

  limit_above : T (le (f32 0) (limit Z))
  limit_above =
      unsigned_le (limit Z)
      (mul_unsigned (f32 0x40000000) (S ⊕ (first ⊕ second)) (unfold of_bits in tt) whole_finite (unfold of_bits in tt)
      (add_unsigned S (first ⊕ second) S-plain
      (add_unsigned first second (mul_unsigned (ratio Z) S ratio_finite S-finite ratio_unsigned S-plain)
      (mul_unsigned S (f32 0x3a800000) S-finite (unfold of_bits in tt) S-plain (unfold of_bits in tt)))))

  -- ---- an arc cosine

  module _ (v : Float) (g : T (fits binary32 v)) (h : T (le κ v)) where
    from_half : T (le (f32 0x3f000000) v)
    from_half = le_trans (f32 0x3f000000) κ v lo h

    -- the root, and the product of the rational function and the root
    pub root_most : T (lt v (f32 0x3f800000)) → T (le (root (z_of v)) S)
    root_most b = root_monotone (z_of v) Z (z_fits v g from_half b) (z_fits κ f lo hi)
        (unsigned_le (z_of v) (positive_signless (z_of v) (parts v g from_half b).z_positive)) (z_falls κ v f g lo h b)

    pub product_most : T (lt v (f32 0x3f800000)) → T (le (R (z_of v) ⊗ root (z_of v)) first)
    product_most b =
        let z = z_of v in
        let s = root z in
        let p = parts v g from_half b in
        let z-le = z_falls κ v f g lo h b in
        let s-plain = positive_signless s p.s_positive in
        let s-finite = positive-finite s p.s_positive in
        let r-le : T (le (R z) (ratio Z)) = ratio_most z p.z_positive p.z_most Z Z-finite z-le in
        let r_finite = finite_under (R z) (ratio Z) (ratio_plain z p.z_positive p.z_most) r-le ratio_finite in
        le_trans (R z ⊗ s) (ratio Z ⊗ s) first (mul_monotone_finite (R z) (ratio Z) s r_finite ratio_finite s-finite r-le (unsigned_le s s-plain))
        (rw (mul_commutative (ratio Z) s, mul_commutative (ratio Z) S)
        (mul_monotone_finite s S (ratio Z) s-finite S-finite ratio_finite (root_most b) (unsigned_le (ratio Z) ratio_unsigned)))

    high_under : T (lt v (f32 0x3f800000)) → T (le (acos_high v) (limit Z))
    unfolding acos_high
    high_under b =
        let z = z_of v in
        let s = root z in
        let d = high_part s in
        let c = (z ⊖ d ⊗ d) ⊘ (s ⊕ d) in
        let p = parts v g from_half b in
        let s-le = root_most b in
        let c-le : T (le c second) = le_trans c (s ⊗ f32 0x3a800000) second p.correction
        (mul_monotone_finite s S (f32 0x3a800000) (positive-finite s p.s_positive) S-finite (unfold of_bits in tt) s-le (unfold le of_bits in tt)) in
        let sum = add_under (R z ⊗ s) c first second (product_most b) c-le (low_finite first first_finite) (low_finite second second_finite) in
        let whole = add_under d (R z ⊗ s ⊕ c) S (first ⊕ second) (le_trans d s S p.d_most s-le) sum (low_finite S S-finite)
        (low_finite (first ⊕ second) sum_finite) in
        rw (mul_commutative (f32 0x40000000) (d ⊕ (R z ⊗ s ⊕ c)), mul_commutative (f32 0x40000000) (S ⊕ (first ⊕ second)))
        (doubled_le (d ⊕ (R z ⊗ s ⊕ c)) (S ⊕ (first ⊕ second)) whole)

    no : (b : Bool) → (T b → ⊥) → b ≡ false
    no b k = is_false b (not_T b k)

    -- what is below 0.5 is not at least v
    not_under : (x : Float) → T (lt x (f32 0x3f000000)) → T (le v x) → ⊥
    not_under x b k = le_not_lt (f32 0x3f000000) x (le_trans (f32 0x3f000000) v x from_half k) b

    inside_is : T (lt v (f32 0x3f800000)) → acos_inside v ≡ acos_high v
    unfolding acos_inside abs
    inside_is b =
        rw (
          no (lt v (f32 0)) (λ k. not_under (f32 0) (unfold lt of_bits in tt) (lt_le v (f32 0) k)),
          no (lt (f32 0x3f800000) v) (λ k. le_not_lt v (f32 0x3f800000) (lt_le v (f32 0x3f800000) b) k),
          no (le v (f32 0x32800000)) (not_under (f32 0x32800000) (unfold lt of_bits in tt)),
          no (lt v (f32 0x3f000000)) (λ k. le_not_lt (f32 0x3f000000) v from_half k),
          no (le v (neg (f32 0x3f000000))) (not_under (neg (f32 0x3f000000)) (unfold lt neg of_bits in tt)),
        )

    -- what is at most 1 equals it or is below it
    acos_under : T (le v (f32 0x3f800000)) → T (le (acos v) (limit Z))
    unfolding acos
    acos_under b = rw (is_false (is_nan v) (le_left v (f32 0x3f800000) b)) (go (eq v (f32 0x3f800000)) refl)
      where
        go : (t : Bool) → eq v (f32 0x3f800000) ≡ t
            → T (le (cond t (f32 0) (cond (eq v (neg (f32 0x3f800000))) (f32 0x40000000 ⊗ f32 0x3fc90fda) (acos_inside v))) (limit Z))
        go true e = limit_above
        go false e =
            let k = strict v (f32 0x3f800000) b e in
            rw (
              no (eq v (neg (f32 0x3f800000)))
                  (λ k. not_under (neg (f32 0x3f800000)) (unfold lt neg of_bits in tt) (level_le v (neg (f32 0x3f800000)) k)),
              inside_is k,
            ) (high_under k)

    held_under : T (le (acos (clamp v (neg (f32 0x3f800000)) (f32 0x3f800000))) (limit Z))
    unfolding clamp
    held_under = rw (no (lt v (neg (f32 0x3f800000))) (λ k. not_under (neg (f32 0x3f800000)) (unfold lt neg of_bits in tt) (lt_le v (neg (f32 0x3f800000)) k)))
        (go (lt (f32 0x3f800000) v) refl)
      where
        go : (t : Bool) → lt (f32 0x3f800000) v ≡ t → T (le (acos (cond t (f32 0x3f800000) v)) (limit Z))
        go true e = rw acos_one limit_above
        go false e = acos_under (not_lt_le (f32 0x3f800000) v (unfold is_nan of_bits in tt) (le_right κ v h) (rw e tt))

  pub angle_limit_is : AngleLimit κ (limit Z)
  angle_limit_is = record { most = λ v g h n. held_under v g h }

pub no_angle_limit : (κ : Float) → AngleLimit κ nan
no_angle_limit κ = record { most = λ v g h n. absurd (unfold is_nan in n) }
