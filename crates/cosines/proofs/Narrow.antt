-- What passes the test has a cosine of at least every bound that the limit is for (`narrow_is`). Assumes nothing.
use mathlib.Core.Path.{◌≡◌, refl, sym, ap, ◌∙◌, subst}
use mathlib.Core.Logic.{◌⊎◌, inl, inr}
use Prim.Native.Nat.{ℕ, ◌+◌, ◌*◌, ◌^◌, ◌≤◌, ◌<◌}
use native.Mathlib.Nat.{le_refl, le_trans, mul_comm, mul-le-mul, mul-le-mul_left, mul-le-mul_right}
use native.Mathlib.Omega.{arith}
use native.Mathlib.Bridge.{IsLe, le_by_compare}
use mathlib.Core.Bool.{Bool, true, false, ◌||◌, cond}
use lib.Dec.{T}
use lib.Pow.{pow_pos}
use lib.Ieee.{Float, binary32, le, fits, of_bits}
use lib.Ieee.Fits.{and_i, and_l, and_r}
use lib.Ieee.Scale.{finite}
use lib.Ieee.Positive.{positive-finite}
use Rattle.numbers.specs.Rounded.{f32, ◌⊖◌, ◌⊗◌}
use Rattle.numbers.specs.Root.{root}
use Rattle.numbers.proofs.OrderLaws as order
use Rattle.vector.specs.Vector.{difference, cross, squared}
use Rattle.vector.specs.declared.Point3f.{Point3f}
use Rattle.vector.proofs.Distances.{squared_turned, magnitude_nonnegative}
use Rattle.area_bounds.specs.Inner.AreaBound.{cross_squared}
use Rattle.rounding_errors.proofs.Near.{Near, near_le, near_eq, near_trans, near_mul, near_times, near_cancel, near_within}
use Rattle.rounding_errors.proofs.Rounding.{Units, units_positive}
use Rattle.rounding_errors.proofs.Operations.{units_le, mul_units}
use Rattle.rounding_errors.proofs.Signed.{units_order}
use Rattle.cosines.specs.Inner.Cosine.{is_plain_pair, are_plain, is_comparable, limit_at, is_short, is_small, Margin, NarrowLimit, Coordinates, interval}
use Rattle.cosines.specs.Inner.Cosine.{AtLeast, NarrowAngle}
use Rattle.cosines.proofs.Points.{Square, plain_units, finite_between, Exactly, exact_of}
use Rattle.cosines.proofs.Chain.{cross_small, edge_below, edges_sum, third_below}
use Rattle.cosines.proofs.Lengths.{Flat, flat_swapped, cosine_above}
use Rattle.cosines.proofs.Limit.{limit_units, less_12, less_60, less_252, wide_limit}

-- ---- the test's products over whole numbers

-- m is what is compared with, of the limit l and the rounded product p of x and y, which are below the squares A and C
limit_near : (w l p x y a c A C n : ℕ) → Near 1 (n * w) (l * p) → Near 1 (p * w) (x * y) → x ≤ a → y ≤ c → Near 6 (a * w) A → Near 6 (c * w) C
    → Near 14 (n * (w * (w * w * w))) (l * (A * C))
limit_near w l p x y a c A C n h i j k f g =
    let s : Near 1 (n * (w * (w * w * w))) (p * w * (l * (w * w))) = near_eq {k = 1} (one_more n w) (two_more l p w) (near_times (w * w * w) h) in
    let t : Near 1 (p * w * (l * (w * w))) (x * y * (l * (w * w))) = near_times (l * (w * w)) i in
    let u : x * y * (l * (w * w)) ≤ a * c * (l * (w * w)) = mul-le-mul_right (l * (w * w)) (mul-le-mul j k) in
    let v : Near 12 (a * c * (l * (w * w))) (l * (A * C)) = near_eq {k = 12} (three_more a c l w) (mul_comm (A * C) l) (near_times l (near_mul f g)) in
    near_trans (near_trans s (near_trans t (near_le u))) v
  where
    one_more : (n w : ℕ) → n * w * (w * w * w) ≡ n * (w * (w * w * w))
    one_more n w = omega arith

    two_more : (l p w : ℕ) → l * p * (w * w * w) ≡ p * w * (l * (w * w))
    two_more l p w = omega arith

    three_more : (a c l w : ℕ) → a * w * (c * w) * l ≡ a * c * (l * (w * w))
    three_more a c l w = omega arith

pub square_large : {x : Float} {A : ℕ} → Square x A → 2 ^ 257 ≤ A
unfolding IsLe
square_large {x} {A} s =
    halved (2 ^ 257) (s.m * 2 ^ 149) (mul-le-mul_right (2 ^ 149) s.is.low)
    (near_within 6 1 2 (le_by_compare (1 * 16777216 ^ 6) (2 * 16777215 ^ 6) tt) s.below)
  where
    halved : (v m : ℕ) → 2 * v ≤ m → m * 1 ≤ A * 2 → v ≤ A
    halved v m h k = omega arith

product_large : (l A C : ℕ) → 2 ^ 129 ≤ l → 2 ^ 257 ≤ A → 2 ^ 257 ≤ C → 3 * (2 ^ 149 * (2 ^ 149 * 2 ^ 149 * 2 ^ 149)) * 1099511627776 ≤ l * (A * C)
unfolding IsLe
product_large l A C h i j =
    le_trans (le_by_compare (3 * (2 ^ 149 * (2 ^ 149 * 2 ^ 149 * 2 ^ 149)) * 1099511627776) (2 ^ 129 * (2 ^ 257 * 2 ^ 257)) tt) (mul-le-mul h (mul-le-mul i j))

-- ---- edges that are near each other

-- n is v times y, but for a rounding error, v being c of w units; and y is below the square C
ratio_near : (w v c n y a b A C : ℕ) → 0 < w → v ≡ c * w → Near 1 (n * w) (v * y) → a ≤ n → y ≤ b → Near 6 A (a * w) → Near 6 (b * w) C → Near 13 A (c * C)
ratio_near w v c n y a b A C W e h i j f g =
    let s : Near 1 n (c * y) = near_cancel w W (near_eq refl (ap (λ (z : ℕ). z * y) e ∙ moved c w y) h) in
    let t : Near 1 a (c * b) = near_trans (near_trans (near_le i) s) (near_le (mul-le-mul_left c j)) in
    let u : Near 6 (c * b * w) (c * C) = near_eq {k = 6} (grouped b w c) (mul_comm C c) (near_times c g) in
    near_trans (near_trans f (near_times w t)) u
  where
    moved : (c w y : ℕ) → c * w * y ≡ c * y * w
    moved c w y = omega arith

    grouped : (b w c : ℕ) → b * w * c ≡ c * b * w
    grouped b w c = omega arith

-- ratios of edges, and the f32 of their squares
record Ratio (r : ℕ) (times : Float) : Type 0 where
  is : Units times (r * r * 2 ^ 149) 153 165
  few : r ≤ 256

ratio_4 : Ratio 4 (f32 0x41800000)
unfolding of_bits IsLe
ratio_4 =
    record {
      is = record {
        value = (refl, refl);
        low = le_by_compare (2 ^ 153) (4 * 4 * 2 ^ 149) tt;
        high = le_by_compare (4 * 4 * 2 ^ 149)
            (2 ^ 165) tt;
      };
      few = le_by_compare 4 256 tt;
    }

ratio_16 : Ratio 16 (f32 0x43800000)
unfolding of_bits IsLe
ratio_16 =
    record {
      is = record {
        value = (refl, refl);
        low = le_by_compare (2 ^ 153) (16 * 16 * 2 ^ 149) tt;
        high = le_by_compare (16 * 16 * 2 ^ 149)
            (2 ^ 165) tt;
      };
      few = le_by_compare 16 256 tt;
    }

ratio_64 : Ratio 64 (f32 0x45800000)
unfolding of_bits IsLe
ratio_64 =
    record {
      is = record {
        value = (refl, refl);
        low = le_by_compare (2 ^ 153) (64 * 64 * 2 ^ 149) tt;
        high = le_by_compare (64 * 64 * 2 ^ 149)
            (2 ^ 165) tt;
      };
      few = le_by_compare 64 256 tt;
    }

ratio_256 : Ratio 256 (f32 0x47800000)
unfolding of_bits IsLe
ratio_256 =
    record {
      is = record {
        value = (refl, refl);
        low = le_by_compare (2 ^ 153) (256 * 256 * 2 ^ 149) tt;
        high = le_by_compare (256 * 256 * 2 ^ 149)
            (2 ^ 165) tt;
      };
      few = le_refl 256;
    }

near_at_lem : {x y lo : Float} (hi : Float) {A C n r : ℕ} {times : Float} → Ratio r times → Square x A → Square y C → Units lo n 109 175 → T (le lo y) → T (le x hi)
    → T (le hi (times ⊗ lo)) → Near 13 A (r * r * C)
near_at_lem {x} {y} {lo} hi {A} {C} {n} {r} {times} R a c u h k l =
    let p = mul_units 113 191 R.is u tt in
    ratio_near (2 ^ 149) (r * r * 2 ^ 149) (r * r) p.n n a.m c.m A C (pow_pos 149) refl p.below
    (units_le a.is p.is (order.le_trans x hi (times ⊗ lo) k l)) (units_le u c.is h) a.above c.below

-- the third square is below the first
third_near : {x y : Float} {A B : ℕ} (a : Square x A) (b : Square y B) → T (le y x) → Near 12 B A
third_near a b h = near_trans (near_trans b.above (near_times (2 ^ 149) (near_le (units_le b.is a.is h)))) a.below

-- ---- three points

pub plain_at : (lo hi x : Float) → T (is_plain_pair lo hi) → T (le lo x) → T (le x hi) → T (is_plain_pair x x)
unfolding is_plain_pair
plain_at lo hi x p h k =
    let l = f32 0x2b800000 in
    let r = f32 0x4c800000 in
    and_i (le l x) (le x r) (order.le_trans l lo x (and_l (le l lo) (le hi r) p) h) (order.le_trans x hi r k (and_r (le l lo) (le hi r) p))

-- the lower end is plain too where some square is above it
plain_low : (lo hi x : Float) → T (is_plain_pair lo hi) → T (le lo x) → T (le x hi) → T (is_plain_pair lo lo)
unfolding is_plain_pair
plain_low lo hi x p h k =
    let l = f32 0x2b800000 in
    let r = f32 0x4c800000 in
    and_i (le l lo) (le lo r) (and_l (le l lo) (le hi r) p) (order.le_trans lo x r h (order.le_trans x hi r k (and_r (le l lo) (le hi r) p)))

or_either : (a b : Bool) → T (a || b) → T a ⊎ T b
or_either true b h = inl tt
or_either false b h = inr h

-- the ratio of two squares is known
record Alike (A C r : ℕ) : Type 0 where
  first : Near 13 A (r * r * C)
  second : Near 13 C (r * r * A)
  few : r ≤ 256

module _ (p q t : Point3f) (al cl bh : Float) {na nc : ℕ} (ua : Units al na 109 175) (uc : Units cl nc 109 175) (ha : T (le al (squared q p)))
    (hc : T (le cl (squared t p))) (hb : T (le (squared q t) bh)) (x : Exactly p q t) where
  -- the third edge is not the longest
  shorter : T (is_short al cl bh) → (Near 12 x.B x.A) ⊎ (Near 12 x.B x.C)
  unfolding is_short
  shorter h = elim (or_either (le bh al) (le bh cl) h) [
    | inl k ↦ inl (third_near x.first x.third (order.le_trans (squared q t) bh (squared q p) hb (order.le_trans bh al (squared q p) k ha)))
    | inr k ↦ inr (third_near x.second x.third (order.le_trans (squared q t) bh (squared t p) hb (order.le_trans bh cl (squared t p) k hc)))
  ]

  third_sum : {r : ℕ} → Alike x.A x.C r → (Near 12 x.B x.A) ⊎ (Near 12 x.B x.C) → x.B ≤ x.A + x.C
  third_sum {r} k (inl h) = third_below x.A x.B x.C r h k.first k.few
  third_sum {r} k (inr h) = turned x.A x.B x.C (third_below x.C x.B x.A r h k.second k.few)
    where
      turned : (A B C : ℕ) → B ≤ C + A → B ≤ A + C
      turned A B C h = omega arith

  edges : {r : ℕ} → Alike x.A x.C r → (Near 12 x.B x.A) ⊎ (Near 12 x.B x.C) → (z : ℕ) → Near 18 (x.A * x.C) (z * z) → x.A + x.B
      + x.C ≤ 4 * (r * z)
  edges {r} k h z n =
      let a = edge_below x.A x.C r z k.first n in
      let c = edge_below x.C x.A r z k.second (near_eq {k = 18} (mul_comm x.A x.C) refl n) in
      edges_sum x.A x.B x.C (r * z) a c (elim h [
        | inl b ↦ near_trans b a
        | inr b ↦ near_trans b c
      ])

  -- the cross product is small
  flat_of : (cr t' κ : Float) {r : ℕ} (m : Margin r κ t') → T (le (f32 0x35800000) t') → T (le (cross_squared p q t) cr) → T (le cr (t' ⊗ (al ⊗ cl)))
      → Alike x.A x.C r → T (is_short al cl bh) → Flat x.A x.C x.B x.X m.l r
  flat_of cr t' κ {r} m lo h k alike short =
      let w : ℕ = 2 ^ 149 in
      let ut = limit_units m lo in
      let p1 = mul_units 69 201 ua uc tt in
      let p2 = mul_units 49 201 ut p1.is tt in
      let below = units_order (cross_squared p q t) (t' ⊗ (al ⊗ cl)) x.m p2.n x.crossed p2.is.value
      (order.le_trans (cross_squared p q t) cr (t' ⊗ (al ⊗ cl)) h k) in
      let third = shorter short in
      record {
        identity = x.identity;
        small =
            cross_small w x.A x.C x.X x.m x.S m.l p2.n (pow_pos 149) x.off x.near below
            (limit_near w m.l p1.n na nc x.first.m x.second.m x.A x.C p2.n p2.below p1.below (units_le ua x.first.is ha)
            (units_le uc x.second.is hc) x.first.below x.second.below)
            (product_large m.l x.A x.C ut.low (square_large x.first) (square_large x.second)) (raised (2 ^ 129) w m.l refl ut.low);
        first = alike.first;
        second = alike.second;
        third = third_sum alike third;
        sum = edges alike third;
      }
    where
      raised : (v w l : ℕ) → w ≡ 1048576 * v → v ≤ l → w ≤ 1048576 * l
      raised v w l e h = omega arith

  both : (cr t' κ : Float) {r : ℕ} → Margin r κ t' → T (le (f32 0x35800000) t') → T (le (cross_squared p q t) cr) → T (le cr (t' ⊗ (al ⊗ cl)))
      → Alike x.A x.C r → T (is_short al cl bh)
      → AtLeast κ (root (squared q t)) (root (squared q p)) (root (squared t p))
  both cr t' κ m lo h k alike short =
      let flat = flat_of cr t' κ m lo h k alike short in
      record {
        first = cosine_above (squared q p) (squared t p) (squared q t) κ t' x.first x.second x.third m alike.few flat;
        second = cosine_above (squared t p) (squared q p) (squared q t) κ t' x.second x.first x.third m alike.few (flat_swapped flat);
      }

module _ (κ cr al ah cl ch bl bh : Float) (fa : T (fits binary32 al)) (fc : T (fits binary32 cl)) (plain : T (are_plain al ah cl ch bl bh))
    (short : T (is_short al cl bh)) (p q t : Point3f) (P : Coordinates p) (Q : Coordinates q) (R : Coordinates t)
    (ha : T (le al (squared q p))) (ka : T (le (squared q p) ah)) (hc : T (le cl (squared t p))) (kc : T (le (squared t p) ch)) (hb : T (le bl (squared q t)))
    (kb : T (le (squared q t) bh)) (h : T (le (cross_squared p q t) cr)) where
  plain_a : T (is_plain_pair al ah)
  unfolding are_plain
  plain_a = and_l (is_plain_pair al ah) _ plain

  plain_c : T (is_plain_pair cl ch)
  unfolding are_plain
  plain_c = and_l (is_plain_pair cl ch) (is_plain_pair bl bh) (and_r (is_plain_pair al ah) _ plain)

  plain_b : T (is_plain_pair bl bh)
  unfolding are_plain
  plain_b = and_r (is_plain_pair cl ch) (is_plain_pair bl bh) (and_r (is_plain_pair al ah) _ plain)

  ua : (n : ℕ) × Units al n 109 175
  ua = plain_units al fa (plain_low al ah (squared q p) plain_a ha ka)

  uc : (n : ℕ) × Units cl n 109 175
  uc = plain_units cl fc (plain_low cl ch (squared t p) plain_c hc kc)

  nonnegative : T (le (f32 0) (cross_squared p q t))
  unfolding cross_squared
  nonnegative = magnitude_nonnegative (cross (difference q p) (difference t p)) (order.le_left (cross_squared p q t) cr h)

  exactly : T (finite (cross_squared p q t)) → Exactly p q t
  exactly =
      exact_of p q t P Q R (plain_at al ah (squared q p) plain_a ha ka) (plain_at cl ch (squared t p) plain_c hc kc)
      (plain_at bl bh (squared q t) plain_b hb kb)

  at_limit : (t' : Float) {r : ℕ} → Margin r κ t' → T (le (f32 0x35800000) t') → T (le cr (t' ⊗ (al ⊗ cl))) → ((x : Exactly p q t) → Alike x.A x.C r)
      → AtLeast κ (root (squared q t)) (root (squared q p)) (root (squared t p))
  at_limit t' m lo k alike =
      let p1 = mul_units 69 201 ua.1 uc.1 tt in
      let p2 = mul_units 49 201 (limit_units m lo) p1.is tt in
      let bound = t' ⊗ (al ⊗ cl) in
      let x = exactly (finite_between (cross_squared p q t) bound nonnegative (order.le_trans (cross_squared p q t) cr bound h k)
      (positive-finite bound (units_positive p2.is))) in
      both p q t al cl bh ua.1 uc.1 ha hc kb x cr t' κ m lo h k (alike x) short

  alike_at : {r : ℕ} {times : Float} → Ratio r times → T (is_comparable al ah cl ch times) → (x : Exactly p q t) → Alike x.A x.C r
  unfolding is_comparable
  alike_at {r} {times} R n x = record {
    first = near_at_lem ah R x.first x.second uc.1 hc ka (and_l (le ah (times ⊗ cl)) _ n);
    second = near_at_lem ch R x.second x.first ua.1 ha kc (and_r (le ah (times ⊗ cl)) _ n);
    few = R.few;
  }

  narrow_at : (limit : Float) → NarrowLimit κ limit → T (is_small al cl cr (limit_at al ah cl ch limit))
      → AtLeast κ (root (squared q t)) (root (squared q p)) (root (squared t p))
  unfolding limit_at is_small
  narrow_at limit N s =
      go (is_comparable al ah cl ch (f32 0x41800000)) (is_comparable al ah cl ch (f32 0x43800000)) (is_comparable al ah cl ch (f32 0x45800000))
      (is_comparable al ah cl ch (f32 0x47800000)) (alike_at ratio_4) (alike_at ratio_16) (alike_at ratio_64) (alike_at ratio_256)
      (and_l (le (f32 0x35800000) (limit_at al ah cl ch limit)) _ s) (and_r (le (f32 0x35800000) (limit_at al ah cl ch limit)) _ s)
    where
      Near-by : ℕ → Type 0
      Near-by r = (x : Exactly p q t) → Alike x.A x.C r

      chosen : Bool → Bool → Bool → Bool → Float
      chosen a b c d = cond a limit (cond b (limit ⊖ f32 0x37c00000) (cond c (limit ⊖ f32 0x38f00000) (cond d (limit ⊖ f32 0x39fc0000) (f32 0))))

      go : (a b c d : Bool) → (T a → Near-by 4) → (T b → Near-by 16) → (T c → Near-by 64) → (T d → Near-by 256) → T (le (f32 0x35800000) (chosen a b c d))
          → T (le cr (chosen a b c d ⊗ (al ⊗ cl)))
          → AtLeast κ (root (squared q t)) (root (squared q p)) (root (squared t p))
      go true b c d f g h i l k = at_limit limit (N.margin l) l k (f tt)
      go false true c d f g h i l k = at_limit (limit ⊖ f32 0x37c00000) (wide_limit less_12 κ limit N l) l k (g tt)
      go false false true d f g h i l k = at_limit (limit ⊖ f32 0x38f00000) (wide_limit less_60 κ limit N l) l k (h tt)
      go false false false true f g h i l k = at_limit (limit ⊖ f32 0x39fc0000) (wide_limit less_252 κ limit N l) l k (i tt)
      go false false false false f g h i l k = absurd (unfold le of_bits in l)

-- ---- the test

pub narrow_is : (al ah cl ch bl bh cr limit : Float) → T (fits binary32 al) → T (fits binary32 cl) → T (are_plain al ah cl ch bl bh) → T (is_short al cl bh)
    → T (is_small al cl cr (limit_at al ah cl ch limit))
    → NarrowAngle limit (interval al ah) (interval cl ch) (interval bl bh) cr
narrow_is al ah cl ch bl bh cr limit fa fc plain short small = record {
  cosine = λ κ N p q t P Q R ia ic ib h.
      let ea = squared_turned p q in
      let ec = squared_turned p t in
      subst (λ (x : Float). AtLeast κ (root (squared q t)) (root x) (root (squared p t))) (sym ea)
      (subst (λ (x : Float). AtLeast κ (root (squared q t)) (root (squared q p)) (root x)) (sym ec)
      (narrow_at κ cr al ah cl ch bl bh fa fc plain short p q t P Q R (subst (λ (x : Float). T (le al x)) ea ia.least)
      (subst (λ (x : Float). T (le x ah)) ea ia.most)
      (subst (λ (x : Float). T (le cl x)) ec ic.least) (subst (λ (x : Float). T (le x ch)) ec ic.most) ib.least ib.most h limit N small));
}
