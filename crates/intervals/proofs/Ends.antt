-- One axis: the differences, products and squares of numbers between ends lie between those of the ends, rounding
-- included (`difference_between`, `products_held`, `squares_held`). Assumes nothing.
use mathlib.Core.Path.{◌≡◌, refl, subst}
use mathlib.Core.Logic.{◌⊎◌, inl, inr}
use mathlib.Core.Bool.{Bool, true, false, not}
use lib.Dec.{T}
use lib.Ieee.{Float, nan, inf, fin, binary32, unlike, up, down, neg, add, sub, mul, le, is_nan, of_bits}
use lib.Ieee.Scale.{finite}
use Prim.Native.Nat.{◌*◌}
use Rattle.numbers.specs.Inner.Bounds.{unsigned}
use Rattle.numbers.specs.Order.{minimum, maximum}
use Rattle.numbers.specs.Rounded.{f32, ◌⊕◌, ◌⊖◌, ◌⊗◌}
use Rattle.numbers.proofs.OrderLaws.{of_finite, finite_number, le_left, le_right, le_refl, le_or_lt, lt_le, le_trans, bottom_le, le_top, top_le, unsigned_le}
use Rattle.numbers.proofs.OrderLaws.{unsigned_number_lem}
use Rattle.numbers.proofs.Above.{finite_under}
use Rattle.numbers.proofs.RoundedOrder.{round_neg, neg_le, minus_zero_le}
use Rattle.numbers.proofs.SumOrder.{add_monotone, add_commutative, add_unsigned, add_monotone_left, neg_finite}
use Rattle.numbers.proofs.ProductOrder.{mul_monotone_finite, mul_number, mul_commutative, square_neg, square_unsigned, square_monotone, square_antitone}
use Rattle.numbers.proofs.Bounded.{neg_neg, mul_finite, product_finite}
use Rattle.numbers.proofs.Minimum.{minimum_either, minimum_first, minimum_le}
use Rattle.numbers.proofs.Maximum.{maximum_left, maximum_right, maximum_unsigned}
use Rattle.bounds.specs.declared.Interval.{Interval}
use Rattle.intervals.specs.Inner.Enclosed.{Between, Moderate, Squares, Products, Parts}

-- ---- what is below or above a finite number

below_finite : (a x : Float) → T (finite x) → T (le a x) → (a ≡ inf true) ⊎ T (finite a)
below_finite nan x f h = absurd (unfold is_nan in le_left nan x h)
below_finite (inf true) x f h = inl refl
below_finite (inf false) x f h = absurd (subst (λ (z : Float). T (finite z)) (top_le x h) f)
below_finite (fin s m e) x f h = inr tt

not_below : (x : Float) → T (finite x) → T (le x (inf true)) → ⊥
unfolding le
not_below nan f h = f
not_below (inf s) f h = f
not_below (fin s m e) f h = h

above_finite : (a x : Float) → T (finite x) → T (le x a) → (a ≡ inf false) ⊎ T (finite a)
above_finite nan x f h = absurd (unfold is_nan in le_right x nan h)
above_finite (inf true) x f h = absurd (not_below x f h)
above_finite (inf false) x f h = inl refl
above_finite (fin s m e) x f h = inr tt

pub finite_between : (a x b : Float) → T (finite a) → T (finite b) → T (le a x) → T (le x b) → T (finite x)
finite_between a nan b f g h k = absurd (unfold is_nan in le_left nan b k)
finite_between a (inf true) b f g h k = absurd (not_below a f h)
finite_between a (inf false) b f g h k = absurd (subst (λ (z : Float). T (finite z)) (top_le b k) g)
finite_between a (fin s m e) b f g h k = tt

-- ---- sums and differences

bottom_added : (b y : Float) → T (finite y) → T (le b y) → inf true ⊕ b ≡ inf true
unfolding add
bottom_added nan y g k = absurd (unfold is_nan in le_left nan y k)
bottom_added (inf true) y g k = refl
bottom_added (inf false) y g k = absurd (subst (λ (z : Float). T (finite z)) (top_le y k) g)
bottom_added (fin s m e) y g k = refl

top_added : (b y : Float) → T (finite y) → T (le y b) → inf false ⊕ b ≡ inf false
unfolding add
top_added nan y g k = absurd (unfold is_nan in le_right y nan k)
top_added (inf true) y g k = absurd (not_below y g k)
top_added (inf false) y g k = refl
top_added (fin s m e) y g k = refl

module _ (a b x y : Float) (f : T (finite x)) (g : T (finite y)) where
  sum_number : T (not (is_nan (x ⊕ y)))
  sum_number = le_left (x ⊕ y) (x ⊕ y) (add_monotone x x y y f f g g (le_refl x (finite_number x f)) (le_refl y (finite_number y g)))

  add_least : T (le a x) → T (le b y) → T (le (a ⊕ b) (x ⊕ y))
  add_least h k = go (below_finite a x f h) (below_finite b y g k)
    where
      go : (a ≡ inf true) ⊎ T (finite a) → (b ≡ inf true) ⊎ T (finite b) → T (le (a ⊕ b) (x ⊕ y))
      go (inl e) o = rw (e, bottom_added b y g k) (bottom_le (x ⊕ y) sum_number)
      go (inr i) (inl e) = rw (e, add_commutative a (inf true), bottom_added a x f h) (bottom_le (x ⊕ y) sum_number)
      go (inr i) (inr j) = add_monotone a x b y i f j g h k

  add_most : T (le x a) → T (le y b) → T (le (x ⊕ y) (a ⊕ b))
  add_most h k = go (above_finite a x f h) (above_finite b y g k)
    where
      go : (a ≡ inf false) ⊎ T (finite a) → (b ≡ inf false) ⊎ T (finite b) → T (le (x ⊕ y) (a ⊕ b))
      go (inl e) o = rw (e, top_added b y g k) (le_top (x ⊕ y) sum_number)
      go (inr i) (inl e) = rw (e, add_commutative a (inf false), top_added a x f h) (le_top (x ⊕ y) sum_number)
      go (inr i) (inr j) = add_monotone x a y b f i g j h k

pub difference_between : (a b c d x y : Float) → T (finite x) → T (finite y) → Between a b x → Between c d y → Between (a ⊖ d) (b ⊖ c) (x ⊖ y)
unfolding sub
difference_between a b c d x y f g h k = record {
  least = add_least a (neg d) x (neg y) f (neg_finite y g) h.least (neg_le y d k.most);
  most = add_most b (neg c) x (neg y) f (neg_finite y g) h.most (neg_le c y k.least);
}

-- of numbers without a minus sign, infinities included
pub sum_monotone : (x y u v : Float) → T (unsigned x) → T (unsigned y) → T (unsigned u) → T (unsigned v) → T (le x y) → T (le u v) → T (le (x ⊕ u) (y ⊕ v))
sum_monotone x y u v i j k l h o =
    le_trans (x ⊕ u) (y ⊕ u) (y ⊕ v)
    (add_monotone_left x y u h (unsigned_number_lem (x ⊕ u) (add_unsigned x u i k)) (unsigned_number_lem (y ⊕ u) (add_unsigned y u j k)))
    (rw (add_commutative y u, add_commutative y v)
    (add_monotone_left u v y o (unsigned_number_lem (u ⊕ y) (add_unsigned u y k j)) (unsigned_number_lem (v ⊕ y) (add_unsigned v y l j))))

-- ---- products

unlike_not : (s t : Bool) → unlike s (not t) ≡ not (unlike s t)
unlike_not true true = refl
unlike_not true false = refl
unlike_not false true = refl
unlike_not false false = refl

mul_neg : (x c : Float) → T (finite x) → T (finite c) → x ⊗ neg c ≡ neg (x ⊗ c)
mul_neg =
    of_finite (λ x c. x ⊗ neg c ≡ neg (x ⊗ c))
    (λ s m e t n d. unfold mul neg in rw (unlike_not s t) (round_neg binary32 (unlike s t) (m * up e * (n * up d)) (down e * down d)))

pub mul_antitone : (x y c : Float) → T (finite x) → T (finite y) → T (finite c) → T (le x y) → T (le c (f32 0)) → T (le (y ⊗ c) (x ⊗ c))
mul_antitone x y c f g k h z =
    let w : T (le (f32 0) (neg c)) = le_trans (f32 0) (neg (f32 0)) (neg c) minus_zero_le.1 (neg_le c (f32 0) z) in
    let i : T (le (neg (x ⊗ c)) (neg (y ⊗ c))) = rw (← mul_neg x c f k, ← mul_neg y c g k) (mul_monotone_finite x y (neg c) f g (neg_finite c k) h w) in
    rw (neg_neg (y ⊗ c), neg_neg (x ⊗ c)) at (neg_le (neg (x ⊗ c)) (neg (y ⊗ c)) i)

zero_number : T (not (is_nan (f32 0)))
unfolding is_nan of_bits
zero_number = tt

-- y between c and d, times k
module _ (k c y d : Float) (fk : T (finite k)) (fc : T (finite c)) (fy : T (finite y)) (fd : T (finite d)) (h : T (le c y)) (i : T (le y d)) where
  least_through : (m : Float) → T (le m (c ⊗ k)) → T (le m (d ⊗ k)) → T (le m (y ⊗ k))
  least_through m u v = elim (le_or_lt k (f32 0) (finite_number k fk) zero_number) [
    | inl z ↦ le_trans m (d ⊗ k) (y ⊗ k) v (mul_antitone y d k fy fd fk i z)
    | inr z ↦ le_trans m (c ⊗ k) (y ⊗ k) u (mul_monotone_finite c y k fc fy fk h (lt_le (f32 0) k z))
  ]

  most_through : (m : Float) → T (le (c ⊗ k) m) → T (le (d ⊗ k) m) → T (le (y ⊗ k) m)
  most_through m u v = elim (le_or_lt k (f32 0) (finite_number k fk) zero_number) [
    | inl z ↦ le_trans (y ⊗ k) (c ⊗ k) m (mul_antitone c y k fc fy fk h z) u
    | inr z ↦ le_trans (y ⊗ k) (d ⊗ k) m (mul_monotone_finite y d k fy fd fk i (lt_le (f32 0) k z)) v
  ]

-- what a contract says of the lesser and the greater of two
module _ (a b : Float) {r : Float} (n : T (not (is_nan a))) (m : T (not (is_nan b))) where
  pub lesser_both : (T (not (is_nan a)) → r ≡ minimum a b) → T (le r a) × T (le r b)
  lesser_both e = (rw (e n) (minimum_first a b n), rw (e n) (minimum_le a b m))

  pub greater_both : (T (not (is_nan a)) → r ≡ maximum a b) → T (le a r) × T (le b r)
  greater_both e = (rw (e n) (maximum_left a b n), rw (e n) (maximum_right a b m))

moderate_finite : {a b : Float} → Moderate a b → T (finite a) × T (finite b)
moderate_finite {a} {b} m = ((mul_finite a a m.lo_square).0, (mul_finite b b m.hi_square).0)

module _ (a b c d : Float) {i j l o u v : Float} (ei : T (not (is_nan (a ⊗ c))) → i ≡ minimum (a ⊗ c) (a ⊗ d))
    (ej : T (not (is_nan (b ⊗ c))) → j ≡ minimum (b ⊗ c) (b ⊗ d)) (el : T (not (is_nan i)) → l ≡ minimum i j)
    (eo : T (not (is_nan (a ⊗ c))) → o ≡ maximum (a ⊗ c) (a ⊗ d)) (eu : T (not (is_nan (b ⊗ c))) → u ≡ maximum (b ⊗ c) (b ⊗ d))
    (ev : T (not (is_nan o)) → v ≡ maximum o u) where
  pub products_held : Products a b c d (record { lo = l; hi = v })
  products_held = record { holds = held }
    where
      held : Moderate a b → Moderate c d → (x y : Float) → Between a b x → Between c d y → Between l v (x ⊗ y)
      held mab mcd x y hx hy =
          let fa = (moderate_finite mab).0 in
          let fb = (moderate_finite mab).1 in
          let fc = (moderate_finite mcd).0 in
          let fd = (moderate_finite mcd).1 in
          let fx = finite_between a x b fa fb hx.least hx.most in
          let fy = finite_between c y d fc fd hy.least hy.most in
          let I = lesser_both (a ⊗ c) (a ⊗ d) (mul_number a c fa fc) (mul_number a d fa fd) ei in
          let J = lesser_both (b ⊗ c) (b ⊗ d) (mul_number b c fb fc) (mul_number b d fb fd) ej in
          let L = lesser_both i j (le_left i (a ⊗ c) I.0) (le_left j (b ⊗ c) J.0) el in
          let O = greater_both (a ⊗ c) (a ⊗ d) (mul_number a c fa fc) (mul_number a d fa fd) eo in
          let U = greater_both (b ⊗ c) (b ⊗ d) (mul_number b c fb fc) (mul_number b d fb fd) eu in
          let W = greater_both o u (le_right (a ⊗ c) o O.0) (le_right (b ⊗ c) u U.0) ev in
          let ya : T (le l (y ⊗ a)) = least_through a c y d fa fc fy fd hy.least hy.most l (rw (mul_commutative c a) (le_trans l i (a ⊗ c) L.0 I.0))
          (rw (mul_commutative d a) (le_trans l i (a ⊗ d) L.0 I.1)) in
          let yb : T (le l (y ⊗ b)) = least_through b c y d fb fc fy fd hy.least hy.most l (rw (mul_commutative c b) (le_trans l j (b ⊗ c) L.1 J.0))
          (rw (mul_commutative d b) (le_trans l j (b ⊗ d) L.1 J.1)) in
          let za : T (le (y ⊗ a) v) = most_through a c y d fa fc fy fd hy.least hy.most v (rw (mul_commutative c a) (le_trans (a ⊗ c) o v O.0 W.0))
          (rw (mul_commutative d a) (le_trans (a ⊗ d) o v O.1 W.0)) in
          let zb : T (le (y ⊗ b) v) = most_through b c y d fb fc fy fd hy.least hy.most v (rw (mul_commutative c b) (le_trans (b ⊗ c) u v U.0 W.1))
          (rw (mul_commutative d b) (le_trans (b ⊗ d) u v U.1 W.1)) in
          record {
            least = least_through y a x b fy fa fx fb hx.least hx.most l (rw (mul_commutative a y) ya) (rw (mul_commutative b y) yb);
            most = most_through y a x b fy fa fx fb hx.least hx.most v (rw (mul_commutative a y) za) (rw (mul_commutative b y) zb);
          }

-- ---- squares

module _ (lo hi : Float) {i m g : Float} (ei : T (not (is_nan (neg lo))) → i ≡ minimum (neg lo) hi) (em : T (not (is_nan i)) → m ≡ minimum i (f32 0))
    (eg : T (not (is_nan (lo ⊗ lo))) → g ≡ maximum (lo ⊗ lo) (hi ⊗ hi)) where
  module _ (x : Float) (h : Between lo hi x) where
    lo_number : T (not (is_nan lo))
    lo_number = le_left lo x h.least

    hi_number : T (not (is_nan hi))
    hi_number = le_right x hi h.most

    neg_number : T (not (is_nan (neg lo)))
    neg_number = le_left (neg lo) (neg lo) (neg_le lo lo (le_refl lo lo_number))

    i_number : T (not (is_nan i))
    i_number = le_left i (neg lo) (lesser_both (neg lo) hi neg_number hi_number ei).0

    square_number : (z : Float) → T (not (is_nan z)) → T (not (is_nan (z ⊗ z)))
    square_number z n = unsigned_number_lem (z ⊗ z) (square_unsigned z n)

    m_most : T (le m (f32 0))
    m_most = (lesser_both i (f32 0) i_number zero_number em).1

    -- m is one of three
    m_square : T (le (m ⊗ m) (x ⊗ x))
    m_square = rw (em i_number) (minimum_either P i (f32 0) (rw (ei neg_number) (minimum_either P (neg lo) hi first second)) third (rw (← em i_number) m_most))
      where
        P : Float → Type 0
        P z = T (le z (f32 0)) → T (le (z ⊗ z) (x ⊗ x))

        first : P (neg lo)
        first k =
            let z : T (le (neg (f32 0)) lo) = rw (neg_neg lo) at (neg_le (neg lo) (f32 0) k) in
            rw (square_neg lo) (square_monotone lo x (le_trans (f32 0) (neg (f32 0)) lo minus_zero_le.1 z) h.least)

        second : P hi
        second k = square_antitone hi x k h.most

        zero_square : f32 0 ⊗ f32 0 ≡ f32 0
        zero_square = unfold mul of_bits in refl

        third : P (f32 0)
        third k = rw zero_square (unsigned_le (x ⊗ x) (square_unsigned x (le_right lo x h.least)))

    g_both : T (le (lo ⊗ lo) g) × T (le (hi ⊗ hi) g)
    g_both = greater_both (lo ⊗ lo) (hi ⊗ hi) (square_number lo lo_number) (square_number hi hi_number) eg

    g_square : T (le (x ⊗ x) g)
    g_square = elim (le_or_lt x (f32 0) (le_right lo x h.least) zero_number) [
      | inl z ↦ le_trans (x ⊗ x) (lo ⊗ lo) g (square_antitone x lo z h.least) g_both.0
      | inr z ↦ le_trans (x ⊗ x) (hi ⊗ hi) g (square_monotone x hi (lt_le (f32 0) x z) h.most) g_both.1
    ]

    g_unsigned : T (unsigned g)
    g_unsigned = rw (eg (square_number lo lo_number)) (maximum_unsigned (lo ⊗ lo) (hi ⊗ hi) (square_unsigned lo lo_number))

  pub squares_held : Squares lo hi (record { lo = m ⊗ m; hi = g })
  squares_held = record {
    signless = λ x h. (square_unsigned m (le_left m (f32 0) (m_most x h)), g_unsigned x h);
    holds = λ x h. record { least = m_square x h; most = g_square x h };
    moderate = λ f x h. record {
      lo_square = finite_under (lo ⊗ lo) g (square_unsigned lo (lo_number x h)) (g_both x h).0 f;
      hi_square = finite_under (hi ⊗ hi) g (square_unsigned hi (hi_number x h)) (g_both x h).1 f;
    };
  }

-- ---- products less products

-- a number between moderate ends is moderate
square_finite : (a b x : Float) → Moderate a b → Between a b x → T (finite (x ⊗ x))
square_finite a b x m h = elim (le_or_lt x (f32 0) (le_right a x h.least) zero_number) [
  | inl z ↦ finite_under (x ⊗ x) (a ⊗ a) u (square_antitone x a z h.least) m.lo_square
  | inr z ↦ finite_under (x ⊗ x) (b ⊗ b) u (square_monotone x b (lt_le (f32 0) x z) h.most) m.hi_square
]
  where
    u : T (unsigned (x ⊗ x))
    u = square_unsigned x (le_right a x h.least)

pub parts_held : (a b c d e f g h : Float) {r s : Interval} → Products a b c d r → Products e f g h s → Parts a b c d e f g h (record {
  lo =
      r.lo ⊖ s.hi;
  hi = r.hi ⊖ s.lo;
})
parts_held a b c d e f g h {r} {s} p q = record {
  holds = λ mab mcd mef mgh x y z w hx hy hz hw.
      difference_between r.lo r.hi s.lo s.hi (x ⊗ y) (z ⊗ w) (product_finite x y (square_finite a b x mab hx) (square_finite c d y mcd hy))
      (product_finite z w (square_finite e f z mef hz) (square_finite g h w mgh hw)) (p.holds mab mcd x y hx hy) (q.holds mef mgh z w hz hw);
}
