-- Three points: their squared distances and the square of their cross product, as f32 have them, against whole numbers
-- for which Lagrange's identity holds (`exact_of`). Assumes nothing.
use mathlib.Core.Path.{◌≡◌, refl, sym, ◌∙◌, subst}
use Prim.Native.Nat.{ℕ, ◌+◌, ◌*◌, ◌^◌, ◌≤◌}
use native.Mathlib.Nat.{le_trans, mul-le-mul_left, mul-le-mul_right, eq_of_mul-eq-mul_right}
use native.Mathlib.Omega.{arith}
use native.Mathlib.Bridge.{IsLe, le_by_compare}
use mathlib.Core.Bool.{Bool, true, false}
use lib.Dec.{T}
use lib.Ieee.{Float, nan, inf, fin, binary32, unlike, le, fits, is_nan, of_bits}
use lib.Ieee.Fits.{and_l, and_r}
use lib.Ieee.Exact.{HasValue}
use lib.Ieee.Scale.{finite}
use lib.Ieee.Positive.{den, den_pos, positive-finite, value→cross}
use Rattle.numbers.specs.Rounded.{f32, ◌⊖◌, ◌⊗◌}
use Rattle.numbers.proofs.OrderLaws.{le_left, top_le}
use Rattle.vector.specs.Vector.{difference, cross, squared}
use Rattle.vector.specs.declared.Point3f.{Point3f}
use Rattle.vector.proofs.Distances.{squared_fits}
use Rattle.area_bounds.specs.Inner.AreaBound.{cross_squared}
use Rattle.rounding_errors.proofs.Near.{Near, near_eq, near_trans, near_add, near_square, near_times, near_within, near_self}
use Rattle.rounding_errors.proofs.Rounding.{Units, units_positive, Summed}
use Rattle.rounding_errors.proofs.Signed.{over, short}
use Rattle.rounding_errors.proofs.Operations.{between_units}
use Rattle.cosines.specs.Inner.Cosine.{Coordinates, is_plain_pair}
use Rattle.cosines.proofs.Exact.{apart, component_square, product_square, Axis, Component, lagrange, heron_sums}
use Rattle.cosines.proofs.Magnitude.{Magnitude, Parts, parts_finite, magnitude_whole}
use Rattle.cosines.proofs.Axes.{On, on_axis_lem, Computed, component_of}

-- ---- squared distances

-- the f32 x is A of 2 ^ -298, but for six rounding errors
pub record Square (x : Float) (A : ℕ) : Type 0 where
  pub m : ℕ
  pub held : T (fits binary32 x)
  pub is : Units x m 109 175
  pub below : Near 6 (m * 2 ^ 149) A
  pub above : Near 6 A (m * 2 ^ 149)

pub plain_units : (x : Float) → T (fits binary32 x) → T (is_plain_pair x x) → (n : ℕ) × Units x n 109 175
unfolding is_plain_pair of_bits
plain_units x f h =
    between_units x (f32 0x2b800000) (f32 0x4c800000) 109 175 f (refl, refl) (refl, refl) (and_l (le (f32 0x2b800000) x) _ h)
    (and_r (le (f32 0x2b800000) x) _ h)

plain_finite : (x : Float) → T (fits binary32 x) → T (is_plain_pair x x) → T (finite x)
plain_finite x f h = positive-finite x (units_positive (plain_units x f h).1)

one_count : (x : Float) (a b c : ℕ) → HasValue x false a c → HasValue x false b c → a ≡ b
one_count x a b c h k = eq_of_mul-eq-mul_right (den x) (den_pos x) a b (sym (value→cross x a c h) ∙ value→cross x b c k)

-- three units are less than an error
absorbed : (a w : ℕ) → 50331648 * w ≤ a → Near 1 (a + 3 * w) a
absorbed a w h = record { near = omega arith }

module _ (w m A : ℕ) (h : 1073741824 ≤ m) where
  absorbed_above : Near 5 A (m * w + 3 * w) → Near 6 A (m * w)
  absorbed_above k = let i : 1073741824 * w ≤ m * w = mul-le-mul_right w h in near_trans k (absorbed (m * w) w (omega arith))

  absorbed_below : Near 5 (m * w) (A + 3 * w) → Near 6 (m * w) A
  unfolding IsLe
  absorbed_below k =
      let i : 1073741824 * w ≤ m * w = mul-le-mul_right w h in
      let j : m * w * 1 ≤ (A + 3 * w) * 2 = near_within 5 1 2 (le_by_compare (1 * 16777216 ^ 5) (2 * 16777215 ^ 5) tt) k in
      near_trans k (absorbed A w (omega arith))

square_of_lem : (x : Float) (q A : ℕ) → T (fits binary32 x) → T (is_plain_pair x x) → Near 2 q A → Near 2 A q → Magnitude x q → Square x A
unfolding IsLe
square_of_lem x q A f h k l g =
    let u = plain_units x f h in
    let e = one_count x u.0 g.m (2 ^ 149) u.1.value g.value in
    let U : Units x g.m 109 175 = subst (λ (n : ℕ). Units x n 109 175) e u.1 in
    let L : 1073741824 ≤ g.m = le_trans (le_by_compare 1073741824 (2 ^ 109) tt) U.low in
    record {
      m = g.m;
      held = f;
      is = U;
      below = absorbed_below (2 ^ 149) g.m A L (near_trans g.below (near_add k (near_self 2 (3 * 2 ^ 149))));
      above = absorbed_above (2 ^ 149) g.m A L (near_trans l g.above);
    }

three_squares : {k a l b m c : ℕ} → Near 1 k a → Near 1 l b → Near 1 m c → Near 2 (k * k + l * l + m * m) (a * a + b * b + c * c)
three_squares h i j = near_add (near_add (near_square h) (near_square i)) (near_square j)

-- the square of a difference whose parts are known
difference_square : (p q : Point3f) {s t u : Bool} {a b c : ℕ} → T (is_plain_pair (squared p q) (squared p q)) → Summed (p.x ⊖ q.x) s a
    → Summed (p.y ⊖ q.y) t b → Summed (p.z ⊖ q.z) u c → Square (squared p q) (a * a + b * b + c * c)
unfolding squared difference
difference_square p q {s} {t} {u} {a} {b} {c} h x y z =
    let f = squared_fits p q in
    square_of_lem (squared p q) (x.n * x.n + y.n * y.n + z.n * z.n) (a * a + b * b + c * c) f h (three_squares x.below y.below z.below)
    (three_squares x.above y.above z.above)
    (magnitude_whole (difference p q) (plain_finite (squared p q) f h) s t u x.n y.n z.n x.value y.value z.value)

difference_parts : (p q : Point3f) → T (is_plain_pair (squared p q) (squared p q)) → Parts (difference p q)
unfolding squared
difference_parts p q h = parts_finite (difference p q) (plain_finite (squared p q) (squared_fits p q) h)

-- ---- the cross product

pub finite_between : (x hi : Float) → T (le (f32 0) x) → T (le x hi) → T (finite hi) → T (finite x)
unfolding is_nan
finite_between nan hi l h f = absurd (le_left nan hi h)
finite_between (inf true) hi l h f = absurd (unfold le of_bits in l)
finite_between (inf false) hi l h f = subst (λ (z : Float). T (finite z)) (top_le hi h) f
finite_between (fin s m e) hi l h f = tt

module _ (N M c w : ℕ) where
  sum_off : (x y z k l o m n i ac : ℕ) → 64 * (N * x) ≤ 65 * (M * k) + 4160 * (c * w + 16 * m) → 64 * (N * y) ≤ 65 * (M * l) + 4160 * (c * w + 16 * n)
      → 64 * (N * z) ≤ 65 * (M * o) + 4160 * (c * w + 16 * i)
      → m + n + i ≤ ac → 64 * (N * (x + y + z)) ≤ 65 * (M * (k + l + o)) + 4160 * (3 * (c * w) + 16 * ac)
  sum_off x y z k l o m n i ac g h j b = omega arith

-- v is e (e + 1)
module _ (N c w e v : ℕ) where
  sum_over : (x y z k l o m n i ac : ℕ) → 4 * (N * (e * k)) ≤ 4 * (N * ((e + 1) * x)) + v * (c * w + 9 * m) → 4 * (N * (e * l)) ≤ 4 * (N * ((e + 1) * y))
      + v * (c * w + 9 * n) → 4 * (N * (e * o)) ≤ 4 * (N * ((e + 1) * z)) + v * (c * w + 9 * i)
      → m + n + i ≤ ac → 4 * (N * (e * (k + l + o))) ≤ 4 * (N * ((e + 1) * (x + y + z))) + v * (3 * (c * w) + 9 * ac)
  sum_over x y z k l o m n i ac g h j b = let f : v * (m + n + i) ≤ v * ac = mul-le-mul_left v b in omega arith

-- from the computed components on
last_below : (w m k l o x y z : ℕ) → Near 3 (m * w) (k * k + l * l + o * o + 3 * w) → Near 2 (k * w * (k * w)) x → Near 2 (l * w * (l * w)) y
    → Near 2 (o * w * (o * w)) z → Near 5 (m * (w * w * w)) (x + y + z + 3 * (w * w * w))
last_below w m k l o x y z h i j g =
    let s : Near 2 (k * w * (k * w) + l * w * (l * w) + o * w * (o * w)) (x + y + z) = near_add (near_add i j) g in
    near_trans (near_eq {k = 3} (left m w) (right w k l o) (near_times (w * w) h)) (near_add s (near_self 2 (3 * (w * w * w))))
  where
    left : (m w : ℕ) → m * w * (w * w) ≡ m * (w * w * w)
    left m w = omega arith

    right : (w k l o : ℕ) → (k * k + l * l + o * o + 3 * w) * (w * w) ≡ k * w * (k * w) + l * w * (l * w) + o * w * (o * w) + 3 * (w * w * w)
    right w k l o = omega arith

six_below : (a b c d e f : ℕ) → b * f * (b * f) + c * e * (c * e) + (c * d * (c * d) + a * f * (a * f))
    + (a * e * (a * e) + b * d * (b * d)) ≤ (a * a + b * b + c * c) * (d * d + e * e + f * f)
six_below a b c d e f = omega arith

scaled_squares : (w k l o : ℕ) → k * w * (k * w) + l * w * (l * w) + o * w * (o * w) ≡ (k * k + l * l + o * o) * (w * w)
scaled_squares w k l o = omega arith

-- what is known of three points, A, C and B being the squares of p q, p t and q t, X that of the cross product at p, of
-- which m is the computed one
pub record Exactly (p q t : Point3f) : Type 0 where
  pub A : ℕ
  pub C : ℕ
  pub B : ℕ
  pub X : ℕ
  pub first : Square (squared q p) A
  pub second : Square (squared t p) C
  pub third : Square (squared q t) B
  pub identity : (E : ℕ) → E + B ≡ A + C → 4 * (A * C) ≡ E * E + 4 * X
  pub m : ℕ
  pub S : ℕ
  pub crossed : HasValue (cross_squared p q t) false m (2 ^ 149)
  pub near : Near 3 S (m * 2 ^ 149 + 3 * 2 ^ 149)
  pub off : 64 * (17592186044416 * X) ≤ 65 * (17592202821636 * (S * (2 ^ 149 * 2 ^ 149))) + 4160 * (3 * (316659348799488 * (2 ^ 149 * 2 ^ 149)) + 16 * (A * C))
  -- the other way: Y is before the last roundings of the components
  pub Y : ℕ
  pub below : Near 5 (m * (2 ^ 149 * 2 ^ 149 * 2 ^ 149)) (Y + 3 * (2 ^ 149 * 2 ^ 149 * 2 ^ 149))
  pub over : (e : ℕ) → 4 * (17592177655809 * (e * Y)) ≤ 4 * (17592177655809 * ((e + 1) * X))
      + e * (e + 1) * (3 * (2533274790395904 * (2 ^ 149 * 2 ^ 149)) + 9 * (A * C))
  pub heron : 4 * X + (A * A + B * B + C * C) ≡ 2 * (A * B + B * C + C * A)

axis_of : {p q t : Float} (o : On p q t)
    → Axis (o.a * o.a) (o.c * o.c) (o.b * o.b) (over (unlike o.s o.r) (o.a * o.c)) (short (unlike o.s o.r) (o.a * o.c))
axis_of o = record { square = o.square; product = product_square (unlike o.s o.r) o.a o.c }

-- the exact component of two axes
abbrev component : {p q t p' q' t' : Float} → On p q t → On p' q' t' → ℕ
component i j = apart (unlike (unlike i.s i.r) (unlike j.s j.r)) (i.a * j.c) (j.a * i.c)

component_is : {p q t p' q' t' : Float} (i : On p q t) (j : On p' q' t')
    → Component (i.a * i.a) (i.c * i.c) (over (unlike i.s i.r) (i.a * i.c)) (short (unlike i.s i.r) (i.a * i.c)) (j.a * j.a) (j.c * j.c)
    (over (unlike j.s j.r) (j.a * j.c)) (short (unlike j.s j.r) (j.a * j.c)) (component i j * component i j)
component_is i j = record { square = component_square (unlike i.s i.r) (unlike j.s j.r) i.a i.c j.a j.c }

computed : {p q t p' q' t' : Float} (i : On p q t) (j : On p' q' t') → T (finite ((q ⊖ p) ⊗ (t' ⊖ p') ⊖ (q' ⊖ p') ⊗ (t ⊖ p)))
    → Computed ((q ⊖ p) ⊗ (t' ⊖ p') ⊖ (q' ⊖ p') ⊗ (t ⊖ p)) (unlike (unlike i.s i.r) (unlike j.s j.r)) (i.a * j.c) (j.a * i.c)
computed {p} {q} {t} {p'} {q'} {t'} i j f =
    component_of (q ⊖ p) (t ⊖ p) (q' ⊖ p') (t' ⊖ p') i.s i.r j.s j.r i.a i.c j.a j.c i.v i.w j.v j.w f

module _ (p q t : Point3f) (P : Coordinates p) (Q : Coordinates q) (R : Coordinates t) (ha : T (is_plain_pair (squared q p) (squared q p)))
    (hc : T (is_plain_pair (squared t p) (squared t p))) (hb : T (is_plain_pair (squared q t) (squared q t))) where
  on_x : On p.x q.x t.x
  unfolding difference
  on_x = on_axis_lem p.x q.x t.x P.x_fits Q.x_fits R.x_fits (difference_parts q p ha).x (difference_parts t p hc).x (difference_parts q t hb).x

  on_y : On p.y q.y t.y
  unfolding difference
  on_y = on_axis_lem p.y q.y t.y P.y_fits Q.y_fits R.y_fits (difference_parts q p ha).y (difference_parts t p hc).y (difference_parts q t hb).y

  on_z : On p.z q.z t.z
  unfolding difference
  on_z = on_axis_lem p.z q.z t.z P.z_fits Q.z_fits R.z_fits (difference_parts q p ha).z (difference_parts t p hc).z (difference_parts q t hb).z

  pub exact_of : T (finite (cross_squared p q t)) → Exactly p q t
  unfolding cross_squared cross difference
  exact_of f =
      let W : ℕ = 2 ^ 149 in
      let d = cross (difference q p) (difference t p) in
      let g = parts_finite d f in
      let i = on_x in
      let j = on_y in
      let k = on_z in
      let cx = computed j k g.x in
      let cy = computed k i g.y in
      let cz = computed i j g.z in
      let n = magnitude_whole d f cx.s cy.s cz.s cx.k cy.k cz.k cx.value cy.value cz.value in
      record {
        A = i.a * i.a + j.a * j.a + k.a * k.a;
        C = i.c * i.c + j.c * j.c + k.c * k.c;
        B = i.b * i.b + j.b * j.b + k.b * k.b;
        X = component j k * component j k + component k i * component k i + component i j * component i j;
        first = difference_square q p ha i.v j.v k.v;
        second = difference_square t p hc i.w j.w k.w;
        third = difference_square q t hb i.u j.u k.u;
        identity = lagrange (axis_of i) (axis_of j) (axis_of k) (component_is j k) (component_is k i) (component_is i j);
        m = n.m;
        S = cx.k * cx.k + cy.k * cy.k + cz.k * cz.k;
        crossed = n.value;
        near = n.above;
        off =
            subst (λ (z : ℕ). 64 * (17592186044416 * (component j k * component j k + component k i * component k i + component i j * component i j)) ≤ 65 *
            (17592202821636 * z) + 4160 *
            (3 * (316659348799488 * (W * W)) + 16 * ((i.a * i.a + j.a * j.a + k.a * k.a) * (i.c * i.c + j.c * j.c + k.c * k.c))))
            (scaled_squares W cx.k cy.k cz.k)
            (sum_off 17592186044416 17592202821636 316659348799488 (W * W) (component j k * component j k) (component k i * component k i)
            (component i j * component i j) (cx.k * W * (cx.k * W)) (cy.k * W * (cy.k * W)) (cz.k * W * (cz.k * W))
            (j.a * k.c * (j.a * k.c) + k.a * j.c * (k.a * j.c)) (k.a * i.c * (k.a * i.c) + i.a * k.c * (i.a * k.c))
            (i.a * j.c * (i.a * j.c) + j.a * i.c * (j.a * i.c))
            ((i.a * i.a + j.a * j.a + k.a * k.a) * (i.c * i.c + j.c * j.c + k.c * k.c))
            cx.off cy.off cz.off (six_below i.a j.a k.a i.c j.c k.c));
        Y = cx.y + cy.y + cz.y;
        below = last_below W n.m cx.k cy.k cz.k cx.y cy.y cz.y n.below cx.last cy.last cz.last;
        over =
            λ e.
            sum_over 17592177655809 2533274790395904 (W * W) e (e * (e + 1)) (component j k * component j k) (component k i * component k i)
            (component i j * component i j) cx.y cy.y cz.y
            (j.a * k.c * (j.a * k.c) + k.a * j.c * (k.a * j.c)) (k.a * i.c * (k.a * i.c) + i.a * k.c * (i.a * k.c))
            (i.a * j.c * (i.a * j.c) + j.a * i.c * (j.a * i.c))
            ((i.a * i.a + j.a * j.a + k.a * k.a) * (i.c * i.c + j.c * j.c + k.c * k.c))
            (cx.over e) (cy.over e) (cz.over e) (six_below i.a j.a k.a i.c j.c k.c);
        heron = heron_sums (axis_of i) (axis_of j) (axis_of k) (component_is j k) (component_is k i) (component_is i j) _ _ _ refl refl refl;
      }
