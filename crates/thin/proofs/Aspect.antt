-- The computed aspect ratio is at most the bound where the test by squares passed (`aspect_below`): the errors of each
-- operation, put into the chain of `Squares`. Assumes nothing.
use mathlib.Core.Path.{◌≡◌, refl, sym, ap, ◌∙◌, subst}
use Prim.Native.Nat.{ℕ, ◌+◌, ◌*◌, ◌^◌, ◌≤◌, ◌<◌}
use native.Mathlib.Nat.{le_refl, mul-pos, mul-le-mul, mul-le-mul_right, le_of_mul-le-mul_right}
use native.Mathlib.Omega.{arith}
use mathlib.Core.Bool.{Bool, true, false, cond}
use lib.Dec.{T}
use lib.Pow.{pow_pos}
use lib.Ieee.{Float, nan, inf, fin, binary32, mul, div, lt, le, fits, of_bits}
use lib.Ieee.Positive.{num, den, den_pos, positive, positive-finite, value→cross}
use Rattle.numbers.specs.Rounded.{f32, ◌⊕◌, ◌⊗◌, ◌⊘◌}
use Rattle.numbers.specs.Root.{root}
use Rattle.numbers.proofs.OrderLaws.{plus, minus, le_trans}
use Rattle.numbers.proofs.RoundedOrder.{Rounds, above, rounds_le, rounds_own}
use Rattle.quality.specs.Measures.{half, tiny, radius_of, aspect_ratio}
use Rattle.quality.specs.Inner.Shape.{shape, flat_shape, shape_of}
use Rattle.thin.specs.Inner.Thin.{Quartered}
use Rattle.rounding_errors.proofs.Near.{Near, near_le, near_eq, near_trans, near_add, near_self, near_times, near_cancel}
use Rattle.rounding_errors.proofs.Rounding.{Units, units_pos, units_positive}
use Rattle.rounding_errors.proofs.Operations.{between_units, mul_units, div_at, div_units, add_units, root_units}
use Rattle.thin.proofs.Squares.{lengths_product, lengths_sum, above_bar, sum_below, product_below, ratio_below}

-- ---- constants

pub half_units : Units half (2 ^ 148) 148 148
unfolding of_bits
half_units = record { value = (refl, refl); low = le_refl (2 ^ 148); high = le_refl (2 ^ 148) }

pub two_units : Units (f32 0x40000000) (2 ^ 150) 150 150
unfolding of_bits
two_units = record { value = (refl, refl); low = le_refl (2 ^ 150); high = le_refl (2 ^ 150) }

pub four_units : Units (f32 0x40800000) (2 ^ 151) 151 151
unfolding of_bits
four_units = record { value = (refl, refl); low = le_refl (2 ^ 151); high = le_refl (2 ^ 151) }

least_units : Units (f32 0x3b000000) (2 ^ 140) 140 140
unfolding of_bits
least_units = record { value = (refl, refl); low = le_refl (2 ^ 140); high = le_refl (2 ^ 140) }

pub bound_units : (α : Float) → T (fits binary32 α) → T (le (f32 0x3b000000) α) → T (le α (f32 0x40800000)) → (n : ℕ) × Units α n 140 151
bound_units α f l h = between_units α (f32 0x3b000000) (f32 0x40800000) 140 151 f least_units.value four_units.value l h

-- k of w units are v
pub times_below : (w v k g r : ℕ) → 0 < w → v ≡ k * w → Near 1 (g * w) (v * r) → Near 1 g (k * r)
times_below w v k g r W e h = near_cancel w W (near_eq refl (ap (λ (z : ℕ). z * r) e ∙ moved k w r) h)
  where
    moved : (k w r : ℕ) → k * w * r ≡ k * r * w
    moved k w r = omega arith

module _ (w v g r : ℕ) (W : 0 < w) (e : w ≡ 2 * v) where
  twice_left : g * w * 2 ≡ 2 * g * w
  twice_left = omega arith

  twice_right : r * v * 2 ≡ r * w
  twice_right = let i = ap (λ (z : ℕ). r * z) e in omega arith

  pub half_below : Near 1 (g * w) (r * v) → Near 1 (2 * g) r
  half_below h = near_cancel w W (near_eq twice_left twice_right (near_times 2 h))

  pub half_above : Near 1 (r * v) (g * w) → Near 1 r (2 * g)
  half_above h = near_cancel w W (near_eq twice_right twice_left (near_times 2 h))

-- ---- a quotient against a bound

pub quotient_le : {x y α : Float} {m n p i j k l e f : ℕ} → Units x m i j → Units y n k l → T (fits binary32 α) → Units α p e f → m * 2 ^ 149 ≤ p * n
    → T (le (x ⊘ y) α)
quotient_le {x} {y} {α} {m} {n} {p} u v f z h =
    let w : ℕ = 2 ^ 149 in
    let g = parts α (units_positive z) in
    let r : Rounds (x ⊘ y) (m * w) 0 (n * w) = above (m * w) (sym (plain (m * w))) (div_at u v) in
    rounds_le (mul-pos (units_pos v) (pow_pos 149)) (den_pos α) r (rounds_own α f (positive-finite α (units_positive z)))
    (rw (g.0, g.1) (sides w m n p (num α) (den α) (value→cross α p w z.value) h))
  where
    plain : (a : ℕ) → 0 + a ≡ a
    plain a = omega arith

    parts : (α : Float) → T (positive α) → (plus α ≡ num α) × (minus α ≡ 0)
    parts nan p = absurd p
    parts (inf s) p = absurd p
    parts (fin true m e) p = absurd p
    parts (fin false m e) p = (refl, refl)

    sides : (w m n p a d : ℕ) → a * w ≡ p * d → m * w ≤ p * n → m * w * d + 0 * (n * w) ≤ a * (n * w) + 0 * d
    sides w m n p a d e h =
        let i : m * w * d ≤ p * n * d = mul-le-mul_right d h in
        let j = ap (λ (z : ℕ). z * n) e in
        omega arith

-- ---- what the test says

-- X is at most what the limit t says of the squares A, B and C, of which l, m and n are the smaller ones of two
pub record Passed (A B C X t : ℕ) : Type 0 where
  pub l : ℕ
  pub m : ℕ
  pub n : ℕ
  pub l_first : l ≤ A
  pub l_second : l ≤ B
  pub m_first : m ≤ B
  pub m_second : m ≤ C
  pub n_first : n ≤ C
  pub n_second : n ≤ A
  pub near : Near 9 (X * X * (2 ^ 149 * 2 ^ 149 * 2 ^ 149)) (t * (A + B + C + 2 * (l + m + n)) * (A * B * C))

-- of a smaller X
pub passed_less : {A B C X Y t : ℕ} → Y ≤ X → Passed A B C X t → Passed A B C Y t
passed_less h p = record {
  l = p.l;
  m = p.m;
  n = p.n;
  l_first = p.l_first;
  l_second = p.l_second;
  m_first = p.m_first;
  m_second = p.m_second;
  n_first = p.n_first;
  n_second = p.n_second;
  near = near_trans (near_le (mul-le-mul_right (2 ^ 149 * 2 ^ 149 * 2 ^ 149) (mul-le-mul h h))) p.near;
}

-- of longer edges
pub passed_longer : {A B C D E F X t : ℕ} → A ≤ D → B ≤ E → C ≤ F → Passed A B C X t → Passed D E F X t
passed_longer {A} {B} {C} {D} {E} {F} {X} {t} d e f p = record {
  l = p.l;
  m = p.m;
  n = p.n;
  l_first = omega (arith, p.l_first, d);
  l_second = omega (arith, p.l_second, e);
  m_first = omega (arith, p.m_first, e);
  m_second = omega (arith, p.m_second, f);
  n_first = omega (arith, p.n_first, f);
  n_second = omega (arith, p.n_second, d);
  near = near_trans p.near (near_le (mul-le-mul (mul-le-mul (le_refl t) (sums (p.l + p.m + p.n))) (mul-le-mul (mul-le-mul d e) f)));
}
  where
    sums : (k : ℕ) → A + B + C + 2 * k ≤ D + E + F + 2 * k
    sums k = omega (arith, d, e, f)

-- in another order
pub passed_turned : {A B C X t : ℕ} → Passed A B C X t → Passed B C A X t
passed_turned {A} {B} {C} {X} {t} p = record {
  l = p.m;
  m = p.n;
  n = p.l;
  l_first = p.m_first;
  l_second = p.m_second;
  m_first = p.n_first;
  m_second = p.n_second;
  n_first = p.l_first;
  n_second = p.l_second;
  near = near_eq refl (again A B C p.l p.m p.n) p.near;
}
  where
    again : (A B C l m n : ℕ) → t * (A + B + C + 2 * (l + m + n)) * (A * B * C) ≡ t * (B + C + A + 2 * (m + n + l)) * (B * C * A)
    again A B C l m n =
        let e : A + B + C + 2 * (l + m + n) ≡ B + C + A + 2 * (m + n + l) = omega arith in
        let g : A * B * C ≡ B * C * A = omega arith in
        ap (λ (z : ℕ). t * z * (A * B * C)) e ∙ ap (λ (z : ℕ). t * (B + C + A + 2 * (m + n + l)) * z) g

pub passed_swapped : {A B C X t : ℕ} → Passed A B C X t → Passed B A C X t
passed_swapped {A} {B} {C} {X} {t} p = record {
  l = p.l;
  m = p.n;
  n = p.m;
  l_first = p.l_second;
  l_second = p.l_first;
  m_first = p.n_second;
  m_second = p.n_first;
  n_first = p.m_second;
  n_second = p.m_first;
  near = near_eq refl (again A B C p.l p.m p.n) p.near;
}
  where
    again : (A B C l m n : ℕ) → t * (A + B + C + 2 * (l + m + n)) * (A * B * C) ≡ t * (B + A + C + 2 * (l + n + m)) * (B * A * C)
    again A B C l m n =
        let e : A + B + C + 2 * (l + m + n) ≡ B + A + C + 2 * (l + n + m) = omega arith in
        let g : A * B * C ≡ B * A * C = omega arith in
        ap (λ (z : ℕ). t * z * (A * B * C)) e ∙ ap (λ (z : ℕ). t * (B + A + C + 2 * (l + n + m)) * z) g

-- ---- the aspect ratio

-- the square of a length, and that of the cross product's length
pub record Edge (x : Float) : Type 0 where
  pub n : ℕ
  pub held : T (fits binary32 x)
  pub is : Units x n 109 175

pub record Cross (x : Float) : Type 0 where
  pub n : ℕ
  pub held : T (fits binary32 x)
  pub is : Units x n 83 209

-- four times the limit, by units
limit_short : {α t : Float} {p q i j k l : ℕ} → Units α p i j → Units t q k l → Quartered α t → 524288 * q * 2 ^ 149 ≤ 131071 * (p * p)
limit_short {α} {t} {p} {q} u v k =
    let w : ℕ = 2 ^ 149 in
    crossed w (num α) (den α) (num t) (den t) (den_pos α) (den_pos t) (value→cross α p w u.value) (value→cross t q w v.value) k.short
  where
    crossed : (w a d b e : ℕ) → 0 < d → 0 < e → a * w ≡ p * d → b * w ≡ q * e → 524288 * b * (d * d) ≤ 131071 * (a * a) * e → 524288 * q * w ≤ 131071 * (p * p)
    crossed w a d b e D E g h s =
        let i : 524288 * b * (d * d) * (w * w) ≤ 131071 * (a * a) * e * (w * w) = mul-le-mul_right (w * w) s in
        let j = ap (λ (z : ℕ). z * (d * d * w)) h in
        let k = ap (λ (z : ℕ). z * (a * w) * e) g in
        let l = ap (λ (z : ℕ). p * d * z * e) g in
        let m : 524288 * q * w * (d * d * e) ≤ 131071 * (p * p) * (d * d * e) = omega arith in
        le_of_mul-le-mul_right m (mul-pos (mul-pos D D) E)

pub not_negative : {α t : Float} → Quartered α t → T (le (f32 0) α)
not_negative {α} k = le_trans (f32 0) (f32 0x3b000000) α (unfold le of_bits in tt) k.low

-- what is to be shown where there is an area and a radius
pub aspect_by : (a b c area α : Float) → T (le (f32 0) α)
    → (lt area tiny ≡ false → lt tiny (radius_of a b c area) ≡ true → T (le (area ⊘ ((a ⊕ b ⊕ c) ⊗ half) ⊘ radius_of a b c area) α))
    → T (le (shape_of a b c area).aspect_ratio α)
unfolding shape_of shape flat_shape aspect_ratio
aspect_by a b c area α zero h = go (lt area tiny) (lt tiny (radius_of a b c area)) refl refl
  where
    go : (b1 b2 : Bool) → lt area tiny ≡ b1 → lt tiny (radius_of a b c area) ≡ b2
        → T (le (cond b1 (flat_shape area) (record {
          area = area;
          aspect_ratio = cond b2 (area ⊘ ((a ⊕ b ⊕ c) ⊗ half) ⊘ radius_of a b c area) (f32 0);
          edge_ratio = (shape a b c area).edge_ratio;
        })).aspect_ratio α)
    go true b2 e g = zero
    go false true e g = h e g
    go false false e g = zero

module _ (a b c x t α : Float) (ea : Edge a) (eb : Edge b) (ec : Edge c) (ex : Cross x) {T' : ℕ} (ut : Units t T' 129 151)
    (passed : Passed ea.n eb.n ec.n ex.n T') (k : Quartered α t) where
  ratio_le : T (le (root x ⊗ half ⊘ ((root a ⊕ root b ⊕ root c) ⊗ half) ⊘ radius_of (root a) (root b) (root c) (root x ⊗ half)) α)
  unfolding radius_of
  ratio_le =
      let w : ℕ = 2 ^ 149 in
      let W : 0 < w = pow_pos 149 in
      let ra = root_units 128 163 ea.held ea.is tt in
      let rb = root_units 128 163 eb.held eb.is tt in
      let rc = root_units 128 163 ec.held ec.is tt in
      let rx = root_units 115 180 ex.held ex.is tt in
      let g = mul_units 114 179 rx.is half_units tt in
      let s1 = add_units 128 164 ra.is rb.is tt tt in
      let s = add_units 128 165 s1.is rc.is tt tt in
      let h = mul_units 127 164 s.is half_units tt in
      let q = div_units 99 201 g.is h.is tt in
      let p1 = mul_units 107 177 ra.is rb.is tt in
      let p = mul_units 86 191 p1.is rc.is tt in
      let f = mul_units 116 181 four_units g.is tt in
      let ρ = div_units 54 224 p.is f.is tt in
      let u = bound_units α k.held k.low k.high in
      let over = above_bar w ex.n rx.n g.n h.n f.n q.n rx.below (half_below w (2 ^ 148) g.n rx.n W refl g.below) q.below
      (times_below w (2 ^ 151) 4 f.n g.n W refl f.below) in
      let pairs = lengths_sum w ea.n eb.n ec.n passed.l passed.m passed.n ra.n rb.n rc.n ra.above rb.above rc.above
      (lengths_product w passed.l ea.n eb.n ra.n rb.n passed.l_first passed.l_second ra.above rb.above)
      (lengths_product w passed.m eb.n ec.n rb.n rc.n passed.m_first passed.m_second rb.above rc.above)
      (lengths_product w passed.n ec.n ea.n rc.n ra.n passed.n_first passed.n_second rc.above ra.above) in
      let S : ℕ = ea.n + eb.n + ec.n + 2 * (passed.l + passed.m + passed.n) in
      let lengths : Near 2 (ra.n + rb.n + rc.n) s.n = near_trans (near_add s1.above (near_self 1 rc.n)) s.above in
      let sums = sum_below w ea.n eb.n ec.n S ra.n rb.n rc.n s.n h.n p1.n p.n f.n ρ.n W pairs lengths
      (half_above w (2 ^ 148) h.n s.n W refl h.above) in
      let products = product_below w ea.n eb.n ec.n S ra.n rb.n rc.n s.n h.n p1.n p.n f.n ρ.n W ra.above rb.above
      rc.above p1.above p.above ρ.above in
      quotient_le q.is ρ.is k.held u.1
      (ratio_below w ex.n S (ea.n * eb.n * ec.n) T' u.0 q.n h.n f.n ρ.n W (units_pos h.is) (units_pos f.is) passed.near
      (limit_short u.1 ut k) over sums products)

  pub aspect_below : T (le (shape_of (root a) (root b) (root c) (root x ⊗ half)).aspect_ratio α)
  aspect_below = aspect_by (root a) (root b) (root c) (root x ⊗ half) α (not_negative k) (λ e g. ratio_le)

-- without an area, or with one that is no number or infinite, it is 0
no_radius : (p : Float) → lt tiny (p ⊘ (f32 0x40800000 ⊗ (nan ⊗ half))) ≡ false
unfolding lt div mul of_bits
no_radius nan = refl
no_radius (inf s) = refl
no_radius (fin s m e) = refl

zero_radius : (p : Float) → lt tiny (p ⊘ (f32 0x40800000 ⊗ (inf false ⊗ half))) ≡ false
unfolding lt div mul of_bits
zero_radius nan = refl
zero_radius (inf s) = refl
zero_radius (fin true m e) = refl
zero_radius (fin false m e) = refl

module _ (a b c x α : Float) (zero : T (le (f32 0) α)) where
  pub flat_below : T (lt (root x ⊗ half) tiny) → T (le (shape_of a b c (root x ⊗ half)).aspect_ratio α)
  flat_below h = aspect_by a b c (root x ⊗ half) α zero (λ e g. absurd (subst T e h))

  pub none_below : root x ≡ nan → T (le (shape_of a b c (root x ⊗ half)).aspect_ratio α)
  unfolding radius_of
  none_below h = aspect_by a b c (root x ⊗ half) α zero
      (λ e g. let n : lt tiny (radius_of a b c (root x ⊗ half)) ≡ false = rw h (no_radius (a ⊗ b ⊗ c)) in absurd (subst T (sym g ∙ n) tt))

  pub infinite_below : root x ≡ inf false → T (le (shape_of a b c (root x ⊗ half)).aspect_ratio α)
  unfolding radius_of
  infinite_below h = aspect_by a b c (root x ⊗ half) α zero
      (λ e g. let n : lt tiny (radius_of a b c (root x ⊗ half)) ≡ false = rw h (zero_radius (a ⊗ b ⊗ c)) in absurd (subst T (sym g ∙ n) tt))
