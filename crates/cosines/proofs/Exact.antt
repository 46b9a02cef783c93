-- What is exact of three points, over whole numbers: the law of cosines on an axis (`axis_square`), a cross product's
-- component (`component_square`), and from these Lagrange's identity, by squares alone (`lagrange`, and `heron` whether
-- the angle is acute or not). Assumes nothing.
use mathlib.Core.Path.{◌≡◌, refl, sym, ap, ap₂, ◌∙◌, subst}
use Prim.Native.Nat.{ℕ, ◌+◌, ◌-◌, ◌*◌, ◌≤◌}
use native.Mathlib.Omega.{arith}
use native.Mathlib.Decide.{dec_le}
use mathlib.Core.Bool.{Bool, true, false}
use lib.Ieee.{unlike}
use Rattle.rounding_errors.proofs.Signed.{Is, over, short}

-- how far m and n are apart, without a sign, or with signs that are unlike
abbrev pub apart : Bool → ℕ → ℕ → ℕ
apart true m n = m + n
apart false m n = m - n + (n - m)

-- ---- on an axis

longer : (c b : ℕ) → b * b + 2 * ((c + b) * c) ≡ (c + b) * (c + b) + c * c + 2 * 0
longer c b = omega arith

shorter : (a b : ℕ) → b * b + 2 * (a * (a + b)) ≡ a * a + (a + b) * (a + b) + 2 * 0
shorter a b = omega arith

across : (a c : ℕ) → (a + c) * (a + c) + 2 * 0 ≡ a * a + c * c + 2 * (a * c)
across a c = omega arith

module _ (a c b : ℕ) where
  like_first : a ≡ c + b → b * b + 2 * (a * c) ≡ a * a + c * c + 2 * 0
  like_first e = subst (λ (a : ℕ). b * b + 2 * (a * c) ≡ a * a + c * c + 2 * 0) (sym e) (longer c b)

  like_second : c ≡ a + b → b * b + 2 * (a * c) ≡ a * a + c * c + 2 * 0
  like_second e = subst (λ (c : ℕ). b * b + 2 * (a * c) ≡ a * a + c * c + 2 * 0) (sym e) (shorter a b)

  unlike_sum : b ≡ a + c → b * b + 2 * 0 ≡ a * a + c * c + 2 * (a * c)
  unlike_sum e = subst (λ (b : ℕ). b * b + 2 * 0 ≡ a * a + c * c + 2 * (a * c)) (sym e) (across a c)

-- the coordinates of Q, P and T are q - r, p - o and t - u; a, c and b are their distances
pub axis_square : (s t v : Bool) (a c b q r p o t' u : ℕ) → Is s a (q + o) (r + p) → Is t c (t' + o) (u + p) → Is v b (q + u) (r + t')
    → b * b + 2 * over (unlike s t) (a * c) ≡ a * a + c * c + 2 * short (unlike s t) (a * c)
axis_square true true true a c b q r p o t u h k l = like_first a c b (omega arith)
axis_square true true false a c b q r p o t u h k l = like_second a c b (omega arith)
axis_square false false false a c b q r p o t u h k l = like_first a c b (omega arith)
axis_square false false true a c b q r p o t u h k l = like_second a c b (omega arith)
axis_square true false true a c b q r p o t u h k l = unlike_sum a c b (omega arith)
axis_square true false false a c b q r p o t u h k l = unlike_sum a c b (omega arith)
axis_square false true true a c b q r p o t u h k l = unlike_sum a c b (omega arith)
axis_square false true false a c b q r p o t u h k l = unlike_sum a c b (omega arith)

-- ---- a component of the cross product

pub gap_square : (m n : ℕ) → (m - n + (n - m)) * (m - n + (n - m)) + 2 * (m * n) ≡ m * m + n * n
gap_square m n = go (dec_le m n)
  where
    up : (m d : ℕ) → d * d + 2 * (m * (m + d)) ≡ m * m + (m + d) * (m + d)
    up m d = omega arith

    down : (n d : ℕ) → d * d + 2 * ((n + d) * n) ≡ (n + d) * (n + d) + n * n
    down n d = omega arith

    go : Dec (m ≤ n) → (m - n + (n - m)) * (m - n + (n - m)) + 2 * (m * n) ≡ m * m + n * n
    go (yes h) =
        let d = n - m in
        let e : n ≡ m + d = omega arith in
        let g : m - n + (n - m) ≡ d = omega arith in
        ap (λ (z : ℕ). z * z + 2 * (m * n)) g ∙ subst (λ (n : ℕ). d * d + 2 * (m * n) ≡ m * m + n * n) (sym e) (up m d)
    go (no h) =
        let d = m - n in
        let e : m ≡ n + d = omega arith in
        let g : m - n + (n - m) ≡ d = omega arith in
        ap (λ (z : ℕ). z * z + 2 * (m * n)) g ∙ subst (λ (m : ℕ). d * d + 2 * (m * n) ≡ m * m + n * n) (sym e) (down n d)

-- v w' - v' w, where a and c are the sizes of v and w, a' and c' those of v' and w', and s and t tell whether v and w,
-- v' and w' have unlike signs
pub component_square : (s t : Bool) (a c a' c' : ℕ)
    → apart (unlike s t) (a * c') (a' * c) * apart (unlike s t) (a * c') (a' * c)
    + 2 * (over s (a * c) * over t (a' * c') + short s (a * c) * short t (a' * c'))
    ≡ a * a * (c' * c') + a' * a' * (c * c) + 2 * (over s (a * c) * short t (a' * c') + over t (a' * c') * short s (a * c))
component_square true true a c a' c' = let g = gap_square (a * c') (a' * c) in omega arith
component_square false false a c a' c' = let g = gap_square (a * c') (a' * c) in omega arith
component_square true false a c a' c' = omega arith
component_square false true a c a' c' = omega arith

pub product_square : (s : Bool) (a c : ℕ) → over s (a * c) * over s (a * c) + short s (a * c) * short s (a * c) ≡ a * a * (c * c)
    + 2 * (over s (a * c) * short s (a * c))
product_square true a c = omega arith
product_square false a c = omega arith

-- ---- all three

-- of an axis: the squares of a, c and b, and the two parts of the product with its sign
pub record Axis (A C B p n : ℕ) : Type 0 where
  pub square : B + 2 * p ≡ A + C + 2 * n
  pub product : p * p + n * n ≡ A * C + 2 * (p * n)

pub record Component (A C p n A' C' p' n' X : ℕ) : Type 0 where
  pub square : X + 2 * (p * p' + n * n') ≡ A * C' + A' * C + 2 * (p * n' + p' * n)

halves : (E S N : ℕ) → 2 * S ≡ E + 2 * N → E * E + 8 * (S * N) ≡ 4 * (S * S) + 4 * (N * N)
halves E S N h =
    let a : 2 * S * (2 * S) ≡ (E + 2 * N) * (E + 2 * N) = ap₂ ◌*◌ h h in
    let b : 2 * S * N ≡ (E + 2 * N) * N = ap (λ (z : ℕ). z * N) h in
    omega arith

nine : (a b c d e f : ℕ) → (a + b + c) * (d + e + f) ≡ a * d + a * e + a * f + (b * d + b * e + b * f) + (c * d + c * e + c * f)
nine a b c d e f = omega arith

squares : (a b c : ℕ) → (a + b + c) * (a + b + c) ≡ a * a + b * b + c * c + 2 * (a * b) + 2 * (b * c) + 2 * (c * a)
squares a b c = omega arith

-- Ac and so on are the products of sums, the rest are products of two
total : (EE Ac SS NN SN X Y Z ac ad ae bc bd be cc cd ce : ℕ) (pp qq rr pq qr rp nn mm oo nm mo on pn pm po qn qm qo rn rm ro : ℕ)
    → EE + 8 * SN ≡ 4 * SS + 4 * NN
    → Ac ≡ ac + ad + ae + (bc + bd + be) + (cc + cd + ce)
    → SS ≡ pp + qq + rr + 2 * pq + 2 * qr + 2 * rp
    → NN ≡ nn + mm + oo + 2 * nm + 2 * mo + 2 * on
    → SN ≡ pn + pm + po + (qn + qm + qo) + (rn + rm + ro)
    → X + 2 * (qr + mo) ≡ be + cd + 2 * (qo + rm)
    → Y + 2 * (rp + on) ≡ cc + ae + 2 * (rn + po)
    → Z + 2 * (pq + nm) ≡ ad + bc + 2 * (pm + qn)
    → pp + nn ≡ ac + 2 * pn
    → qq + mm ≡ bd + 2 * qm
    → rr + oo ≡ ce + 2 * ro
    → 4 * Ac ≡ EE + 4 * (X + Y + Z)
total EE Ac SS NN SN X Y Z ac ad ae bc bd be cc cd ce pp qq rr pq qr rp nn mm oo nm mo on pn pm po qn qm qo rn rm ro a b c d e f g h i j k = omega arith

-- Heron's formula from Lagrange's identity
acute_sum : (a b c E x : ℕ) → a + c ≡ b + E → 4 * (a * c) ≡ E * E + 4 * x → 4 * x + (a * a + b * b + c * c) ≡ 2 * (a * b + b * c + c * a)
acute_sum a b c E x h k =
    let i = ap (λ (z : ℕ). z * (a + c)) h in
    let j = ap (λ (z : ℕ). (b + E) * z) h in
    let l = ap (λ (z : ℕ). z * b) h in
    omega arith

obtuse_sum : (a b c E x : ℕ) → b ≡ a + c + E → 4 * (a * c) ≡ E * E + 4 * x → 4 * x + (a * a + b * b + c * c) ≡ 2 * (a * b + b * c + c * a)
obtuse_sum a b c E x h k = subst (λ (b : ℕ). 4 * x + (a * a + b * b + c * c) ≡ 2 * (a * b + b * c + c * a)) (sym h) (expanded a c E x k)
  where
    expanded : (a c E x : ℕ) → 4 * (a * c) ≡ E * E + 4 * x → 4 * x + (a * a + (a + c + E) * (a + c + E) + c * c)
        ≡ 2 * (a * (a + c + E) + (a + c + E) * c + c * a)
    expanded a c E x k = omega arith

module _ {A C B p n A' C' B' p' n' A'' C'' B'' p'' n'' X Y Z : ℕ} (i : Axis A C B p n) (j : Axis A' C' B' p' n') (k : Axis A'' C'' B'' p'' n'')
    (x : Component A' C' p' n' A'' C'' p'' n'' X) (y : Component A'' C'' p'' n'' A C p n Y) (z : Component A C p n A' C' p' n' Z) where
  from_dots : (E S N : ℕ) → S ≡ p + p' + p'' → N ≡ n + n' + n'' → E * E + 8 * (S * N) ≡ 4 * (S * S) + 4 * (N * N) → 4 * ((A + A' + A'') * (C + C' + C''))
      ≡ E * E + 4 * (X + Y + Z)
  from_dots E S N s t g =
      total (E * E) ((A + A' + A'') * (C + C' + C'')) (S * S) (N * N) (S * N) X Y Z (A * C) (A * C') (A * C'') (A' * C) (A' * C') (A' * C'') (A'' * C)
      (A'' * C') (A'' * C'')
      (p * p) (p' * p') (p'' * p'') (p * p') (p' * p'') (p'' * p) (n * n) (n' * n') (n'' * n'') (n * n') (n' * n'') (n'' * n) (p * n) (p * n') (p * n'')
      (p' * n) (p' * n') (p' * n'') (p'' * n) (p'' * n') (p'' * n'')
      g (nine A A' A'' C C' C'') (ap (λ (z : ℕ). z * z) s ∙ squares p p' p'') (ap (λ (z : ℕ). z * z) t ∙ squares n n' n'')
      (ap₂ ◌*◌ s t ∙ nine p p' p'' n n' n'') x.square y.square z.square i.product j.product k.product

  pub lagrange : (E : ℕ) → E + (B + B' + B'') ≡ A + A' + A'' + (C + C' + C'') → 4 * ((A + A' + A'') * (C + C' + C'')) ≡ E * E + 4 * (X + Y + Z)
  lagrange E h =
      let S = p + p' + p'' in
      let N = n + n' + n'' in
      let g : 2 * S ≡ E + 2 * N = omega (arith, h, i.square, j.square, k.square) in
      from_dots E S N refl refl (halves E S N g)

  -- at an angle that is not acute
  obtuse : (E : ℕ) → E + (A + A' + A'' + (C + C' + C'')) ≡ B + B' + B'' → 4 * ((A + A' + A'') * (C + C' + C'')) ≡ E * E + 4 * (X + Y + Z)
  obtuse E h =
      let S = p + p' + p'' in
      let N = n + n' + n'' in
      let g : 2 * N ≡ E + 2 * S = omega (arith, h, i.square, j.square, k.square) in
      from_dots E S N refl refl (turned (E * E) (S * S) (N * N) S N (halves E N S g))
    where
      turned : (e s t S N : ℕ) → e + 8 * (N * S) ≡ 4 * t + 4 * s → e + 8 * (S * N) ≡ 4 * s + 4 * t
      turned e s t S N h = omega arith

  pub heron_sums : (a b c : ℕ) → a ≡ A + A' + A'' → b ≡ B + B' + B'' → c ≡ C + C' + C'' → 4 * (X + Y + Z) + (a * a + b * b + c * c)
      ≡ 2 * (a * b + b * c + c * a)
  heron_sums a b c ea eb ec = go (dec_le b (a + c))
    where
      product : {v : ℕ} → 4 * ((A + A' + A'') * (C + C' + C'')) ≡ v → 4 * (a * c) ≡ v
      product h = ap (λ (z : ℕ). 4 * z) (ap₂ ◌*◌ ea ec) ∙ h

      go : Dec (b ≤ a + c) → 4 * (X + Y + Z) + (a * a + b * b + c * c) ≡ 2 * (a * b + b * c + c * a)
      go (yes h) = acute_sum a b c (a + c - b) (X + Y + Z) (omega arith) (product (lagrange (a + c - b) (omega (arith, ea, eb, ec))))
      go (no h) = obtuse_sum a b c (b - (a + c)) (X + Y + Z) (omega arith) (product (obtuse (b - (a + c)) (omega (arith, ea, eb, ec))))
