-- Every finite f32 is a whole number of units of 2^-149, the smallest f32 (`f32_whole`), of at most 24 significant
-- digits (`Grid`). So from 2^(23+h) units on it is a multiple of 2^h units (`coarse`), and for x above zero the root's
-- argument has the form that it is scaled to (`scaling`).
use mathlib.Core.Path.{◌≡◌, refl, sym, ap, ◌∙◌, subst}
use Prim.Native.Nat.{ℕ, zero, suc, ◌+◌, ◌-◌, ◌*◌, ◌/◌, ◌%◌, ◌^◌, ◌≤◌, ◌<◌}
use native.Mathlib.Nat.{lt_of_lt_of_le, lt_of_le_of_lt, lt_irrefl, zero-mul, mul-one, mul_assoc, mul_right_comm, le_of_mul-le-mul_right, lt_of_mul-lt-mul_right}
use native.Mathlib.Nat.{mul-lt-mul_of_pos_right, eq_of_mul-eq-mul_right}
use native.Mathlib.Omega.{arith}
use mathlib.Core.Bool.{Bool, ◌&&◌}
use lib.IntN.{ℤ, pos, negsuc}
use lib.Dec.{T, leb, ltb, eqb, ltb→lt, leb→le}
use lib.Pow.{pow-add, pow_pos, pow_mono, pow-lt, shl_lt}
use lib.Ieee.{Float, nan, inf, fin, binary32, up, down, size, fits}
use lib.Ieee.Digits.{back, size-lt, size-le, size_reaches}
use lib.Ieee.Fits.{and_l, and_r, down_pos}
use lib.Ieee.Exact.{HasValue}
use Rattle.numbers.proofs.RootPattern.{pow_lt_back, size_gt, shl_ge}

-- a is q * 2^j, with q of at most 24 digits
pub record Grid (a : ℕ) : Type 0 where
  pub q : ℕ
  pub j : ℕ
  pub few : q < 2 ^ 24
  pub is : a ≡ q * 2 ^ j

-- ---- what `fits` says

record Held (m : ℕ) (e : ℤ) : Type 0 where
  few : m < 2 ^ 24
  fine : down e ≤ 2 ^ 149
  bounded : m * up e < 2 ^ 128 * down e

held : (s : Bool) (m : ℕ) (e : ℤ) → T (fits binary32 (fin s (suc m) e)) → Held (suc m) e
unfolding fits
held s m e t =
    let a : Bool = eqb (suc m % 2) 1 in
    let b : Bool = ltb (suc m) (2 ^ 24) in
    let c : Bool = leb (down e) (2 ^ 149) in
    let d : Bool = ltb (suc m * up e) (2 ^ 128 * down e) in
    record {
      few = ltb→lt (suc m) (2 ^ 24) (and_r a b (and_l (a && b) c (and_l (a && b && c) d t)));
      fine = leb→le (down e) (2 ^ 149) (and_r (a && b) c (and_l (a && b && c) d t));
      bounded = ltb→lt (suc m * up e) (2 ^ 128 * down e) (and_r (a && b && c) d t);
    }

-- ---- m * 2^e in units

place : (m : ℕ) (e : ℤ) → down e ≤ 2 ^ 149 → (j : ℕ) × (m * up e * 2 ^ 149 ≡ m * 2 ^ j * down e)
place m (pos k) h = (k + 149, mul_assoc m (2 ^ k) (2 ^ 149) ∙ ap (λ (x : ℕ). m * x) (sym (pow-add 2 k 149)) ∙ sym (mul-one (m * 2 ^ (k + 149))))
place m (negsuc k) h =
    let l : suc k ≤ 149 = le_back (suc k) 149 h in (
      149 - suc k,
      ap (λ (x : ℕ). x * 2 ^ 149) (mul-one m)
          ∙ ap (λ (x : ℕ). m * x) (ap (λ (i : ℕ). 2 ^ i) (sym (back 149 (suc k) l)) ∙ pow-add 2 (149 - suc k) (suc k))
          ∙ sym (mul_assoc m (2 ^ (149 - suc k)) (2 ^ suc k)),
    )
  where
    le_back : (a l : ℕ) → 2 ^ a ≤ 2 ^ l → a ≤ l
    le_back a l h = omega (arith, pow_lt_back a (suc l) (lt_of_le_of_lt h (pow-lt {i = l} {j = suc l} (omega arith))))

-- a value has one number of units
one_count : (y : Float) (s t : Bool) (a b c : ℕ) → HasValue y s a c → HasValue y t b c → a ≡ b
one_count nan s t a b c h k = absurd h
one_count (inf u) s t a b c h k = absurd h
one_count (fin u m e) s t a b c h k = eq_of_mul-eq-mul_right (down e) (down_pos e) a b (sym h.1 ∙ k.1)

zero_units : (s : Bool) (e : ℤ) → HasValue (fin s 0 e) s 0 (2 ^ 149)
zero_units s e = (refl, ap (λ (x : ℕ). x * 2 ^ 149) (zero-mul (up e)) ∙ zero-mul (2 ^ 149) ∙ sym (zero-mul (down e)))

pub f32_whole : (s : Bool) (m : ℕ) (e : ℤ) → T (fits binary32 (fin s m e)) → (a : ℕ) × HasValue (fin s m e) s a (2 ^ 149) × Grid a
f32_whole s zero e t = (0, zero_units s e, record { q = 0; j = 0; few = omega arith; is = refl })
f32_whole s (suc m) e t =
    let h = held s m e t in
    let p = place (suc m) e h.fine in
    (suc m * 2 ^ p.0, (refl, p.1), record { q = suc m; j = p.0; few = h.few; is = refl })

pub on_grid : (y : Float) (s : Bool) (a : ℕ) → T (fits binary32 y) → HasValue y s a (2 ^ 149) → Grid a
on_grid nan s a t h = absurd h
on_grid (inf u) s a t h = absurd h
on_grid (fin u m e) s a t h = let w = f32_whole u m e t in subst Grid (one_count (fin u m e) u s w.0 a (2 ^ 149) w.1 h) w.2

-- ---- far from zero the grid is coarse

pub coarse : (a h : ℕ) → Grid a → 2 ^ (23 + h) ≤ a → (c : ℕ) × (a ≡ c * 2 ^ h)
coarse a h g l =
    let k : 23 + h < 24 + g.j = pow_lt_back (23 + h) (24 + g.j)
    (lt_of_le_of_lt l (subst (λ (x : ℕ). x < 2 ^ (24 + g.j)) (sym g.is) (shl_lt 24 g.j g.few))) in
    let H : h ≤ g.j = omega arith in (
      g.q * 2 ^ (g.j - h),
      g.is ∙ ap (λ (i : ℕ). g.q * 2 ^ i) (sym (back g.j h H)) ∙ ap (λ (x : ℕ). g.q * x) (pow-add 2 (g.j - h) h) ∙ sym
          (mul_assoc g.q (2 ^ (g.j - h)) (2 ^ h)),
    )

-- ---- a number above zero in units of 2^-298, scaled by an even power of two to 47 or 48 digits

pub record Scaled (x : ℕ) : Type 0 where
  pub n : ℕ
  pub h : ℕ
  pub low : 2 ^ 46 ≤ n
  pub high : n < 2 ^ 48
  pub short : h < 253
  pub is : x ≡ n * 2 ^ (2 * h)

-- z digits in all, of which at most 24 are not closing zeros
record Halved (z j : ℕ) : Type 0 where
  h : ℕ
  short : h < 253
  above : 46 + 2 * h < z
  under : z ≤ 48 + 2 * h
  zeros : 2 * h ≤ j

halved : (z j : ℕ) → 149 < z → z ≤ 24 + j → z ≤ 426 → Halved z j
halved z j a b c = record { h = (z + 1) / 2 - 24; short = omega arith; above = omega arith; under = omega arith; zeros = omega arith }

scale : (q j : ℕ) → q < 2 ^ 24 → 2 ^ 149 ≤ q * 2 ^ j → q * 2 ^ j < 2 ^ 426 → Scaled (q * 2 ^ j)
scale q j few big small =
    let x = q * 2 ^ j in
    let t = halved (size x) j (size_gt 149 x big) (size-le x (24 + j) (shl_lt 24 j few)) (size-le x 426 small) in
    let h = t.h in
    let is : x ≡ q * 2 ^ (j - 2 * h) * 2 ^ (2 * h) =
    ap (λ (i : ℕ). q * 2 ^ i) (sym (back j (2 * h) t.zeros)) ∙ ap (λ (y : ℕ). q * y) (pow-add 2 (j - 2 * h) (2 * h)) ∙ sym
    (mul_assoc q (2 ^ (j - 2 * h)) (2 ^ (2 * h))) in
    record {
      n = q * 2 ^ (j - 2 * h);
      h = h;
      low = le_of_mul-le-mul_right
          (subst (λ (y : ℕ). 2 ^ 46 * 2 ^ (2 * h) ≤ y) is (subst (λ (y : ℕ). y ≤ x) (pow-add 2 46 (2 * h)) (size_reaches x (46 + 2 * h) t.above)))
          (pow_pos (2 * h));
      high = lt_of_mul-lt-mul_right (2 ^ (2 * h))
          (subst (λ (y : ℕ). y < 2 ^ 48 * 2 ^ (2 * h)) is (subst (λ (y : ℕ). x < y) (pow-add 2 48 (2 * h)) (lt_of_lt_of_le (size-lt x) (pow_mono t.under))));
      short = t.short;
      is = is;
    }

pub scaling : (a : ℕ) → Grid a → 0 < a → a < 2 ^ 277 → Scaled (a * 2 ^ 149)
scaling a g p b =
    let e : a * 2 ^ 149 ≡ g.q * 2 ^ (g.j + 149) = ap (λ (x : ℕ). x * 2 ^ 149) g.is ∙ mul_assoc g.q (2 ^ g.j) (2 ^ 149) ∙ ap (λ (x : ℕ). g.q * x)
    (sym (pow-add 2 g.j 149)) in
    subst Scaled (sym e)
    (scale g.q (g.j + 149) g.few (subst (λ (x : ℕ). 2 ^ 149 ≤ x) e (shl_ge 0 149 p)) (subst (λ (x : ℕ). x < 2 ^ 426) e (shl_lt 277 149 b)))

-- an f32 is below 2^128, which is 2^277 units
pub below_top : (y : Float) (s : Bool) (a : ℕ) → T (fits binary32 y) → HasValue y s a (2 ^ 149) → 0 < a → a < 2 ^ 277
below_top nan s a t h p = absurd h
below_top (inf u) s a t h p = absurd h
below_top (fin u zero e) s a t h p = absurd (lt_irrefl 0 (subst (λ (x : ℕ). 0 < x) (one_count (fin u zero e) s u a 0 (2 ^ 149) h (zero_units u e)) p))
below_top (fin u (suc m) e) s a t h p = top (suc m * up e) (2 ^ 128) (2 ^ 149) a (down e) (pow_pos 149) (held u m e t).bounded h.1
  where
    top : (w b l a d : ℕ) → 0 < l → w < b * d → w * l ≡ a * d → a < b * l
    top w b l a d L k e = lt_of_mul-lt-mul_right d
        (subst (λ (x : ℕ). x < b * l * d) e (subst (λ (x : ℕ). w * l < x) (mul_right_comm b d l) (mul-lt-mul_of_pos_right k L)))
