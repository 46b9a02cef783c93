-- The nearest whole number to a fraction, as the format's rounding takes it (`closest` of the library): no whole number
-- is nearer, and on a tie it is even. Assumes nothing.
use mathlib.Core.Path.{◌≡◌, ap, subst}
use Prim.Native.Nat.{ℕ, ◌+◌, ◌*◌, ◌/◌, ◌%◌, ◌≤◌, ◌<◌, compare, Ordering}
use native.Mathlib.Nat.{mod-lt, div-add-mod', mul-le-mul_right}
use native.Mathlib.Omega.{arith}
use native.Mathlib.Decide.{dec_lt}
use mathlib.Core.Logic.{◌⊎◌, inl, inr, ⊎_elim, ◌≢◌}
use mathlib.Core.Bool.{not}
use lib.Dec.{T, eqb, is_le, compare_is_eq, leb→le, nleb→lt, eqb→eq, eqb_refl}
use lib.Ieee.{nearest}
use lib.Ieee.Nearest.{closest}
use Rattle.decimals.specs.Nearest.{whole_gap}

-- ---- by twice the remainder, against the divisor
module _ (r d : ℕ) (P : Ordering → Type 0) (less : r < d → P Ordering.lt) (level : r ≡ d → P Ordering.eq) (more : d < r → P Ordering.gt) where
  compared : P (compare r d)
  compared = go (compare r d) (leb→le r d) (nleb→lt r d) (eqb→eq r d) (λ e. subst (λ (z : ℕ). T (eqb r z)) e (eqb_refl r))
    where
      go : (o : Ordering) → (T (is_le o) → r ≤ d) → (T (not (is_le o)) → d < r) → (T (compare_is_eq o) → r ≡ d) → (r ≡ d → T (compare_is_eq o)) → P o
      go Ordering.lt a b c e = let l = a tt in let ne : r ≢ d = λ q. e q in less (omega arith)
      go Ordering.eq a b c e = level (c tt)
      go Ordering.gt a b c e = more (b tt)

pub closest_down : (n d : ℕ) → n % d * 2 < d → n / d ≡ closest n d
closest_down n d h =
    compared (n % d * 2) d (λ (o : Ordering). n / d ≡ nearest (n / d) o) (λ l. omega arith) (λ e. absurd (omega arith)) (λ l. absurd (omega arith))

pub closest_up : (n d : ℕ) → d ≤ n % d * 2 → n % d * 2 ≢ d → n / d + 1 ≡ closest n d
closest_up n d h ne =
    compared (n % d * 2) d (λ (o : Ordering). n / d + 1 ≡ nearest (n / d) o) (λ l. absurd (omega arith)) (λ e. absurd (ne e)) (λ l. omega arith)

-- ---- twice the distance is at most the divisor
pub record Close (n d q : ℕ) : Type 0 where
  pub upper : q * d * 2 ≤ n * 2 + d
  pub lower : n * 2 ≤ q * d * 2 + d
  -- equality only on a tie, and then the even one is taken
  pub tie_up : q * d * 2 ≡ n * 2 + d → q % 2 ≡ 0
  pub tie_down : n * 2 ≡ q * d * 2 + d → q % 2 ≡ 0

-- w and r are quotient and remainder
down_close : (w r d : ℕ) → 0 < d → r * 2 < d → Close (w * d + r) d w
down_close w r d D h = record { upper = omega arith; lower = omega arith; tie_up = λ e. absurd (omega arith); tie_down = λ e. absurd (omega arith) }

up_close : (w r d : ℕ) → r < d → d < r * 2 → Close (w * d + r) d (w + 1)
up_close w r d l h = record { upper = omega arith; lower = omega arith; tie_up = λ e. absurd (omega arith); tie_down = λ e. absurd (omega arith) }

even_close : (w r d : ℕ) → r * 2 ≡ d → Close (w * d + r) d (w + w % 2)
even_close w r d e =
    let b : w % 2 * d ≤ 1 * d = mul-le-mul_right d (omega arith) in
    record { upper = omega arith; lower = omega arith; tie_up = λ e. omega arith; tie_down = λ e. omega arith }

pub closest_close : (n d : ℕ) → 0 < d → Close n d (closest n d)
closest_close n d D =
    subst (λ (m : ℕ). Close m d (closest n d)) (div-add-mod' n d)
    (compared (r * 2) d (λ (o : Ordering). Close (w * d + r) d (nearest w o)) (down_close w r d D) (even_close w r d)
    (λ l. subst (λ (q : ℕ). Close (w * d + r) d q) (omega arith) (up_close w r d (mod-lt n D) l)))
  where
    w : ℕ
    w = n / d

    r : ℕ
    r = n % d

-- ---- no whole number is nearer
module _ (n d q : ℕ) (D : 0 < d) (h : Close n d q) where
  less : (c : ℕ) → c < q → c * d + d ≤ q * d
  less c l = let a : (c + 1) * d ≤ q * d = mul-le-mul_right d (omega arith) in omega arith

  more : (c : ℕ) → q < c → q * d + d ≤ c * d
  more c l = let a : (q + 1) * d ≤ c * d = mul-le-mul_right d (omega arith) in omega arith

  pub nearer : (c : ℕ) → whole_gap (q * d) n ≤ whole_gap (c * d) n
  nearer c = go (dec_lt c q) (dec_lt q c)
    where
      go : Dec (c < q) → Dec (q < c) → whole_gap (q * d) n ≤ whole_gap (c * d) n
      go (yes l) k = let a = less c l in let u = h.upper in let v = h.lower in omega arith
      go (no l) (yes k) = let a = more c k in let u = h.upper in let v = h.lower in omega arith
      go (no l) (no k) = let e : q ≡ c = omega arith in let f : q * d ≡ c * d = ap (λ (z : ℕ). z * d) e in omega arith

  -- another that is as near is on the other side of a tie
  pub tied : (c : ℕ) → c ≢ q → whole_gap (c * d) n ≡ whole_gap (q * d) n → (q * d * 2 ≡ n * 2 + d) ⊎ (n * 2 ≡ q * d * 2 + d)
  tied c ne e = go (dec_lt c q) (dec_lt q c)
    where
      go : Dec (c < q) → Dec (q < c) → (q * d * 2 ≡ n * 2 + d) ⊎ (n * 2 ≡ q * d * 2 + d)
      go (yes l) k = let a = less c l in let u = h.upper in let v = h.lower in inl (omega arith)
      go (no l) (yes k) = let a = more c k in let u = h.upper in let v = h.lower in inr (omega arith)
      go (no l) (no k) = let f : c ≡ q = omega arith in absurd (ne f)

  pub as_near : (c : ℕ) → c ≢ q → whole_gap (c * d) n ≡ whole_gap (q * d) n → q % 2 ≡ 0
  as_near c ne e = ⊎_elim h.tie_up h.tie_down (tied c ne e)

-- a whole number that is nearer than half of the divisor is the one
pub closest_is : (n d q : ℕ) → 0 < d → q * d * 2 < n * 2 + d → n * 2 < q * d * 2 + d → closest n d ≡ q
closest_is n d q D up down = go (closest n d) (closest_close n d D) (dec_lt (closest n d) q) (dec_lt q (closest n d))
  where
    go : (c : ℕ) → Close n d c → Dec (c < q) → Dec (q < c) → c ≡ q
    go c h (yes l) k = let a = more n d c D h q l in let u = h.lower in absurd (omega arith)
    go c h (no l) (yes k) = let a = less n d c D h q k in let u = h.upper in absurd (omega arith)
    go c h (no l) (no k) = omega arith
