-- A zero of either sign in the place of the least coordinate gives the same cells; and a `min` that may give either of
-- two unlike zeros gives the cloud's least coordinate, or a zero where that is one. Assumes nothing.
use Prim.Native.Nat.{ℕ, zero, suc, ◌+◌, ◌*◌, ◌<◌}
use native.Mathlib.Nat.{mul-pos}
use native.Mathlib.Omega.{arith}
use mathlib.Core.Path.{◌≡◌, refl, sym, ap, ◌∙◌, subst}
use mathlib.Core.Logic.{◌⊎◌, inl, inr}
use mathlib.Core.Bool.{Bool, true, false, true≢false, not, cond, beq, ◌&&◌, ◌||◌}
use mathlib.Core.List.{List}
use lib.IntN.{ℤ, pos}
use lib.Dec.{eqb, eqb-suc-zero}
use lib.Count.{count_trailing_zeros}
use lib.ListN.{get_or}
use lib.Ieee.{Float, nan, inf, fin, binary32, up, down, unlike, span, climb, size, odd, units, round, neg, sum, add}
use lib.Ieee.{sub, div, below, lt, is_nan, to_unsigned}
use lib.Ieee.Fits.{up_pos, down_pos}
use lib.Ieee.Scale.{round_same}
use borrow.Author.Tests.{eqb-true, lt-ltb, le-ltb}
use Rattle.numbers.specs.Rounded.{◌⊖◌, ◌⊘◌}
use Rattle.numbers.specs.Order.{minimum}
use Rattle.numbers.specs.Cut.{cut}
use Rattle.numbers.proofs.Minimum.{minimum_either}
use Rattle.grid.specs.Grid.{least_from, cell_on}
use Rattle.zeros.specs.Zeros.{is_zero_of, unlike_zeros, UpToZeros}
use Rattle.zeros.specs.Call.{least_from_by}

-- a zero of either sign
abbrev pub Zero : Float → Type 0
Zero x = (is_zero_of true x ≡ true) ⊎ (is_zero_of false x ≡ true)

-- the same, or both zero
abbrev pub Alike : Float → Float → Type 0
Alike x y = (x ≡ y) ⊎ (Zero x × Zero y)

clash : {A : Type 0} → false ≡ true → A
clash e = absurd (true≢false (sym e))

zero_is : (s t : Bool) (m : ℕ) → (beq s t && eqb m 0) ≡ true → m ≡ 0
zero_is s t m h = go (beq s t) h
  where
    go : (b : Bool) → (b && eqb m 0) ≡ true → m ≡ 0
    go true k = eqb-true m 0 k
    go false k = clash k

zero_digits : (t : Bool) (m : ℕ) (e : ℤ) → Zero (fin t m e) → m ≡ 0
zero_digits t m e (inl h) = zero_is true t m h
zero_digits t m e (inr h) = zero_is false t m h

-- whatever is shown of the zeros of the data type is shown of every zero
by_zero : (P : Float → Type 0) → ((t : Bool) (e : ℤ) → P (fin t 0 e)) → (x : Float) → Zero x → P x
by_zero P h nan (inl z) = clash z
by_zero P h nan (inr z) = clash z
by_zero P h (inf t) (inl z) = clash z
by_zero P h (inf t) (inr z) = clash z
by_zero P h (fin t m e) z = subst (λ (n : ℕ). P (fin t n e)) (sym (zero_digits t m e z)) (h t e)

-- ---- a zero taken off
zero_round : (s : Bool) (c : ℕ) → 0 < c → round binary32 s 0 c ≡ fin s 0 (pos 0)
unfolding count_trailing_zeros span climb size odd units round
zero_round s c h = round_same binary32 s 0 c 0 1 h (omega arith) (omega arith)

sum_zero : (t u : Bool) (a c : ℕ) → 0 < a → sum binary32 t a u 0 c ≡ round binary32 t a c
unfolding sum
sum_zero true true a c h = ap (λ (k : ℕ). round binary32 true k c) (omega arith)
sum_zero false false a c h = ap (λ (k : ℕ). round binary32 false k c) (omega arith)
sum_zero true false a c h =
    rw (le-ltb a 0 (omega arith), lt-ltb 0 a h) (ap (λ (k : ℕ). round binary32 true k c) (omega arith))
sum_zero false true a c h = rw (le-ltb a 0 (omega arith)) (ap (λ (k : ℕ). round binary32 false k c) (omega arith))

sum_nothing : (t u : Bool) (c : ℕ) → 0 < c → sum binary32 t 0 u 0 c ≡ fin (t && u) 0 (pos 0)
unfolding sum
sum_nothing true true c h = zero_round true c h
sum_nothing false false c h = zero_round false c h
sum_nothing true false c h = zero_round false c h
sum_nothing false true c h = zero_round false c h

-- from a number that isn't zero: the number, rounded, whichever zero it is
off_number : (t : Bool) (m : ℕ) (e : ℤ) (u : Bool) (d : ℤ)
    → fin t (suc m) e ⊖ fin u 0 d ≡ round binary32 t (suc m * up e) (down e)
unfolding sub add neg
off_number t m e u d =
    let z : 0 * up d * down e ≡ 0 = omega arith in
    let a : ℕ = suc m * up e * down d in
    let p : 0 < a = mul-pos (mul-pos {m = suc m} (omega arith) (up_pos e)) (down_pos d) in
    rw z (sum_zero t (not u) a (down e * down d) p
    ∙ round_same binary32 t a (down e * down d) (suc m * up e) (down e) (mul-pos (down_pos e) (down_pos d))
    (down_pos e) (omega arith))

-- from a zero: a zero
off_zero : (t : Bool) (e : ℤ) (u : Bool) (d : ℤ) → fin t 0 e ⊖ fin u 0 d ≡ fin (t && not u) 0 (pos 0)
unfolding sub add neg
off_zero t e u d =
    let z : 0 * up d * down e ≡ 0 = omega arith in
    let y : 0 * up e * down d ≡ 0 = omega arith in
    rw (z, y) (sum_nothing t (not u) (down e * down d) (mul-pos (down_pos e) (down_pos d)))

-- ---- the cut of a zero over a cell's size
zero_cut : (s : Bool) → cut (fin s 0 (pos 0)) ≡ 0
unfolding to_unsigned
zero_cut true = refl
zero_cut false = refl

over_is : (s t : Bool) (n : ℕ) (d : ℤ)
    → fin s 0 (pos 0) ⊘ fin t (suc n) d
    ≡ round binary32 (unlike s t) (0 * up (pos 0) * down d) (suc n * up d * down (pos 0))
unfolding div
over_is s t n d = rw (eqb-suc-zero n)

over_zero : (s t : Bool) (n : ℕ) (d : ℤ) → fin s 0 (pos 0) ⊘ fin t (suc n) d ≡ fin (unlike s t) 0 (pos 0)
over_zero s t n d =
    let z : 0 * up (pos 0) * down d ≡ 0 = omega arith in
    let p : 0 < suc n * up d * down (pos 0) =
    mul-pos (mul-pos {m = suc n} (omega arith) (up_pos d)) (down_pos (pos 0)) in
    over_is s t n d ∙ ap (λ (a : ℕ). round binary32 (unlike s t) a (suc n * up d * down (pos 0))) z
    ∙ zero_round (unlike s t) (suc n * up d * down (pos 0)) p

-- whatever is read off a quotient, if it is the same of a not-a-number and of both zeros
module _ {A : Type 0} (f : Float → A) (z : A) (of_nan : f nan ≡ z) (of_zero : (s : Bool) → f (fin s 0 (pos 0)) ≡ z) where
  over_read : (s : Bool) (size : Float) → f (fin s 0 (pos 0) ⊘ size) ≡ z
  unfolding div
  over_read s nan = of_nan
  over_read s (inf t) = of_zero (unlike s t)
  over_read s (fin t zero d) = of_nan
  over_read s (fin t (suc n) d) = ap f (over_zero s t n d) ∙ of_zero (unlike s t)

  quotient_zeros : (size v : Float) (t : Bool) (e : ℤ) (u : Bool) (d : ℤ)
      → f ((v ⊖ fin t 0 e) ⊘ size) ≡ f ((v ⊖ fin u 0 d) ⊘ size)
  unfolding sub add neg
  quotient_zeros size nan t e u d = refl
  quotient_zeros size (inf s) t e u d = refl
  quotient_zeros size (fin s zero i) t e u d =
      ap (λ (x : Float). f (x ⊘ size)) (off_zero s i t e) ∙ over_read (s && not t) size
      ∙ sym (ap (λ (x : Float). f (x ⊘ size)) (off_zero s i u d) ∙ over_read (s && not u) size)
  quotient_zeros size (fin s (suc m) i) t e u d =
      ap (λ (x : Float). f (x ⊘ size)) (off_number s m i t e ∙ sym (off_number s m i u d))

  pub quotient_alike : (size v l k : Float) → Alike l k → f ((v ⊖ l) ⊘ size) ≡ f ((v ⊖ k) ⊘ size)
  quotient_alike size v l k (inl e) = ap (λ (x : Float). f ((v ⊖ x) ⊘ size)) e
  quotient_alike size v l k (inr z) =
      by_zero (λ (x : Float). f ((v ⊖ x) ⊘ size) ≡ f ((v ⊖ k) ⊘ size))
      (λ t e. by_zero (λ (y : Float). f ((v ⊖ fin t 0 e) ⊘ size) ≡ f ((v ⊖ y) ⊘ size))
      (λ u d. quotient_zeros size v t e u d) k z.1) l z.0

pub cell_alike : (size v l k : Float) → Alike l k → cell_on size l v ≡ cell_on size k v
unfolding cell_on to_unsigned
cell_alike size v l k h = quotient_alike cut 0 refl zero_cut size v l k h

-- ---- the least coordinate
below_zero : (s : Bool) (m : ℕ) (e : ℤ) (t : Bool) (d : ℤ)
    → below s (m * up e * down d) t (0 * up d * down e) ≡ (s && not (eqb m 0))
below_zero true zero e true d =
    let y : 0 * up e * down d ≡ 0 = omega arith in let z : 0 * up d * down e ≡ 0 = omega arith in rw (y, z) refl
below_zero true zero e false d =
    let y : 0 * up e * down d ≡ 0 = omega arith in let z : 0 * up d * down e ≡ 0 = omega arith in rw (y, z) refl
below_zero true (suc m) e true d =
    let z : 0 * up d * down e ≡ 0 = omega arith in
    rw (z, eqb-suc-zero m)
    (lt-ltb 0 (suc m * up e * down d) (mul-pos (mul-pos {m = suc m} (omega arith) (up_pos e)) (down_pos d)))
below_zero true (suc m) e false d =
    let z : 0 * up d * down e ≡ 0 = omega arith in
    let p : 0 < suc m * up e * down d = mul-pos (mul-pos {m = suc m} (omega arith) (up_pos e)) (down_pos d) in
    rw (z, eqb-suc-zero m) (lt-ltb 0 (suc m * up e * down d + 0) (omega arith))
below_zero false m e true d = refl
below_zero false m e false d =
    let z : 0 * up d * down e ≡ 0 = omega arith in rw z (le-ltb (m * up e * down d) 0 (omega arith))

lt_zeros : (b : Float) (t : Bool) (e : ℤ) (u : Bool) (d : ℤ) → lt b (fin t 0 e) ≡ lt b (fin u 0 d)
unfolding lt
lt_zeros nan t e u d = refl
lt_zeros (inf s) t e u d = refl
lt_zeros (fin s m i) t e u d = below_zero s m i t e ∙ sym (below_zero s m i u d)

zero_of : (t : Bool) (e : ℤ) → Zero (fin t 0 e)
zero_of true e = inl refl
zero_of false e = inr refl

-- of a zero and b: b, or that zero
minimum_fin : (b : Float) (t : Bool) (e : ℤ) (u : Bool) (d : ℤ) → Alike (minimum (fin t 0 e) b) (minimum (fin u 0 d) b)
unfolding minimum is_nan
minimum_fin b t e u d = rw (lt_zeros b t e u d) (go (lt b (fin u 0 d)))
  where
    go : (l : Bool) → Alike (cond l b (fin t 0 e)) (cond l b (fin u 0 d))
    go true = inl refl
    go false = inr (zero_of t e, zero_of u d)

minimum_alike : (a k b : Float) → Alike a k → Alike (minimum a b) (minimum k b)
minimum_alike a k b (inl e) = inl (ap (λ (x : Float). minimum x b) e)
minimum_alike a k b (inr z) =
    by_zero (λ (x : Float). Alike (minimum x b) (minimum k b))
    (λ t e. by_zero (λ (y : Float). Alike (minimum (fin t 0 e) b) (minimum y b)) (λ u d. minimum_fin b t e u d) k
    z.1) a z.0

-- both of two unlike zeros are zeros
unlike_both : (a b : Float) → unlike_zeros a b ≡ true → Zero a × Zero b
unfolding unlike_zeros
unlike_both a b h = go (is_zero_of true a) (is_zero_of false b) (is_zero_of false a) (is_zero_of true b) refl refl refl refl h
  where
    go : (p q r s : Bool) → is_zero_of true a ≡ p → is_zero_of false b ≡ q → is_zero_of false a ≡ r → is_zero_of true b ≡ s
        → ((p && q) || (r && s)) ≡ true → Zero a × Zero b
    go true true r s e f g i k = (inl e, inr f)
    go true false true true e f g i k = (inl e, inl i)
    go true false true false e f g i k = clash k
    go true false false s e f g i k = clash k
    go false q true true e f g i k = (inr g, inl i)
    go false q true false e f g i k = clash k
    go false q false s e f g i k = clash k

alike_zero : (a k : Float) → Alike a k → Zero a → Zero k
alike_zero a k (inl e) z = subst Zero e z
alike_zero a k (inr y) z = y.1

module _ (m : Float → Float → Float) (some : UpToZeros minimum m) where
  -- one step: such a `min` and the scope's, of numbers that are alike
  step_alike : (a k b : Float) → Alike a k → Alike (m a b) (minimum k b)
  step_alike a k b h = go (unlike_zeros a b) refl
    where
      chosen : Zero a → Zero b → (m a b ≡ a) ⊎ (m a b ≡ b) → Zero (m a b)
      chosen za zb (inl e) = subst Zero (sym e) za
      chosen za zb (inr e) = subst Zero (sym e) zb

      go : (t : Bool) → unlike_zeros a b ≡ t → Alike (m a b) (minimum k b)
      go true e =
          let z = unlike_both a b e in
          inr (chosen z.0 z.1 (some.either a b e), minimum_either Zero k b (alike_zero a k h z.0) z.1)
      go false e = subst (λ (x : Float). Alike x (minimum k b)) (sym (some.else a b e)) (minimum_alike a k b h)

pub least_alike : (mins : ℕ → Float → Float → Float) → ((k : ℕ) → UpToZeros minimum (mins k))
    → (pts : List Float) (a k : Float) (at n : ℕ)
    → Alike a k → Alike (least_from_by mins pts a at n) (least_from pts k at n)
unfolding least_from_by least_from
least_alike mins some pts a k at zero h = h
least_alike mins some pts a k at (suc n) h =
    least_alike mins some pts (mins at a (get_or pts at nan)) (minimum k (get_or pts at nan)) (at + 3) n
    (step_alike (mins at) (some at) a k (get_or pts at nan) h)
