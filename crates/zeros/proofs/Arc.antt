-- No arc cosine is -0. Assumes nothing.
use Prim.Native.Nat.{ℕ, zero, suc, ◌+◌, ◌-◌, ◌/◌, ◌%◌, ◌≤◌, ◌<◌}
use native.Mathlib.Omega.{arith}
use native.Mathlib.Decide.{dec_lt}
use mathlib.Core.Path.{◌≡◌, refl, sym, subst}
use mathlib.Core.Bool.{Bool, true, false, true≢false, not, cond}
use lib.Dec.{T, eqb}
use lib.Ieee.{Float, nan, inf, fin, binary32, neg, lt, eq, le, fits, is_nan, odd, of_fields, of_bits, to_bits, prec, low}
use lib.Ieee.{hid, ones, top}
use lib.Ieee.Fits.{add-fits, sub-fits, mul-fits, nan-fits}
use lib.Ieee.Scale.{finite}
use lib.Ieee.Bits.{of_bits-to_bits, of_bits-fits}
use borrow.Author.Tests.{le-leb, lt-leb}
use Rattle.numbers.specs.Rounded.{f32, ◌⊕◌, ◌⊖◌, ◌⊗◌, ◌⊘◌}
use Rattle.numbers.specs.Root.{root}
use Rattle.numbers.specs.Acos.{R, abs, high_part, acos_middle, acos_low, acos_high, acos_inside, acos}
use Rattle.numbers.proofs.OrderLaws.{not_lt_le, le_trans, lt_le}
use Rattle.numbers.proofs.SumOrder.{sub_nonnegative}
use Rattle.spatial_hash.proofs.Squares.{root_good}
use Rattle.zeros.proofs.Clear.{Clear, unsigned_clear, add_clear, sub_clear, twice_clear, half_unsigned}
use Rattle.zeros.proofs.Clear.{clear_unsigned}
use Rattle.numbers.specs.Inner.Bounds.{unsigned}

-- an f32 that is not -0
abbrev pub Held : Float → Type 0
Held x = T (fits binary32 x) × Clear x

abbrev one : Float
one = f32 0x3f800000

abbrev H : Float
H = f32 0x3fc90fda

-- ---- what computes
nan_held : Held nan
nan_held = (nan-fits binary32, refl)

zero_held : Held (f32 0)
unfolding of_bits
zero_held = (of_bits-fits binary32 0, refl)

H-held : Held H
unfolding of_bits
H-held = (of_bits-fits binary32 0x3fc90fda, refl)

one_held : Held one
unfolding of_bits
one_held = (of_bits-fits binary32 0x3f800000, refl)

one_number : T (not (is_nan one))
unfolding of_bits is_nan
one_number = tt

one_finite : T (finite one)
unfolding of_bits
one_finite = tt

zero_one : T (le (f32 0) one)
unfolding le lt eq of_bits
zero_one = tt

-- ---- the sign in the bits
-- a not-a-number, or a number with the sign s
abbrev Signed : Bool → Float → Type 0
Signed s nan = Unit {0}
Signed s (inf t) = s ≡ t
Signed s (fin t m e) = s ≡ t

odd_signed : (d : ℕ) (s : Bool) (q k l : ℕ) → Signed s (odd d s q k l)
unfolding odd
odd_signed d s zero k l = refl
odd_signed d s (suc q) k l = refl

signed_cond : (s b : Bool) (x y : Float) → Signed s x → Signed s y → Signed s (cond b x y)
signed_cond s true x y h k = h
signed_cond s false x y h k = k

fields_signed : (s : Bool) (x t : ℕ) → Signed s (of_fields binary32 s x t)
unfolding of_fields
fields_signed s zero t = odd_signed (prec binary32) s t 0 (low binary32)
fields_signed s (suc x) t =
    signed_cond s (eqb (suc x) (ones binary32)) (cond (eqb t 0) (inf s) nan)
    (odd (prec binary32) s (hid binary32 + t) x (low binary32))
    (signed_cond s (eqb t 0) (inf s) nan refl tt) (odd_signed (prec binary32) s (hid binary32 + t) x (low binary32))

low_signed : (b : ℕ) → b < 0x80000000 → Signed false (of_bits binary32 b)
unfolding of_bits
low_signed b h = rw (lt-leb 0x80000000 b h) (fields_signed false (b % top binary32 / hid binary32) (b % hid binary32))

high_signed : (b : ℕ) → 0x80000000 ≤ b → Signed true (of_bits binary32 b)
unfolding of_bits
high_signed b h = rw (le-leb 0x80000000 b h) (fields_signed true (b % top binary32 / hid binary32) (b % hid binary32))

signed_clear : (x : Float) → Signed false x → Clear x
signed_clear nan h = refl
signed_clear (inf t) h = refl
signed_clear (fin true m e) h = absurd (true≢false (sym h))
signed_clear (fin false m e) h = refl

signed_minus : (x : Float) → Signed true x → T (unsigned x) → ⊥
signed_minus nan h u = u
signed_minus (inf true) h u = u
signed_minus (inf false) h u = true≢false h
signed_minus (fin true m e) h u = u
signed_minus (fin false m e) h u = true≢false h

-- the low bits cleared
cleared_held : (s : Float) → T (fits binary32 s) → T (unsigned s) → Held (high_part s)
unfolding high_part
cleared_held s f u = go (is_nan s)
  where
    b : ℕ
    b = to_bits binary32 s

    small : Dec (b < 0x80000000) → b < 0x80000000
    small (yes l) = l
    small (no l) =
        absurd (signed_minus s (subst (Signed true) (of_bits-to_bits binary32 s f) (high_signed b (omega arith))) u)

    go : (n : Bool) → Held (cond n s (f32 (b - b % 4096)))
    go true = (f, unsigned_clear s u)
    go false =
        let l = small (dec_lt b 0x80000000) in (
          of_bits-fits binary32 (b - b % 4096),
          signed_clear (f32 (b - b % 4096))
              (low_signed (b - b % 4096) (omega arith)),
        )

-- ---- the cases
middle_held : (v : Float) → Held (acos_middle v)
unfolding acos_middle
middle_held v =
    let w : Float = v ⊖ (f32 0x33a22168 ⊖ v ⊗ R (v ⊗ v)) in (
      sub-fits binary32 H w,
      sub_clear H w H-held.0 (sub-fits binary32 v (f32 0x33a22168 ⊖ v ⊗ R (v ⊗ v)))
          H-held.1,
    )

low_held : (v : Float) → Held (acos_low v)
unfolding acos_low
low_held v =
    let z : Float = (one ⊕ v) ⊗ f32 0x3f000000 in
    let s : Float = root z in
    let t : Float = R z ⊗ s ⊖ f32 0x33a22168 in
    let d : Float = H ⊖ (s ⊕ t) in (
      mul-fits binary32 (f32 0x40000000) d,
      twice_clear d (sub-fits binary32 H (s ⊕ t))
          (sub_clear H (s ⊕ t) H-held.0 (add-fits binary32 s t) H-held.1),
    )

high_held : (v : Float) → T (fits binary32 v) → T (finite v) → T (le v one) → Held (acos_high v)
unfolding acos_high
high_held v f g l =
    let u : Float = one ⊖ v in
    let z : Float = u ⊗ f32 0x3f000000 in
    let s : Float = root z in
    let d : Float = high_part s in
    let c : Float = (z ⊖ d ⊗ d) ⊘ (s ⊕ d) in
    let w : Float = R z ⊗ s ⊕ c in
    let positive = clear_unsigned u (sub_nonnegative one v one_finite g l)
    (sub_clear one v one_held.0 f one_held.1) in
    let good = root_good z (mul-fits binary32 u (f32 0x3f000000), half_unsigned u positive) in
    let h = cleared_held s good.0 good.1 in (
      mul-fits binary32 (f32 0x40000000) (d ⊕ w),
      twice_clear (d ⊕ w) (add-fits binary32 d w)
          (add_clear d w h.0 (add-fits binary32 (R z ⊗ s) c) h.1),
    )

-- between -1 and 1
abs_finite : (v : Float) → T (not (is_nan v)) → lt one (abs v) ≡ false → T (finite v)
unfolding abs lt of_bits is_nan neg
abs_finite nan n e = n
abs_finite (inf true) n e = absurd (true≢false e)
abs_finite (inf false) n e = absurd (true≢false e)
abs_finite (fin s m i) n e = tt

abs_most : (v : Float) → T (not (is_nan v)) → lt one (abs v) ≡ false → T (le v one)
unfolding abs
abs_most v n e = go (lt v (f32 0)) refl e
  where
    go : (b : Bool) → lt v (f32 0) ≡ b → lt one (cond b (neg v) v) ≡ false → T (le v one)
    go true h k = le_trans v (f32 0) one (lt_le v (f32 0) (subst T (sym h) tt)) zero_one
    go false h k = not_lt_le one v one_number n (subst (λ (b : Bool). T (not b)) (sym k) tt)

inside_held : (v : Float) → T (fits binary32 v) → T (not (is_nan v)) → Held (acos_inside v)
unfolding acos_inside
inside_held v f n =
    go (lt one (abs v)) (le (abs v) (f32 0x32800000)) (lt (abs v) (f32 0x3f000000)) (le v (neg (f32 0x3f000000))) refl
  where
    go : (a b c d : Bool) → lt one (abs v) ≡ a
        → Held (cond a nan (cond b H (cond c (acos_middle v) (cond d (acos_low v) (acos_high v)))))
    go true b c d e = nan_held
    go false true c d e = H-held
    go false false true d e = middle_held v
    go false false false true e = low_held v
    go false false false false e = high_held v f (abs_finite v n e) (abs_most v n e)

pub acos_held : (v : Float) → T (fits binary32 v) → Held (acos v)
unfolding acos
acos_held v f = go (is_nan v) (eq v one) (eq v (neg one)) refl
  where
    go : (a b c : Bool) → is_nan v ≡ a → Held (cond a nan (cond b (f32 0) (cond c (f32 0x40000000 ⊗ H) (acos_inside v))))
    go true b c e = nan_held
    go false true c e = zero_held
    go false false true e = (mul-fits binary32 (f32 0x40000000) H, twice_clear H H-held.0 H-held.1)
    go false false false e = inside_held v f (subst (λ (b : Bool). T (not b)) (sym e) tt)
