-- Whatever is read of a number's bytes is the f32 nearest to the decimal that they write. Assumes nothing.
use Prim.Native.Nat.{ℕ, suc, ◌+◌, ◌-◌, ◌*◌, ◌^◌, ◌≤◌, ◌<◌}
use native.Mathlib.Omega.{arith}
use native.Mathlib.Nat.{mul-le-mul_right, pow-suc}
use mathlib.Core.Path.{◌≡◌, refl, sym, ap, ◌∙◌, subst}
use mathlib.Core.Bool.{Bool, true, false, cond}
use mathlib.Core.List.{List, [], ◌∷◌, ◌++◌}
use lib.Dec.{leb}
use lib.ListN.{length, take, drop, length-take}
use lib.Ieee.{Float, binary32, neg, to_bits}
use borrow.Author.Tests.{leb-true}
use Rattle.decimals.specs.Decimal.{decimal}
use Rattle.decimals.specs.Nearest.{Nearest, Alone, NotSubnormal}
use Rattle.decimals.specs.Inner.Ready.{Decimal}
use Rattle.decimals.proofs.Decimal.{decimal_nearest, decimal_alone, decimal_normal}
use Rattle.numerals.specs.Format.{Parsed, parsed, malformed, is_digit, starts_with, digits, few, digits_value, fraction}
use Rattle.numerals.specs.Format.{unsigned_number, number}
use Rattle.numerals.proofs.Bytes.{both}
use Rattle.numerals.proofs.Numeral.{few_most, below_power}
use Rattle.numerals.proofs.Shorter.{digits_within}
use Rattle.written.specs.Written.{behind_minus, fraction_of, numerator, denominator}
use Rattle.written.specs.Written.{NumberNearest}

-- ---- digits
more : (v d t x : ℕ) → d ≤ 9 → x < (v * 10 + d + 1) * t → x < (v + 1) * (t * 10)
more v d t x h l =
    let k : (v * 10 + d + 1) * t ≤ (v * 10 + 10) * t = mul-le-mul_right t (omega arith) in
    omega arith

-- what so many digits write is small
digits_small : (bs : List ℕ) (v : ℕ) → digits_value v (take (digits bs) bs) < (v + 1) * 10 ^ digits bs
unfolding digits digits_value
digits_small [] v = omega arith
digits_small (b ∷ bs) v = go (is_digit b) refl (digits_small bs (v * 10 + (b - 48)))
  where
    go : (t : Bool) → is_digit b ≡ t
        → digits_value (v * 10 + (b - 48)) (take (digits bs) bs) < (v * 10 + (b - 48) + 1) * 10 ^ digits bs
        → digits_value v (take (cond t (suc (digits bs)) 0) (b ∷ bs)) < (v + 1) * 10 ^ cond t (suc (digits bs)) 0
    go true e ih =
        let h = both (leb 48 b) (leb b 57) e in
        let high = leb-true b 57 h.1 in
        rw (pow-suc 10 (digits bs)) (more v (b - 48) (10 ^ digits bs) _ (omega arith) ih)
    go false e ih = omega arith

small : (bs : List ℕ) → digits_value 0 (take (digits bs) bs) < 10 ^ digits bs
small bs = let h = digits_small bs 0 in omega arith

as_many : (bs : List ℕ) → length (take (digits bs) bs) ≡ digits bs
as_many bs = let h = digits_within bs in length-take (digits bs) bs ∙ omega arith

-- digits behind digits
value_append : (v : ℕ) (xs ys : List ℕ) → digits_value v (xs ++ ys) ≡ digits_value (digits_value v xs) ys
unfolding digits_value
value_append v [] ys = refl
value_append v (x ∷ xs) ys = value_append (v * 10 + (x - 48)) xs ys

value_shift : (v : ℕ) (ys : List ℕ) → digits_value v ys ≡ v * 10 ^ length ys + digits_value 0 ys
unfolding digits_value
value_shift v [] = omega arith
value_shift v (y ∷ ys) =
    let d : ℕ = y - 48 in
    let t : ℕ = 10 ^ length ys in
    let a = value_shift (v * 10 + d) ys in
    let b = value_shift (0 * 10 + d) ys in
    let p : 10 ^ suc (length ys) ≡ t * 10 = pow-suc 10 (length ys) in
    rw p (shifted v d t (digits_value 0 ys) (digits_value (v * 10 + d) ys) (digits_value (0 * 10 + d) ys) a b)
  where
    shifted : (v d t z x y : ℕ) → x ≡ (v * 10 + d) * t + z → y ≡ (0 * 10 + d) * t + z → x ≡ v * (t * 10) + y
    shifted v d t z x y a b = omega arith

-- ---- what was read
value : Parsed Float → Float → Float
value (parsed v rest) d = v
value malformed d = d

no_number : {v : Float} {rest : List ℕ} → malformed ≡ parsed v rest → ⊥
no_number {v} {rest} q = subst bad q tt
  where
    bad : Parsed Float → Type 0
    bad (parsed a l) = ⊥
    bad malformed = Unit {0}

-- with the digits ds behind the point
record Read (negative : Bool) (units : ℕ) (ds : List ℕ) (v : Float) : Type 0 where
  is : v ≡ decimal negative units (digits_value 0 ds) (length ds)
  parts_small : digits_value 0 ds < 10 ^ length ds
  places_few : length ds ≤ 6

module _ (negative : Bool) (units : ℕ) (bs : List ℕ) (v : Float) (rest : List ℕ) where
  fraction_read : fraction negative units bs ≡ parsed v rest → Read negative units (fraction_of bs) v
  unfolding fraction value digits_value
  fraction_read h = go (starts_with 46 bs) refl h
    where
      places : ℕ
      places = digits (drop 1 bs)

      ds : List ℕ
      ds = take places (drop 1 bs)

      fewer : (f : Bool) → few places 6 ≡ f → starts_with 46 bs ≡ true
          → cond f (parsed (decimal negative units (digits_value 0 ds) places) (drop places (drop 1 bs))) malformed ≡ parsed v rest
          → Read negative units (fraction_of bs) v
      fewer true e dot q =
          let n : length ds ≡ places = as_many (drop 1 bs) in
          let is : v ≡ decimal negative units (digits_value 0 ds) places = sym (ap (λ (p : Parsed Float). value p v) q) in
          let s : digits_value 0 ds < 10 ^ places = small (drop 1 bs) in
          let l : places ≤ 6 = (few_most places 6 e).1 in
          subst (λ (l : List ℕ). Read negative units l v) (ap (λ (b : Bool). cond b ds []) (sym dot))
          (record { is = rw n is; parts_small = rw n s; places_few = rw n l })
      fewer false e dot q = absurd (no_number q)

      go : (t : Bool) → starts_with 46 bs ≡ t
          → cond t (cond (few places 6) (parsed (decimal negative units (digits_value 0 ds) places) (drop places (drop 1 bs))) malformed)
          (parsed (decimal negative units 0 0) bs) ≡ parsed v rest
          → Read negative units (fraction_of bs) v
      go true e q = fewer (few places 6) refl e q
      go false e q =
          let is : v ≡ decimal negative units 0 0 = sym (ap (λ (p : Parsed Float). value p v) q) in
          subst (λ (l : List ℕ). Read negative units l v) (ap (λ (b : Bool). cond b ds []) (sym e))
          (record { is = is; parts_small = omega arith; places_few = omega arith })

module _ (negative : Bool) (bs : List ℕ) (v : Float) where
  abbrev units : ℕ
  units = digits_value 0 (take (digits bs) bs)

  abbrev behind : List ℕ
  behind = drop (digits bs) bs

  record Whole : Type 0 where
    few_units : few (digits bs) 5 ≡ true
    read : Read negative units (fraction_of behind) v

  whole_read : (rest : List ℕ) → unsigned_number negative bs ≡ parsed v rest → Whole
  unfolding unsigned_number
  whole_read rest h = go (few (digits bs) 5) refl h
    where
      go : (t : Bool) → few (digits bs) 5 ≡ t → cond t (fraction negative units behind) malformed ≡ parsed v rest → Whole
      go true e q = record { few_units = e; read = fraction_read negative units behind v rest q }
      go false e q = absurd (no_number q)

-- ---- the claim, of what stands behind the sign
module _ (negative : Bool) (bs : List ℕ) (v : Float) (w : Whole negative bs v) where
  abbrev ds : List ℕ
  ds = fraction_of (drop (digits bs) bs)

  abbrev us : List ℕ
  us = take (digits bs) bs

  parts : Decimal (digits_value 0 us) (digits_value 0 ds) (length ds)
  parts = record {
    units_small = below_power (digits_value 0 us) (digits bs) 5 (small bs) w.few_units;
    parts_small = w.read.parts_small;
    places_few = w.read.places_few;
  }

  together : digits_value 0 us * 10 ^ length ds + digits_value 0 ds ≡ digits_value 0 (us ++ ds)
  together = sym (value_append 0 us ds ∙ value_shift (digits_value 0 us) ds)

  abbrev size : Float
  size = decimal false (digits_value 0 us) (digits_value 0 ds) (length ds)

  with_sign : (b : Bool) → negative ≡ b → v ≡ cond b (neg size) size
  unfolding decimal
  with_sign b e =
      w.read.is
      ∙ ap (λ (n : Bool). decimal n (digits_value 0 us) (digits_value 0 ds) (length ds)) e

  near : Nearest (digits_value 0 (us ++ ds)) (10 ^ length ds) (to_bits binary32 size)
  near = subst (λ (m : ℕ). Nearest m (10 ^ length ds) (to_bits binary32 size)) together
      (decimal_nearest (digits_value 0 us) (digits_value 0 ds) (length ds) parts)

  apart : Alone (digits_value 0 (us ++ ds)) (10 ^ length ds) (to_bits binary32 size)
  apart = subst (λ (m : ℕ). Alone m (10 ^ length ds) (to_bits binary32 size)) together
      (decimal_alone (digits_value 0 us) (digits_value 0 ds) (length ds) parts)

  usual : NotSubnormal (to_bits binary32 size)
  usual = decimal_normal (digits_value 0 us) (digits_value 0 ds) (length ds) parts

number_is : (bs : List ℕ) (t : Bool) → starts_with 45 bs ≡ t → number bs ≡ unsigned_number t (cond t (drop 1 bs) bs)
unfolding number
number_is bs true e = rw e
number_is bs false e = rw e

pub number_nearest : NumberNearest
unfolding numerator denominator
number_nearest bs v rest h =
    let t : Bool = starts_with 45 bs in
    let w = whole_read t (behind_minus bs) v rest (sym (number_is bs t refl) ∙ h) in
    record {
      x = size t (behind_minus bs) v w;
      signed = with_sign t (behind_minus bs) v w t refl;
      nearest = near t (behind_minus bs) v w;
      alone = apart t (behind_minus bs) v w;
      normal = usual t (behind_minus bs) v w;
    }
