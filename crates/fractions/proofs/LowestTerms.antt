-- Lowest terms: they are what they are called, no other fraction is, and equal fractions have the same. Assumes
-- nothing.
use mathlib.Core.Path.{◌≡◌, sym, ap, subst, ◌∙◌}
use Prim.Native.Nat.{ℕ, ◌*◌, ◌/◌, ◌<◌, ◌∣◌}
use native.Mathlib.Nat.{dvd-mul_right, div-mul_cancel, mul-dvd-mul_right, dvd_of_mul-dvd-mul_right, eq-one_of_dvd-one, pos_of_dvd_of_pos, one-mul, mul_comm}
use native.Mathlib.Nat.{mul-div-mul_left, div-one}
use native.Mathlib.Omega.{arith}
use Rattle.fractions.specs.declared.Fraction.{Fraction}
use Rattle.fractions.specs.Terms.{Lowest, Greatest, greatest_divisor, lowest}
use Rattle.fractions.proofs.Divisors.{greatest_is, greatest_times}

fraction : {a b c d : ℕ} → a ≡ c → b ≡ d → ◌≡◌ {A = Fraction} (record { numerator = a; denominator = b }) (record { numerator = c; denominator = d })
fraction x y = λ i. record { numerator = x i; denominator = y i }

pub divisor : (a b : ℕ) → 0 < b → 0 < greatest_divisor a b
divisor a b some = pos_of_dvd_of_pos (greatest_is a b).right some

module _ (a b : ℕ) (some : 0 < b) where
  abbrev g : ℕ
  g = greatest_divisor a b

  first : a / g * g ≡ a
  first = div-mul_cancel g (greatest_is a b).left

  second : b / g * g ≡ b
  second = div-mul_cancel g (greatest_is a b).right

  value : a * (b / g) ≡ a / g * b
  value = omega (arith, ap (λ (x : ℕ). x * (b / g)) first, ap (λ (x : ℕ). x * (a / g)) second)

  left : 0 < b / g
  left = pos_of_dvd_of_pos (dvd-mul_right (b / g) g) (subst (λ (n : ℕ). 0 < n) (sym second) some)

  one : (d : ℕ) → d ∣ a / g → d ∣ b / g → d ≡ 1
  one d x y =
      let h : d * g ∣ g = (greatest_is a b).all (d * g) (subst (λ (n : ℕ). d * g ∣ n) first (mul-dvd-mul_right d x g))
      (subst (λ (n : ℕ). d * g ∣ n) second (mul-dvd-mul_right d y g)) in
      eq-one_of_dvd-one (dvd_of_mul-dvd-mul_right d (divisor a b some) (subst (λ (n : ℕ). d * g ∣ n) (sym (one-mul g)) h))

  pub lowest_terms : Lowest a b (lowest a b)
  unfolding lowest
  lowest_terms = record { value = value; some = left; terms = λ d l x y. let e = one d x y in omega arith }

lowest_times : (a b c : ℕ) → 0 < c → lowest (c * a) (c * b) ≡ lowest a b
unfolding lowest
lowest_times a b c h =
    let e = greatest_times a b c in
    fraction (ap (λ (n : ℕ). c * a / n) e ∙ mul-div-mul_left a (greatest_divisor a b) h)
    (ap (λ (n : ℕ). c * b / n) e ∙ mul-div-mul_left b (greatest_divisor a b) h)

-- fractions of one value, by the cross product
pub lowest_same : (a b c d : ℕ) → 0 < b → 0 < d → a * d ≡ c * b → lowest a b ≡ lowest c d
lowest_same a b c d x y e =
    let n : d * a ≡ b * c = omega arith in
    sym (lowest_times a b d y) ∙ (λ i. lowest (n i) (mul_comm d b i)) ∙ lowest_times c d b x

already : (f : Fraction) → 0 < f.denominator → ((d : ℕ) → 1 < d → d ∣ f.numerator → d ∣ f.denominator → ⊥) → lowest f.numerator f.denominator ≡ f
unfolding lowest
already f some terms =
    let g = greatest_divisor f.numerator f.denominator in
    let is : Greatest f.numerator f.denominator g = greatest_is f.numerator f.denominator in
    let low : 0 < g = divisor f.numerator f.denominator some in
    let high : 1 < g → ⊥ = λ l. terms g l is.left is.right in
    let one : g ≡ 1 = omega arith in
    fraction (ap (λ (n : ℕ). f.numerator / n) one ∙ div-one f.numerator) (ap (λ (n : ℕ). f.denominator / n) one ∙ div-one f.denominator)

-- the one fraction in lowest terms with that value
pub lowest_only : (a b : ℕ) (f : Fraction) → 0 < b → Lowest a b f → f ≡ lowest a b
lowest_only a b f some l =
    sym (already f l.some l.terms) ∙ sym (lowest_same a b f.numerator f.denominator some l.some l.value)
