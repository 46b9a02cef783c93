-- Lowest terms, and what the words mean. Definitions only. `d ∣ n` is the library's: n is a multiple of d.
use Rattle.std.specs.Prelude.{◌≡◌, true, false, ℕ, zero, suc, ◌*◌, ◌/◌, ◌%◌, ◌<◌, eqb}
use Rattle.std.specs.Int.{◌∣◌}
use Rattle.fractions.specs.declared.Fraction.{Fraction}

-- Euclid's algorithm, at most so many steps
unfoldable pub euclid : ℕ → ℕ → ℕ → ℕ
euclid zero a b = a
euclid (suc steps) a b = elim (eqb b 0) [ true ↦ a | false ↦ euclid steps b (a % b) ]

-- the greatest common divisor; the second number falls at each step
unfoldable pub greatest_divisor : ℕ → ℕ → ℕ
greatest_divisor a b = euclid (suc b) a b

-- a / b in lowest terms
unfoldable pub lowest : ℕ → ℕ → Fraction
lowest a b = record { numerator = a / greatest_divisor a b; denominator = b / greatest_divisor a b }

-- what a greatest common divisor is: g divides both, and whatever divides both divides g
pub record Greatest (a b g : ℕ) : Type 0 where
  pub left : g ∣ a
  pub right : g ∣ b
  pub all : (d : ℕ) → d ∣ a → d ∣ b → d ∣ g

-- what lowest terms are: the same value, by the cross product, and no number above 1 divides both
pub record Lowest (a b : ℕ) (f : Fraction) : Type 0 where
  pub value : a * f.denominator ≡ f.numerator * b
  pub some : 0 < f.denominator
  pub terms : (d : ℕ) → 1 < d → d ∣ f.numerator → d ∣ f.denominator → ⊥
