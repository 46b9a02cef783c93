-- The greatest common divisor: what it is, that there is one only, and that it grows with the numbers. Assumes nothing.
use mathlib.Core.Path.{◌≡◌, refl, sym, ap, subst}
use mathlib.Core.Bool.{Bool, true, false}
use Prim.Native.Nat.{ℕ, zero, suc, ◌+◌, ◌*◌, ◌/◌, ◌%◌, ◌<◌, ◌∣◌}
use native.Mathlib.Nat.{dvd_refl, dvd-zero, dvd-mod_iff, dvd_antisymm, dvd-mul_right_of_dvd, dvd-add_iff_right, mul-dvd-mul_left, mod-lt, div-add-mod'}
use native.Mathlib.Omega.{arith}
use borrow.Author.Tests.{eqb-true, eqb-false}
use lib.Dec.{eqb}
use Rattle.fractions.specs.Terms.{Greatest, euclid, greatest_divisor}

pub above_zero : (n : ℕ) → (n ≡ 0 → ⊥) → 0 < n
above_zero n h = omega arith

pub at_zero : (a b : ℕ) → b ≡ 0 → Greatest a b a
at_zero a b e = record {
  left = dvd_refl a;
  right = subst (λ (n : ℕ). a ∣ n) (sym e) (dvd-zero a);
  all = λ d x y. x;
}

-- Euclid's step
pub step : (a b g : ℕ) → Greatest b (a % b) g → Greatest a b g
step a b g r = record {
  left = (dvd-mod_iff g r.left).0 r.right;
  right = r.left;
  all = λ d x y. r.all d y ((dvd-mod_iff d y).1 x);
}

after_step : (k a b : ℕ) → (a % b < k → Greatest b (a % b) (euclid k b (a % b))) → b < suc k → (t : Bool) → eqb b 0 ≡ t
    → Greatest a b (elim t [ true ↦ a | false ↦ euclid k b (a % b) ])
after_step k a b r h true e = at_zero a b (eqb-true b 0 e)
after_step k a b r h false e =
    let l : a % b < b = mod-lt a (above_zero b (eqb-false b 0 e)) in
    step a b _ (r (omega arith))

euclid_is : (k a b : ℕ) → b < k → Greatest a b (euclid k a b)
unfolding euclid
euclid_is zero a b h = absurd (omega arith)
euclid_is (suc k) a b h = after_step k a b (euclid_is k b (a % b)) h (eqb b 0) refl

pub greatest_is : (a b : ℕ) → Greatest a b (greatest_divisor a b)
unfolding greatest_divisor
greatest_is a b = euclid_is _ a b (omega arith)

only : (a b g h : ℕ) → Greatest a b g → Greatest a b h → g ≡ h
only a b g h x y = dvd_antisymm (y.all g x.left x.right) (x.all h y.left y.right)

pub greatest_only : (a b g : ℕ) → Greatest a b g → g ≡ greatest_divisor a b
greatest_only a b g x = only a b g (greatest_divisor a b) x (greatest_is a b)

-- what divides multiples of both divides that multiple of the rest
rest_too : (a b c d : ℕ) → d ∣ c * a → d ∣ c * b → d ∣ c * (a % b)
rest_too a b c d x y =
    let whole : c * b * (a / b) + c * (a % b) ≡ c * a = omega (arith, ap (λ (n : ℕ). c * n) (div-add-mod' a b)) in
    (dvd-add_iff_right d (dvd-mul_right_of_dvd d y (a / b))).1 (subst (λ (n : ℕ). d ∣ n) (sym whole) x)

times_step : (k a b c d : ℕ) → (d ∣ c * b → d ∣ c * (a % b) → d ∣ c * euclid k b (a % b)) → d ∣ c * a → d ∣ c * b → (t : Bool)
    → d ∣ c * elim t [ true ↦ a | false ↦ euclid k b (a % b) ]
times_step k a b c d r x y true = x
times_step k a b c d r x y false = r y (rest_too a b c d x y)

times : (k a b c d : ℕ) → d ∣ c * a → d ∣ c * b → d ∣ c * euclid k a b
unfolding euclid
times zero a b c d x y = x
times (suc k) a b c d x y = times_step k a b c d (times k b (a % b) c d) x y (eqb b 0)

pub greatest_times : (a b c : ℕ) → greatest_divisor (c * a) (c * b) ≡ c * greatest_divisor a b
unfolding greatest_divisor
greatest_times a b c =
    let g = greatest_is a b in
    sym (greatest_only (c * a) (c * b) (c * greatest_divisor a b) (record {
      left = mul-dvd-mul_left (greatest_divisor a b) c g.left;
      right = mul-dvd-mul_left (greatest_divisor a b) c g.right;
      all = λ d x y. times (suc b) a b c d x y;
    }))
