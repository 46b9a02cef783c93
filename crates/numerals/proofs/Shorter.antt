-- What is parsed takes at least a byte: fewer are left. Assumes nothing.
use mathlib.Core.Path.{◌≡◌, refl}
use mathlib.Core.Bool.{Bool, true, false, cond}
use mathlib.Core.List.{List, [], ◌∷◌}
use Prim.Native.Nat.{ℕ, suc, ◌-◌, ◌≤◌, ◌<◌}
use native.Mathlib.Omega.{arith}
use lib.ListN.{length, drop, length-drop}
use Rattle.decimals.specs.Decimal.{decimal}
use Rattle.numerals.specs.Format.{Parsed, parsed, malformed, then, starts_with, is_digit, digits, few, fraction, unsigned_number, number}
use Rattle.numerals.proofs.Numeral.{few_most}

-- fewer than n bytes are left
abbrev pub Below : {A : Type 0} → ℕ → Parsed A → Type 0
Below n (parsed a rest) = length rest < n
Below n malformed = Unit

module _ {A : Type 0} where
  pub below_more : (m n : ℕ) (p : Parsed A) → m ≤ n → Below m p → Below n p
  below_more m n (parsed a rest) h b = omega arith
  below_more m n malformed h b = tt

  pub below_cond : (n : ℕ) (t : Bool) (p q : Parsed A) → (t ≡ true → Below n p) → Below n q → Below n (cond t p q)
  below_cond n true p q a b = a refl
  below_cond n false p q a b = b

pub below_then : {A B : Type 0} (n : ℕ) (p : Parsed A) (f : A → List ℕ → Parsed B) → Below n p
    → ((a : A) (rest : List ℕ) → length rest < n → Below n (f a rest)) → Below n (then p f)
unfolding then
below_then n (parsed a rest) f b go = go a rest b
below_then n malformed f b go = tt

pub digits_within : (bs : List ℕ) → digits bs ≤ length bs
unfolding digits
digits_within [] = omega arith
digits_within (b ∷ bs) = go (is_digit b) (digits_within bs)
  where
    go : (t : Bool) → digits bs ≤ length bs → cond t (suc (digits bs)) 0 ≤ suc (length bs)
    go true h = omega arith
    go false h = omega arith

fraction_below : (negative : Bool) (units : ℕ) (bs : List ℕ) → Below (suc (length bs)) (fraction negative units bs)
unfolding fraction
fraction_below negative units bs =
    let places = digits (drop 1 bs) in
    let left : length (drop places (drop 1 bs)) < suc (length bs) = simp length-drop (omega arith) in
    below_cond (suc (length bs)) (starts_with 46 bs) (cond (few places 6) (parsed (decimal negative units _ places) (drop places (drop 1 bs))) malformed)
    (parsed (decimal negative units 0 0) bs)
    (λ _. below_cond (suc (length bs)) (few places 6) (parsed (decimal negative units _ places) (drop places (drop 1 bs))) malformed (λ _. left) tt)
    (omega arith)

magnitude_below : (negative : Bool) (bs : List ℕ) → Below (length bs) (unsigned_number negative bs)
unfolding unsigned_number
magnitude_below negative bs =
    let count = digits bs in
    let within : digits bs ≤ length bs = digits_within bs in
    below_cond (length bs) (few count 5) (fraction negative _ (drop count bs)) malformed
    (λ e. let some = few_most count 5 e in
    let len : length (drop count bs) ≡ length bs - count = length-drop count bs in
    below_more (suc (length (drop count bs))) (length bs) (fraction negative _ (drop count bs)) (omega arith) (fraction_below negative _ (drop count bs)))
    tt

pub number_below : (bs : List ℕ) → Below (length bs) (number bs)
unfolding number
number_below bs =
    let len : length (drop 1 bs) ≡ length bs - 1 = length-drop 1 bs in
    below_cond (length bs) (starts_with 45 bs) (unsigned_number true (drop 1 bs)) (unsigned_number false bs)
    (λ _. below_more (length (drop 1 bs)) (length bs) (unsigned_number true (drop 1 bs)) (omega arith) (magnitude_below true (drop 1 bs)))
    (magnitude_below false bs)

-- what is shorter than shorter bytes is shorter
pub next_below : {A : Type 0} (f : List ℕ → Parsed A) → ((bs : List ℕ) → Below (length bs) (f bs)) → (n : ℕ) (rest : List ℕ) → length rest < n
    → Below n (f rest)
next_below f below n rest h = below_more (length rest) n (f rest) (omega arith) (below rest)
