-- Laws of a number's decimal digits. Assumes nothing.
use mathlib.Core.Path.{◌≡◌, refl, sym, ap, ◌∙◌, subst}
use mathlib.Core.Bool.{Bool, true, false}
use mathlib.Core.List.{List, [], ◌∷◌, ◌++◌}
use Prim.Native.Nat.{ℕ, zero, suc, ◌+◌, ◌*◌, ◌/◌, ◌%◌, ◌^◌, ◌≤◌, ◌<◌}
use native.Mathlib.Omega.{arith}
use native.Mathlib.Nat.{pow-suc}
use borrow.Author.Tests.{lt-ltb, le-ltb, ltb-true, ltb-false}
use lib.Dec.{ltb}
use lib.ListN.{length, length-append}
use Rattle.listing.specs.Listing.{spelled, digits_of, field_text}
use Rattle.listing.specs.Inner.Ready.{PutBytes}
use Rattle.listing.proofs.Puts.{put_then}

spelled_small : (fuel n : ℕ) → n < 10 → spelled (suc fuel) n ≡ (48 + n) ∷ []
unfolding spelled
spelled_small fuel n h = rw (lt-ltb n 10 h)

spelled_more : (fuel n : ℕ) → 10 ≤ n → spelled (suc fuel) n ≡ spelled fuel (n / 10) ++ ((48 + n % 10) ∷ [])
unfolding spelled
spelled_more fuel n h = rw (le-ltb n 10 h)

-- the fuel does not matter where there is enough of it
spelled_same : (f g n : ℕ) → n < f → n < g → spelled f n ≡ spelled g n
spelled_same zero g n h k = absurd (omega arith)
spelled_same (suc f) zero n h k = absurd (omega arith)
spelled_same (suc f) (suc g) n h k = go (ltb n 10) refl (λ m a b. spelled_same f g m a b)
  where
    go : (t : Bool) → ltb n 10 ≡ t → ((m : ℕ) → m < f → m < g → spelled f m ≡ spelled g m) → spelled (suc f) n ≡ spelled (suc g) n
    go true e rec = spelled_small f n (ltb-true n 10 e) ∙ sym (spelled_small g n (ltb-true n 10 e))
    go false e rec =
        let ten : 10 ≤ n = ltb-false n 10 e in
        let a : n / 10 < f = omega arith in
        let b : n / 10 < g = omega arith in
        spelled_more f n ten ∙ ap (λ (l : List ℕ). l ++ ((48 + n % 10) ∷ [])) (rec (n / 10) a b) ∙ sym (spelled_more g n ten)

pub decimal_small : (n : ℕ) → n < 10 → digits_of n ≡ (48 + n) ∷ []
unfolding digits_of
decimal_small n h = spelled_small n n h

pub decimal_more : (n : ℕ) → 10 ≤ n → digits_of n ≡ digits_of (n / 10) ++ ((48 + n % 10) ∷ [])
unfolding digits_of
decimal_more n h =
    let a : n / 10 < n = omega arith in
    let b : n / 10 < suc (n / 10) = omega arith in
    spelled_more n n h ∙ ap (λ (l : List ℕ). l ++ ((48 + n % 10) ∷ [])) (spelled_same n (suc (n / 10)) (n / 10) a b)

-- ---- k digits hold the numbers below 10 ^ k
pub decimal_within : (k n : ℕ) → n < 10 ^ suc k → length (digits_of n) ≤ suc k
decimal_within zero n h = let e : length (digits_of n) ≡ 1 = ap length (decimal_small n h) in omega arith
decimal_within (suc k) n h = go (ltb n 10) refl (λ m a. decimal_within k m a)
  where
    go : (t : Bool) → ltb n 10 ≡ t → ((m : ℕ) → m < 10 ^ suc k → length (digits_of m) ≤ suc k) → length (digits_of n) ≤ suc (suc k)
    go true e rec = let l : length (digits_of n) ≡ 1 = ap length (decimal_small n (ltb-true n 10 e)) in omega arith
    go false e rec =
        let p : 10 ^ suc (suc k) ≡ 10 ^ suc k * 10 = pow-suc 10 (suc k) in
        let a : n / 10 < 10 ^ suc k = omega arith in
        let r : length (digits_of (n / 10)) ≤ suc k = rec (n / 10) a in
        let l : length (digits_of n) ≡ length (digits_of (n / 10))
        + 1 = ap length (decimal_more n (ltb-false n 10 e)) ∙ length-append (digits_of (n / 10)) ((48 + n % 10) ∷ []) in
        omega arith

pub decimal_short : (n : ℕ) → n < 2 ^ 64 → length (digits_of n) ≤ 20
decimal_short n h = let below : n < 10 ^ 20 = omega arith in decimal_within 19 n below

-- ---- a number that was put
put_short : (n : ℕ) (l l' : List ℕ) (at r : ℕ) → n < 2 ^ 64 → PutBytes (digits_of n) l l' at r → PutBytes (digits_of n) l l' at r × (r ≤ at + 20)
put_short n l l' at r h p = let e = p.next in let s = decimal_short n h in (p, omega arith)

pub put_small : (n : ℕ) (l l' : List ℕ) (at r : ℕ) → n < 10 → PutBytes ((48 + n) ∷ []) l l' at r → PutBytes (digits_of n) l l' at r × (r ≤ at + 20)
put_small n l l' at r h p =
    let b : n < 2 ^ 64 = omega arith in put_short n l l' at r b (subst (λ (t : List ℕ). PutBytes t l l' at r) (sym (decimal_small n h)) p)

pub put_more_digits : (n : ℕ) (l l₁ l₂ : List ℕ) (at r₁ r₂ : ℕ) → 10 ≤ n → n < 2 ^ 64 → PutBytes (digits_of (n / 10)) l l₁ at r₁
    → PutBytes ((48 + n % 10) ∷ []) l₁ l₂ r₁ r₂
    → PutBytes (digits_of n) l l₂ at r₂ × (r₂ ≤ at + 20)
put_more_digits n l l₁ l₂ at r₁ r₂ h b p q =
    put_short n l l₂ at r₂ b
    (subst (λ (t : List ℕ). PutBytes t l l₂ at r₂) (sym (decimal_more n h)) (put_then (digits_of (n / 10)) ((48 + n % 10) ∷ []) l l₁ l₂ at r₁ r₂ p q))

pub put_ended : (n end : ℕ) (l l₁ l₂ : List ℕ) (at r₁ r₂ : ℕ) → r₁ ≤ at + 20 → PutBytes (digits_of n) l l₁ at r₁ → PutBytes (end ∷ []) l₁ l₂ r₁ r₂
    → PutBytes (field_text n end) l l₂ at r₂ × (r₂ ≤ at + 21)
unfolding field_text
put_ended n end l l₁ l₂ at r₁ r₂ h p q = let e = q.next in (put_then (digits_of n) (end ∷ []) l l₁ l₂ at r₁ r₂ p q, omega arith)
