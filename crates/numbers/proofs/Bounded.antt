-- Where v bounds x and w bounds y, the sum of v and w bounds the sum and the difference of x and y (`add_bounded`,
-- `sub_bounded`), and their product the product (`mul_bounded`), all of them f32. The operands of a finite result are
-- finite. Assumes nothing.
use mathlib.Core.Path.{◌≡◌, refl, sym, ap, ◌∙◌, subst}
use Prim.Native.Nat.{ℕ, ◌+◌, ◌*◌, ◌≤◌, ◌<◌}
use native.Mathlib.Nat.{mul-pos, mul-le-mul, mul-mul-mul_comm}
use native.Mathlib.Omega.{arith}
use native.Mathlib.Decide.{dec_le}
use mathlib.Core.Bool.{Bool, true, false, not, cond}
use lib.IntN.{ℤ}
use lib.Dec.{T, eqb}
use lib.Ieee.{Float, nan, inf, fin, binary32, unlike, up, down, round, neg, add, sub, mul, le}
use lib.Ieee.Scale.{finite}
use lib.Ieee.Positive.{num, den, den_pos}
use Rattle.numbers.specs.Rounded.{◌⊕◌, ◌⊖◌, ◌⊗◌}
use Rattle.numbers.specs.Root.{root}
use Rattle.numbers.proofs.OrderLaws.{plus, minus, le→side, of_finite, le_trans}
use Rattle.numbers.specs.Inner.Bounds.{unsigned, Bounded}
use Rattle.numbers.proofs.RoundedOrder.{Rounds, above, under, round_neg, round_unsigned, neg_le, rounds_le}
use Rattle.numbers.proofs.SumOrder.{rounds_add, add_monotone, neg_finite}

pub neg_neg : (x : Float) → neg (neg x) ≡ x
unfolding neg
neg_neg nan = refl
neg_neg (inf true) = refl
neg_neg (inf false) = refl
neg_neg (fin true m e) = refl
neg_neg (fin false m e) = refl

pub neg_bounded : {x v : Float} → Bounded x v → Bounded (neg x) v
neg_bounded {x} {v} b = record {
  upper = subst (λ (z : Float). T (le (neg x) z)) (neg_neg v) (neg_le (neg v) x b.lower);
  lower = neg_le x v b.upper;
}

pub bounded_finite : (x v : Float) → T (finite v) → Bounded x v → T (finite x)
unfolding le neg
bounded_finite x nan f b = absurd f
bounded_finite x (inf s) f b = absurd f
bounded_finite nan (fin s m e) f b = b.upper
bounded_finite (inf true) (fin s m e) f b = b.lower
bounded_finite (inf false) (fin s m e) f b = b.upper
bounded_finite (fin t n d) (fin s m e) f b = tt

-- ---- a sum

rounds_neg : {x : Float} {p n c : ℕ} → Rounds x p n c → Rounds (neg x) n p c
rounds_neg {x} {p} {n} {c} (above a e r) = under a e (ap neg r ∙ sym (round_neg binary32 false a c))
rounds_neg {x} {p} {n} {c} (under a e r) = above a e (ap neg r ∙ sym (round_neg binary32 true a c))

-- the sum of the opposites; a zero may have the other sign
rounds_opposite : (v w : Float) → T (finite v) → T (finite w)
    → Rounds (neg v ⊕ neg w) (minus v * den w + minus w * den v) (plus v * den w + plus w * den v) (den v * den w)
unfolding neg
rounds_opposite = of_finite (λ v w. Rounds (neg v ⊕ neg w) (minus v * den w + minus w * den v) (plus v * den w + plus w * den v) (den v * den w)) go
  where
    go : (s : Bool) (m : ℕ) (e : ℤ) (t : Bool) (n : ℕ) (d : ℤ)
        → Rounds (fin (not s) m e ⊕ fin (not t) n d) (minus (fin s m e) * down d + minus (fin t n d) * down e)
        (plus (fin s m e) * down d + plus (fin t n d) * down e) (down e * down d)
    go true m e true n d = rounds_add (fin false m e) (fin false n d) tt tt
    go true m e false n d = rounds_add (fin false m e) (fin true n d) tt tt
    go false m e true n d = rounds_add (fin true m e) (fin false n d) tt tt
    go false m e false n d = rounds_add (fin true m e) (fin true n d) tt tt

neg_add_le : (v w : Float) → T (finite v) → T (finite w) → T (le (neg (v ⊕ w)) (neg v ⊕ neg w))
neg_add_le v w f g = let C = mul-pos (den_pos v) (den_pos w) in rounds_le C C (rounds_neg (rounds_add v w f g)) (rounds_opposite v w f g) (omega arith)

pub add_bounded : (x y v w : Float) → T (finite v) → T (finite w) → Bounded x v → Bounded y w → Bounded (x ⊕ y) (v ⊕ w)
add_bounded x y v w f g b c =
    let k = bounded_finite x v f b in
    let l = bounded_finite y w g c in
    record {
      upper = add_monotone x v y w k f l g b.upper c.upper;
      lower = le_trans (neg (v ⊕ w)) (neg v ⊕ neg w) (x ⊕ y) (neg_add_le v w f g)
          (add_monotone (neg v) x (neg w) y (neg_finite v f) k (neg_finite w g) l b.lower c.lower);
    }

pub sub_bounded : (x y v w : Float) → T (finite v) → T (finite w) → Bounded x v → Bounded y w → Bounded (x ⊖ y) (v ⊕ w)
unfolding sub
sub_bounded x y v w f g b c = add_bounded x (neg y) v w f g b (neg_bounded c)

-- ---- a product

round_signed : (s : Bool) (a c : ℕ) → Rounds (round binary32 s a c) (cond s 0 a) (cond s a 0) c
round_signed true a c = let z : a ≡ 0 + a = omega arith in under a z refl
round_signed false a c = let z : a ≡ 0 + a = omega arith in above a z refl

round_bounded : (s : Bool) (a c b d : ℕ) → 0 < c → 0 < d → a * d ≤ b * c → Bounded (round binary32 s a c) (round binary32 false b d)
round_bounded s a c b d C D h = record {
  upper = rounds_le C D (round_signed s a c) (round_signed false b d) (one s);
  lower = rounds_le D C (rounds_neg (round_signed false b d)) (round_signed s a c) (other s);
}
  where
    one : (s : Bool) → cond s 0 a * d + 0 * c ≤ b * c + cond s a 0 * d
    one true = omega arith
    one false = omega arith

    other : (s : Bool) → 0 * c + cond s a 0 * d ≤ cond s 0 a * d + b * c
    other true = omega arith
    other false = omega arith

abbrev sign : Float → Bool
sign nan = false
sign (inf s) = s
sign (fin s m e) = s

mul_signed : (x y : Float) → T (finite x) → T (finite y) → x ⊗ y ≡ round binary32 (unlike (sign x) (sign y)) (num x * num y) (den x * den y)
unfolding mul
mul_signed = of_finite (λ x y. x ⊗ y ≡ round binary32 (unlike (sign x) (sign y)) (num x * num y) (den x * den y)) (λ s m e t n d. refl)

unlike_self : (s : Bool) → unlike s s ≡ false
unlike_self true = refl
unlike_self false = refl

unsigned_sign : (x : Float) → T (unsigned x) → sign x ≡ false
unsigned_sign nan u = absurd u
unsigned_sign (inf true) u = absurd u
unsigned_sign (inf false) u = refl
unsigned_sign (fin true m e) u = absurd u
unsigned_sign (fin false m e) u = refl

pub mul_unsigned : (x y : Float) → T (finite x) → T (finite y) → T (unsigned x) → T (unsigned y) → T (unsigned (x ⊗ y))
mul_unsigned x y f g u v = rw (mul_signed x y f g, unsigned_sign x u, unsigned_sign y v) (round_unsigned binary32 (num x * num y) (den x * den y))

bounded_size : (x v : Float) → T (finite x) → T (finite v) → T (unsigned v) → Bounded x v → num x * den v ≤ num v * den x
unfolding neg
bounded_size = of_finite (λ x v. T (unsigned v) → Bounded x v → num x * den v ≤ num v * den x) go
  where
    go : (s : Bool) (m : ℕ) (e : ℤ) (t : Bool) (n : ℕ) (d : ℤ) → T (not t) → Bounded (fin s m e) (fin t n d) → m * up e * down d ≤ n * up d * down e
    go s m e true n d u b = absurd u
    go true m e false n d u b = omega (arith, le→side (fin true n d) (fin true m e) tt tt b.lower)
    go false m e false n d u b = omega (arith, le→side (fin false m e) (fin false n d) tt tt b.upper)

sizes_bounded : (s : Bool) (x y v w : Float) → num x * den v ≤ num v * den x → num y * den w ≤ num w * den y
    → Bounded (round binary32 s (num x * num y) (den x * den y)) (round binary32 false (num v * num w) (den v * den w))
sizes_bounded s x y v w h k =
    round_bounded s (num x * num y) (den x * den y) (num v * num w) (den v * den w) (mul-pos (den_pos x) (den_pos y)) (mul-pos (den_pos v) (den_pos w))
    (rw (mul-mul-mul_comm (num x) (num y) (den v) (den w), mul-mul-mul_comm (num v) (num w) (den x) (den y)) (mul-le-mul h k))

pub mul_bounded : (x y v w : Float) → T (finite v) → T (finite w) → T (unsigned v) → T (unsigned w) → Bounded x v → Bounded y w → Bounded (x ⊗ y) (v ⊗ w)
mul_bounded x y v w f g i j b c =
    let k = bounded_finite x v f b in
    let l = bounded_finite y w g c in
    rw (mul_signed x y k l, mul_signed v w f g, unsigned_sign v i, unsigned_sign w j)
    (sizes_bounded (unlike (sign x) (sign y)) x y v w (bounded_size x v k f i b) (bounded_size y w l g j c))

-- ---- where the operands are finite

pub add_finite : (x y : Float) → T (finite (x ⊕ y)) → T (finite x) × T (finite y)
unfolding add
add_finite nan y h = absurd h
add_finite (inf s) nan h = absurd h
add_finite (inf true) (inf true) h = absurd h
add_finite (inf true) (inf false) h = absurd h
add_finite (inf false) (inf true) h = absurd h
add_finite (inf false) (inf false) h = absurd h
add_finite (inf s) (fin t n d) h = absurd h
add_finite (fin s m e) nan h = absurd h
add_finite (fin s m e) (inf t) h = absurd h
add_finite (fin s m e) (fin t n d) h = (tt, tt)

not_infinite : (b s : Bool) → T (finite (cond b nan (inf s))) → ⊥
not_infinite true s h = h
not_infinite false s h = h

pub mul_finite : (x y : Float) → T (finite (x ⊗ y)) → T (finite x) × T (finite y)
unfolding mul
mul_finite nan y h = absurd h
mul_finite (inf s) nan h = absurd h
mul_finite (inf s) (inf t) h = absurd h
mul_finite (inf s) (fin t n d) h = absurd (not_infinite (eqb n 0) (unlike s t) h)
mul_finite (fin s m e) nan h = absurd h
mul_finite (fin s m e) (inf t) h = absurd (not_infinite (eqb m 0) (unlike s t) h)
mul_finite (fin s m e) (fin t n d) h = (tt, tt)

pub root_finite : (x : Float) → T (finite (root x)) → T (finite x)
unfolding root
root_finite nan h = h
root_finite (inf true) h = h
root_finite (inf false) h = h
root_finite (fin s m e) h = tt

-- the product of two numbers with finite squares is between them
pub product_finite : (x y : Float) → T (finite (x ⊗ x)) → T (finite (y ⊗ y)) → T (finite (x ⊗ y))
product_finite x y f g =
    let i = (mul_finite x x f).0 in
    let j = (mul_finite y y g).0 in
    elim (dec_le (num x * den y) (num y * den x)) [
      | yes h ↦ bounded_finite (x ⊗ y) (y ⊗ y) g (held x y y i j j h (omega arith))
      | no h ↦ bounded_finite (x ⊗ y) (x ⊗ x) f (held x y x i j i (omega arith) (omega arith))
    ]
  where
    held : (x y z : Float) → T (finite x) → T (finite y) → T (finite z) → num x * den z ≤ num z * den x → num y * den z ≤ num z * den y
        → Bounded (x ⊗ y) (z ⊗ z)
    held x y z f g k h i = rw (mul_signed x y f g, mul_signed z z k k, unlike_self (sign z)) (sizes_bounded (unlike (sign x) (sign y)) x y z z h i)
