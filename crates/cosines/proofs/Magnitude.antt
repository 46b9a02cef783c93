-- The squared length of a vector of f32, as f32 have it, is near the sum of the squares (`magnitude_whole`), whatever
-- their signs and sizes, if it is finite. Assumes nothing.
use mathlib.Core.Path.{◌≡◌, refl, subst}
use Prim.Native.Nat.{ℕ, ◌+◌, ◌*◌, ◌^◌}
use native.Mathlib.Omega.{arith}
use mathlib.Core.Bool.{Bool, true, false}
use lib.Dec.{T}
use lib.Ieee.{Float, unlike}
use lib.Ieee.Exact.{HasValue}
use lib.Ieee.Scale.{finite}
use Rattle.numbers.specs.Rounded.{◌⊕◌, ◌⊗◌}
use Rattle.vector.specs.Vector.{magnitude_squared}
use Rattle.vector.specs.declared.Point3f.{Point3f}
use Rattle.rounding_errors.proofs.Near.{Near, near_eq, near_self, near_trans, near_add, near_times}
use Rattle.rounding_errors.proofs.Rounding.{Whole}
use Rattle.rounding_errors.proofs.Signed.{add_finite, mul_finite, mul_whole, sum_whole}

-- x is q of 2 ^ -298, but for rounding errors and units
pub record Magnitude (x : Float) (q : ℕ) : Type 0 where
  pub m : ℕ
  pub value : HasValue x false m (2 ^ 149)
  pub below : Near 3 (m * 2 ^ 149) (q + 3 * 2 ^ 149)
  pub above : Near 3 q (m * 2 ^ 149 + 3 * 2 ^ 149)

square_whole : (x : Float) (s : Bool) (n : ℕ) → HasValue x s n (2 ^ 149) → T (finite (x ⊗ x)) → Whole (x ⊗ x) false (n * n) (2 ^ 149)
square_whole x s n h f = subst (λ (b : Bool). Whole (x ⊗ x) b (n * n) (2 ^ 149)) (self s) (mul_whole x x s s n n h h f)
  where
    self : (s : Bool) → unlike s s ≡ false
    self true = refl
    self false = refl

-- whole-number steps: k, l and o are the rounded squares, s and m the rounded sums
module _ (w p q r k l o s m : ℕ) where
  near_below : Near 1 (k * w) (p + w) → Near 1 (l * w) (q + w) → Near 1 (o * w) (r + w) → Near 1 s (k + l) → Near 1 m (s + o)
      → Near 3 (m * w) (p + q + r + 3 * w)
  near_below a b c d e =
      let f : Near 2 m (k + l + o) = near_trans e (near_add d (near_self 1 o)) in
      let g : Near 1 (k * w + l * w + o * w) (p + w + (q + w) + (r + w)) = near_add (near_add a b) c in
      let left : k * w + l * w + o * w ≡ (k + l + o) * w = omega arith in
      let right : p + w + (q + w) + (r + w) ≡ p + q + r + 3 * w = omega arith in
      near_trans (near_times w f) (near_eq left right g)

  near_above : Near 1 p (k * w + w) → Near 1 q (l * w + w) → Near 1 r (o * w + w) → Near 1 (k + l) s → Near 1 (s + o) m → Near 3 (p + q + r) (m * w + 3 * w)
  near_above a b c d e =
      let f : Near 2 (k + l + o) m = near_trans (near_add d (near_self 1 o)) e in
      let g : Near 1 (p + q + r) (k * w + w + (l * w + w) + (o * w + w)) = near_add (near_add a b) c in
      let right : k * w + w + (l * w + w) + (o * w + w) ≡ (k + l + o) * w + 3 * w = omega arith in
      near_trans (near_eq refl right g) (near_add (near_times w f) (near_self 2 (3 * w)))

pub record Parts (v : Point3f) : Type 0 where
  pub x : T (finite v.x)
  pub y : T (finite v.y)
  pub z : T (finite v.z)

module _ (v : Point3f) (f : T (finite (magnitude_squared v))) where
  sums : T (finite ((v.x ⊗ v.x ⊕ v.y ⊗ v.y) ⊕ v.z ⊗ v.z))
  unfolding magnitude_squared
  sums = f

  two : T (finite (v.x ⊗ v.x ⊕ v.y ⊗ v.y))
  two = (add_finite (v.x ⊗ v.x ⊕ v.y ⊗ v.y) (v.z ⊗ v.z) sums).0

  on_x : T (finite (v.x ⊗ v.x))
  on_x = (add_finite (v.x ⊗ v.x) (v.y ⊗ v.y) two).0

  on_y : T (finite (v.y ⊗ v.y))
  on_y = (add_finite (v.x ⊗ v.x) (v.y ⊗ v.y) two).1

  on_z : T (finite (v.z ⊗ v.z))
  on_z = (add_finite (v.x ⊗ v.x ⊕ v.y ⊗ v.y) (v.z ⊗ v.z) sums).1

  pub parts_finite : Parts v
  parts_finite = record { x = (mul_finite v.x v.x on_x).0; y = (mul_finite v.y v.y on_y).0; z = (mul_finite v.z v.z on_z).0 }

  pub magnitude_whole : (s t u : Bool) (k l o : ℕ) → HasValue v.x s k (2 ^ 149) → HasValue v.y t l (2 ^ 149) → HasValue v.z u o (2 ^ 149)
      → Magnitude (magnitude_squared v) (k * k + l * l + o * o)
  unfolding magnitude_squared
  magnitude_whole s t u k l o hx hy hz =
      let x = square_whole v.x s k hx on_x in
      let y = square_whole v.y t l hy on_y in
      let z = square_whole v.z u o hz on_z in
      let a = sum_whole (v.x ⊗ v.x) (v.y ⊗ v.y) x.n y.n x.value y.value two in
      let b = sum_whole (v.x ⊗ v.x ⊕ v.y ⊗ v.y) (v.z ⊗ v.z) a.n z.n a.value z.value sums in
      record {
        m = b.n;
        value = b.value;
        below = near_below (2 ^ 149) (k * k) (l * l) (o * o) x.n y.n z.n a.n b.n x.below y.below z.below a.below b.below;
        above = near_above (2 ^ 149) (k * k) (l * l) (o * o) x.n y.n z.n a.n b.n x.above y.above z.above a.above b.above;
      }
