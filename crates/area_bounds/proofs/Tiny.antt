-- Where the radius times the factor is below infinity, an area below 1e-10 is turned down under every setting: zero
-- first, and any other has an edge ratio of infinity (`tiny_refused`). So what is taken there has an area of at least
-- 1e-10 (`accepted_large`). A computed area is not below 0 (`area_not_below`). Assumes nothing.
use Prim.Native.Nat.{ℕ, zero, suc, ◌+◌, ◌*◌}
use native.Mathlib.Nat.{mul-pos, zero-lt-suc}
use mathlib.Core.Path.{◌≡◌, refl, sym, subst}
use mathlib.Core.Logic.{inl, inr}
use mathlib.Core.Bool.{Bool, true, false, not, ◌||◌}
use native.Mathlib.Omega.{arith}
use lib.Dec.{T, lt→ltb, ltb→lt}
use lib.IntN.{ℤ}
use borrow.Author.Tests.{le-ltb, ne_eqb}
use lib.Ieee.{Float, nan, inf, fin, binary32, fits, lt, le, eq, is_nan, of_bits, mul, round, odd, up, down}
use lib.Ieee.Bits.{is_true}
use lib.Ieee.Fits.{up_pos, mul-fits, add-fits}
use lib.Ieee.Scale.{finite}
use Rattle.numbers.specs.Rounded.{f32, ◌⊕◌, ◌⊗◌}
use Rattle.numbers.specs.Root.{root}
use Rattle.numbers.proofs.OrderLaws.{le_left, lt_le, le_not_lt, not_lt_le, le_or_lt, positive_unsigned}
use Rattle.numbers.proofs.ProductOrder.{mul_monotone}
use Rattle.numbers.proofs.RootMonotone.{root_above}
use Rattle.vector.specs.Vector.{difference, magnitude_squared, magnitude, cross}
use Rattle.vector.specs.declared.Point3f.{Point3f}
use Rattle.lists.proofs.Bools.{not-true, true_not_false}
use Rattle.quality.specs.Measures.{half, tiny, degenerate}
use Rattle.triangle.specs.Quality.{area, quality, is_zero, acceptable}
use Rattle.triangle.proofs.Acceptance.{zero_refused, edges_refused}

-- ---- a computed area is not below 0

above_zero : (m : ℕ) (e : ℤ) → T (lt (f32 0) (fin false (suc m) e))
unfolding lt of_bits
above_zero m e = lt→ltb (0 * down e) (suc m * up e * 1) (omega (arith, mul-pos (zero-lt-suc m) (up_pos e)))

root_not_below : (x : Float) → T (fits binary32 x) → lt (root x) (f32 0) ≡ false
unfolding root lt of_bits
root_not_below nan f = refl
root_not_below (inf true) f = refl
root_not_below (inf false) f = refl
root_not_below (fin true zero e) f = le-ltb 0 (0 * up e * 1 + 0 * down e) (omega arith)
root_not_below (fin false zero e) f = le-ltb (0 * up e * 1) (0 * down e) (omega arith)
root_not_below (fin true (suc m) e) f = refl
root_not_below (fin false (suc m) e) f =
    let x = fin false (suc m) e in
    not-true (λ (t : lt (root x) (f32 0) ≡ true). le_not_lt (f32 0) (root x) (lt_le (f32 0) (root x) (root_above x f (above_zero m e)).0) (subst T (sym t) tt))

half_finite : T (finite half)
unfolding of_bits
half_finite = tt

half_above : T (le (f32 0) half)
unfolding le lt eq of_bits
half_above = tt

zero_half : f32 0 ⊗ half ≡ f32 0
unfolding mul round odd of_bits
zero_half = refl

zero_number : T (not (is_nan (f32 0)))
unfolding is_nan of_bits
zero_number = tt

halved : (r : Float) → T (not (is_nan r)) → lt r (f32 0) ≡ false → lt (r ⊗ half) (f32 0) ≡ false
halved r number h = not-true (λ (t : lt (r ⊗ half) (f32 0) ≡ true).
    let below : T (lt (r ⊗ half) (f32 0)) = subst T (sym t) tt in
    let z : T (not (is_nan (f32 0 ⊗ half))) = rw zero_half zero_number in
    let k : T (not (lt r (f32 0))) = rw h tt in
    let up = mul_monotone (f32 0) r half half_finite (not_lt_le r (f32 0) number zero_number k) half_above z
    (le_left (r ⊗ half) (f32 0) (lt_le (r ⊗ half) (f32 0) below)) in
    le_not_lt (f32 0) (r ⊗ half) (subst (λ (x : Float). T (le x (r ⊗ half))) zero_half up) below)

not_below : (r : Float) → lt r (f32 0) ≡ false → lt (r ⊗ half) (f32 0) ≡ false
not_below nan h = unfold mul lt in refl
not_below (inf s) h = halved (inf s) (unfold is_nan in tt) h
not_below (fin s m e) h = halved (fin s m e) (unfold is_nan in tt) h

pub area_not_below : (p1 p2 p3 : Point3f) → lt (area p1 p2 p3) (f32 0) ≡ false
unfolding area magnitude magnitude_squared
area_not_below p1 p2 p3 =
    let v = cross (difference p2 p1) (difference p3 p1) in
    not_below (magnitude v) (root_not_below (magnitude_squared v) (add-fits binary32 (v.x ⊗ v.x ⊕ v.y ⊗ v.y) (v.z ⊗ v.z)))

-- ---- an area above 0 and below 1e-10

-- infinity times a number above 0 is above all that is below infinity
beyond : (t x : Float) → T (lt t (inf false)) → T (lt (f32 0) x) → T (lt t (inf false ⊗ x))
unfolding mul
beyond t nan h p = absurd (unfold lt of_bits in p)
beyond t (inf true) h p = absurd (unfold lt of_bits in p)
beyond t (inf false) h p = h
beyond t (fin true n d) h p = absurd (positive_unsigned (fin true n d) p)
beyond t (fin false zero d) h p = absurd (omega (arith, ltb→lt (0 * down d) (0 * up d * 1) (unfold lt of_bits in p)))
beyond t (fin false (suc n) d) h p = rw (ne_eqb (suc n) 0 (λ (q : suc n ≡ 0). omega arith)) h

above : (x : Float) → T (lt x tiny) → lt x (f32 0) ≡ false → is_zero x ≡ false → T (lt (f32 0) x)
above x t h z =
    elim (le_or_lt x (f32 0) (le_left x tiny (lt_le x tiny t)) zero_number) [
      | inl l ↦ absurd (neither (lt x (f32 0)) (is_zero x) h z (unfold le in l))
      | inr l ↦ l
    ]
  where
    neither : (a b : Bool) → a ≡ false → b ≡ false → T (a || b) → ⊥
    neither true b h k l = true_not_false refl h
    neither false true h k l = true_not_false refl k
    neither false false h k l = l

module _ (r m threshold factor : Float) (bounded : T (lt (r ⊗ factor) (inf false))) where
  degenerate_refused : (x : Float) → T (fits binary32 x) → T (lt x tiny) → lt x (f32 0) ≡ false → acceptable (degenerate x) r m threshold factor ≡ false
  unfolding degenerate
  degenerate_refused x f t h = go (is_zero x) refl
    where
      go : (b : Bool) → is_zero x ≡ b → acceptable (degenerate x) r m threshold factor ≡ false
      go true e = zero_refused (degenerate x) r m threshold factor e
      go false e = edges_refused (degenerate x) r m threshold factor
          (is_true (lt (r ⊗ factor) (inf false ⊗ root x)) (beyond (r ⊗ factor) (root x) bounded (root_above x f (above x t h e)).0))

  module _ (p1 p2 p3 : Point3f) where
    pub tiny_refused : T (lt (area p1 p2 p3) tiny) → acceptable (quality p1 p2 p3) r m threshold factor ≡ false
    unfolding quality
    tiny_refused h =
        rw (is_true (lt (area p1 p2 p3) tiny) h)
        (degenerate_refused (area p1 p2 p3) (unfold area in mul-fits binary32 (magnitude (cross (difference p2 p1) (difference p3 p1))) half) h
        (area_not_below p1 p2 p3))

    pub accepted_large : acceptable (quality p1 p2 p3) r m threshold factor ≡ true → lt (area p1 p2 p3) tiny ≡ false
    accepted_large h = not-true (λ (t : lt (area p1 p2 p3) tiny ≡ true). true_not_false h (tiny_refused (subst T (sym t) tt)))
