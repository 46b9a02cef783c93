-- No face of the plain path has area zero: its cross product is longer than 1e-6. Assumes nothing.
use Prim.Native.Nat.{ℕ, zero, suc, ◌≤◌, ◌/◌}
use mathlib.Core.Path.{◌≡◌, refl, sym, ap, subst}
use mathlib.Core.Bool.{Bool, true, false, cond, not}
use mathlib.Core.List.{List, [], ◌∷◌}
use native.Mathlib.Omega.{arith}
use lib.Dec.{T}
use lib.ListN.{length, take}
use lib.Ieee.{Float, lt, le, eq, is_nan, of_bits, mul, round, odd}
use lib.Ieee.Scale.{finite}
use Rattle.numbers.specs.Rounded.{f32, ◌⊗◌}
use Rattle.numbers.proofs.OrderLaws.{le_left, lt_le, le_trans}
use Rattle.numbers.proofs.ProductOrder.{mul_monotone}
use Rattle.vector.specs.Vector.{difference, magnitude, cross}
use Rattle.quality.specs.Measures.{half}
use Rattle.triangle.specs.Quality.{area, circumradius, is_zero}
use Rattle.points.specs.Points.{point_at}
use Rattle.lists.specs.Lists.{bit, count, up_from}
use Rattle.patch.specs.Lay.{Face, face}
use Rattle.lists.proofs.Counts.{count_append}
use Rattle.lists.proofs.Bools.{and_both, not-true}
use Rattle.decisions.specs.Found.{area_at}
use Rattle.plain.specs.Plain.{candidates, sound, valid, faces_over, faces_at, plain_faces_from, plain_faces}
use Rattle.arealess.specs.Arealess.{area_zero}
use Rattle.arealess.proofs.Floats.{zero-le}

abbrev least : Float
least = f32 0x358637bd

half_finite : T (finite half)
unfolding of_bits
half_finite = tt

half_above : T (le (f32 0) half)
unfolding le lt eq of_bits
half_above = tt

least_number : T (not (is_nan (least ⊗ half)))
unfolding mul round odd of_bits is_nan
least_number = tt

least_above : le (least ⊗ half) (f32 0) ≡ false
unfolding mul round odd of_bits le lt eq
least_above = refl

long_not_zero : (m : Float) → lt least m ≡ true → is_zero (m ⊗ half) ≡ false
long_not_zero m h = not-true (λ (z : is_zero (m ⊗ half) ≡ true).
    let low = zero-le (m ⊗ half) z in
    let up = mul_monotone least m half half_finite (lt_le least m (subst T (sym h) tt)) half_above least_number (le_left (m ⊗ half) (f32 0) low) in
    subst T least_above (le_trans (least ⊗ half) (m ⊗ half) (f32 0) up low))

module _ (pts : List Float) (radius : Float) where
  pub valid_area : (i a b : ℕ) → valid pts radius i a b ≡ true → area_zero pts (face i a b) ≡ false
  unfolding valid sound area_zero area_at area
  valid_area i a b h =
      let m = magnitude (cross (difference (point_at pts a) (point_at pts i)) (difference (point_at pts b) (point_at pts i))) in
      long_not_zero m (and_both {p = lt least m} {q = le (circumradius (point_at pts i) (point_at pts a) (point_at pts b)) (radius ⊗ f32 0x3fc00000)} h).0

  over_none : (i a : ℕ) (bs : List ℕ) → count (area_zero pts) (faces_over pts radius i a bs) ≡ 0
  unfolding faces_over
  over_none i a [] = refl
  over_none i a (b ∷ bs) = go (valid pts radius i a b) refl (over_none i a bs)
    where
      go : (t : Bool) → valid pts radius i a b ≡ t → count (area_zero pts) (faces_over pts radius i a bs) ≡ 0
          → count (area_zero pts) (cond t (face i a b ∷ faces_over pts radius i a bs) (faces_over pts radius i a bs)) ≡ 0
      go true e ih = let z : bit (area_zero pts (face i a b)) ≡ 0 = ap bit (valid_area i a b e) in omega arith
      go false e ih = ih

  at_none : (i : ℕ) (js : List ℕ) → count (area_zero pts) (faces_at pts radius i js) ≡ 0
  unfolding faces_at
  at_none i [] = refl
  at_none i (a ∷ bs) = let e = count_append (area_zero pts) (faces_over pts radius i a bs)
      (faces_at pts radius i bs) in let x = over_none i a bs in let y = at_none i bs in omega arith

  of_none : (is : List ℕ) → count (area_zero pts) (plain_faces_from pts radius is) ≡ 0
  unfolding plain_faces_from
  of_none [] = refl
  of_none (i ∷ is) =
      let now = candidates pts radius i (up_from 0 i) in
      let e = count_append (area_zero pts) (faces_at pts radius i now)
      (plain_faces_from pts radius is) in let x = at_none i now in let y = of_none is in omega arith

  pub plain_none : count (area_zero pts) (plain_faces pts radius) ≡ 0
  unfolding plain_faces
  plain_none = let x = of_none (up_from 0 (length pts / 3)) in let y = take_few 10000 (plain_faces_from pts radius (up_from 0 (length pts / 3))) in omega arith
    where
      take_few : (k : ℕ) (fs : List Face) → count (area_zero pts) (take k fs) ≤ count (area_zero pts) fs
      take_few zero fs = omega arith
      take_few (suc k) [] = omega arith
      take_few (suc k) (f ∷ fs) = let ih = take_few k fs in omega arith
