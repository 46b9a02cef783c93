-- The faces that numbers tell, one after the other, and what a pass over them tells. Assumes nothing.
use mathlib.Core.Path.{◌≡◌, refl, sym, ap, ◌∙◌}
use mathlib.Core.Bool.{Bool, true, false, ◌||◌}
use mathlib.Core.List.{List, [], ◌∷◌, ◌++◌, map}
use Prim.Native.Nat.{ℕ, zero, suc, ◌+◌, ◌/◌, ◌≤◌, ◌<◌}
use native.Mathlib.Omega.{arith}
use lib.Dec.{ltb}
use lib.ListN.{length, get_or}
use borrow.Author.Tests.{lt-ltb}
use Rattle.lists.specs.Lists.{bit, count, any, up_from}
use Rattle.lists.proofs.Counts.{count_append}
use Rattle.grid.proofs.Sequence.{snoc_up}
use Rattle.axis_sort.proofs.Floats.{map-append}
use Rattle.patch.specs.Lay.{Face}
use Rattle.patch.specs.Shape.{no_face}
use Rattle.orders.specs.Order.{face_at}
use Rattle.corners.specs.Corners.{face_in}
use Rattle.face_lines.specs.Format.{outside, twice}
use Rattle.face_order.specs.Faces.{faces_of, seen_of}
use Rattle.face_order.specs.declared.FacesSeen.{FacesSeen}

module _ (f : ℕ → Face) where
  told_length : (j m : ℕ) → length (map f (up_from j m)) ≡ m
  unfolding up_from
  told_length j zero = refl
  told_length j (suc m) = ap suc (told_length (j + 1) m)

  told_at : (j m i : ℕ) → i < m → get_or (map f (up_from j m)) i no_face ≡ f (j + i)
  unfolding up_from
  told_at j zero i h = absurd (omega arith)
  told_at j (suc m) zero h = ap f (let e : j ≡ j + 0 = omega arith in e)
  told_at j (suc m) (suc i) h = told_at (j + 1) m i (omega arith) ∙ ap f (let e : j + 1 + i ≡ j + suc i = omega arith in e)

  one_more : (i : ℕ) → map f (up_from 0 (i + 1)) ≡ map f (up_from 0 i) ++ (f i ∷ [])
  one_more i =
      let s : suc i ≡ i + 1 = omega arith in
      sym (ap (map f) (ap (λ (k : ℕ). up_from 0 i ++ (k ∷ [])) (let z : i ≡ 0 + i = omega arith in z) ∙ snoc_up 0 i ∙ ap (up_from 0) s))
      ∙ map-append f (up_from 0 i) (i ∷ [])

pub faces_many : (numbers : List ℕ) → length (faces_of numbers) ≡ length numbers / 3
faces_many numbers = told_length (face_in numbers) 0 (length numbers / 3)

pub face_at_lem : (numbers : List ℕ) (i : ℕ) → i < length numbers / 3 → face_at (faces_of numbers) i ≡ face_in numbers i
face_at_lem numbers i h = told_at (face_in numbers) 0 (length numbers / 3) i h ∙ ap (face_in numbers) (let e : 0 + i ≡ i = omega arith in e)

or_true : (b : Bool) → true ≡ (b || true)
or_true true = refl
or_true false = refl

or_false : (b : Bool) → b ≡ (b || false)
or_false true = refl
or_false false = refl

any_more : (p : Face → Bool) (xs : List Face) (x : Face) → any p (xs ++ (x ∷ [])) ≡ (any p xs || p x)
unfolding any
any_more p xs x = ap (ltb 0) (count_append p xs (x ∷ [])) ∙ go (p x)
  where
    go : (b : Bool) → ltb 0 (count p xs + (bit b + 0)) ≡ (ltb 0 (count p xs) || b)
    go true = lt-ltb 0 (count p xs + 1) (omega arith) ∙ or_true (ltb 0 (count p xs))
    go false = ap (ltb 0) (let e : count p xs + 0 ≡ count p xs = omega arith in e) ∙ or_false (ltb 0 (count p xs))

-- what was seen of the first i faces
pub record Looked (n : ℕ) (numbers : List ℕ) (i : ℕ) (out same : Bool) : Type 0 where
  pub most : i ≤ length numbers / 3
  pub out_is : out ≡ any (outside n) (map (face_in numbers) (up_from 0 i))
  pub same_is : same ≡ any twice (map (face_in numbers) (up_from 0 i))

pub looked_start : (n : ℕ) (numbers : List ℕ) → Looked n numbers 0 false false
unfolding any up_from
looked_start n numbers = record { most = omega arith; out_is = refl; same_is = refl }

pub looked_step : {n : ℕ} {numbers : List ℕ} {i : ℕ} {out same : Bool} {out' same' : Bool} → Looked n numbers i out same → i < length numbers / 3
    → out' ≡ (out || outside n (face_in numbers i)) → same' ≡ (same || twice (face_in numbers i)) → Looked n numbers (i + 1) out' same'
looked_step {n} {numbers} {i} l h o t = record {
  most = omega arith;
  out_is = o ∙ ap (λ (b : Bool). b || outside n (face_in numbers i)) l.out_is
      ∙ sym (any_more (outside n) (map (face_in numbers) (up_from 0 i)) (face_in numbers i)) ∙ sym (ap (any (outside n)) (one_more (face_in numbers) i));
  same_is = t ∙ ap (λ (b : Bool). b || twice (face_in numbers i)) l.same_is ∙ sym (any_more twice (map (face_in numbers) (up_from 0 i)) (face_in numbers i))
      ∙ sym (ap (any twice) (one_more (face_in numbers) i));
}

pub looked_end : {n : ℕ} {numbers : List ℕ} {i : ℕ} {out same : Bool} {r : FacesSeen} → Looked n numbers i out same → length numbers / 3 ≤ i
    → r ≡ record { outside = out; twice = same } → r ≡ seen_of n (faces_of numbers)
unfolding seen_of
looked_end {n} {numbers} {i} {out} {same} {r} l h e =
    let z : i ≡ length numbers / 3 = omega (arith, l.most) in
    e ∙ rw (l.out_is, l.same_is, z)
