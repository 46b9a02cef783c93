-- What the checks 14 and 17 say of each face, and that too many faces have no order. Assumes nothing.
use mathlib.Core.Path.{◌≡◌, refl, sym, ap}
use mathlib.Core.Bool.{Bool, true, false, ◌||◌}
use mathlib.Core.List.{List, [], ◌∷◌}
use Prim.Native.Nat.{ℕ, zero, suc, ◌+◌, ◌-◌, ◌≤◌, ◌<◌}
use native.Mathlib.Omega.{arith}
use lib.Dec.{ltb}
use lib.ListN.{length, get_or}
use borrow.Author.Tests.{leb-false, eqb-false, ltb-true, ltb-false, lt-ltb, le-ltb}
use Rattle.lists.specs.Lists.{bit, count, any}
use Rattle.lists.proofs.Bools.{not-true, true_not_false, and_both}
use Rattle.lists.proofs.Counts.{any_false}
use Rattle.patch.specs.Lay.{Face}
use Rattle.patch.specs.Shape.{no_face}
use Rattle.orders.specs.Order.{face_at, AllDifferent, order_accepted}
use Rattle.orders.proofs.Points.{Inside}
use Rattle.orders.proofs.Few.{accepted_few}
use Rattle.face_lines.specs.Format.{outside, twice}
use Rattle.patch_order.specs.Inner.Ready.{too_many}

-- a test that no face passes
module _ (p : Face → Bool) where
  none_of : (fs : List Face) (i : ℕ) → count p fs ≡ 0 → i < length fs → p (get_or fs i no_face) ≡ false
  none_of [] i z h = absurd (omega arith)
  none_of (f ∷ fs) zero z h = not-true (λ t. let b : bit (p f) ≡ 1 = ap bit t in omega arith)
  none_of (f ∷ fs) (suc i) z h = none_of fs i (omega arith) (omega arith)

  none_at : (fs : List Face) → any p fs ≡ false → (i : ℕ) → i < length fs → p (face_at fs i) ≡ false
  none_at fs e i = none_of fs i (any_false p fs e)

-- three that are all false
neither : (x y z : Bool) → (x || (y || z)) ≡ false → (x ≡ false) × (y ≡ false) × (z ≡ false)
neither false false z e = (refl, refl, e)
neither false true z e = absurd (true_not_false refl e)
neither true y z e = absurd (true_not_false refl e)

module _ (fs : List Face) (different : any twice fs ≡ false) where
  pub all_different : AllDifferent fs
  unfolding twice
  all_different i h = let t = neither _ _ _ (none_at twice fs different i h) in (eqb-false _ _ t.0, eqb-false _ _ t.1, eqb-false _ _ t.2)

  module _ (n : ℕ) (inside : any (outside n) fs ≡ false) where
    pub all_inside : (i : ℕ) → i < length fs → Inside (face_at fs) n i
    unfolding outside
    all_inside i h =
        let d = all_different i h in
        let o = neither _ _ _ (none_at (outside n) fs inside i h) in
        record {
          distinct = record { ab = d.0; bc = d.1; ca = d.2 };
          a_below = leb-false _ _ o.0;
          b_below = leb-false _ _ o.1;
          c_below = leb-false _ _ o.2;
        }

    pub too_many_lem : too_many n (length fs) ≡ true → order_accepted fs ≡ false
    unfolding too_many
    too_many_lem e = not-true (λ t.
        let b = and_both {p = ltb 0 (length fs)} {q = ltb n (length fs + 2)} e in
        let some : 0 < length fs = ltb-true _ _ b.0 in
        let more : n < length fs + 2 = ltb-true _ _ b.1 in
        let few = accepted_few n fs all_different all_inside t (omega arith) in
        omega arith)

-- the code's test, with no sum that could be too large
pub shifted : (n count : ℕ) → 2 ≤ n → ltb (n - 2) count ≡ ltb n (count + 2)
shifted n count h = go (ltb (n - 2) count) refl
  where
    go : (b : Bool) → ltb (n - 2) count ≡ b → b ≡ ltb n (count + 2)
    go true e = let k = ltb-true (n - 2) count e in sym (lt-ltb n (count + 2) (omega arith))
    go false e = let k = ltb-false (n - 2) count e in sym (le-ltb n (count + 2) (omega arith))
