-- What holds of settings once their checks have passed. Assumes nothing.
use mathlib.Core.Path.{◌≡◌, refl}
use mathlib.Core.Bool.{Bool, true, false}
use mathlib.Core.List.{List, ◌∷◌}
use Prim.Native.Nat.{ℕ, suc, ◌≤◌}
use native.Mathlib.Omega.{arith}
use lib.Ieee.{Float}
use borrow.Author.Tests.{leb-true}
use Rattle.ranges.specs.Range.{leading}
use Rattle.ranges.proofs.Range.{leading_inside}
use Rattle.lists.proofs.Bools.{and_both}
use Rattle.settings.specs.Settings.{list_inside, first_failing, setting_tests, first_bad_setting}
use Rattle.settings.specs.Inner.Settled.{Slots, Settled}
use Rattle.settings.specs.declared.BallPivotingConfig.{BallPivotingConfig}

failing_none : (n : ℕ) (passes : Bool) (tests : List Bool) → (n ≡ 0 → ⊥) → first_failing n (passes ∷ tests) ≡ 0 → (passes ≡ true)
    × (first_failing (suc n) tests ≡ 0)
unfolding first_failing
failing_none n true tests h e = (refl, e)
failing_none n false tests h e = absurd (h e)

slots_of : (lo hi : Float) (slots : List Float) (count : ℕ) → list_inside lo hi slots count ≡ true → Slots lo hi slots count
unfolding list_inside
slots_of lo hi slots count e =
    let b = and_both e in
    let most : count ≤ leading lo hi slots = leb-true count (leading lo hi slots) b.1 in
    record { few = leb-true count 8 b.0; each = λ k l. leading_inside lo hi slots k (omega arith) }

pub settled_of : (s : BallPivotingConfig) → first_bad_setting s ≡ 0 → Settled s
unfolding first_bad_setting setting_tests
settled_of s e =
    let one = failing_none 1 _ _ (λ h. omega arith) e in
    let two = failing_none 2 _ _ (λ h. omega arith) one.1 in
    let three = failing_none 3 _ _ (λ h. omega arith) two.1 in
    let four = failing_none 4 _ _ (λ h. omega arith) three.1 in
    let five = failing_none 5 _ _ (λ h. omega arith) four.1 in
    let six = failing_none 6 _ _ (λ h. omega arith) five.1 in
    let seven = failing_none 7 _ _ (λ h. omega arith) six.1 in
    let eight = failing_none 8 _ _ (λ h. omega arith) seven.1 in
    record {
      main = one.0;
      additional = slots_of _ _ _ _ two.0;
      percentiles = slots_of _ _ _ _ three.0;
      quality = four.0;
      edge = five.0;
      area = six.0;
      cell = seven.0;
      rule = eight.0;
    }
