-- The test that every number is below a bound. Assumes nothing.
use mathlib.Core.Path.{◌≡◌, refl, ap}
use mathlib.Core.Bool.{Bool, true, ◌&&◌}
use mathlib.Core.List.{List, [], ◌∷◌}
use Prim.Native.Nat.{ℕ, zero, suc, ◌/◌, ◌<◌}
use native.Mathlib.Omega.{arith}
use borrow.Author.Tests.{ltb-true}
use lib.Dec.{ltb}
use lib.ListN.{length, get_or}
use lib.Ieee.{Float}
use Rattle.std.specs.List.{list_all}
use Rattle.lists.proofs.Bools.{and_both}
use Rattle.facets.specs.Known.{all_below, NamesPoints}

-- as a chain asks it
pub below_chain : (bound : ℕ) (fs : List ℕ) → list_all (λ f. ltb f bound) fs ≡ all_below bound fs
unfolding all_below
below_chain bound [] = refl
below_chain bound (f ∷ fs) = ap (λ (t : Bool). ltb f bound && t) (below_chain bound fs)

below_each : (bound : ℕ) (fs : List ℕ) → all_below bound fs ≡ true → (k : ℕ) → k < length fs → get_or fs k 0 < bound
unfolding all_below
below_each bound [] e k h = absurd (omega arith)
below_each bound (f ∷ fs) e zero h = ltb-true f bound (and_both {p = ltb f bound} {q = all_below bound fs} e).0
below_each bound (f ∷ fs) e (suc k) h = below_each bound fs (and_both {p = ltb f bound} {q = all_below bound fs} e).1 k (omega arith)

pub below_known : (points : List Float) (fs : List ℕ) → all_below (length points / 3) fs ≡ true → NamesPoints points fs
below_known points fs e = record { known = λ k h. (let b = below_each (length points / 3) fs e k h in omega arith) }
