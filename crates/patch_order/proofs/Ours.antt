-- No patch of ours gets 23, in any order of its lines and with the first two points of any face swapped; nor does an
-- empty file. Assumes nothing.
use mathlib.Core.Path.{◌≡◌}
use mathlib.Core.Logic.{◌≢◌}
use mathlib.Core.Bool.{Bool, true, false, not}
use mathlib.Core.List.{List, [], ◌∷◌}
use Prim.Native.Nat.{ℕ}
use native.Mathlib.Omega.{arith}
use lib.Dec.{leb}
use lib.ListN.{length}
use Rattle.lists.specs.Lists.{any}
use Rattle.domain.specs.Refusals.{check, first_refusal, roomy}
use Rattle.patch.specs.Lay.{Face}
use Rattle.patch.specs.Shape.{Shape}
use Rattle.orders.specs.Order.{order_accepted, Rearranged}
use Rattle.orders.proofs.Patches.{shape_accepted}
use Rattle.face_lines.specs.Format.{good, face_file, outside, twice}
use Rattle.patch_order.specs.Ordering.{refusal_of}

-- checks of which the last passes: whatever the others say, the answer is not the last one's
other : (a b c d e : Bool)
    → (first_refusal (check a 3 0 ∷ check b 14 0 ∷ check c 17 0 ∷ check d 7 0 ∷ check e 13 0 ∷ check true 23 0 ∷ [])).answer ≢ 23
unfolding first_refusal
other false b c d e h = omega arith
other true false c d e h = omega arith
other true true false d e h = omega arith
other true true true false e h = omega arith
other true true true true false h = omega arith
other true true true true true h = omega arith

-- faces that have an order don't get 23, whatever count of points and slices come along
pub accepted_never : (bytes : List ℕ) (fs : List Face) → face_file bytes ≡ good fs → order_accepted fs ≡ true → (n room words floats : ℕ)
    → (refusal_of n room words floats (face_file bytes)).answer ≢ 23
unfolding refusal_of
accepted_never bytes fs e have n room words floats =
    rw (e, have) (other (leb n 4096) (not (any (outside n) fs)) (not (any twice fs)) (roomy n words floats) (leb (length fs) room))

-- faces with the shape of a patch, as a file may have them
pub patch_never : (fs : List Face) (flags : List Bool) (F S looks pivots : ℕ) → Shape fs flags F S looks pivots → (hs : List Face) (order : List ℕ)
    → Rearranged fs hs order
    → (bytes : List ℕ) → face_file bytes ≡ good hs → (n room words floats : ℕ) → (refusal_of n room words floats (face_file bytes)).answer ≢ 23
patch_never fs flags F S looks pivots shape hs order r bytes e = accepted_never bytes hs e (shape_accepted fs flags F S looks pivots shape hs order r)
