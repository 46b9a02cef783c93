-- A text that was put at the front of a buffer is there whole, if it fits. Assumes nothing.
use mathlib.Core.Path.{◌≡◌, ap, ◌∙◌}
use mathlib.Core.Bool.{true, false}
use mathlib.Core.List.{List, ◌++◌}
use Prim.Native.Nat.{ℕ, ◌+◌, ◌*◌, ◌/◌, ◌≤◌, ◌<◌}
use native.Mathlib.Omega.{arith}
use native.Mathlib.Nat.{zero-add}
use borrow.Author.Tests.{le-leb, lt-leb}
use lib.Dec.{leb}
use lib.ListN.{length, drop}
use lib.Seq.{sets-eq}
use Rattle.listing.specs.Listing.{listing, listed, filled, written_length, listed_length}
use Rattle.std.specs.Prelude.{Some, None}
use Rattle.listing.specs.Inner.Ready.{PutBytes}
use Rattle.listing.specs.declared.ListingCounts.{ListingCounts}

pub whole : (t out out' : List ℕ) (r : ℕ) → PutBytes t out out' 0 r → length t ≤ length out → (Some r ≡ written_length t out) × (out' ≡ filled t out)
unfolding written_length filled
whole t out out' r p h =
    let fits : leb (length t) (length out) ≡ true = le-leb (length t) (length out) h in
    let z : 0 + length t ≡ length t = zero-add (length t) in
    let room : 0 + length t ≤ length out = omega arith in
    (rw fits (ap Some (p.next ∙ z)), rw fits (p.holds ∙ sets-eq t out 0 room ∙ ap (λ (n : ℕ). t ++ drop n out) z))

pub no_room_lem : (t out : List ℕ) → length out < length t → (None ≡ written_length t out) × (out ≡ filled t out)
unfolding written_length filled
no_room_lem t out h = let short : leb (length t) (length out) ≡ false = lt-leb (length t) (length out) h in (rw short, rw short)

-- the length that a scratch buffer told
pub told_length : (t out out' : List ℕ) (r : ℕ) → PutBytes t out out' 0 r → r ≡ length t
told_length t out out' r p = p.next ∙ zero-add (length t)

-- ---- the listing, where there are as many faces as were counted
pub listed_all : (c : ListingCounts) (fs : List ℕ) → c.faces ≤ length fs / 3 → listed c fs ≡ listing c fs
unfolding listed
listed_all c fs h = let e : leb (3 * c.faces) (length fs) ≡ true = le-leb (3 * c.faces) (length fs) (omega arith) in rw e

pub listed_long : (c : ListingCounts) (fs out : List ℕ) → c.faces ≤ length fs / 3 → listed_length c fs out ≡ written_length (listed c fs) out
unfolding listed listed_length
listed_long c fs out h = let e : leb (3 * c.faces) (length fs) ≡ true = le-leb (3 * c.faces) (length fs) (omega arith) in rw e

pub listed_none : (c : ListingCounts) (fs out : List ℕ) → length fs / 3 < c.faces → (None ≡ listed_length c fs out) × (out ≡ filled (listed c fs) out)
unfolding listed listed_length filled
listed_none c fs out h =
    let e : leb (3 * c.faces) (length fs) ≡ false = lt-leb (3 * c.faces) (length fs) (omega arith) in
    let z : leb 0 (length out) ≡ true = le-leb 0 (length out) (omega arith) in
    (rw e, rw (e, z))
