-- Parents and places as they stand in a slice, two numbers a face. Assumes nothing.
use Prim.Native.Nat.{ℕ, zero, suc, ◌+◌, ◌*◌, ◌<◌}
use mathlib.Core.Path.{◌≡◌, refl, ap, ◌∙◌}
use mathlib.Core.List.{List, [], ◌∷◌, ◌++◌}
use native.Mathlib.Omega.{arith}
use lib.ListN.{length, get_or}
use Rattle.patch.specs.Lay.{Face}
use Rattle.origins.specs.Origins.{pairs, parents_in, places_in}
use Rattle.origins.specs.Turned.{turned_from, turned}
use Rattle.origins.proofs.Shapes.{turned_congr}

pub pairs_length : (parents places : List ℕ) → length parents ≡ length places → length (pairs parents places) ≡ 2 * length parents
unfolding pairs
pairs_length [] places h = refl
pairs_length (p ∷ parents) [] h = absurd (omega arith)
pairs_length (p ∷ parents) (q ∷ places) h = let ih = pairs_length parents places (omega arith) in omega arith

pub pairs_parent : (parents places : List ℕ) → length parents ≡ length places → (i : ℕ) → i < length parents → get_or (pairs parents places) (2 * i) 0
    ≡ get_or parents i 0
unfolding pairs
pairs_parent [] places h i b = absurd (omega arith)
pairs_parent (p ∷ parents) [] h i b = absurd (omega arith)
pairs_parent (p ∷ parents) (q ∷ places) h zero b = refl
pairs_parent (p ∷ parents) (q ∷ places) h (suc i) b =
    let e : 2 * suc i ≡ suc (suc (2 * i)) = omega arith in
    ap (λ (j : ℕ). get_or (p ∷ q ∷ pairs parents places) j 0) e ∙ pairs_parent parents places (omega arith) i (omega arith)

pub pairs_place : (parents places : List ℕ) → length parents ≡ length places → (i : ℕ) → i < length parents → get_or (pairs parents places) (2 * i + 1) 0
    ≡ get_or places i 0
unfolding pairs
pairs_place [] places h i b = absurd (omega arith)
pairs_place (p ∷ parents) [] h i b = absurd (omega arith)
pairs_place (p ∷ parents) (q ∷ places) h zero b = refl
pairs_place (p ∷ parents) (q ∷ places) h (suc i) b =
    let e : 2 * suc i + 1 ≡ suc (suc (2 * i + 1)) = omega arith in
    ap (λ (j : ℕ). get_or (p ∷ q ∷ pairs parents places) j 0) e ∙ pairs_place parents places (omega arith) i (omega arith)

-- read from the front of a slice they are the same
pub parents_read : (parents places rest : List ℕ) → length parents ≡ length places → parents_in (length parents) (pairs parents places ++ rest) ≡ parents
unfolding pairs parents_in
parents_read [] places rest h = refl
parents_read (p ∷ parents) [] rest h = absurd (omega arith)
parents_read (p ∷ parents) (q ∷ places) rest h = ap (λ (l : List ℕ). p ∷ l) (parents_read parents places rest (omega arith))

pub places_read : (parents places rest : List ℕ) → length parents ≡ length places → places_in (length parents) (pairs parents places ++ rest) ≡ places
unfolding pairs places_in
places_read [] [] rest h = refl
places_read [] (q ∷ places) rest h = absurd (omega arith)
places_read (p ∷ parents) [] rest h = absurd (omega arith)
places_read (p ∷ parents) (q ∷ places) rest h = ap (λ (l : List ℕ). q ∷ l) (places_read parents places rest (omega arith))

-- the turned patch, by whatever tells the parents of its faces
pub turned_by : (parent : ℕ → ℕ) (parents : List ℕ) (fs : List Face) → ((i : ℕ) → i < length fs → parent i ≡ get_or parents i 0) → turned_from parent 0 fs
    ≡ turned parents fs
unfolding turned
turned_by parent parents fs h = turned_congr parent (λ i. get_or parents i 0) 0 fs (λ i b. h i (omega arith))
