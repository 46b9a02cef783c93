-- Faces that are written to the front of a slice stand there, three words each. Assumes nothing.
use mathlib.Core.Path.{◌≡◌, refl, sym, subst}
use mathlib.Core.List.{List, [], ◌∷◌, ◌++◌}
use Prim.Native.Nat.{ℕ, zero, suc, ◌+◌, ◌*◌, ◌/◌, ◌%◌, ◌≤◌, ◌<◌}
use native.Mathlib.Omega.{arith}
use lib.ListN.{length, drop, get_or}
use lib.Seq.{take_all}
use Rattle.patch.specs.Lay.{Face}
use Rattle.patch.specs.View.{flat, written}
use Rattle.orders.specs.Order.{face_at}
use Rattle.corners.specs.Corners.{face_in}

flat_at : (fs : List Face) (rest : List ℕ) (i : ℕ) → i < length fs → face_in (flat fs ++ rest) i ≡ face_at fs i
unfolding flat
flat_at [] rest i h = absurd (omega arith)
flat_at (f ∷ fs) rest zero h = refl
flat_at (f ∷ fs) rest (suc i) h =
    let a : 3 * suc i ≡ suc (suc (suc (3 * i))) = omega arith in
    let b : 3 * suc i + 1 ≡ suc (suc (suc (3 * i + 1))) = omega arith in
    let c : 3 * suc i + 2 ≡ suc (suc (suc (3 * i + 2))) = omega arith in
    rw (b, c, a) (flat_at fs rest i (omega arith))

pub written_at : (fs : List Face) (words : List ℕ) → 3 * length fs ≤ length words → (i : ℕ) → i < length fs → face_in (written fs words) i ≡ face_at fs i
unfolding written
written_at fs words room i h =
    let k : length fs ≤ length words / 3 = omega arith in
    rw (take_all (length words / 3) fs k) (flat_at fs (drop (length (flat fs)) words) i h)

-- where every face's points are below n, so is every word of the faces
pub words_below : (w : List ℕ) (n count : ℕ) → ((i : ℕ) → i < count → ((face_in w i).a < n) × ((face_in w i).b < n) × ((face_in w i).c < n)) → (s : ℕ) → s < 3 * count
    → get_or w s 0 < n
words_below w n count below s h = go (s % 3) (omega arith) (omega arith)
  where
    go : (k : ℕ) → s ≡ 3 * (s / 3) + k → k < 3 → get_or w s 0 < n
    go zero e l = let b = (below (s / 3) (omega arith)).0 in let q : s ≡ 3 * (s / 3) = omega arith in subst (λ (m : ℕ). get_or w m 0 < n) (sym q) b
    go (suc zero) e l = let b = (below (s / 3) (omega arith)).1 in subst (λ (m : ℕ). get_or w m 0 < n) (sym e) b
    go (suc (suc zero)) e l = let b = (below (s / 3) (omega arith)).2 in subst (λ (m : ℕ). get_or w m 0 < n) (sym e) b
    go (suc (suc (suc k))) e l = absurd (omega arith)
