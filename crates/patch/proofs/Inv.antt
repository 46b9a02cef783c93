-- What a step does to one edge and to one point. Assumes nothing.
use Prim.Native.Nat.{ℕ, zero, suc, ◌+◌, ◌≤◌, ◌<◌}
use mathlib.Core.Path.{◌≡◌, refl, ap, ◌∙◌}
use mathlib.Core.Logic.{⊎_elim}
use mathlib.Core.Bool.{Bool, true, false}
use mathlib.Core.List.{List, [], ◌∷◌, ◌++◌}
use native.Mathlib.Omega.{arith}
use native.Mathlib.Decide.{dec_lt}
use lib.Dec.{eqb}
use lib.ListN.{length, get_or, take, set, length-set, length-append, get_or-append}
use lib.Seq.{take-append-le, take_at, get_or_at, get_or-set_same, get_or-set_other}
use borrow.Author.Tests.{eqb-true, eqb-false, eq-eqb}
use Rattle.lists.specs.Lists.{bit, count}
use Rattle.patch.specs.Lay.{Face, marked}
use Rattle.patch.specs.Shape.{no_face, Laid}
use Rattle.patch.specs.Inner.Invariant.{Edgewise, Pointwise, Flags, EachFace}
use Rattle.lists.proofs.Bools.{either}
use Rattle.lists.proofs.Counts.{count_append}

-- ---- one edge, step by step: x says how often it is popped, t how often it is a new edge of the face laid
pub edge_skip : (w q p l x : ℕ) → Edgewise w (x + q) p l → Edgewise w q p l
edge_skip w q p l x h = omega arith

pub edge_miss : (w q p l x : ℕ) → p + x ≤ 1 → Edgewise w (x + q) p l → Edgewise w q (p + x) l
edge_miss w q p l zero g h = omega arith
edge_miss w q p l (suc zero) g h = omega arith
edge_miss w q p l (suc (suc x)) g h = absurd (omega arith)

pub edge_grow : (w q p l x t : ℕ) → p + x ≤ 1 → x + t ≤ 1 → (1 ≤ t → w ≡ 0) → Edgewise w (x + q) p l → Edgewise (w + (x + t)) (q + (x + t)) (p + x) (t + l)
edge_grow w q p l zero zero g k z h = omega arith
edge_grow w q p l (suc zero) zero g k z h = omega arith
edge_grow w q p l (suc (suc x)) zero g k z h = absurd (omega arith)
edge_grow w q p l zero (suc zero) g k z h = let e = z (omega arith) in omega arith
edge_grow w q p l (suc x) (suc zero) g k z h = absurd (omega arith)
edge_grow w q p l x (suc (suc t)) g k z h = absurd (omega arith)

pub edge_clear : (w q p l : ℕ) → Edgewise w q p l → Edgewise w 0 0 l
edge_clear w q p l h = omega arith

pub edge_at : {w q p l w' q' p' l' : ℕ} → w' ≡ w → q' ≡ q → p' ≡ p → l' ≡ l → Edgewise w q p l → Edgewise w' q' p' l'
edge_at a b c d h = omega arith

-- ---- one point: y says how often it is among those used from now on, z whether the face laid touches it
pub point_more : (n x u t y z : ℕ) → Pointwise n x u t → y ≤ 1 → (1 ≤ y → (u ≡ 0) × (x < n) × (1 ≤ z)) → (y ≡ 0 → u ≡ 0 → z ≡ 0) → Pointwise n x (y + u) (t + z)
point_more n x u t zero z h a b c = record {
  once = omega arith;
  used_below = λ m. h.used_below (omega arith);
  used_touched = λ m. let k = h.used_touched (omega arith) in omega arith;
  unused_untouched = λ m. let g : u ≡ 0 = omega arith in let k = h.unused_untouched g in let l = c refl g in omega arith;
}
point_more n x u t (suc y) z h a b c =
    let k = b (omega arith) in record {
      once = omega arith;
      used_below = λ m. k.1;
      used_touched = λ m. omega arith;
      unused_untouched = λ m. absurd (omega arith);
    }

pub touched_used : (n x u t : ℕ) → Pointwise n x u t → 1 ≤ t → 1 ≤ u
touched_used n x zero t h k = let z = h.unused_untouched refl in absurd (omega arith)
touched_used n x (suc u) t h k = omega arith

pub point_at_lem : {n x u t u' t' : ℕ} → u' ≡ u → t' ≡ t → Pointwise n x u t → Pointwise n x u' t'
point_at_lem {n} {x} a b h = rw (a, b) h

-- ---- one more face
pub each_snoc : (bs : List Bool) (fs : List Face) (b : Bool) (f : Face) → length bs ≡ length fs → EachFace bs fs → Laid b fs f
    → EachFace (bs ++ (b ∷ [])) (fs ++ (f ∷ []))
each_snoc bs fs b f same_length h l i g = go (dec_lt i (length fs))
  where
    go : Dec (i < length fs) → Laid (get_or (bs ++ (b ∷ [])) i false) (take i (fs ++ (f ∷ []))) (get_or (fs ++ (f ∷ [])) i no_face)
    go (yes y) =
        let k : i ≤ length fs = omega arith in
        let m : i < length bs = omega arith in
        rw (take-append-le i fs (f ∷ []) k, get_or-append fs (f ∷ []) no_face i y, get_or-append bs (b ∷ []) false i m) (h i y)
    go (no y) =
        let e : length fs ≡ i = omega (arith, length-append fs (f ∷ [])) in
        rw (take_at fs (f ∷ []) i e, get_or_at fs f [] no_face i e, get_or_at bs b [] false i (same_length ∙ e)) l

-- ---- more used points
mark : (used points : List ℕ) (k : ℕ) → Flags used points → k < length used → count (eqb k) points ≡ 0 → Flags (set used k 1) (k ∷ points)
mark used points k h l z x = ⊎_elim
    (λ (t : eqb x k ≡ true).
    let q = eqb-true x k t in
    let c : count (eqb x) points ≡ 0 = ap (λ (y : ℕ). count (eqb y) points) q ∙ z in
    let o : bit (eqb x k) ≡ 1 = ap bit t in
    ap (λ (y : ℕ). get_or (set used k 1) y 0) q ∙ get_or-set_same used k 1 0 l ∙ (omega arith))
    (λ (t : eqb x k ≡ false).
    let o : bit (eqb x k) ≡ 0 = ap bit t in
    get_or-set_other used k x 1 0 (eqb-false x k t) ∙ h x ∙ (omega arith))
    (either (eqb x k))

pub length_marked : (used ks : List ℕ) → length (marked used ks) ≡ length used
unfolding marked
length_marked used [] = refl
length_marked used (k ∷ ks) = length_marked (set used k 1) ks ∙ length-set used k 1

-- the points ks were not listed before, and are listed now
pub marked_flags : (ks used points : List ℕ) → Flags used points → ((x : ℕ) → count (eqb x) ks ≤ 1)
    → ((x : ℕ) → 1 ≤ count (eqb x) ks → (x < length used) × (count (eqb x) points ≡ 0)) → Flags (marked used ks) (ks ++ points)
unfolding marked
marked_flags [] used points h once free x = h x
marked_flags (k ∷ ks) used points h once free x =
    let f = free k (rw (eq-eqb k k refl) (omega arith)) in
    let more = marked_flags ks (set used k 1) (k ∷ points) (mark used points k h f.0 f.1)
    (λ y. let o = once y in omega arith)
    (λ y m. let o = once y in let g = free y (omega arith) in (omega (arith, length-set used k 1), omega arith))
    x in
    omega (arith, count_append (eqb x) ks (k ∷ points), count_append (eqb x) ks points)
