-- Faces and origins in front of a slice: how they are read back. Assumes nothing.
use Prim.Native.Nat.{ℕ, ◌+◌, ◌*◌, ◌/◌, ◌≤◌, ◌<◌}
use mathlib.Core.Path.{◌≡◌, refl, sym, ap, ◌∙◌}
use mathlib.Core.List.{List, [], ◌∷◌, ◌++◌, append_assoc}
use native.Mathlib.Omega.{arith}
use lib.ListN.{length, get_or, drop, length-append, get_or-append}
use lib.Seq.{sets, sets-eq, take_all, get_or-append-add, drop_at}
use borrow.Author.Tests.{lt-ltb}
use Rattle.patch.specs.Lay.{Face}
use Rattle.patch.specs.View.{flat, written}
use Rattle.patch.proofs.View.{length_flat, length_written}
use Rattle.origins.specs.Origins.{pairs}
use Rattle.origins.proofs.Pairs.{pairs_length, pairs_parent}
use Rattle.tracing.specs.Inner.Read.{face_of, faces_from}
use Rattle.looks.specs.Inner.Looks.{parent_in}
use Rattle.ball_pivoting.specs.Outcome.{faces_in}

-- ---- numbers put in front
pub sets_front : (vs l : List ℕ) → length vs ≤ length l → sets l 0 vs ≡ vs ++ drop (length vs) l
sets_front vs l h = let z : 0 + length vs ≡ length vs = omega arith in sets-eq vs l 0 (omega arith) ∙ ap (λ (k : ℕ). vs ++ drop k l) z

pub written_fits : (fs : List Face) (xs : List ℕ) → 3 * length fs ≤ length xs → written fs xs ≡ flat fs ++ drop (length (flat fs)) xs
unfolding written
written_fits fs xs h =
    let k : length fs ≤ length xs / 3 = omega arith in
    rw (take_all (length xs / 3) fs k)

-- other faces, as many, over those that stand there
pub front_again : (ts fs : List Face) (lent : List ℕ) → length ts ≡ length fs → 3 * length fs ≤ length lent → sets (written fs lent) 0 (flat ts) ≡ flat ts
    ++ drop (length (flat ts)) lent
front_again ts fs lent e h =
    let long : length (flat ts) ≡ length (flat fs) = length_flat ts ∙ ap (λ (k : ℕ). 3 * k) e ∙ sym (length_flat fs) in
    let room : length (flat ts) ≤ length (written fs lent) = omega (arith, length_flat ts, length_written fs lent) in
    let rest : drop (length (flat ts)) (written fs lent) ≡ drop (length (flat ts)) lent =
    ap (drop (length (flat ts))) (written_fits fs lent h)
    ∙ drop_at (flat fs) (drop (length (flat fs)) lent) (length (flat ts)) (sym long)
    ∙ ap (λ (k : ℕ). drop k lent) (sym long) in
    sets_front (flat ts) (written fs lent) room ∙ ap (λ (l : List ℕ). flat ts ++ l) rest

-- ---- faces read back
faces_flat : (fs : List Face) (k : ℕ) (pre rest : List ℕ) → length pre ≡ 3 * k → faces_from (pre ++ (flat fs ++ rest)) k (length fs) ≡ fs
unfolding faces_from flat
faces_flat [] k pre rest l = refl
faces_flat (f ∷ fs) k pre rest l =
    let more : List ℕ = flat fs ++ rest in
    let three : List ℕ = f.a ∷ f.b ∷ f.c ∷ [] in
    let at : (j : ℕ) → get_or (pre ++ (f.a ∷ f.b ∷ f.c ∷ more)) (3 * k + j) 0 ≡ get_or (f.a ∷ f.b ∷ f.c ∷ more) j 0 =
    λ j. (ap (λ (i : ℕ). get_or (pre ++ (f.a ∷ f.b ∷ f.c ∷ more)) (i + j) 0) (sym l) ∙ get_or-append-add pre (f.a ∷ f.b ∷ f.c ∷ more) j 0) in
    let z : 3 * k ≡ 3 * k + 0 = omega arith in
    let first : get_or (pre ++ (f.a ∷ f.b ∷ f.c ∷ more)) (3 * k) 0 ≡ f.a = ap (λ (i : ℕ). get_or (pre ++ (f.a ∷ f.b ∷ f.c ∷ more)) i 0) z ∙ at 0 in
    let here : face_of (pre ++ (f.a ∷ f.b ∷ f.c ∷ more)) k ≡ f = rw (first, at 1, at 2) in
    let longer : length (pre ++ three) ≡ 3 * (k + 1) = length-append pre three ∙ omega arith in
    let on : faces_from (pre ++ (f.a ∷ f.b ∷ f.c ∷ more)) (k + 1) (length fs) ≡ fs =
    ap (λ (s : List ℕ). faces_from s (k + 1) (length fs)) (sym (append_assoc pre three more)) ∙ faces_flat fs (k + 1) (pre ++ three) rest longer in
    ap (λ (g : Face). g ∷ faces_from (pre ++ (f.a ∷ f.b ∷ f.c ∷ more)) (k + 1) (length fs)) here ∙ ap (λ (l : List Face). f ∷ l) on

pub faces_from_written : (fs : List Face) (lent : List ℕ) (count : ℕ) → count ≡ length fs → 3 * length fs ≤ length lent → faces_from (written fs lent) 0 count
    ≡ fs
faces_from_written fs lent count e h =
    ap (faces_from (written fs lent) 0) e
    ∙ ap (λ (s : List ℕ). faces_from s 0 (length fs)) (written_fits fs lent h)
    ∙ faces_flat fs 0 [] (drop (length (flat fs)) lent) refl

pub faces_in_flat : (fs : List Face) (rest : List ℕ) → faces_in (length fs) (flat fs ++ rest) ≡ fs
unfolding faces_in flat
faces_in_flat [] rest = refl
faces_in_flat (f ∷ fs) rest = ap (λ (l : List Face). f ∷ l) (faces_in_flat fs rest)

-- ---- the parent read back
pub parent_in_lem : (ps qs rest : List ℕ) (i : ℕ) → length ps ≡ length qs → i < length ps → parent_in (pairs ps qs ++ rest) i ≡ get_or ps i 0
unfolding parent_in
parent_in_lem ps qs rest i e h =
    let l = length-append (pairs ps qs) rest in
    let m = pairs_length ps qs e in
    let there : i < length (pairs ps qs ++ rest) / 2 = omega arith in
    rw (lt-ltb i (length (pairs ps qs ++ rest) / 2) there) (get_or-append (pairs ps qs) rest 0 (2 * i) (omega arith) ∙ pairs_parent ps qs e i h)
