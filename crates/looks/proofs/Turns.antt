-- Faces turned one after the other in their slice: what is left leads to the whole. Assumes nothing.
use mathlib.Core.Path.{◌≡◌, refl, sym, ap, ◌∙◌}
use mathlib.Core.Bool.{Bool, true, false, cond}
use mathlib.Core.List.{List, [], ◌∷◌, ◌++◌, append-nil, append_assoc}
use Prim.Native.Nat.{ℕ, zero, suc, ◌+◌, ◌-◌, ◌*◌, ◌≤◌, ◌<◌}
use native.Mathlib.Omega.{arith}
use native.Mathlib.Numerals.{add-one}
use lib.ListN.{length, get_or, set, length-append}
use lib.Seq.{sets, set-get_or, get_or-set_other}
use Rattle.patch.specs.Lay.{Face, points_of}
use Rattle.patch.specs.View.{flat}
use Rattle.words.proofs.Laws.{sets_then}
use Rattle.origins.specs.Sides.{looks_in}
use Rattle.origins.specs.Turned.{turned_face, turned_from}
use Rattle.tracing.specs.Inner.Read.{face_of, faces_from}
use Rattle.looks.specs.Inner.Looks.{parent_in, side_of, HasSides}

-- what is put in front leaves what comes behind
behind : (vs l : List ℕ) (i j : ℕ) → i + length vs ≤ j → get_or (sets l i vs) j 0 ≡ get_or l j 0
behind [] l i j h = refl
behind (v ∷ vs) l i j h = behind vs (set l i v) (suc i) j (omega arith) ∙ get_or-set_other l i j v 0 (λ q. omega arith)

flat_cons : (f : Face) (fs : List Face) → flat (f ∷ fs) ≡ points_of f ++ flat fs
unfolding flat
flat_cons f fs = refl

-- k faces are turned
pub record Turning (parent : ℕ → ℕ) (before : List ℕ) (n : ℕ) (now : List ℕ) (k : ℕ) : Type 0 where
  pub done : List ℕ
  pub long : length done ≡ 3 * k
  pub put : now ≡ sets before 0 done
  pub leads : done ++ flat (turned_from parent k (faces_from before k (n - k))) ≡ flat (turned_from parent 0 (faces_from before 0 n))

module _ (parent : ℕ → ℕ) (before : List ℕ) (n : ℕ) where
  left_next : (k m : ℕ) → flat (turned_from parent k (faces_from before k (suc m)))
      ≡ points_of (turned_face (looks_in parent k) (face_of before k)) ++ flat (turned_from parent (k + 1) (faces_from before (k + 1) m))
  unfolding turned_from faces_from
  left_next k m =
      flat_cons (turned_face (looks_in parent k) (face_of before k)) (turned_from parent (suc k) (faces_from before (k + 1) m))
      ∙ ap (λ (j : ℕ). points_of (turned_face (looks_in parent k) (face_of before k)) ++ flat (turned_from parent j (faces_from before (k + 1) m))) (sym (add-one k))

  -- one face more: its three numbers are put at their place
  step : (now now₁ : List ℕ) (k : ℕ) → k < n → now₁ ≡ sets now (3 * k) (points_of (turned_face (looks_in parent k) (face_of before k)))
      → Turning parent before n now k → Turning parent before n now₁ (k + 1)
  step now now₁ k h e t =
      let f = turned_face (looks_in parent k) (face_of before k) in
      let at : 3 * k ≡ 0 + length t.done = omega (arith, t.long) in
      let more : n - k ≡ suc (n - (k + 1)) = omega arith in
      record {
        done = t.done ++ points_of f;
        long = length-append t.done (points_of f) ∙ omega (arith, t.long);
        put = sets_then t.done (points_of f) before now now₁ 0 (3 * k) t.put at e;
        leads =
            append_assoc t.done (points_of f) (flat (turned_from parent (k + 1) (faces_from before (k + 1) (n - (k + 1)))))
            ∙ ap (λ (l : List ℕ). t.done ++ l) (sym (left_next k (n - (k + 1))) ∙ ap (λ (m : ℕ). flat (turned_from parent k (faces_from before k m))) (sym more))
            ∙ t.leads;
      }

  module _ (now : List ℕ) (k : ℕ) (t : Turning parent before n now k) where
    -- the face that is read is still as it was
    same_at : (j : ℕ) → 3 * k ≤ j → get_or now j 0 ≡ get_or before j 0
    same_at j h = ap (λ (l : List ℕ). get_or l j 0) t.put ∙ behind t.done before 0 j (omega (arith, t.long))

    pub turning_in : (now₁ : List ℕ) → k < n → looks_in parent k ≡ true
        → now₁ ≡ set (set now (3 * k) (get_or now (3 * k + 1) 0)) (3 * k + 1) (get_or now (3 * k) 0) → Turning parent before n now₁ (k + 1)
    turning_in now₁ h inward e = step now now₁ k h
        (e
        ∙ (let x = get_or now (3 * k + 1) 0 in let y = get_or now (3 * k) 0 in
        sym (third now (3 * k) x y)
        ∙ ap (λ (v : ℕ). sets now (3 * k) (v ∷ y ∷ get_or now (3 * k + 2) 0 ∷ [])) (same_at (3 * k + 1) (omega arith))
        ∙ ap (λ (v : ℕ). sets now (3 * k) (get_or before (3 * k + 1) 0 ∷ v ∷ get_or now (3 * k + 2) 0 ∷ [])) (same_at (3 * k) (omega arith))
        ∙ ap (λ (v : ℕ). sets now (3 * k) (get_or before (3 * k + 1) 0 ∷ get_or before (3 * k) 0 ∷ v ∷ [])) (same_at (3 * k + 2) (omega arith))
        ∙ ap (λ (b : Bool). sets now (3 * k) (points_of (turned_face b (face_of before k)))) (sym inward)))
        t
      where
        third : (l : List ℕ) (i x y : ℕ) → sets l i (x ∷ y ∷ get_or l (i + 2) 0 ∷ []) ≡ set (set l i x) (i + 1) y
        third l i x y =
            let two : i + 2 ≡ suc (suc i) = omega arith in
            let m = set (set l i x) (suc i) y in
            let same : get_or l (suc (suc i)) 0 ≡ get_or m (suc (suc i)) 0 =
            sym (get_or-set_other (set l i x) (suc i) (suc (suc i)) y 0 (λ q. omega arith) ∙ get_or-set_other l i (suc (suc i)) x 0 (λ q. omega arith)) in
            ap (λ (j : ℕ). set m (suc (suc i)) (get_or l j 0)) two
            ∙ ap (set m (suc (suc i))) same ∙ set-get_or m (suc (suc i)) 0
            ∙ ap (λ (j : ℕ). set (set l i x) j y) (sym (add-one i))

    pub turning_out : k < n → looks_in parent k ≡ false → Turning parent before n now (k + 1)
    turning_out h outward = step now now k h
        (sym (ap (λ (b : Bool). sets now (3 * k) (points_of (turned_face b (face_of before k)))) outward
        ∙ ap (λ (v : ℕ). sets now (3 * k) (v ∷ get_or before (3 * k + 1) 0 ∷ get_or before (3 * k + 2) 0 ∷ [])) (sym (same_at (3 * k) (omega arith)))
        ∙ ap (λ (v : ℕ). sets now (3 * k) (get_or now (3 * k) 0 ∷ v ∷ get_or before (3 * k + 2) 0 ∷ [])) (sym (same_at (3 * k + 1) (omega arith)))
        ∙ ap (λ (v : ℕ). sets now (3 * k) (get_or now (3 * k) 0 ∷ get_or now (3 * k + 1) 0 ∷ v ∷ [])) (sym (same_at (3 * k + 2) (omega arith)))
        ∙ own now (3 * k)))
        t
      where
        own : (l : List ℕ) (i : ℕ) → sets l i (get_or l i 0 ∷ get_or l (i + 1) 0 ∷ get_or l (i + 2) 0 ∷ []) ≡ l
        own l i =
            let two : i + 2 ≡ suc (suc i) = omega arith in
            rw (two, add-one i, set-get_or l i 0, set-get_or l (suc i) 0, set-get_or l (suc (suc i)) 0)

  none_left : (k m : ℕ) → m ≡ 0 → flat (turned_from parent k (faces_from before k m)) ≡ []
  unfolding flat turned_from faces_from
  none_left k zero e = refl
  none_left k (suc m) e = absurd (omega arith)

  pub turning_end : (now : List ℕ) (k : ℕ) → n ≤ k → Turning parent before n now k → now ≡ sets before 0 (flat (turned_from parent 0 (faces_from before 0 n)))
  turning_end now k h t =
      t.put
      ∙ ap (sets before 0) (sym (append-nil t.done) ∙ ap (λ (l : List ℕ). t.done ++ l) (sym (none_left k (n - k) (omega arith))) ∙ t.leads)

-- ---- by the sides that are told
inward_of : (b : Bool) (x : ℕ) → x ≡ cond b 1 0 → (x ≡ 0 → ⊥) → b ≡ true
inward_of true x e h = refl
inward_of false x e h = absurd (h e)

outward_of : (b : Bool) (x : ℕ) → x ≡ cond b 1 0 → x ≡ 0 → b ≡ false
outward_of true x e h = absurd (omega arith)
outward_of false x e h = refl

module _ (origins sides before : List ℕ) (n : ℕ) (known : HasSides origins sides n) (now : List ℕ) (k : ℕ) (h : k < n)
    (t : Turning (parent_in origins) before n now k) where
  pub told_in : (now₁ : List ℕ) → (get_or sides k 0 ≡ 0 → ⊥)
      → now₁ ≡ set (set now (3 * k) (get_or now (3 * k + 1) 0)) (3 * k + 1) (get_or now (3 * k) 0) → Turning (parent_in origins) before n now₁ (k + 1)
  unfolding side_of
  told_in now₁ some e = turning_in (parent_in origins) before n now k t now₁ h
      (inward_of (looks_in (parent_in origins) k) (get_or sides k 0) (known.right k h) some) e

  pub told_out : get_or sides k 0 ≡ 0 → Turning (parent_in origins) before n now (k + 1)
  unfolding side_of
  told_out none = turning_out (parent_in origins) before n now k t h (outward_of (looks_in (parent_in origins) k) (get_or sides k 0) (known.right k h) none)
