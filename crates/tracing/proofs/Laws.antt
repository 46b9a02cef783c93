-- The pass, one face after the other: what each leaves, and that what is left leads to the whole. Assumes nothing.
use mathlib.Core.Path.{◌≡◌, refl, sym, ap, ◌∙◌}
use mathlib.Core.Bool.{cond, not}
use mathlib.Core.List.{List, [], ◌∷◌, ◌++◌, append-nil, append_assoc}
use Prim.Native.Nat.{ℕ, zero, suc, ◌+◌, ◌-◌, ◌*◌, ◌≤◌, ◌<◌, max}
use native.Mathlib.Omega.{arith}
use native.Mathlib.Numerals.{add-one}
use mathlib.Core.Logic.{dite}
use native.Mathlib.Decide.{dec_lt}
use lib.Dec.{leb, ltb}
use Rattle.std.specs.List.{count_by}
use Rattle.std.proofs.lemmas.List.Recursion.{is_count_by}
use lib.ListN.{length, get_or, set, length-append}
use lib.Seq.{sets}
use borrow.Author.Tests.{eq-eqb, ne_eqb, lt-ltb, le-ltb, lt-leb, le-leb}
use Rattle.lists.specs.Lists.{bit}
use Rattle.patch.specs.Lay.{face}
use Rattle.origins.specs.Pass.{parent_at, brought_after, place_of, origins_from}
use Rattle.words.proofs.Laws.{sets_then}
use Rattle.tracing.specs.Inner.Read.{face_of, faces_from}

-- ---- a face
module _ (k a b c first : ℕ) (w : List ℕ) (is : first ≡ get_or w a 0) where
  pub trace_seed : (w₁ w₂ w₃ : List ℕ) → first ≡ 0 → w₁ ≡ set w a (k + 1) → w₂ ≡ set w₁ b (k + 1) → w₃ ≡ set w₂ c (k + 1)
      → (k ≡ parent_at k w (face a b c)) × (w₃ ≡ brought_after k w (face a b c))
  unfolding parent_at brought_after
  trace_seed w₁ w₂ w₃ z e₁ e₂ e₃ =
      let seed = eq-eqb (get_or w a 0) 0 (sym is ∙ z) in
      (rw seed, rw seed (e₃ ∙ ap (λ (l : List ℕ). set l c (k + 1)) (e₂ ∙ ap (λ (l : List ℕ). set l b (k + 1)) e₁)))

  pub trace_other : (second last : ℕ) (w₁ : List ℕ) → (first ≡ 0 → ⊥) → second ≡ get_or w b 0 → last ≡ max first second → w₁ ≡ set w c (k + 1)
      → (last - 1 ≡ parent_at k w (face a b c)) × (w₁ ≡ brought_after k w (face a b c))
  unfolding parent_at brought_after
  trace_other second last w₁ n s l e =
      let other = ne_eqb (get_or w a 0) 0 (λ q. n (is ∙ q)) in
      (rw other (ap (λ (m : ℕ). m - 1) (l ∙ ap (λ (x : ℕ). max x second) is ∙ ap (max (get_or w a 0)) s)), rw other e)

-- ---- the place, as a count
at_most : (k m n : ℕ) → bit (not (ltb k m)) + n ≡ cond (leb m k) (1 + n) n
at_most k m n =
    dite (dec_lt k m) (λ h. rw (lt-leb m k h, lt-ltb k m h) (omega arith))
    (λ h. let g : m ≤ k = omega arith in rw (le-leb m k g, le-ltb k m g) (omega arith))

pub place_counts : (k : ℕ) (marks : List ℕ) → place_of marks k ≡ count_by (λ m. leb m k) marks
unfolding place_of
place_counts k marks = is_count_by (λ ms. place_of ms k) (λ m. leb m k) refl (λ m ms. at_most k m (place_of ms k)) marks

-- ---- the pass: k faces are traced
pub record Tracing (marks faces : List ℕ) (total : ℕ) (w₀ origins₀ w origins : List ℕ) (k : ℕ) : Type 0 where
  pub done : List ℕ
  pub long : length done ≡ 2 * k
  pub written : origins ≡ sets origins₀ 0 done
  pub leads : done ++ origins_from marks k w (faces_from faces k (total - k)) ≡ origins_from marks 0 w₀ (faces_from faces 0 total)

module _ (marks faces : List ℕ) (total : ℕ) (w₀ origins₀ : List ℕ) where
  left_next : (w : List ℕ) (k m : ℕ) → origins_from marks k w (faces_from faces k (suc m))
      ≡ parent_at k w (face_of faces k) ∷ place_of marks k ∷ origins_from marks (k + 1) (brought_after k w (face_of faces k)) (faces_from faces (k + 1) m)
  unfolding origins_from faces_from
  left_next w k m = refl

  pub tracing_step : (w w₁ origins : List ℕ) (k p q : ℕ) → k < total → p ≡ parent_at k w (face_of faces k) → w₁ ≡ brought_after k w (face_of faces k) → q
      ≡ place_of marks k
      → Tracing marks faces total w₀ origins₀ w origins k → Tracing marks faces total w₀ origins₀ w₁ (set (set origins (2 * k) p) (2 * k + 1) q) (k + 1)
  tracing_step w w₁ origins k p q h ep ew eq t =
      let at : 2 * k ≡ 0 + length t.done = omega (arith, t.long) in
      let piece : set (set origins (2 * k) p) (2 * k + 1) q ≡ sets origins (2 * k) (p ∷ q ∷ []) = rw (add-one (2 * k)) in
      let more : total - k ≡ suc (total - (k + 1)) = omega arith in
      record {
        done = t.done ++ (p ∷ q ∷ []);
        long = length-append t.done (p ∷ q ∷ []) ∙ omega (arith, t.long);
        written = sets_then t.done (p ∷ q ∷ []) origins₀ origins _ 0 (2 * k) t.written at piece;
        leads =
            append_assoc t.done (p ∷ q ∷ []) (origins_from marks (k + 1) w₁ (faces_from faces (k + 1) (total - (k + 1))))
            ∙ ap (λ (l : List ℕ). t.done ++ l)
            (ap (λ (x : ℕ). x ∷ q ∷ origins_from marks (k + 1) w₁ (faces_from faces (k + 1) (total - (k + 1)))) ep
            ∙ ap (λ (x : ℕ). parent_at k w (face_of faces k) ∷ x ∷ origins_from marks (k + 1) w₁ (faces_from faces (k + 1) (total - (k + 1)))) eq
            ∙ ap (λ (v : List ℕ). parent_at k w (face_of faces k) ∷ place_of marks k ∷ origins_from marks (k + 1) v (faces_from faces (k + 1) (total - (k + 1)))) ew
            ∙ sym (left_next w k (total - (k + 1)))
            ∙ ap (λ (m : ℕ). origins_from marks k w (faces_from faces k m)) (sym more))
            ∙ t.leads;
      }

  none_left : (w : List ℕ) (k m : ℕ) → m ≡ 0 → origins_from marks k w (faces_from faces k m) ≡ []
  unfolding origins_from faces_from
  none_left w k zero e = refl
  none_left w k (suc m) e = absurd (omega arith)

  pub tracing_end : (w origins : List ℕ) (k : ℕ) → total ≤ k → Tracing marks faces total w₀ origins₀ w origins k → origins
      ≡ sets origins₀ 0 (origins_from marks 0 w₀ (faces_from faces 0 total))
  tracing_end w origins k h t =
      t.written
      ∙ ap (sets origins₀ 0) (sym (append-nil t.done) ∙ ap (λ (l : List ℕ). t.done ++ l) (sym (none_left w k (total - k) (omega arith))) ∙ t.leads)
