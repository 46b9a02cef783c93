-- The pass that stores the faces, line by line: those that stand in the slice and those that are left are all. Assumes
-- nothing.
use mathlib.Core.Path.{◌≡◌, refl, sym, ap, ◌∙◌, subst}
use mathlib.Core.List.{List, [], ◌∷◌, ◌++◌, append-nil, append_assoc}
use Prim.Native.Nat.{ℕ, ◌+◌, ◌≤◌, ◌<◌}
use native.Mathlib.Omega.{arith}
use lib.ListN.{length, drop, length-append}
use Rattle.numerals.specs.Format.{parsed, malformed}
use Rattle.patch.specs.Lay.{Face}
use Rattle.patch.specs.View.{written}
use Rattle.patch.proofs.View.{written_none}
use Rattle.laying_words.specs.Inner.Words.{WroteFace}
use Rattle.face_lines.specs.Format.{line, FaceLines, good, wrong, face_ahead}
use Rattle.face_lines.specs.Inner.Answers.{Readable, Stored}
use Rattle.numerals.proofs.Rows.{From, from_end, from_wrong, from_next}
use Rattle.face_lines.proofs.Rows.{faces_run, file_start}

-- good lines behind a face that was read
ahead_good : (f : Face) (l : FaceLines) (fs : List Face) → good fs ≡ face_ahead f l → (gs : List Face) × ((l ≡ good gs) × (fs ≡ f ∷ gs))
unfolding face_ahead
ahead_good f (good gs) fs e = (gs, (refl, cc))
ahead_good f (wrong number) fs e = let z : ◌≡◌ {A = ℕ} 0 1 = cc in absurd (omega arith)

module _ (s words₀ : List ℕ) (r : Readable s) where
  -- some faces are stored, and the lines from `at` on are those of the others
  pub record Storing (words : List ℕ) (count at : ℕ) : Type 0 where
    pub done : List Face
    pub left : List Face
    pub split : r.faces ≡ done ++ left
    pub source : From faces_run s at (good left)
    pub place : length done ≡ count
    pub holds : words ≡ written done words₀

  pub storing_start : Storing words₀ 0 0
  storing_start = record {
    done = [];
    left = r.faces;
    split = refl;
    source = subst (From faces_run s 0) r.good_lines (file_start s);
    place = refl;
    holds = sym (written_none words₀);
  }

  module _ (words : List ℕ) (count at : ℕ) (st : Storing words count at) where
    pub storing_few : count ≤ 10000
    storing_few = omega (arith, r.few, st.place, ap length st.split, length-append st.done st.left)

    pub storing_end : length s ≤ at → Stored s words₀ words
    storing_end h fs e =
        let none : st.left ≡ [] = let e = from_end faces_run s at (good st.left) st.source h in cc in
        let all : r.faces ≡ st.done = st.split ∙ ap (λ (l : List Face). st.done ++ l) none ∙ append-nil st.done in
        let given : r.faces ≡ fs = let g = r.good_lines in cc in
        st.holds ∙ ap (λ (l : List Face). written l words₀) (sym all ∙ given)

    module _ (inside : at < length s) where
      pub storing_never : line (drop at s) ≡ malformed → ⊥
      storing_never e =
          let w = from_wrong faces_run s at (good st.left) st.source inside e in
          let z : ◌≡◌ {A = ℕ} 0 1 = cc in omega arith

      pub storing_next : (f : Face) (next : ℕ) (words' : List ℕ) → line (drop at s) ≡ parsed f (drop next s) → WroteFace count f words words'
          → Storing words' (count + 1) next
      storing_next f next words' e w =
          let n = from_next faces_run s at (good st.left) st.source inside f next e in
          let a = ahead_good f n.0 st.left n.1.0 in
          record {
            done = st.done ++ (f ∷ []);
            left = a.0;
            split = st.split ∙ ap (λ (l : List Face). st.done ++ l) a.1.1 ∙ sym (append_assoc st.done (f ∷ []) a.0);
            source = subst (From faces_run s next) a.1.0 n.1.1;
            place = length-append st.done (f ∷ []) ∙ ap (λ (k : ℕ). k + 1) st.place;
            holds = w words₀ st.done st.place st.holds;
          }
