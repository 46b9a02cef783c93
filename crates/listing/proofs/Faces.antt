-- The faces' lines, line by line, as the loop puts them. Assumes nothing.
use mathlib.Core.Path.{◌≡◌, sym, ap, ◌∙◌, subst}
use mathlib.Core.List.{List, [], ◌++◌, append-nil, append_assoc}
use Prim.Native.Nat.{ℕ, suc, ◌+◌, ◌-◌, ◌*◌, ◌≤◌, ◌<◌}
use native.Mathlib.Omega.{arith}
use lib.ListN.{get_or}
use Rattle.listing.specs.Listing.{text, field_text, face_line, face_lines, counts_line, listing, refusal_text}
use Rattle.listing.specs.declared.ListingCounts.{ListingCounts}
use Rattle.listing.specs.Inner.Ready.{PutBytes}
use Rattle.listing.proofs.Puts.{put_none, put_then}

-- the lines of the first i of n faces were put
pub record Rows (fs : List ℕ) (n : ℕ) (out₀ out : List ℕ) (at i next : ℕ) : Type 0 where
  pub done : List ℕ
  pub same : face_lines fs 0 n ≡ done ++ face_lines fs i (n - i)
  pub put : PutBytes done out₀ out at next

pub rows_start : (fs : List ℕ) (n : ℕ) (out : List ℕ) (at : ℕ) → Rows fs n out out at 0 at
rows_start fs n out at = record { done = []; same = (let e : n ≡ n - 0 = omega arith in ap (face_lines fs 0) e); put = put_none out at }

module _ (fs : List ℕ) (n : ℕ) (out₀ out : List ℕ) (at i next : ℕ) (r : Rows fs n out₀ out at i next) where
  pub rows_next : i < n → (out' : List ℕ) (next' : ℕ)
      → PutBytes (face_line i (get_or fs (3 * i) 0) (get_or fs (3 * i + 1) 0) (get_or fs (3 * i + 2) 0)) out out' next next' → Rows fs n out₀ out' at (i + 1) next'
  unfolding face_lines
  rows_next h out' next' p =
      let line = face_line i (get_or fs (3 * i) 0) (get_or fs (3 * i + 1) 0) (get_or fs (3 * i + 2) 0) in
      let left : n - i ≡ suc (n - (i + 1)) = omega arith in
      record {
        done = r.done ++ line;
        same = r.same ∙ ap (λ (m : ℕ). r.done ++ face_lines fs i m) left ∙ sym (append_assoc r.done line (face_lines fs (i + 1) (n - (i + 1))));
        put = put_then r.done line out₀ out out' at next next' r.put p;
      }

  pub rows_end : n ≤ i → PutBytes (face_lines fs 0 n) out₀ out at next
  unfolding face_lines
  rows_end h =
      let none : n - i ≡ 0 = omega arith in
      let e : face_lines fs 0 n ≡ r.done = r.same ∙ ap (λ (m : ℕ). r.done ++ face_lines fs i m) none ∙ append-nil r.done in
      subst (λ (xs : List ℕ). PutBytes xs out₀ out at next) (sym e) r.put

-- ---- the fields of a line, one after the other
module _ (l₀ l₁ l₂ l₃ l₄ : List ℕ) (at r₁ r₂ r₃ r₄ : ℕ) where
  pub put_face_line : (i a b c : ℕ) → PutBytes (field_text i 44) l₀ l₁ at r₁ × (r₁ ≤ at + 21) → PutBytes (field_text a 44) l₁ l₂ r₁ r₂ × (r₂ ≤ r₁ + 21)
      → PutBytes (field_text b 44) l₂ l₃ r₂ r₃ × (r₃ ≤ r₂ + 21)
      → PutBytes (field_text c 10) l₃ l₄ r₃ r₄ × (r₄ ≤ r₃ + 21) → PutBytes (face_line i a b c) l₀ l₄ at r₄ × (r₄ ≤ at + 84)
  unfolding face_line
  put_face_line i a b c p₁ p₂ p₃ p₄ =
      let two = put_then (field_text i 44) (field_text a 44) l₀ l₁ l₂ at r₁ r₂ p₁.0 p₂.0 in
      let three = put_then (field_text i 44 ++ field_text a 44) (field_text b 44) l₀ l₂ l₃ at r₂ r₃ two p₃.0 in (
        put_then (field_text i 44 ++ field_text a 44 ++ field_text b 44) (field_text c 10) l₀ l₃ l₄ at r₃ r₄ three p₄.0,
        omega
            (arith, p₁.1, p₂.1, p₃.1, p₄.1),
      )

  pub put_counts_line : (l₅ : List ℕ) (r₅ : ℕ) (n : ListingCounts) → PutBytes (field_text n.points 44) l₀ l₁ at r₁ × (r₁ ≤ at + 21)
      → PutBytes (field_text n.faces 44) l₁ l₂ r₁ r₂ × (r₂ ≤ r₁ + 21)
      → PutBytes (field_text n.seeds 44) l₂ l₃ r₂ r₃ × (r₃ ≤ r₂ + 21) → PutBytes (field_text n.looks 44) l₃ l₄ r₃ r₄ × (r₄ ≤ r₃ + 21)
      → PutBytes (field_text n.pivots 10) l₄ l₅ r₄ r₅ × (r₅ ≤ r₄ + 21)
      → PutBytes (counts_line n) l₀ l₅ at r₅ × (r₅ ≤ at + 105)
  unfolding counts_line
  put_counts_line l₅ r₅ n p₁ p₂ p₃ p₄ p₅ =
      let two = put_then (field_text n.points 44) (field_text n.faces 44) l₀ l₁ l₂ at r₁ r₂ p₁.0 p₂.0 in
      let three = put_then (field_text n.points 44 ++ field_text n.faces 44) (field_text n.seeds 44) l₀ l₂ l₃ at r₂ r₃ two p₃.0 in
      let four = put_then (field_text n.points 44 ++ field_text n.faces 44 ++ field_text n.seeds 44) (field_text n.looks 44) l₀ l₃ l₄ at r₃ r₄ three
      p₄.0 in (
        put_then (field_text n.points 44 ++ field_text n.faces 44 ++ field_text n.seeds 44 ++ field_text n.looks 44)
            (field_text n.pivots 10) l₀ l₄ l₅ at r₄ r₅ four p₅.0,
        omega (arith, p₁.1, p₂.1, p₃.1, p₄.1, p₅.1),
      )

  -- the whole texts
  pub put_all_parts : (n : ListingCounts) (fs : List ℕ) → PutBytes (text "points,faces,seeds,looks,pivots\n") l₀ l₁ at r₁ → PutBytes (counts_line n) l₁ l₂ r₁ r₂
      → PutBytes (text "face,a,b,c\n") l₂ l₃ r₂ r₃
      → PutBytes (face_lines fs 0 n.faces) l₃ l₄ r₃ r₄ → PutBytes (listing n fs) l₀ l₄ at r₄
  unfolding listing
  put_all_parts n fs p₁ p₂ p₃ p₄ =
      let two = put_then (text "points,faces,seeds,looks,pivots\n") (counts_line n) l₀ l₁ l₂ at r₁ r₂ p₁ p₂ in
      let three = put_then (text "points,faces,seeds,looks,pivots\n" ++ counts_line n) (text "face,a,b,c\n") l₀ l₂ l₃ at r₂ r₃ two p₃ in
      put_then (text "points,faces,seeds,looks,pivots\n" ++ counts_line n ++ text "face,a,b,c\n") (face_lines fs 0 n.faces) l₀ l₃ l₄ at r₃ r₄ three p₄

pub put_refused : (l₀ l₁ l₂ l₃ : List ℕ) (at r₁ r₂ r₃ answer detail : ℕ) → PutBytes (text "refused,") l₀ l₁ at r₁ → PutBytes (field_text answer 44) l₁ l₂ r₁ r₂
    → PutBytes (field_text detail 10) l₂ l₃ r₂ r₃ → PutBytes (refusal_text answer detail) l₀ l₃ at r₃
unfolding refusal_text
put_refused l₀ l₁ l₂ l₃ at r₁ r₂ r₃ answer detail p₁ p₂ p₃ =
    put_then (text "refused," ++ field_text answer 44) (field_text detail 10) l₀ l₂ l₃ at r₂ r₃
    (put_then (text "refused,") (field_text answer 44) l₀ l₁ l₂ at r₁ r₂ p₁ p₂) p₃
