-- What the parts of a file leave in the slice, one after the other. Assumes nothing.
use mathlib.Core.Path.{◌≡◌, refl, sym, ap, ◌∙◌}
use mathlib.Core.Bool.{Bool, true, false, cond}
use mathlib.Core.List.{List, [], ◌∷◌, ◌++◌}
use Prim.Native.Nat.{ℕ, suc, ◌+◌, ◌*◌, ◌/◌}
use native.Mathlib.Omega.{arith}
use native.Mathlib.Numerals.{add-one}
use lib.ListN.{length, set, replicate, length-append}
use lib.Seq.{sets}
use lib.Ieee.{Float, binary32, eq, to_bits}
use Rattle.numbers.specs.Rounded.{f32, ◌⊘◌}
use Rattle.vector.specs.Vector.{point, difference, magnitude, cross}
use Rattle.vector.specs.declared.Point3f.{Point3f}
use Rattle.words.specs.Words.{word, word_at}
use Rattle.words.specs.Chunks.{chunks}
use Rattle.words.proofs.Laws.{sets_then}
use Rattle.words.proofs.Chunks.{chunks_length}
use Rattle.facets.specs.Format.{divided, normal, vertex, facet, facet_of, corner_at, stl, vertex_at, corners_of}

pub facet_length : (p q r : Point3f) → length (facet p q r) ≡ 50
unfolding facet vertex word
facet_length p q r = refl

pub nine_length : (bytes : List ℕ) (i : ℕ) → length (corners_of bytes i) ≡ 9
unfolding corners_of vertex_at
nine_length bytes i = refl

module _ (l l₁ l₂ l₃ : List ℕ) (at : ℕ) where
  pub put_vertex : (p : Point3f) (a b c : ℕ) → a ≡ to_bits binary32 p.x → b ≡ to_bits binary32 p.y → c ≡ to_bits binary32 p.z
      → l₁ ≡ sets l at (word a) → l₂ ≡ sets l₁ (at + 4) (word b) → l₃ ≡ sets l₂ (at + 8) (word c) → l₃ ≡ sets l at (vertex p)
  unfolding vertex word
  put_vertex p a b c ea eb ec h₁ h₂ h₃ =
      sets_then (word a ++ word b) (word c) l l₂ l₃ at (at + 8) (sets_then (word a) (word b) l l₁ l₂ at (at + 4) h₁ refl h₂) refl h₃
      ∙ ap (λ (n : ℕ). sets l at (word n ++ word b ++ word c)) ea
      ∙ ap (λ (n : ℕ). sets l at (word (to_bits binary32 p.x) ++ word n ++ word c)) eb
      ∙ ap (λ (n : ℕ). sets l at (word (to_bits binary32 p.x) ++ word (to_bits binary32 p.y) ++ word n)) ec

  pub put_facet : (l₄ : List ℕ) (p q r n : Point3f) → n ≡ normal p q r → l₁ ≡ sets l at (vertex n) → l₂ ≡ sets l₁ (at + 12) (vertex p) → l₃
      ≡ sets l₂ (at + 24) (vertex q)
      → l₄ ≡ sets l₃ (at + 36) (vertex r) → set (set l₄ (at + 48) 0) (at + 49) 0 ≡ sets l at (facet p q r)
  unfolding facet vertex word
  put_facet l₄ p q r n e h₁ h₂ h₃ h₄ =
      let last : at + 49 ≡ suc (at + 48) = omega arith in
      let two = sets_then (vertex n) (vertex p) l l₁ l₂ at (at + 12) h₁ refl h₂ in
      let three = sets_then (vertex n ++ vertex p) (vertex q) l l₂ l₃ at (at + 24) two refl h₃ in
      let four = sets_then (vertex n ++ vertex p ++ vertex q) (vertex r) l l₃ l₄ at (at + 36) three refl h₄ in
      ap (λ (k : ℕ). set (set l₄ (at + 48) 0) k 0) last
      ∙ sets_then (vertex n ++ vertex p ++ vertex q ++ vertex r) (0 ∷ 0 ∷ []) l l₄ (sets l₄ (at + 48) (0 ∷ 0 ∷ [])) at (at + 48) four refl refl
      ∙ ap (λ (v : Point3f). sets l at (vertex v ++ vertex p ++ vertex q ++ vertex r ++ (0 ∷ 0 ∷ []))) e

  pub put_file : (points : List Float) (faces : List ℕ) → l₁ ≡ sets l 0 (replicate 80 0) → l₂ ≡ sets l₁ 80 (word (length faces / 3))
      → l₃ ≡ sets l₂ 84 (chunks (facet_of (corner_at points faces)) 0 (length faces / 3)) → l₃ ≡ sets l 0 (stl points faces)
  unfolding stl word
  put_file points faces h₁ h₂ h₃ =
      let n = length faces / 3 in
      sets_then (replicate 80 0 ++ word n) (chunks (facet_of (corner_at points faces)) 0 n) l l₂ l₃ 0 84
      (sets_then (replicate 80 0) (word n) l l₁ l₂ 0 80 h₁ refl h₂) refl h₃

-- ---- reading
pub read_vertex : (bytes : List ℕ) (at : ℕ) (l : List Float) (to : ℕ) (a b c : Float) → a ≡ f32 (word_at bytes at) → b ≡ f32 (word_at bytes (at + 4)) → c
    ≡ f32 (word_at bytes (at + 8))
    → set (set (set l to a) (to + 1) b) (to + 2) c ≡ sets l to (vertex_at bytes at)
unfolding vertex_at
read_vertex bytes at l to a b c ea eb ec =
    let two : to + 2 ≡ suc (suc to) = omega arith in
    let one : to + 1 ≡ suc to = add-one to in
    rw (two, one, ea, eb, ec)

pub read_nine : (bytes : List ℕ) (i : ℕ) (l l₁ l₂ l₃ : List Float) (to : ℕ) → l₁ ≡ sets l to (vertex_at bytes (84 + 50 * i + 12)) → l₂
    ≡ sets l₁ (to + 3) (vertex_at bytes (84 + 50 * i + 24))
    → l₃ ≡ sets l₂ (to + 6) (vertex_at bytes (84 + 50 * i + 36)) → l₃ ≡ sets l to (corners_of bytes i)
unfolding corners_of vertex_at
read_nine bytes i l l₁ l₂ l₃ to h₁ h₂ h₃ =
    let a = vertex_at bytes (84 + 50 * i + 12) in
    let b = vertex_at bytes (84 + 50 * i + 24) in
    sets_then (a ++ b) (vertex_at bytes (84 + 50 * i + 36)) l l₂ l₃ to (to + 6) (sets_then a b l l₁ l₂ to (to + 3) h₁ refl h₂) refl h₃

-- ---- a facet's points as they were read
pub facet_of_lem : (corner : ℕ → Point3f) (i : ℕ) (p q r : Point3f) (l l' : List ℕ) (at : ℕ) → p ≡ corner (3 * i) → q ≡ corner (3 * i + 1) → r ≡ corner (3 * i + 2)
    → l' ≡ sets l at (facet p q r) → l' ≡ sets l at (facet_of corner i)
facet_of_lem corner i p q r l l' at ep eq er h = h ∙ (λ j. sets l at (facet (ep j) (eq j) (er j)))

-- ---- the normal
module _ (p q r d e v : Point3f) (l : Float) (ed : d ≡ difference q p) (ee : e ≡ difference r p) (ev : v ≡ cross d e) (el : l ≡ magnitude v) where
  by_parts : normal p q r ≡ divided v l
  unfolding normal
  by_parts = let w : cross (difference q p) (difference r p)
      ≡ v = sym (ev ∙ (λ j. cross (ed j) (ee j))) in ap (λ (u : Point3f). divided u (magnitude u)) w ∙ ap (λ (k : Float). divided v k) (sym el)

  pub normal_zero : (n : Point3f) → eq l (f32 0) ≡ true → n ≡ point (f32 0) (f32 0) (f32 0) → n ≡ normal p q r
  unfolding divided
  normal_zero n t h = h ∙ sym (by_parts ∙ ap (λ (b : Bool). cond b (point (f32 0) (f32 0) (f32 0)) (point (v.x ⊘ l) (v.y ⊘ l) (v.z ⊘ l))) t)

  pub normal_some : (n : Point3f) → eq l (f32 0) ≡ false → n ≡ point (v.x ⊘ l) (v.y ⊘ l) (v.z ⊘ l) → n ≡ normal p q r
  unfolding divided
  normal_some n t h = h ∙ sym (by_parts ∙ ap (λ (b : Bool). cond b (point (f32 0) (f32 0) (f32 0)) (point (v.x ⊘ l) (v.y ⊘ l) (v.z ⊘ l))) t)

pub stl_length : (points : List Float) (faces : List ℕ) → length (stl points faces) ≡ 84 + 50 * (length faces / 3)
unfolding stl word
stl_length points faces =
    let n = length faces / 3 in
    let corner = corner_at points faces in
    let body : length (chunks (facet_of corner) 0 n)
    ≡ 50 * n = chunks_length (facet_of corner) 50 (λ i. facet_length (corner (3 * i)) (corner (3 * i + 1)) (corner (3 * i + 2))) 0 n in
    let all : length (replicate 80 0 ++ word n ++ chunks (facet_of corner) 0 n) ≡ length (replicate 80 0 ++ word n)
    + length (chunks (facet_of corner) 0 n) = length-append (replicate 80 0 ++ word n) (chunks (facet_of corner) 0 n) in
    let head : length (replicate 80 0 ++ word n) ≡ 84 = refl in
    omega arith
