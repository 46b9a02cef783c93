-- A list in a part of a slice, element by element, and what stays where a slice stays from some place on. Assumes
-- nothing.
use Prim.Native.Nat.{ℕ, ◌+◌, ◌-◌, ◌≤◌, ◌<◌}
use mathlib.Core.Path.{◌≡◌, sym, ap, ◌∙◌}
use mathlib.Core.List.{List, [], ◌∷◌}
use native.Mathlib.Omega.{arith}
use native.Mathlib.Numerals.{add-one}
use lib.ListN.{length, take, drop, get_or, length-drop, length-take, drop_of_length-le}
use lib.Seq.{drop-cons, drop-drop, get_or-take, get_or-drop, length-take-le}

-- slices that are the same from a on are so from any later place on
pub drop_more : (w u : List ℕ) (a b : ℕ) → a ≤ b → drop a u ≡ drop a w → drop b u ≡ drop b w
drop_more w u a b h e =
    let z : a + (b - a) ≡ b = omega arith in
    ap (λ (k : ℕ). drop k u) (sym z) ∙ sym (drop-drop (b - a) a u) ∙ ap (drop (b - a)) e ∙ drop-drop (b - a) a w ∙ ap (λ (k : ℕ). drop k w) z

-- and so is the word at that place
pub word_same : (w u : List ℕ) (a : ℕ) → drop a u ≡ drop a w → get_or u a 0 ≡ get_or w a 0
word_same w u a e =
    let z : a + 0 ≡ a = omega arith in
    ap (λ (k : ℕ). get_or u k 0) (sym z) ∙ sym (get_or-drop a u 0 0) ∙ ap (λ (l : List ℕ). get_or l 0 0) e ∙ get_or-drop a w 0 0 ∙ ap (λ (k : ℕ). get_or w k 0) z

module _ (w : List ℕ) (at count m : ℕ) where
  pub part_step : at + count ≤ length w → m < count → drop m (take count (drop at w)) ≡ get_or w (at + m) 0 ∷ drop (m + 1) (take count (drop at w))
  part_step long h =
      let l : length (take count (drop at w)) ≡ count = length-take-le count (drop at w) (simp length-drop (omega arith)) in
      let k : m < length (take count (drop at w)) = omega arith in
      rw (add-one, drop-cons (take count (drop at w)) m 0, get_or-take, get_or-drop)

  pub part_end : count ≤ m → drop m (take count (drop at w)) ≡ []
  part_end h = drop_of_length-le (take count (drop at w)) {i = m} (simp length-take (omega arith))
