-- Faces from another program: an order in which they could have been laid as a patch of ours, and the order that
-- is given along. Definitions only.
use Rattle.std.specs.Prelude.{ℕ, zero, suc, ◌+◌, ◌≤◌, ◌<◌, ◌≡◌, ◌≢◌, ◌⊎◌, Bool, true, false, not, ◌&&◌, ◌||◌, List, [], ◌∷◌, eqb, ltb, length, get_or}
use Rattle.lists.specs.Lists.{bit, count, any, up_from}
use Rattle.patch.specs.Lay.{Edge, Face, face, points_of, edges_of}
use Rattle.patch.specs.Shape.{touches, has, no_face}

-- two faces share an edge, direction aside
unfoldable pub neighbours : Face → Face → Bool
neighbours f g = any (λ e. has e g) (edges_of f)

-- the faces by their numbers; an order is a list of face numbers, and `placed` holds those that come earlier
module _ (at : ℕ → Face) where
  -- some placed face has the point x
  unfoldable pub reached : List ℕ → ℕ → Bool
  reached placed x = any (λ j. touches x (at j)) placed

  -- the face shares an edge with a placed one
  unfoldable pub joined : List ℕ → ℕ → Bool
  joined placed i = any (λ j. neighbours (at i) (at j)) placed

  -- how many of its points no placed face has
  unfoldable pub fresh : List ℕ → ℕ → ℕ
  fresh placed i = count (λ x. not (reached placed x)) (points_of (at i))

  -- a seed has three points that no placed face has; any other shares an edge with a placed one and brings in
  -- exactly one new point
  unfoldable pub fits : List ℕ → ℕ → Bool
  fits placed i = eqb (fresh placed i) 3 || (joined placed i && eqb (fresh placed i) 1)

  -- each in turn
  unfoldable pub all_fit : List ℕ → List ℕ → Bool
  all_fit placed [] = true
  all_fit placed (i ∷ order) = fits placed i && all_fit (i ∷ placed) order

  -- how many share no edge with an earlier one
  abbrev pub loose : List ℕ → List ℕ → ℕ
  loose placed [] = 0
  loose placed (i ∷ order) = bit (not (joined placed i)) + loose (i ∷ placed) order

-- the first that passes, or d
unfoldable pub first_or : (ℕ → Bool) → ℕ → List ℕ → ℕ
first_or p d [] = d
first_or p d (x ∷ xs) = elim (p x) [ true ↦ x | false ↦ first_or p d xs ]

-- the list less the first i in it
unfoldable pub without : ℕ → List ℕ → List ℕ
without i [] = []
without i (x ∷ xs) = elim (eqb i x) [ true ↦ xs | false ↦ x ∷ without i xs ]

-- m more faces: at each place the lowest face left (`left` rises) that shares an edge with one placed, or where
-- none does the lowest left
unfoldable pub greedy_from : (ℕ → Face) → ℕ → List ℕ → List ℕ → List ℕ
greedy_from at zero placed left = []
greedy_from at (suc m) placed [] = []
greedy_from at (suc m) placed (x ∷ left) =
    let i = first_or (joined at placed) x (x ∷ left) in
    i ∷ greedy_from at m (i ∷ placed) (without i (x ∷ left))

abbrev pub face_at : List Face → ℕ → Face
face_at fs i = get_or fs i no_face

-- the order given along
unfoldable pub greedy : List Face → List ℕ
greedy fs = greedy_from (face_at fs) (length fs) [] (up_from 0 (length fs))

-- its seeds: the places where none left shared an edge with one placed
unfoldable pub seeds : List Face → ℕ
seeds fs = loose (face_at fs) [] (greedy fs)

-- each number below n stands in the order once, and no other does
abbrev pub Permutes : ℕ → List ℕ → Type 0
Permutes n order = (i : ℕ) → count (eqb i) order ≡ bit (ltb i n)

-- an order of the faces in which they could have been laid
pub record Valid (fs : List Face) (order : List ℕ) : Type 0 where
  pub permutes : Permutes (length fs) order
  pub fit : all_fit (face_at fs) [] order ≡ true
  -- no edge lies in more than two faces
  pub few : (e : Edge) → count (has e) fs ≤ 2

-- each face has three different points (refusal 17 comes first)
abbrev pub AllDifferent : List Face → Type 0
AllDifferent fs =
    (i : ℕ) → i < length fs
    → ((face_at fs i).a ≢ (face_at fs i).b) × ((face_at fs i).b ≢ (face_at fs i).c) × ((face_at fs i).c ≢ (face_at fs i).a)

-- some edge of a face lies in more than two faces
unfoldable pub crowded : List Face → Bool
crowded fs = any (λ f. any (λ e. ltb 2 (count (has e) fs)) (edges_of f)) fs

-- the test: no edge is crowded, and the order given along is one in which they could have been laid
unfoldable pub order_accepted : List Face → Bool
order_accepted fs = not (crowded fs) && all_fit (face_at fs) [] (greedy fs)

-- ---- a patch as a file may have it: its faces in any order, the first two points of some swapped
abbrev pub swapped : Face → Face
swapped f = face f.b f.a f.c

-- face k of fs is face number k of the order in hs
pub record Rearranged (fs hs : List Face) (order : List ℕ) : Type 0 where
  pub many : length hs ≡ length fs
  pub permutes : Permutes (length hs) order
  pub each :
      (k : ℕ) → k < length fs
      → (face_at hs (get_or order k 0) ≡ face_at fs k) ⊎ (face_at hs (get_or order k 0) ≡ swapped (face_at fs k))
