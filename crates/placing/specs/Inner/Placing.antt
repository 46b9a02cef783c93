-- What the work words hold while faces are placed one after the other. Definitions only.
use Rattle.std.specs.Prelude.{ℕ, ◌+◌, ◌*◌, ◌≤◌, ◌<◌, ◌≡◌, ◌≢◌, ◌⊎◌, Bool, true, false, not, ◌&&◌, ◌||◌, List, ◌∷◌, eqb, get_or}
use Rattle.lists.specs.Lists.{bit, count, any, up_from}
use Rattle.patch.specs.Lay.{Edge, edge, Face}
use Rattle.patch.specs.Shape.{has}
use Rattle.orders.specs.Order.{reached, joined, fits}
use Rattle.minima.specs.Inner.Minima.{Nodes, leaf, Outside}
use Rattle.corners.specs.Corners.{CornersLinked}
use Rattle.offers.specs.Inner.Offers.{offered, Faces}
use Rattle.regions.specs.Inner.Ordering.{reached_words_at, tree_at, tree_end}

-- in how many faces an edge lies
abbrev pub lies : ℕ → (ℕ → Face) → Edge → ℕ
lies faces at e = count (λ g. has e (at g)) (up_from 0 faces)

-- some placed face has the edge
abbrev pub is_placed : (ℕ → Face) → List ℕ → Edge → Bool
is_placed at placed e = any (λ j. has e (at j)) placed

-- a side is new if one of its points was not reached before
abbrev pub opens : Bool → Bool → Bool
opens ux uy = not ux || not uy

-- a face of whose points so many were reached fits: none, or two where it shares an edge
unfoldable pub fitting : ℕ → Bool → Bool
fitting reached shared = eqb reached 0 || (shared && eqb reached 2)

-- the side from x to y of a face that is placed: if it is new, every face that has it is offered; the answer is
-- whether it lies in two faces at most
pub record SideOpened (n faces x y : ℕ) (new r : Bool) (at : ℕ → Face) (before after : List ℕ) : Type 0 where
  pub leaves :
      (g : ℕ) → g < faces
      → leaf (tree_at n) faces after g ≡ offered (new && has (edge x y) (at g)) faces g (leaf (tree_at n) faces before g)
  pub few : r ≡ true → new ≡ true → lies faces at (edge x y) ≤ 2
  pub crowd : r ≡ false → 3 ≤ lies faces at (edge x y)

pub record Opens (n faces x y : ℕ) (new r : Bool) (before after : List ℕ) : Type 0 where
  pub nodes : Nodes (tree_at n) faces before → Nodes (tree_at n) faces after
  pub outside : Outside (tree_at n) faces before after
  pub side :
      (corner : ℕ → ℕ) (at : ℕ → Face) → CornersLinked n (3 * faces) corner before → Faces faces corner at → x ≢ y
      → SideOpened n faces x y new r at before after

-- all three sides of a face with the points a, b, c
pub record AllSidesOpened (n faces a b c : ℕ) (ab bc ca r : Bool) (at : ℕ → Face) (before after : List ℕ) : Type 0 where
  pub leaves :
      r ≡ true → (g : ℕ) → g < faces
      → leaf (tree_at n) faces after g
      ≡ offered (ca && has (edge c a) (at g)) faces g
      (offered (bc && has (edge b c) (at g)) faces g
      (offered (ab && has (edge a b) (at g)) faces g (leaf (tree_at n) faces before g)))
  pub few_ab : r ≡ true → ab ≡ true → lies faces at (edge a b) ≤ 2
  pub few_bc : r ≡ true → bc ≡ true → lies faces at (edge b c) ≤ 2
  pub few_ca : r ≡ true → ca ≡ true → lies faces at (edge c a) ≤ 2
  pub crowd : r ≡ false → (e : Edge) × (3 ≤ lies faces at e)

pub record Arounds (n faces a b c : ℕ) (ab bc ca r : Bool) (before after : List ℕ) : Type 0 where
  pub nodes : Nodes (tree_at n) faces before → Nodes (tree_at n) faces after
  pub outside : Outside (tree_at n) faces before after
  pub sides :
      (corner : ℕ → ℕ) (at : ℕ → Face) → CornersLinked n (3 * faces) corner before → Faces faces corner at
      → a ≢ b → b ≢ c → c ≢ a → AllSidesOpened n faces a b c ab bc ca r at before after

-- the value of the face g in the tree: 2 × faces once it is placed, before that g if it shares an edge with a placed
-- one, else faces + g. So the least one tells the next face of the greedy order
unfoldable pub value : (ℕ → Face) → ℕ → List ℕ → ℕ → ℕ
value at faces placed g =
    elim (any (eqb g) placed) [
      | true ↦ 2 * faces
      | false ↦ elim (joined at placed g) [ true ↦ g | false ↦ faces + g ]
    ]

-- what the words hold when the faces of `placed` are
pub record PlacedKept (n faces : ℕ) (corner : ℕ → ℕ) (at : ℕ → Face) (placed w : List ℕ) : Type 0 where
  pub linked : CornersLinked n (3 * faces) corner w
  pub used : (x : ℕ) → x < n → get_or w (reached_words_at n + x) 0 ≡ bit (reached at placed x)
  pub nodes : Nodes (tree_at n) faces w
  pub values : (g : ℕ) → g < faces → leaf (tree_at n) faces w g ≡ value at faces placed g
  pub few : (e : Edge) → is_placed at placed e ≡ true → lies faces at e ≤ 2

-- a face is placed, if it fits and none of its edges lies in three faces
pub record Placed (n faces i : ℕ) (r : Bool) (corner : ℕ → ℕ) (at : ℕ → Face) (placed after : List ℕ) : Type 0 where
  pub kept : r ≡ true → PlacedKept n faces corner at (i ∷ placed) after
  pub fit : r ≡ true → fits at placed i ≡ true
  pub unfit : r ≡ false → (fits at placed i ≡ false) ⊎ ((e : Edge) × (3 ≤ lies faces at e))

pub record Places (n faces i : ℕ) (shared r : Bool) (before after : List ℕ) : Type 0 where
  pub outside : (k : ℕ) → (k < reached_words_at n) ⊎ (tree_end n ≤ k) → get_or after k 0 ≡ get_or before k 0
  pub places :
      (corner : ℕ → ℕ) (at : ℕ → Face) (placed : List ℕ) → Faces faces corner at
      → PlacedKept n faces corner at placed before
      → shared ≡ joined at placed i → Placed n faces i r corner at placed after
