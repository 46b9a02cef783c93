-- Faces that are offered because an edge of theirs was placed, in the tree of minima that holds a value for each face:
-- count + g while the face g shares no edge with a placed one, then g. Definitions only.
use Rattle.std.specs.Prelude.{ℕ, ◌+◌, ◌*◌, ◌<◌, ◌≡◌, ◌≢◌, Bool, true, false, List, eqb}
use Rattle.lists.specs.Lists.{count, up_from}
use Rattle.patch.specs.Lay.{edge, Face, face}
use Rattle.patch.specs.Shape.{has, touches}
use Rattle.corners.specs.Corners.{face_in, CornersLinked}
use Rattle.minima.specs.Inner.Minima.{Nodes, leaf, Outside}
use Rattle.regions.specs.Inner.Ordering.{tree_at}

-- the value of the face g once it is offered: a face that is placed, or was offered before, keeps its value
unfoldable pub offered : Bool → ℕ → ℕ → ℕ → ℕ
offered true faces g v = elim (eqb v (faces + g)) [ true ↦ g | false ↦ v ]
offered false faces g v = v

-- the face g is offered if the test says so
pub record Offered (n faces g : ℕ) (test : Bool) (before after : List ℕ) : Type 0 where
  pub nodes : Nodes (tree_at n) faces before → Nodes (tree_at n) faces after
  pub offer : leaf (tree_at n) faces after g ≡ offered test faces g (leaf (tree_at n) faces before g)
  pub others : (h : ℕ) → h < faces → h ≢ g → leaf (tree_at n) faces after h ≡ leaf (tree_at n) faces before h
  pub outside : Outside (tree_at n) faces before after

-- a face is offered if it has the point y
abbrev pub OfferedAt : ℕ → ℕ → ℕ → ℕ → Bool → List ℕ → List ℕ → Type 0
OfferedAt n faces g y r before after =
    (r ≡ touches y (face_in before g)) × Offered n faces g (touches y (face_in before g)) before after

-- the faces have the corners, three each, and three different points
pub record Faces (faces : ℕ) (corner : ℕ → ℕ) (at : ℕ → Face) : Type 0 where
  pub are : (g : ℕ) → g < faces → at g ≡ face (corner (3 * g)) (corner (3 * g + 1)) (corner (3 * g + 2))
  pub different : (g : ℕ) → g < faces → ((at g).a ≢ (at g).b) × ((at g).b ≢ (at g).c) × ((at g).c ≢ (at g).a)

-- every face that has the edge from x to y is offered, and there are r of them
pub record EdgeOffered (n faces x y r : ℕ) (at : ℕ → Face) (before after : List ℕ) : Type 0 where
  pub met : r ≡ count (λ g. has (edge x y) (at g)) (up_from 0 faces)
  pub leaves :
      (g : ℕ) → g < faces
      → leaf (tree_at n) faces after g ≡ offered (has (edge x y) (at g)) faces g (leaf (tree_at n) faces before g)

-- whatever the faces, where they are linked
pub record Meets (n faces x y r : ℕ) (before after : List ℕ) : Type 0 where
  pub nodes : Nodes (tree_at n) faces before → Nodes (tree_at n) faces after
  pub outside : Outside (tree_at n) faces before after
  pub meets :
      (corner : ℕ → ℕ) (at : ℕ → Face) → CornersLinked n (3 * faces) corner before → Faces faces corner at → x ≢ y
      → EdgeOffered n faces x y r at before after
