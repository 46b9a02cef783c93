-- A tree of minima in a part of a slice: from `base` on, node 1 is the root, node k stands over 2k and 2k + 1, and the
-- last `count` of the 2 × count nodes are the leaves, one for each element. Definitions only.
use Rattle.std.specs.Prelude.{ℕ, ◌+◌, ◌*◌, ◌≤◌, ◌<◌, min, ◌≡◌, ◌≢◌, ◌⊎◌, List, get_or}

-- node k is the least of the two below it
abbrev pub Node : ℕ → List ℕ → ℕ → Type 0
Node base w k = get_or w (base + k) 0 ≡ min (get_or w (base + 2 * k) 0) (get_or w (base + 2 * k + 1) 0)

-- every node over two others is
abbrev pub Nodes : ℕ → ℕ → List ℕ → Type 0
Nodes base count w = (k : ℕ) → 1 ≤ k → k < count → Node base w k

-- the value of an element
abbrev pub leaf : ℕ → ℕ → List ℕ → ℕ → ℕ
leaf base count w g = get_or w (base + count + g) 0

-- no word outside the tree has changed
abbrev pub Outside : ℕ → ℕ → List ℕ → List ℕ → Type 0
Outside base count before after =
    (k : ℕ) → (k < base) ⊎ (base + 2 * count ≤ k) → get_or after k 0 ≡ get_or before k 0

-- an element has got a value
pub record Renewed (base count element value : ℕ) (before after : List ℕ) : Type 0 where
  pub nodes : Nodes base count before → Nodes base count after
  pub renewed : leaf base count after element ≡ value
  pub others : (g : ℕ) → g < count → g ≢ element → leaf base count after g ≡ leaf base count before g
  pub outside : Outside base count before after

-- every element g has the value count + g
pub record Planted (base count : ℕ) (before after : List ℕ) : Type 0 where
  pub nodes : Nodes base count after
  pub leaves : (g : ℕ) → g < count → leaf base count after g ≡ count + g
  pub outside : Outside base count before after
