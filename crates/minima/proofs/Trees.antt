-- Stores into a tree of minima, and what its root is. Assumes nothing.
use Prim.Native.Nat.{ℕ, zero, suc, ◌+◌, ◌-◌, ◌*◌, ◌/◌, ◌≤◌, ◌<◌, min}
use mathlib.Core.Path.{◌≡◌, sym, ap, ap₂, ◌∙◌}
use mathlib.Core.Logic.{◌≢◌, ◌⊎◌, inl, inr, ⊎_elim}
use mathlib.Core.Bool.{true, false}
use mathlib.Core.List.{List}
use native.Mathlib.Omega.{arith}
use lib.Dec.{eqb, ltb}
use lib.ListN.{length, set, get_or}
use lib.Seq.{get_or-set_same, get_or-set_other}
use borrow.Author.Tests.{eqb-true, eqb-false, ltb-true, ltb-false}
use Rattle.lists.proofs.Bools.{either}
use Rattle.minima.specs.Inner.Minima.{Node, Nodes, leaf, Renewed}

-- every node over two others is their least one, but perhaps node b
abbrev pub AllBut : ℕ → ℕ → ℕ → List ℕ → Type 0
AllBut base count b w = (k : ℕ) → 1 ≤ k → k < count → k ≢ b → Node base w k

node_same : (base : ℕ) (v w : List ℕ) (k : ℕ) → get_or v (base + k) 0 ≡ get_or w (base + k) 0 → get_or v (base + 2 * k) 0 ≡ get_or w (base + 2 * k) 0
    → get_or v (base + 2 * k + 1) 0 ≡ get_or w (base + 2 * k + 1) 0 → Node base w k → Node base v k
node_same base v w k a b c h = a ∙ h ∙ ap₂ min (sym b) (sym c)

-- words outside the tree don't matter
pub nodes_same : (base count : ℕ) (v w : List ℕ) → ((k : ℕ) → base ≤ k → get_or v k 0 ≡ get_or w k 0) → Nodes base count w → Nodes base count v
nodes_same base count v w same h k l m =
    node_same base v w k (same (base + k) (omega arith)) (same (base + 2 * k) (omega arith)) (same (base + 2 * k + 1) (omega arith)) (h k l m)

-- the least of the two below stored at node b
self_stored : (base : ℕ) (w : List ℕ) (b v : ℕ) → 1 ≤ b → base + b < length w → v ≡ min (get_or w (base + 2 * b) 0) (get_or w (base + 2 * b + 1) 0)
    → Node base (set w (base + b) v) b
self_stored base w b v l room is =
    get_or-set_same w (base + b) v 0 room
    ∙ is
    ∙ ap₂ min
    (sym (get_or-set_other w (base + b) (base + 2 * b) v 0 (λ (q : base + 2 * b ≡ base + b). omega arith)))
    (sym (get_or-set_other w (base + b) (base + 2 * b + 1) v 0 (λ (q : base + 2 * b + 1 ≡ base + b). omega arith)))

module _ (base count : ℕ) (w : List ℕ) where
  -- a store at node b leaves every node but the one over it, and b itself, as it was
  elsewhere : (b v k : ℕ) → 1 ≤ k → k ≢ b → 2 * k ≢ b → 2 * k + 1 ≢ b → Node base w k → Node base (set w (base + b) v) k
  elsewhere b v k l a p q h = node_same base (set w (base + b) v) w k
      (get_or-set_other w (base + b) (base + k) v 0 (λ (e : base + k ≡ base + b). a (omega arith)))
      (get_or-set_other w (base + b) (base + 2 * k) v 0 (λ (e : base + 2 * k ≡ base + b). p (omega arith)))
      (get_or-set_other w (base + b) (base + 2 * k + 1) v 0 (λ (e : base + 2 * k + 1 ≡ base + b). q (omega arith)))
      h

  -- a store at a leaf: only the node over it may be wrong then
  pub leaf_stored : (e v : ℕ) → Nodes base count w → AllBut base count ((count + e) / 2) (set w (base + count + e) v)
  leaf_stored e v h k l b ne =
      let same : base + (count + e) ≡ base + count + e = omega arith in
      rw (← same) (elsewhere (count + e) v k l (λ (q : k ≡ count + e). omega arith) (λ (q : 2 * k ≡ count + e). ne (omega arith))
      (λ (q : 2 * k + 1 ≡ count + e). ne (omega arith)) (h k l b))

  -- the least of the two below stored at a node: only the node over it may be wrong then
  pub node_stored : (b v : ℕ) → 1 ≤ b → b < count → base + 2 * count ≤ length w → v ≡ min (get_or w (base + 2 * b) 0) (get_or w (base + 2 * b + 1) 0)
      → AllBut base count b w → AllBut base count (b / 2) (set w (base + b) v)
  node_stored b v l m room is h k kl km ne = ⊎_elim
      (λ (t : eqb k b ≡ true).
      rw (eqb-true k b t) (self_stored base w b v l (omega arith) is))
      (λ (t : eqb k b ≡ false).
      let a = eqb-false k b t in
      elsewhere b v k kl a (λ (q : 2 * k ≡ b). ne (omega arith)) (λ (q : 2 * k + 1 ≡ b). ne (omega arith)) (h k kl km a))
      (either (eqb k b))

  -- the root is the least of all
  least_up : Nodes base count w → (m k : ℕ) → k ≤ m → 1 ≤ k → k < 2 * count → get_or w (base + 1) 0 ≤ get_or w (base + k) 0
  least_up h zero k b l t = absurd (omega arith)
  least_up h (suc m) k b l t = ⊎_elim
      (λ (one : ltb 1 k ≡ true).
      let o = ltb-true 1 k one in
      let up = least_up h m (k / 2) (omega arith) (omega arith) (omega arith) in
      let node = h (k / 2) (omega arith) (omega arith) in
      ⊎_elim
      (λ (e : eqb (2 * (k / 2)) k ≡ true).
      let same : get_or w (base + 2 * (k / 2)) 0 ≡ get_or w (base + k) 0 = let q = eqb-true (2 * (k / 2)) k e in ap (λ (j : ℕ). get_or w (base + j) 0) q in
      omega arith)
      (λ (e : eqb (2 * (k / 2)) k ≡ false).
      let ne = eqb-false (2 * (k / 2)) k e in
      let q : base + 2 * (k / 2) + 1 ≡ base + k = omega arith in
      let same : get_or w (base + 2 * (k / 2) + 1) 0 ≡ get_or w (base + k) 0 = ap (λ (j : ℕ). get_or w j 0) q in
      omega arith)
      (either (eqb (2 * (k / 2)) k)))
      (λ (one : ltb 1 k ≡ false).
      let o = ltb-false 1 k one in
      let q : k ≡ 1 = omega arith in
      rw q (omega arith))
      (either (ltb 1 k))

  pub root_least : Nodes base count w → (g : ℕ) → g < count → get_or w (base + 1) 0 ≤ leaf base count w g
  root_least h g b =
      let same : base + (count + g) ≡ base + count + g = omega arith in
      rw (← same) (least_up h (count + g) (count + g) (omega arith) (omega arith) (omega arith))

  -- and some element's
  pub record Leaf (v : ℕ) : Type 0 where
    pub element : ℕ
    pub below : element < count
    pub is : v ≡ leaf base count w element

  some_leaf : Nodes base count w → (m k : ℕ) → 2 * count ≤ k + m → 1 ≤ k → k < 2 * count → Leaf (get_or w (base + k) 0)
  some_leaf h zero k b l t = absurd (omega arith)
  some_leaf h (suc m) k b l t = ⊎_elim
      (λ (in_tree : ltb k count ≡ true).
      let u = ltb-true k count in_tree in
      let node = h k l u in
      let left = some_leaf h m (2 * k) (omega arith) (omega arith) (omega arith) in
      let right = some_leaf h m (2 * k + 1) (omega arith) (omega arith) (omega arith) in
      let flat : base + (2 * k + 1) ≡ base + 2 * k + 1 = omega arith in
      let right_is : get_or w (base + (2 * k + 1)) 0 ≡ get_or w (base + 2 * k + 1) 0 = ap (λ (j : ℕ). get_or w j 0) flat in
      ⊎_elim
      (λ (e : ltb (get_or w (base + 2 * k) 0) (get_or w (base + 2 * k + 1) 0) ≡ true).
      let lt = ltb-true (get_or w (base + 2 * k) 0) (get_or w (base + 2 * k + 1) 0) e in
      record { element = left.element; below = left.below; is = omega (arith, left.is) })
      (λ (e : ltb (get_or w (base + 2 * k) 0) (get_or w (base + 2 * k + 1) 0) ≡ false).
      let ge = ltb-false (get_or w (base + 2 * k) 0) (get_or w (base + 2 * k + 1) 0) e in
      record { element = right.element; below = right.below; is = omega (arith, right.is) })
      (either (ltb (get_or w (base + 2 * k) 0) (get_or w (base + 2 * k + 1) 0))))
      (λ (in-leaves : ltb k count ≡ false).
      let u = ltb-false k count in-leaves in
      let flat : ℕ = k - count in
      let same : base + count + flat ≡ base + k = omega arith in
      record { element = flat; below = omega arith; is = ap (λ (j : ℕ). get_or w j 0) (sym same) })
      (either (ltb k count))

  pub root_leaf : Nodes base count w → 1 ≤ count → Leaf (get_or w (base + 1) 0)
  root_leaf h l = some_leaf h (2 * count) 1 (omega arith) (omega arith) (omega arith)

-- ---- the loops
pub flat : (base count e : ℕ) (w : List ℕ) → get_or w (base + count + e) 0 ≡ get_or w (base + (count + e)) 0
flat base count e w = let q : base + count + e ≡ base + (count + e) = omega arith in ap (λ (x : ℕ). get_or w x 0) q

-- a node and the one beside it are the two below the node over them
pub beside : (base k : ℕ) (w : List ℕ) (v : ℕ) → v ≡ get_or w (base + k) 0 → min v (get_or w (base + (4 * (k / 2) + 1 - k)) 0)
    ≡ min (get_or w (base + 2 * (k / 2)) 0) (get_or w (base + 2 * (k / 2) + 1) 0)
beside base k w v e = ⊎_elim
    (λ (t : eqb k (2 * (k / 2)) ≡ true).
    let q = eqb-true k (2 * (k / 2)) t in
    let i : base + k ≡ base + 2 * (k / 2) = omega arith in
    let j : base + (4 * (k / 2) + 1 - k) ≡ base + 2 * (k / 2) + 1 = omega arith in
    let a = ap (λ (x : ℕ). get_or w x 0) i in
    let b = ap (λ (x : ℕ). get_or w x 0) j in
    ap₂ min (e ∙ a) b)
    (λ (t : eqb k (2 * (k / 2)) ≡ false).
    let q : k ≢ 2 * (k / 2) = eqb-false k (2 * (k / 2)) t in
    let i : base + k ≡ base + 2 * (k / 2) + 1 = omega arith in
    let j : base + (4 * (k / 2) + 1 - k) ≡ base + 2 * (k / 2) = omega arith in
    let a = ap (λ (x : ℕ). get_or w x 0) i in
    let b = ap (λ (x : ℕ). get_or w x 0) j in
    ap₂ min (e ∙ a) b ∙ swap (get_or w (base + 2 * (k / 2) + 1) 0) (get_or w (base + 2 * (k / 2)) 0))
    (either (eqb k (2 * (k / 2))))
  where
    swap : (x y : ℕ) → min x y ≡ min y x
    swap x y = omega arith

-- no word but those of the nodes over others has changed
abbrev pub InnerOnly : ℕ → ℕ → List ℕ → List ℕ → Type 0
InnerOnly base count v w = (j : ℕ) → (j < base) ⊎ (base + count ≤ j) → get_or w j 0 ≡ get_or v j 0

apart : (base count b j : ℕ) → b < count → (j < base) ⊎ (base + count ≤ j) → j ≢ base + b
apart base count b j m s = ⊎_elim (λ (l : j < base) (e : j ≡ base + b). omega arith) (λ (l : base + count ≤ j) (e : j ≡ base + b). omega arith) s

pub inner_stored : (base count : ℕ) (v w : List ℕ) (b x : ℕ) → b < count → InnerOnly base count v w → InnerOnly base count v (set w (base + b) x)
inner_stored base count v w b x m h j s = get_or-set_other w (base + b) j x 0 (apart base count b j m s) ∙ h j s

pub renewed_all : (base count e v : ℕ) (w u : List ℕ) → e < count → base + 2 * count ≤ length w
    → (AllBut base count ((count + e) / 2) (set w (base + count + e) v) → AllBut base count 0 u) → InnerOnly base count (set w (base + count + e) v) u
    → Renewed base count e v w u
renewed_all base count e v w u b room nodes only = record {
  nodes = λ h k l m. nodes (leaf_stored base count w e v h) k l m (λ (q : k ≡ 0). omega arith);
  renewed = only (base + count + e) (inr (omega arith)) ∙ get_or-set_same w (base + count + e) v 0 (omega arith);
  others = λ g l ne. only (base + count + g) (inr (omega arith)) ∙ get_or-set_other w (base + count + e) (base + count + g) v 0
      (λ (q : base + count + g ≡ base + count + e). ne (omega arith));
  outside = λ k s. ⊎_elim
      (λ (l : k < base). only k (inl l) ∙ get_or-set_other w (base + count + e) k v 0 (λ (q : k ≡ base + count + e). omega arith))
      (λ (l : base + 2 * count ≤ k). only k (inr (omega arith)) ∙ get_or-set_other w (base + count + e) k v 0 (λ (q : k ≡ base + count + e). omega arith))
      s;
}

-- the leaves of the elements below g are set
abbrev pub Leaves : ℕ → ℕ → ℕ → List ℕ → Type 0
Leaves base count g w = (j : ℕ) → j < g → leaf base count w j ≡ count + j

-- no word but those of the leaves has changed
abbrev pub LeavesOnly : ℕ → ℕ → List ℕ → List ℕ → Type 0
LeavesOnly base count v w = (k : ℕ) → (k < base + count) ⊎ (base + 2 * count ≤ k) → get_or w k 0 ≡ get_or v k 0

-- the nodes from b on are the least of the two below them
abbrev pub NodesFrom : ℕ → ℕ → ℕ → List ℕ → Type 0
NodesFrom base count b w = (k : ℕ) → b ≤ k → 1 ≤ k → k < count → Node base w k
