-- The cells of a range one after the other hold the neighbours of the definition, in its order. Assumes nothing.
use Prim.Native.Nat.{ℕ, ◌+◌, ◌*◌, ◌≤◌, ◌<◌}
use native.Mathlib.Omega.{arith}
use native.Mathlib.Decide.{dec_lt}
use mathlib.Core.Path.{◌≡◌, refl, sym, ap, ap₂, ◌∙◌}
use mathlib.Core.Bool.{Bool, true, false, true≢false, not, cond, ◌&&◌, ◌||◌}
use mathlib.Core.List.{List, [], ◌∷◌}
use lib.Dec.{eqb, leb, ltb}
use lib.Ieee.{Float}
use borrow.Author.Tests.{eqb-true, eqb-false, ltb-false, le-leb, lt-leb, lt-ltb, le-ltb, eq-eqb}
use Rattle.grid.specs.Grid.{cell_of, before, within_range, in_range, range_of}
use Rattle.grid.specs.Inner.Looking.{order_of}
use Rattle.grid.specs.Inner.Index.{earlier}
use Rattle.grid.specs.declared.SpatialGrid.{SpatialGrid}
use Rattle.grid.specs.declared.Cell.{Cell}
use Rattle.nearby.specs.Inner.Narrow.{cell_at, in_cells}
use Rattle.nearby.proofs.Ordered.{Strict, Sorted, sorted_only, sorted_unique}
use Rattle.nearby.proofs.Earlier.{earlier_strict, neighbors_only, order_of_sorted, order_of_count}
use Rattle.cell_loop.specs.FindNeighbors.{extended, is_at, in_cell, find_neighbors, CellLoop}
use Rattle.cell_loop.proofs.Buckets.{only_ext, extended_ext, among, buckets}
use Rattle.lists.specs.Lists.{up_from, count}
use Rattle.lists.proofs.Bools.{and_both}
use Rattle.lists.specs.Members.{only, In}
use Rattle.lists.proofs.Members.{only_count, only_none, only_fewer}

-- ---- what the order of two cells says of their coordinates
pub record Rises (c d : Cell) : Type 0 where
  pub x_rises : c.x ≤ d.x
  pub y_rises : c.x ≡ d.x → c.y ≤ d.y
  pub z_rises : c.x ≡ d.x → c.y ≡ d.y → c.z ≤ d.z

not_before : (c d : Cell) → before d c ≡ false → Rises c d
unfolding before
not_before c d h =
    go (ltb d.x c.x) (eqb d.x c.x) (ltb d.y c.y) (eqb d.y c.y)
    (ltb d.z c.z) refl refl refl refl refl h
  where
    go : (p q r s t : Bool) → ltb d.x c.x ≡ p → eqb d.x c.x ≡ q → ltb d.y c.y ≡ r
        → eqb d.y c.y ≡ s → ltb d.z c.z ≡ t
        → (p || (q && (r || (s && t)))) ≡ false → Rises c d
    go true q r s t e f g i j k = absurd (true≢false k)
    go false q r s t e f g i j k = record {
      x_rises = ltb-false d.x c.x e;
      y_rises = λ x. at_y q r s t f g k (sym x);
      z_rises = λ x y. at_z q r s t f i j k (sym x) (sym y);
    }
      where
        at_y : (q r s t : Bool) → eqb d.x c.x ≡ q → ltb d.y c.y ≡ r → (q && (r || (s && t))) ≡ false
            → d.x ≡ c.x → c.y ≤ d.y
        at_y q false s t f g k x = ltb-false d.y c.y g
        at_y true true s t f g k x = absurd (true≢false k)
        at_y false true s t f g k x = absurd (eqb-false d.x c.x f x)

        at_z : (q r s t : Bool) → eqb d.x c.x ≡ q → eqb d.y c.y ≡ s → ltb d.z c.z ≡ t
            → (q && (r || (s && t))) ≡ false
            → d.x ≡ c.x → d.y ≡ c.y → c.z ≤ d.z
        at_z q r s false f i j k x y = ltb-false d.z c.z j
        at_z false r s true f i j k x y = absurd (eqb-false d.x c.x f x)
        at_z true true s true f i j k x y = absurd (true≢false k)
        at_z true false false true f i j k x y = absurd (eqb-false d.y c.y i y)
        at_z true false true true f i j k x y = absurd (true≢false k)

before_self : (c : Cell) → before c c ≡ false
unfolding before
before_self c =
    rw (
      le-ltb c.x c.x (omega arith),
      le-ltb c.y c.y (omega arith),
      le-ltb c.z c.z
          (omega arith),
      eq-eqb c.x c.x refl,
      eq-eqb c.y c.y refl,
    ) refl

-- ---- the order of the points
module _ (cell : ℕ → Cell) where
  earlier_rises : (i j : ℕ) → earlier true cell i j ≡ true → Rises (cell i) (cell j)
  unfolding earlier
  earlier_rises i j h = not_before (cell i) (cell j) (go (earlier true cell j i) refl (before (cell j) (cell i)) refl)
    where
      strict : Strict (earlier true cell)
      strict = earlier_strict true cell

      go : (t : Bool) → earlier true cell j i ≡ t → (u : Bool) → before (cell j) (cell i) ≡ u
          → before (cell j) (cell i) ≡ false
      go true e u f = absurd (true≢false (sym (strict.transitive i j i h e) ∙ strict.irreflexive i))
      go false e true f =
          absurd (true≢false (sym (ap (λ (b : Bool). b || (not (before (cell i) (cell j)) && ltb j i)) f) ∙ e))
      go false e false f = f

  earlier_same : (i j : ℕ) → cell i ≡ cell j → earlier true cell i j ≡ true → earlier false cell i j ≡ true
  unfolding earlier
  earlier_same i j e h =
      let none : before (cell i) (cell j) ≡ false = ap (λ (c : Cell). before c (cell j)) e ∙ before_self (cell j) in
      let back : before (cell j) (cell i) ≡ false = ap (before (cell j)) e ∙ before_self (cell j) in
      sym (ap₂ (λ (a b : Bool). a || (not b && ltb i j)) none back) ∙ h

-- ---- a list in one order, sifted, is in another
passes : (t : ℕ → Bool) (xs : List ℕ) (k : ℕ) → In k (only t xs) → t k ≡ true
passes t xs k h = go (t k) refl
  where
    go : (b : Bool) → t k ≡ b → t k ≡ true
    go true e = e
    go false e = absurd (let z = only_none t k e xs in omega arith)

resorted : (less less' : ℕ → ℕ → Bool) (t : ℕ → Bool)
    → ((i j : ℕ) → t i ≡ true → t j ≡ true → less i j ≡ true → less' i j ≡ true)
    → (xs : List ℕ) → Sorted less xs → Sorted less' (only t xs)
unfolding only
resorted less less' t h [] s = tt
resorted less less' t h (x ∷ xs) s = go (t x) refl (resorted less less' t h xs s.1)
  where
    go : (b : Bool) → t x ≡ b → Sorted less' (only t xs) → Sorted less' (cond b (x ∷ only t xs) (only t xs))
    go true e ih = (λ k l. h x k e (passes t xs k l) (s.0 k (only_fewer t k xs l)), ih)
    go false e ih = ih

-- ---- three tests in another order
swapped : (p q r : Bool) → (p && (q && r)) ≡ (q && (p && r))
swapped true true r = refl
swapped true false r = refl
swapped false true r = refl
swapped false false r = refl

turned : (p q r : Bool) → (p && (q && r)) ≡ (r && (p && q))
turned true true true = refl
turned true true false = refl
turned true false true = refl
turned true false false = refl
turned false q true = refl
turned false q false = refl

-- ---- a range
within_among : (range centre v : ℕ) → within_range range centre v ≡ among range centre 0 (2 * range + 1) v
unfolding within_range
within_among range centre v = go (dec_lt (centre + range) v)
  where
    first : leb centre (v + range) ≡ leb (centre + 0) (v + range)
    first = let e : centre ≡ centre + 0 = omega arith in ap (λ (c : ℕ). leb c (v + range)) e

    go : Dec (centre + range < v)
        → (leb centre (v + range) && leb v (centre + range)) ≡ among range centre 0 (2 * range + 1) v
    go (yes l) =
        ap₂ (λ (a b : Bool). a && b) first
        (lt-leb v (centre + range) l ∙ sym (le-ltb (v + range) (centre + 0 + (2 * range + 1)) (omega arith)))
    go (no l) =
        ap₂ (λ (a b : Bool). a && b) first
        (le-leb v (centre + range) (omega arith)
        ∙ sym (lt-ltb (v + range) (centre + 0 + (2 * range + 1)) (omega arith)))

-- the same step of an axis, the same coordinate
same_at : (range centre a v w : ℕ) → is_at range centre a v ≡ true → is_at range centre a w ≡ true → v ≡ w
unfolding is_at
same_at range centre a v w h k =
    let e = eqb-true (v + range) (centre + a) h in
    let f = eqb-true (w + range) (centre + a) k in
    omega arith

module _ (g : SpatialGrid) (pts : List Float) (n range : ℕ) (c : Cell) where
  abbrev cell : ℕ → Cell
  cell = cell_at g pts

  abbrev xs : List ℕ
  xs = order_of true g pts n

  abbrev steps : List ℕ
  steps = up_from 0 (2 * range + 1)

  less : ℕ → ℕ → Bool
  less = earlier true cell

  sorted : Sorted less xs
  unfolding less
  sorted = order_of_sorted true g pts n

  abbrev Tx : ℕ → Bool
  Tx j = among range c.x 0 (2 * range + 1) (cell j).x

  abbrev Ty : ℕ → Bool
  Ty j = among range c.y 0 (2 * range + 1) (cell j).y

  abbrev Tz : ℕ → Bool
  Tz j = among range c.z 0 (2 * range + 1) (cell j).z

  abbrev Mx : ℕ → ℕ → Bool
  Mx a j = is_at range c.x a (cell j).x

  abbrev My : ℕ → ℕ → Bool
  My b j = is_at range c.y b (cell j).y

  abbrev Mz : ℕ → ℕ → Bool
  Mz d j = is_at range c.z d (cell j).z

  rises : (i j : ℕ) → less i j ≡ true → Rises (cell i) (cell j)
  unfolding less
  rises i j h = earlier_rises cell i j h

  -- ---- one cell: its points in the order of their numbers
  one_cell : (a b d : ℕ) → only (λ j. Mx a j && (My b j && Mz d j)) xs ≡ in_cell g pts n range c a b d
  unfolding in_cell order_of less
  one_cell a b d =
      sorted_unique (earlier_strict false cell) (only t xs) (only t (up_from 0 n))
      (resorted (earlier true cell) (earlier false cell) t
      (λ i j h k l. earlier_same cell i j (together i j h k) l) xs sorted)
      (sorted_only (earlier false cell) t (up_from 0 n) (order_of_sorted false g pts n))
      (λ k. counts k (t k) refl)
    where
      t : ℕ → Bool
      t j = Mx a j && (My b j && Mz d j)

      together : (i j : ℕ) → t i ≡ true → t j ≡ true → cell i ≡ cell j
      together i j h k =
          let p = and_both {p = Mx a i} {q = My b i && Mz d i} h in
          let q = and_both {p = Mx a j} {q = My b j && Mz d j} k in
          let r = and_both {p = My b i} {q = Mz d i} p.1 in
          let s = and_both {p = My b j} {q = Mz d j} q.1 in
          let ex = same_at range c.x a (cell i).x (cell j).x p.0 q.0 in
          let ey = same_at range c.y b (cell i).y (cell j).y r.0 s.0 in
          let ez = same_at range c.z d (cell i).z (cell j).z r.1 s.1 in
          λ u. record { x = ex u; y = ey u; z = ez u }

      counts : (k : ℕ) (u : Bool) → t k ≡ u → count (eqb k) (only t xs) ≡ count (eqb k) (only t (up_from 0 n))
      counts k true e =
          only_count t k e xs ∙ order_of_count true g pts n k
          ∙ sym (only_count t k e (up_from 0 n) ∙ order_of_count false g pts n k)
      counts k false e = only_none t k e xs ∙ sym (only_none t k e (up_from 0 n))

  -- ---- along z, y and x
  along_z : (a b : ℕ) → only (λ j. My b j && (Mx a j && Tz j)) xs ≡ extended (λ d. in_cell g pts n range c a b d) steps
  along_z a b =
      only_ext (λ j. My b j && (Mx a j && Tz j)) (λ j. Tz j && (My b j && Mx a j))
      (λ j. turned (My b j) (Mx a j) (Tz j)) xs
      ∙ buckets range c.z (λ j. (cell j).z) (λ j. My b j && Mx a j) less level xs sorted (2 * range + 1) 0
      ∙ extended_ext (λ d. only (λ j. Mz d j && (My b j && Mx a j)) xs) (λ d. in_cell g pts n range c a b d)
      (λ d. only_ext (λ j. Mz d j && (My b j && Mx a j)) (λ j. Mx a j && (My b j && Mz d j))
      (λ j. turned (Mz d j) (My b j) (Mx a j) ∙ ap (λ (t : Bool). Mx a j && t) (and_turned (Mz d j) (My b j))) xs
      ∙ one_cell a b d) steps
    where
      and_turned : (p q : Bool) → (p && q) ≡ (q && p)
      and_turned true true = refl
      and_turned true false = refl
      and_turned false true = refl
      and_turned false false = refl

      level : (i j : ℕ) → less i j ≡ true → (My b i && Mx a i) ≡ true → (My b j && Mx a j) ≡ true
          → (cell i).z ≤ (cell j).z
      level i j l h k =
          let p = and_both {p = My b i} {q = Mx a i} h in
          let q = and_both {p = My b j} {q = Mx a j} k in
          (rises i j l).z_rises (same_at range c.x a (cell i).x (cell j).x p.1 q.1)
          (same_at range c.y b (cell i).y (cell j).y p.0 q.0)

  along_y : (a : ℕ)
      → only (λ j. Mx a j && (Ty j && Tz j)) xs
      ≡ extended (λ b. extended (λ d. in_cell g pts n range c a b d) steps) steps
  along_y a =
      only_ext (λ j. Mx a j && (Ty j && Tz j)) (λ j. Ty j && (Mx a j && Tz j)) (λ j. swapped (Mx a j) (Ty j) (Tz j)) xs
      ∙ buckets range c.y (λ j. (cell j).y) (λ j. Mx a j && Tz j) less level xs sorted (2 * range + 1) 0
      ∙ extended_ext (λ b. only (λ j. My b j && (Mx a j && Tz j)) xs)
      (λ b. extended (λ d. in_cell g pts n range c a b d) steps) (λ b. along_z a b) steps
    where
      level : (i j : ℕ) → less i j ≡ true → (Mx a i && Tz i) ≡ true → (Mx a j && Tz j) ≡ true → (cell i).y ≤ (cell j).y
      level i j l h k =
          let p = and_both {p = Mx a i} {q = Tz i} h in
          let q = and_both {p = Mx a j} {q = Tz j} k in
          (rises i j l).y_rises (same_at range c.x a (cell i).x (cell j).x p.0 q.0)

  along_x : only (λ j. Tx j && (Ty j && Tz j)) xs
      ≡ extended (λ a. extended (λ b. extended (λ d. in_cell g pts n range c a b d) steps) steps) steps
  along_x =
      buckets range c.x (λ j. (cell j).x) (λ j. Ty j && Tz j) less (λ i j l h k. (rises i j l).x_rises) xs sorted
      (2 * range + 1) 0
      ∙ extended_ext (λ a. only (λ j. Mx a j && (Ty j && Tz j)) xs)
      (λ a. extended (λ b. extended (λ d. in_cell g pts n range c a b d) steps) steps) along_y steps

  in_range_lem : only (in_cells true g pts range c) xs ≡ only (λ j. Tx j && (Ty j && Tz j)) xs
  unfolding in_cells in_range
  in_range_lem = only_ext (in_cells true g pts range c) (λ j. Tx j && (Ty j && Tz j))
      (λ j. ap₂ (λ (p q : Bool). p && q) (within_among range c.x (cell j).x)
      (ap₂ (λ (p q : Bool). p && q) (within_among range c.y (cell j).y) (within_among range c.z (cell j).z))) xs

pub find_neighbors_lem : CellLoop
unfolding find_neighbors
find_neighbors_lem g pts n p r =
    sym (neighbors_only true g pts n p r ∙ in_range_lem g pts n (range_of g r) (cell_of g p)
    ∙ along_x g pts n (range_of g r) (cell_of g p))
