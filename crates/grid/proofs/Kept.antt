-- The least coordinates and the kept cells, step by step. Assumes nothing.
use mathlib.Core.Path.{◌≡◌, sym, ap, ◌∙◌}
use mathlib.Core.List.{List}
use Prim.Native.Nat.{ℕ, suc, ◌+◌, ◌-◌, ◌*◌, ◌≤◌, ◌<◌}
use native.Mathlib.Omega.{arith}
use borrow.Author.Count.{below_more}
use lib.ListN.{length, take, drop, get_or, set, length-set}
use lib.Seq.{get_or-set_same, get_or-set_other, drop-set-lt, get_or-take}
use lib.Ieee.{Float, nan}
use Rattle.numbers.specs.Order.{minimum}
use Rattle.grid.specs.declared.Cell.{Cell}
use Rattle.grid.specs.Grid.{least_from}
use Rattle.grid.specs.Inner.Index.{cell_in}

-- ---- the least coordinate
pub least_start : (xs : List Float) (a : Float) (at n : ℕ) → least_from xs a at n ≡ least_from xs a (at + 3 * 0) (n - 0)
least_start xs a at n =
    let e : n ≡ n - 0 = omega arith in
    let t : at ≡ at + 3 * 0 = omega arith in
    ap (λ (m : ℕ). least_from xs a at m) e ∙ ap (λ (k : ℕ). least_from xs a k (n - 0)) t

pub least_step : (xs : List Float) (a v : Float) (at i n : ℕ) → i < n → v ≡ minimum a (get_or xs (at + 3 * i) nan) → least_from xs a (at + 3 * i) (n - i)
    ≡ least_from xs v (at + 3 * (i + 1)) (n - (i + 1))
unfolding least_from
least_step xs a v at i n h e =
    let c : n - i ≡ suc (n - (i + 1)) = omega arith in
    let t : at + 3 * i + 3 ≡ at + 3 * (i + 1) = omega arith in
    ap (λ (m : ℕ). least_from xs a (at + 3 * i) m) c
    ∙ ap (λ (u : Float). least_from xs u (at + 3 * i + 3) (n - (i + 1))) (sym e)
    ∙ ap (λ (m : ℕ). least_from xs v m (n - (i + 1))) t

pub least_end : (xs : List Float) (a : Float) (at i n : ℕ) → n ≤ i → least_from xs a at (n - i) ≡ a
unfolding least_from
least_end xs a at i n h = let e : n - i ≡ 0 = omega arith in ap (λ (m : ℕ). least_from xs a at m) e

-- ---- a cell is kept
module _ (w : List ℕ) (at x y z : ℕ) where
  -- what three stores leave elsewhere
  three_other : (k : ℕ) → (k ≡ at + 2 → ⊥) → (k ≡ at + 1 → ⊥) → (k ≡ at → ⊥) → get_or (set (set (set w at x) (at + 1) y) (at + 2) z) k 0 ≡ get_or w k 0
  three_other k h2 h1 h0 =
      get_or-set_other (set (set w at x) (at + 1) y) (at + 2) k z 0 h2 ∙ get_or-set_other (set w at x) (at + 1) k y 0 h1 ∙ get_or-set_other w at k x 0 h0

  three_first : at + 2 < length w → get_or (set (set (set w at x) (at + 1) y) (at + 2) z) at 0 ≡ x
  three_first h =
      get_or-set_other (set (set w at x) (at + 1) y) (at + 2) at z 0 (λ (q : at ≡ at + 2). omega arith)
      ∙ get_or-set_other (set w at x) (at + 1) at y 0 (λ (q : at ≡ at + 1). omega arith)
      ∙ get_or-set_same w at x 0 (omega arith)

  three_second : at + 2 < length w → get_or (set (set (set w at x) (at + 1) y) (at + 2) z) (at + 1) 0 ≡ y
  three_second h =
      get_or-set_other (set (set w at x) (at + 1) y) (at + 2) (at + 1) z 0 (λ (q : at + 1 ≡ at + 2). omega arith)
      ∙ get_or-set_same (set w at x) (at + 1) y 0 (simp length-set (omega arith))

  three_third : at + 2 < length w → get_or (set (set (set w at x) (at + 1) y) (at + 2) z) (at + 2) 0 ≡ z
  three_third h = get_or-set_same (set (set w at x) (at + 1) y) (at + 2) z 0 (simp length-set (omega arith))

module _ (w : List ℕ) (n i x y z : ℕ) (inside : i < n) (long : 4 * n ≤ length w) where
  pub cell_put : cell_in (set (set (set w (n + 3 * i) x) (n + 3 * i + 1) y) (n + 3 * i + 2) z) n i ≡ record { x = x; y = y; z = z }
  unfolding cell_in
  cell_put =
      let h : n + 3 * i + 2 < length w = omega arith in
      rw (three_first w (n + 3 * i) x y z h, three_second w (n + 3 * i) x y z h, three_third w (n + 3 * i) x y z h)

  pub cell_other : (j : ℕ) → (j ≡ i → ⊥) → cell_in (set (set (set w (n + 3 * i) x) (n + 3 * i + 1) y) (n + 3 * i + 2) z) n j ≡ cell_in w n j
  unfolding cell_in
  cell_other j h =
      rw (
        three_other w (n + 3 * i) x y z (n + 3 * j) (λ (q : n + 3 * j ≡ n + 3 * i + 2). omega arith) (λ (q : n + 3 * j ≡ n + 3 * i + 1). omega arith)
            (λ (q : n + 3 * j ≡ n + 3 * i). h (omega arith)),
        three_other w (n + 3 * i) x y z (n + 3 * j + 1) (λ (q : n + 3 * j + 1 ≡ n + 3 * i + 2). omega arith)
            (λ (q : n + 3 * j + 1 ≡ n + 3 * i + 1). h (omega arith)) (λ (q : n + 3 * j + 1 ≡ n + 3 * i). omega arith),
        three_other w (n + 3 * i) x y z (n + 3 * j + 2) (λ (q : n + 3 * j + 2 ≡ n + 3 * i + 2). h (omega arith))
            (λ (q : n + 3 * j + 2 ≡ n + 3 * i + 1). omega arith) (λ (q : n + 3 * j + 2 ≡ n + 3 * i). omega arith),
      )

  pub cell_after : drop (4 * n) (set (set (set w (n + 3 * i) x) (n + 3 * i + 1) y) (n + 3 * i + 2) z) ≡ drop (4 * n) w
  cell_after =
      drop-set-lt (4 * n) (set (set w (n + 3 * i) x) (n + 3 * i + 1) y) (n + 3 * i + 2) z (omega arith)
      ∙ drop-set-lt (4 * n) (set w (n + 3 * i) x) (n + 3 * i + 1) y (omega arith)
      ∙ drop-set-lt (4 * n) w (n + 3 * i) x (omega arith)

-- ---- one cell more is kept
pub cells_step : (f : ℕ → Cell) (w u : List ℕ) (n i : ℕ) → ((j : ℕ) → j < i → cell_in w n j ≡ f j) → cell_in u n i ≡ f i
    → ((j : ℕ) → (j ≡ i → ⊥) → cell_in u n j ≡ cell_in w n j)
    → (j : ℕ) → j < i + 1 → cell_in u n j ≡ f j
cells_step f w u n i inv e other = below_more (λ (j : ℕ). cell_in u n j ≡ f j) i (λ (j : ℕ) (l : j < i). other j (λ (q : j ≡ i). omega arith) ∙ inv j l) e

-- ---- the kept cells lie in the words from n to 4n
pub cell_of_take : (w u : List ℕ) (n j : ℕ) → j < n → take (4 * n) u ≡ take (4 * n) w → cell_in u n j ≡ cell_in w n j
unfolding cell_in
cell_of_take w u n j h e = rw (same (n + 3 * j) (omega arith), same (n + 3 * j + 1) (omega arith), same (n + 3 * j + 2) (omega arith))
  where
    same : (k : ℕ) → k < 4 * n → get_or u k 0 ≡ get_or w k 0
    same k l = sym (get_or-take (4 * n) u k 0 l) ∙ ap (λ (z : List ℕ). get_or z k 0) e ∙ get_or-take (4 * n) w k 0 l
