-- The loop through i32 cells lists the definition's neighbours, where cells and the range are the definition's as i32.
-- Assumes nothing.
use Prim.Native.Nat.{ℕ, zero, suc, ◌+◌, ◌-◌, ◌*◌}
use native.Mathlib.Omega.{arith}
use mathlib.Core.Path.{◌≡◌, refl, sym, ap, ap₂, ◌∙◌}
use mathlib.Core.Bool.{Bool, true, false, cond, ◌&&◌}
use mathlib.Core.List.{List}
use lib.IntN.{ℤ, pos, negsuc, sub_ℕ, ◌+ℤ◌, ◌-ℤ◌}
use lib.Dec.{eqb, ltb}
use lib.Ieee.{Float}
use borrow.Author.Tests.{eqb-true, eqb-false, eq-eqb, ne_eqb, ltb-true, ltb-false}
use Rattle.lists.specs.Lists.{up_from}
use Rattle.vector.specs.declared.Point3f.{Point3f}
use Rattle.points.specs.Points.{point_at}
use Rattle.grid.specs.Grid.{cell_of, range_of, neighbors}
use Rattle.grid.specs.declared.SpatialGrid.{SpatialGrid}
use Rattle.cell_loop.specs.FindNeighbors.{extended, is_at, in_cell, find_neighbors}
use Rattle.cell_loop.proofs.Buckets.{only_ext}
use Rattle.cell_loop.proofs.Neighbors.{find_neighbors_lem}
use Rattle.published.specs.Published.{alike, steps_of, cell32, range32, at_step, in_cell32, neighbors32}

eqb_iff : (a b c d : ℕ) → (a ≡ b → c ≡ d) → (c ≡ d → a ≡ b) → eqb a b ≡ eqb c d
eqb_iff a b c d f g = go (eqb a b) refl
  where
    go : (t : Bool) → eqb a b ≡ t → t ≡ eqb c d
    go true e = sym (eq-eqb c d (f (eqb-true a b e)))
    go false e = sym (ne_eqb c d (λ h. eqb-false a b e (g h)))

-- a number less another, beside a number
sub_is : (v a b : ℕ) → alike (pos v) (sub_ℕ a b) ≡ eqb (v + b) a
sub_is v a b = go (ltb a b) refl
  where
    go : (t : Bool) → ltb a b ≡ t → alike (pos v) (cond t (negsuc (b - suc a)) (pos (a - b))) ≡ eqb (v + b) a
    go true e = sym (ne_eqb (v + b) a (λ h. omega (arith, ltb-true a b e)))
    go false e =
        let l = ltb-false a b e in eqb_iff v (a - b) (v + b) a (λ h. omega arith) (λ h. omega arith)

step_is : (v c k range : ℕ) → alike (pos v) (pos c +ℤ (pos k -ℤ pos range)) ≡ eqb (v + range) (c + k)
step_is v c k zero = eqb_iff v (c + (k + 0)) (v + 0) (c + k) (λ h. omega arith) (λ h. omega arith)
step_is v c k (suc range) = go (ltb k (suc range)) refl
  where
    go : (t : Bool) → ltb k (suc range) ≡ t
        → alike (pos v) (pos c +ℤ cond t (negsuc (suc range - suc k)) (pos (k - suc range)))
        ≡ eqb (v + suc range) (c + k)
    go true e =
        let l = ltb-true k (suc range) e in
        sub_is v c (suc (suc range - suc k))
        ∙ eqb_iff (v + suc (suc range - suc k)) c (v + suc range) (c + k) (λ h. omega arith) (λ h. omega arith)
    go false e =
        let l = ltb-false k (suc range) e in
        eqb_iff v (c + (k - suc range)) (v + suc range) (c + k) (λ h. omega arith) (λ h. omega arith)

-- the cell of a place, cut to i32 in the one grid, is the definition's in the other
pub record Alike32 (g h : SpatialGrid) (p : Point3f) : Type 0 where
  pub on_x : cell32 g.cell_size g.bounds_min.x p.x ≡ pos (cell_of h p).x
  pub on_y : cell32 g.cell_size g.bounds_min.y p.y ≡ pos (cell_of h p).y
  pub on_z : cell32 g.cell_size g.bounds_min.z p.z ≡ pos (cell_of h p).z

module _ (g h : SpatialGrid) (pts : List Float) (n : ℕ) (cells : (j : ℕ) → Alike32 g h (point_at pts j)) where
  axis_is : (range : ℕ) (least p v : Float) (c d k : ℕ) → cell32 g.cell_size least p ≡ pos c
      → cell32 g.cell_size least v ≡ pos d → at_step g pts n (pos range) least p v k ≡ is_at range c k d
  unfolding at_step is_at
  axis_is range least p v c d k e f =
      ap₂ (λ (x y : ℤ). alike y (x +ℤ (pos k -ℤ pos range))) e f ∙ step_is d c k range

  module _ (p : Point3f) (place : Alike32 g h p) where
    in_cell_lem : (range a b d : ℕ)
        → in_cell32 g pts n (pos range) p a b d ≡ in_cell h pts n range (cell_of h p) a b d
    unfolding in_cell32 in_cell
    in_cell_lem range a b d =
        let c = cell_of h p in
        only_ext
        (λ j. at_step g pts n (pos range) g.bounds_min.x p.x (point_at pts j).x a
        && (at_step g pts n (pos range) g.bounds_min.y p.y (point_at pts j).y b
        && at_step g pts n (pos range) g.bounds_min.z p.z (point_at pts j).z d))
        (λ j. is_at range c.x a (cell_of h (point_at pts j)).x
        && (is_at range c.y b (cell_of h (point_at pts j)).y && is_at range c.z d (cell_of h (point_at pts j)).z))
        (λ j t.
        axis_is range g.bounds_min.x p.x (point_at pts j).x c.x (cell_of h (point_at pts j)).x a
        place.on_x (cells j).on_x t
        && (axis_is range g.bounds_min.y p.y (point_at pts j).y c.y (cell_of h (point_at pts j)).y b
        place.on_y (cells j).on_y t
        && axis_is range g.bounds_min.z p.z (point_at pts j).z c.z (cell_of h (point_at pts j)).z d
        place.on_z (cells j).on_z t))
        (up_from 0 n)

    pub neighbors_as : (r : Float) → range32 g r ≡ pos (range_of h r)
        → neighbors32 g pts n p r ≡ neighbors true h pts n p r
    unfolding neighbors32 find_neighbors
    neighbors_as r e =
        ap (λ (range : ℤ). extended (λ a. extended (λ b. extended (λ d. in_cell32 g pts n range p a b d)
        (steps_of range)) (steps_of range)) (steps_of range)) e
        ∙ ap (λ (f : ℕ → ℕ → ℕ → List ℕ). extended (λ a. extended (λ b. extended (λ d. f a b d)
        (up_from 0 (2 * range_of h r + 1))) (up_from 0 (2 * range_of h r + 1))) (up_from 0 (2 * range_of h r + 1)))
        (λ t a b d. in_cell_lem (range_of h r) a b d t)
        ∙ find_neighbors_lem h pts n p r
