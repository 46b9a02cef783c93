-- What survives a search, which changes nothing but the list of neighbours. Assumes nothing.
use Prim.Native.Nat.{ℕ, ◌*◌, ◌<◌}
use mathlib.Core.Path.{◌≡◌, refl, ◌∙◌}
use mathlib.Core.List.{List}
use native.Mathlib.Omega.{arith}
use lib.ListN.{length, take}
use lib.Ieee.{Float}
use Rattle.grid.specs.declared.SpatialGrid.{SpatialGrid}
use Rattle.grid.specs.Inner.Index.{Cells}
use Rattle.grid.proofs.Kept.{cell_of_take}
use Rattle.spatial_hash.specs.declared.Hash.{Hash}
use Rattle.spatial_hash.specs.Inner.Near.{Hashed}
use Rattle.spatial_hash.proofs.Kept.{hashed_behind}
use Rattle.decisions.specs.declared.Scene.{Scene}
use Rattle.nearby.specs.Inner.Ready.{SceneHeld, SceneKept}

pub kept_self : (s : Scene) (w : List ℕ) → SceneKept s w w
kept_self s w = record { before = refl; after = refl }

pub kept_on : {s : Scene} {w u v : List ℕ} → SceneKept s w u → SceneKept s u v → SceneKept s w v
kept_on k l = record { before = l.before ∙ k.before; after = l.after ∙ k.after }

pub held_kept : {s : Scene} {pts : List Float} {w : List ℕ} (u : List ℕ) → SceneHeld s pts w → length u ≡ length w → SceneHeld s pts u
held_kept u h l = record { few = h.few; points_long = h.points_long; work_long = omega (arith, h.work_long) }

pub cells_kept : (g : SpatialGrid) (pts : List Float) (n : ℕ) (w u : List ℕ) → Cells g pts n w → take (4 * n) u ≡ take (4 * n) w → Cells g pts n u
cells_kept g pts n w u c e = λ (i : ℕ) (h : i < n). cell_of_take w u n i h e ∙ c i h

pub hashed_search : {s : Scene} {hash : Hash} {pts : List Float} {w : List ℕ} (u : List ℕ) → Hashed hash pts s.n w → length u ≡ length w → SceneKept s w u
    → Hashed hash pts s.n u
hashed_search {s} {hash} {pts} {w} u h l k = hashed_behind hash pts s.n (5 * s.n) w u (omega arith) k.after l h
