-- What a new hash leaves as it was. Assumes nothing.
use Prim.Native.Nat.{ℕ, ◌*◌, ◌≤◌}
use mathlib.Core.Path.{sym, ap, ◌∙◌}
use mathlib.Core.List.{List}
use native.Mathlib.Omega.{arith}
use lib.ListN.{take}
use lib.Seq.{take-take}
use lib.Ieee.{Float}
use Rattle.grid.specs.declared.SpatialGrid.{SpatialGrid}
use Rattle.grid.specs.Inner.Index.{CellsIndexed}
use Rattle.grid.proofs.Near.{indexed_kept}
use Rattle.spatial_hash.specs.declared.Hash.{Hash}
use Rattle.spatial_hash.specs.Inner.Near.{Built}
use Rattle.decisions.specs.declared.Scene.{Scene}
use Rattle.nearby.proofs.Keeping.{held_kept}
use Rattle.laying.specs.Inner.Laying.{AllSearchable}

-- the index
pub indexed_built : {g : SpatialGrid} {hash : Hash} {pts : List Float} {n : ℕ} {w u : List ℕ} → CellsIndexed g pts n w → Built hash pts n w u
    → CellsIndexed g pts n u
indexed_built {n = n} {w = w} {u = u} x b =
    let h : 4 * n ≤ 9 * n = omega arith in
    indexed_kept u x b.length_same (sym (take-take (4 * n) (9 * n) u h) ∙ ap (take (4 * n)) b.before ∙ take-take (4 * n) (9 * n) w h)

-- all that a search needs
pub searchable_anew : {s : Scene} {old hash : Hash} {pts : List Float} {w u : List ℕ} → AllSearchable s old pts w → Built hash pts s.n w u
    → AllSearchable s hash pts u
searchable_anew {u = u} g b = record {
  some = g.some;
  held = held_kept u g.held b.length_same;
  indexed = indexed_built g.indexed b;
  hashed = b.hashed;
}
