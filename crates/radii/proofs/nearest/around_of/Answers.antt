-- `radii::nearest::around_of` meets its contract. Assumes nothing.
use mathlib.Core.Path.{ap, ◌∙◌}
use Prim.Native.Nat.{ℕ}
use Rattle.grid.specs.declared.Cell.{Cell}
use Rattle.grid.specs.Grid.{range_of}
use Rattle.neighbor_squares.specs.declared.Around.{Around}
use Rattle.radii.proofs.nearest.around_of.Goals as goal

pub returns : goal.returns
unfolding range_of
returns c =
    let around : ℕ → Cell → Around = λ (range : ℕ) (cell : Cell). record { indexed = c.args.config.use_spatial_index; range = range; cell = cell } in
    ap (λ (range : ℕ). around range c.cell_of-cell.result) c.ceil_cut.ensures ∙ ap (around _)
    c.cell_of-cell.ensures
