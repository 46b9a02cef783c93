-- `grid::build_spatial_grid` meets its contract. Assumes nothing.
use mathlib.Core.Path.{ap}
use native.Mathlib.Omega.{arith}
use Rattle.vector.specs.declared.Point3f.{Point3f}
use Rattle.grid.proofs.build_spatial_grid.Goals as goal

pub returns : goal.returns
returns c =
    let f = c.fill_cells in (
      ap (λ (p : Point3f). record { cell_size = c.args.cell_size; bounds_min = p }) c.bounds_min.ensures,
      record { few = c.requires.0; room = omega (arith, c.requires.2, f.auto.w); cells = f.ensures.0 },
      f.ensures.1,
    )
