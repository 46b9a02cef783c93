-- `cell_bounds::limit_of` meets its contract. Assumes nothing.
use mathlib.Core.Path.{refl}
use Rattle.cell_bounds.proofs.Reach.{reaching}
use Rattle.cell_bounds.proofs.limit_of.Goals as goal

pub farthest-x-requires : goal.farthest-x-requires
farthest-x-requires c = c.requires.x_finite

pub farthest-y-requires : goal.farthest-y-requires
farthest-y-requires c = c.requires.y_finite

pub farthest-z-requires : goal.farthest-z-requires
farthest-z-requires c = c.requires.z_finite

pub returns : goal.returns
returns c =
    reaching c.args.bounds c.args.place _ _ _ _ c.requires c.farthest-x.ensures c.farthest-y.ensures
    c.farthest-z.ensures refl
