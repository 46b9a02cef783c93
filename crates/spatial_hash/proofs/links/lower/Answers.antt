-- `spatial_hash::links::lower` meets its contract. Assumes nothing.
use Rattle.spatial_hash.proofs.Corners.{minimum_finite}
use Rattle.spatial_hash.proofs.links.lower.Goals as goal

pub returns : goal.returns
returns c =
    record {
      x_finite = minimum_finite _ _ c.min.result c.min.ensures c.requires.0.x_finite c.requires.1.x_finite;
      y_finite = minimum_finite _ _ c.min-2.result c.min-2.ensures c.requires.0.y_finite c.requires.1.y_finite;
      z_finite = minimum_finite _ _ c.min-3.result c.min-3.ensures c.requires.0.z_finite c.requires.1.z_finite;
    }
