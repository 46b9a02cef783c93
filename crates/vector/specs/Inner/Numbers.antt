-- Points whose coordinates are numbers. Definitions only.
use Rattle.std.specs.Prelude.{T}
use Rattle.std.specs.Float.Ieee.Scale.{finite}
use Rattle.vector.specs.declared.Point3f.{Point3f}

-- a point whose coordinates are numbers
pub record Finite (p : Point3f) : Type 0 where
  pub x_finite : T (finite p.x)
  pub y_finite : T (finite p.y)
  pub z_finite : T (finite p.z)
