-- Points and vectors of three f32, each operation rounded once. Definitions only.
use Rattle.std.specs.Prelude.{Float}
use Rattle.numbers.specs.Rounded.{◌⊕◌, ◌⊖◌, ◌⊗◌}
use Rattle.numbers.specs.Root.{root}
use Rattle.vector.specs.declared.Point3f.{Point3f}

abbrev pub point : Float → Float → Float → Point3f
point x y z = record { x = x; y = y; z = z }

-- p - q: the vector from q to p
unfoldable pub difference : Point3f → Point3f → Point3f
difference p q = point (p.x ⊖ q.x) (p.y ⊖ q.y) (p.z ⊖ q.z)

-- the scope's length, squared: (x·x + y·y) + z·z
unfoldable pub magnitude_squared : Point3f → Float
magnitude_squared v = (v.x ⊗ v.x ⊕ v.y ⊗ v.y) ⊕ v.z ⊗ v.z

-- the scope's length
unfoldable pub magnitude : Point3f → Float
magnitude v = root (magnitude_squared v)

-- the scope's cross product: y·z' - z·y', and the others in turn
unfoldable pub cross : Point3f → Point3f → Point3f
cross v w = point (v.y ⊗ w.z ⊖ v.z ⊗ w.y) (v.z ⊗ w.x ⊖ v.x ⊗ w.z) (v.x ⊗ w.y ⊖ v.y ⊗ w.x)

-- the length of p - q, squared
unfoldable pub squared : Point3f → Point3f → Float
squared p q = magnitude_squared (difference p q)

-- the length of p - q
unfoldable pub distance : Point3f → Point3f → Float
distance p q = root (squared p q)
