-- What bounds the area of triangles: bounds of two edges on each axis, and the square of the edges' cross product.
-- Definitions only.
use Rattle.std.specs.Prelude.{false, T, Float}
use Rattle.std.specs.Float.{binary32, inf}
use Rattle.std.specs.Float.Ieee.{lt, le, fits}
use Rattle.numbers.specs.Rounded.{f32, ◌⊕◌, ◌⊗◌}
use Rattle.numbers.specs.Root.{root}
use Rattle.vector.specs.Vector.{point, difference, magnitude_squared, magnitude, cross}
use Rattle.quality.specs.Measures.{half, one, tiny}
use Rattle.vector.specs.declared.Point3f.{Point3f}

-- the cross product with a plus for each minus: it bounds the cross product of the vectors that v and w bound
unfoldable pub cross_bound : Point3f → Point3f → Point3f
cross_bound v w = point (v.y ⊗ w.z ⊕ v.z ⊗ w.y) (v.z ⊗ w.x ⊕ v.x ⊗ w.z) (v.x ⊗ w.y ⊕ v.y ⊗ w.x)

-- half its length: it bounds the area where v and w bound two edges
unfoldable pub area_bound : Point3f → Point3f → Float
area_bound v w = magnitude (cross_bound v w) ⊗ half

-- the square of the cross product's length, that is of twice the area
unfoldable pub cross_squared : Point3f → Point3f → Point3f → Float
cross_squared p1 p2 p3 = magnitude_squared (cross (difference p2 p1) (difference p3 p1))

-- such a square is that of an area below m if it is at most t
pub record AreaLimit (m t : Float) : Type 0 where
  pub below : (a : Float) → T (fits binary32 a) → T (le (f32 0) a) → T (le a t) → T (lt (root a ⊗ half) m)

-- the edges of a triangle with the area m or more are too long for a radius: m is not next to none, and the edge ratio
-- is at least 1
pub record TooLong (r m factor : Float) : Type 0 where
  pub some : T (le tiny m)
  pub long : (ratio a : Float) → T (fits binary32 a) → T (le one ratio) → T (le m a)
      → T (lt (r ⊗ factor) (ratio ⊗ root a))

-- such a square is that of an area whose edges are too long for a radius if it is at least t, and twice the radius is
-- finite
pub record LargeLimit (r factor t : Float) : Type 0 where
  pub bounded : (a : Float) → T (le t a) → T (lt (r ⊗ f32 0x40000000) (inf false))
  pub long : (a : Float) → T (fits binary32 a) → T (le t a) → TooLong r (root a ⊗ half) factor
