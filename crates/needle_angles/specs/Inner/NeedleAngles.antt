-- Needles: triangles with one edge much shorter than the other two. Definitions only.
use Rattle.std.specs.Prelude.{T, Float}
use Rattle.std.specs.Float.{binary32}
use Rattle.std.specs.Float.Ieee.{le, fits}
use Rattle.numbers.specs.Rounded.{f32}
use Rattle.numbers.specs.Root.{root}
use Rattle.six_orders.specs.Inner.SixOrders.{AngleBound, EdgeBound}
use Rattle.needle_angles.specs.declared.NeedleClass.{NeedleClass}
use Rattle.needle_angles.specs.declared.NeedleClass.TheVariants.{Times10, Times16, Times32, Times64, Times128}

-- unless m is a NaN, it bounds the least angle of all triangles with the square of one edge's length from least to
-- most and those of the other two from short to long
pub record NeedleAngle (least most short long m : Float) : Type 0 where
  pub bound : (x y z : Float) → T (fits binary32 x) → T (fits binary32 y) → T (fits binary32 z)
      → T (le least x) → T (le x most) → T (le short y) → T (le y long) → T (le short z) → T (le z long)
      → AngleBound (root x) (root y) (root z) m

-- unless r is a NaN, it bounds the edge ratio of all such triangles
pub record NeedleRatio (least most short long r : Float) : Type 0 where
  pub bound : (x y z : Float) → T (fits binary32 x) → T (fits binary32 y) → T (fits binary32 z)
      → T (le least x) → T (le x most) → T (le short y) → T (le y long) → T (le short z) → T (le z long)
      → EdgeBound (root x) (root y) (root z) r

-- the bound of a class's edge ratio: how many times as long the other two edges are
unfoldable pub ratio_of : NeedleClass → Float
ratio_of Times10 = f32 0x41200000
ratio_of Times16 = f32 0x41800000
ratio_of Times32 = f32 0x42000000
ratio_of Times64 = f32 0x42800000
ratio_of Times128 = f32 0x43000000

-- the bound of a class's least angle
unfoldable pub angle_of : NeedleClass → Float
angle_of Times10 = f32 0x3e570a3d
angle_of Times16 = f32 0x3e051eb8
angle_of Times32 = f32 0x3d8f5c29
angle_of Times64 = f32 0x3d4ccccd
angle_of Times128 = f32 0x3d23d70a

-- all such triangles are of a class
pub record OfClass (least most short long : Float) (k : NeedleClass) : Type 0 where
  pub angle : NeedleAngle least most short long (angle_of k)
  pub ratio : NeedleRatio least most short long (ratio_of k)
