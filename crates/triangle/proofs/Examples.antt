-- The quality of three triangles worked out from its definition, with the bits that the Rust gives, and which areas are
-- turned down with no threshold.
use mathlib.Core.Path.{◌≡◌, refl}
use mathlib.Core.Bool.{Bool, true, false}
use Prim.Native.Nat.{ℕ}
use mathlib.Core.List.{List, [], ◌∷◌}
use lib.Ieee.{Float, binary32, neg, add, sub, mul, div, lt, le, eq, is_nan, of_bits, to_bits}
use Rattle.numbers.specs.Rounded.{f32}
use Rattle.numbers.specs.Root.{root}
use Rattle.numbers.specs.Order.{minimum, maximum, clamp}
use Rattle.numbers.specs.Acos.{R, abs, high_part, acos_middle, acos_low, acos_high, acos_inside, acos}
use Rattle.vector.specs.Vector.{point, difference, magnitude_squared, magnitude, cross, squared, distance}
use Rattle.quality.specs.Measures.{radius_of, angle, least, largest, aspect_ratio, edge_ratio, score, measures, degenerate}
use Rattle.triangle.specs.Quality.{area, circumradius, quality, source_acceptable, acceptable}
use Rattle.vector.specs.declared.Point3f.{Point3f}
use Rattle.quality.specs.declared.TriangleQuality.{TriangleQuality}

-- a point of the plane, by its bits
abbrev flat : ℕ → ℕ → Point3f
flat x y = point (f32 x) (f32 y) (f32 0)

-- the bits of the six measures in the struct's order
abbrev bits : TriangleQuality → List ℕ
bits q =
    to_bits binary32 q.aspect_ratio
    ∷ to_bits binary32 q.min_angle
    ∷ to_bits binary32 q.max_angle
    ∷ to_bits binary32 q.area
    ∷ to_bits binary32 q.edge_ratio
    ∷ to_bits binary32 q.quality_score
    ∷ []

-- (0, 0), (1, 0), (0.5, 0.8660254): equilateral; (0, 0), (10, 0), (5, 0.001): a needle; (0, 0), (1, 0), (3, 0): flat
quality-values :
    (bits (quality (flat 0 0) (flat 0x3f800000 0) (flat 0x3f000000 0x3f5db3d7))
    ≡ 0x3f000000 ∷ 0x3f860a92 ∷ 0x3f860a92 ∷ 0x3eddb3d7 ∷ 0x3f800000 ∷ 0x3f800000 ∷ [])
    × (bits (quality (flat 0 0) (flat 0x41200000 0) (flat 0x40a00000 0x3a83126f))
    ≡ 0x332bcc78 ∷ 0 ∷ 0x40490fda ∷ 0x3ba3d70b ∷ 0x40000000 ∷ 0x3eaaaaac ∷ [])
    × (bits (quality (flat 0 0) (flat 0x3f800000 0) (flat 0x40400000 0))
    ≡ 0 ∷ 0 ∷ 0x40490fdb ∷ 0 ∷ 0x7f800000 ∷ 0 ∷ [])
unfolding area radius_of circumradius angle least largest aspect_ratio edge_ratio score measures degenerate quality difference magnitude_squared magnitude cross
    squared distance minimum maximum clamp R abs high_part acos_middle acos_low acos_high acos_inside acos root neg add sub mul div lt le eq is_nan of_bits to_bits
quality-values = (refl, refl, refl)

-- whether a triangle next to no area is taken at radius 1 with no threshold, as published and now
abbrev taken : Float → ℕ → Bool × Bool
taken factor bits = (
  source_acceptable (degenerate (f32 bits)) (f32 0x3f800000) (f32 0) (f32 0) factor,
  acceptable (degenerate (f32 bits)) (f32 0x3f800000) (f32 0) (f32 0) factor,
)

-- edge factor 3: the areas 0, -0, not a number and the least above 0; edge factor infinity: the areas 0 and the least
-- above 0
areas-turned-down :
    (taken (f32 0x40400000) 0 ≡ (true, false))
    × (taken (f32 0x40400000) 0x80000000 ≡ (true, false))
    × (taken (f32 0x40400000) 0x7fc00000 ≡ (true, true))
    × (taken (f32 0x40400000) 1 ≡ (false, false))
    × (taken (f32 0x7f800000) 0 ≡ (true, false))
    × (taken (f32 0x7f800000) 1 ≡ (true, true))
unfolding source_acceptable acceptable degenerate root neg add sub mul div lt le eq is_nan of_bits to_bits
areas-turned-down = (refl, refl, refl, refl, refl, refl)
