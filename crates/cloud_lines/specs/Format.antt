-- The lines of a cloud file, from their bytes to numbers: `field`, `triple`, `point`. Definitions only, leaves first.
use Rattle.std.specs.Prelude.{ℕ, cond, List, drop, Float}
use Rattle.numerals.specs.Format.{Parsed, parsed, malformed, then, starts_with, number}
use Rattle.cloud_lines.specs.declared.line.Triple.{Triple}
use Rattle.cloud_lines.specs.declared.line.Point.{Point}

-- a number and the byte that ends it: a comma is 44, a line feed 10
unfoldable pub field : ℕ → List ℕ → Parsed Float
unfolding then starts_with number
field end bs = then (number bs) (λ v rest. cond (starts_with end rest) (parsed v (drop 1 rest)) malformed)

-- three fields, the last one ended by the byte `last`
unfoldable pub triple : ℕ → List ℕ → Parsed Triple
unfolding then field
triple last bs =
    then (field 44 bs) (λ x bs₁.
    then (field 44 bs₁) (λ y bs₂. then (field last bs₂) (λ z rest. parsed (record { x = x; y = y; z = z }) rest)))

-- a point's line: x,y,z,nx,ny,nz
unfoldable pub point_fields : List ℕ → Parsed Point
unfolding then triple
point_fields bs =
    then (triple 44 bs) (λ p bs₁. then (triple 10 bs₁) (λ n rest. parsed (record { position = p; normal = n }) rest))
