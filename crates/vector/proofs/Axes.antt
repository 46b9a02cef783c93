-- There are three axes, and they are told apart by their numbers. Assumes nothing.
use Rattle.std.proofs.Common.{◌≡◌, ◌<◌, refl, arith}
use Rattle.std.specs.Prelude.{eqb}
use denote.Enum.Bare.{sameb}
use Rattle.vector.specs.contracts.Axis.{the_type}
use Rattle.vector.specs.declared.Axis.{Axis}
use Rattle.vector.specs.declared.Axis.TheVariants.{X, Y, Z}
use Rattle.vector.specs.Inner.Axes.{axis_index}

pub axis_below : (a : Axis) → axis_index a < 3
axis_below X = omega arith
axis_below Y = omega arith
axis_below Z = omega arith

-- `==` of two axes compares their numbers
pub same_axis : (a b : Axis) → sameb the_type a b ≡ eqb (axis_index a) (axis_index b)
same_axis X X = refl
same_axis X Y = refl
same_axis X Z = refl
same_axis Y X = refl
same_axis Y Y = refl
same_axis Y Z = refl
same_axis Z X = refl
same_axis Z Y = refl
same_axis Z Z = refl
