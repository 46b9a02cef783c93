-- A computed length of finite points is an f32 without a sign. Assumes nothing.
use mathlib.Core.Path.{subst⁻¹}
use mathlib.Core.Logic.{⊎_elim}
use lib.Dec.{T}
use lib.Ieee.{Float, binary32, fits, is_nan, of_bits}
use Rattle.numbers.specs.Inner.Bounds.{unsigned}
use Rattle.numbers.specs.Rounded.{f32}
use Rattle.numbers.specs.Root.{root}
use Rattle.numbers.proofs.OrderLaws.{unsigned_number_lem, unsigned_le, positive_unsigned, le_or_lt, le_antisymmetric}
use Rattle.numbers.proofs.RootMonotone.{root_above}
use Rattle.vector.specs.Vector.{squared, distance}
use Rattle.vector.specs.Inner.Numbers.{Finite}
use Rattle.vector.specs.declared.Point3f.{Point3f}
use Rattle.vector.proofs.Distances.{squared_fits, squared_unsigned, distance_is}
use Rattle.nearest.specs.Parts.{Length}

none : Length (root (f32 0))
none = unfold root fits of_bits in record { is_f32 = tt; sign = tt }

root_length : (x : Float) → T (fits binary32 x) → T (unsigned x) → Length (root x)
root_length x f u =
    ⊎_elim
    (λ h. subst⁻¹ (λ (z : Float). Length (root z))
    (le_antisymmetric binary32 x (f32 0) f (unfold fits of_bits in tt) u (unfold of_bits in tt) h (unsigned_le x u)) none)
    (λ h. let a = root_above x f h in record { is_f32 = a.1; sign = positive_unsigned (root x) a.0 })
    (le_or_lt x (f32 0) (unsigned_number_lem x u) (unfold is_nan of_bits in tt))

pub distance_length : (p q : Point3f) → Finite p → Finite q → Length (distance p q)
distance_length p q f g = subst⁻¹ Length (distance_is p q) (root_length (squared p q) (squared_fits p q) (squared_unsigned p q f g))
