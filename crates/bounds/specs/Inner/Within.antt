-- Places within bounds, limits of squares, and bounds outside of which every square is above a limit. Definitions only.
use Rattle.std.specs.Prelude.{◌≡◌, Bool, false, ◌&&◌, T, Float}
use Rattle.std.specs.Float.{binary32}
use Rattle.std.specs.Float.Ieee.{lt, fits}
use Rattle.numbers.specs.Root.{root}
unfoldable pub use Rattle.vector.specs.Vector.{squared}
use Rattle.vector.specs.Inner.Numbers.{Finite}
use Rattle.vector.specs.declared.Point3f.{Point3f}
use Rattle.bounds.specs.declared.Bounds.{Bounds}
use Rattle.bounds.specs.Inner.Cover.{between}

-- a place within bounds
unfoldable pub within : Bounds → Point3f → Bool
within b p = between b.lo.x b.hi.x p.x
    && (between b.lo.y b.hi.y p.y && between b.lo.z b.hi.z p.z)

-- each square above t has a root above r
abbrev pub Limit : Float → Float → Type 0
Limit r t = (s : Float) → T (fits binary32 s) → T (lt t s) → T (lt r (root s))

-- every place outside the bounds has a squared distance above t from p
abbrev pub Covers : Point3f → Float → Bounds → Type 0
Covers p t b = (q : Point3f) → Finite q → within b q ≡ false → T (lt t (squared q p))
