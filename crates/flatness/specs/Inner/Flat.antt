-- A cloud that is flat, and how far its points reach on an axis. Definitions only.
use Rattle.std.specs.Prelude.{ℕ, ◌+◌, ◌*◌, ◌<◌, ◌≡◌, Bool, false, ◌||◌, List, T, get_or, Float}
use Rattle.std.specs.Float.{nan, inf}
use Rattle.std.specs.Float.Ieee.{lt}
use Rattle.std.specs.Float.Ieee.Scale.{finite}
use Rattle.numbers.specs.Rounded.{◌⊖◌, ◌⊗◌}
use Rattle.numbers.specs.Inner.Bounds.{unsigned, Bounded}
use Rattle.vector.specs.declared.Point3f.{Point3f}
use Rattle.quality.specs.Measures.{tiny}
use Rattle.area_bounds.specs.Inner.AreaBound.{area_bound}
use Rattle.decisions.specs.declared.Scene.{Scene}
use Rattle.decisions.specs.Decisions.{accepts, quality_at}

-- two edges that v bounds make a triangle that is too small, or next to none
unfoldable pub too_small : Scene → Point3f → Bool
too_small s v = lt (area_bound v v) s.min_triangle_area || lt (area_bound v v) tiny

-- no three points of the cloud make an acceptable triangle, at any radius at which edges are limited at all
abbrev pub Flat : Scene → List Float → Type 0
Flat s pts = (r : Float) → T (lt (r ⊗ s.max_edge_factor) (inf false)) → (i j k : ℕ) → i < s.n → j < s.n → k < s.n
    → accepts s r (quality_at pts i j k) ≡ false

-- the coordinate of point k on an axis
abbrev pub on_axis : List Float → ℕ → ℕ → Float
on_axis pts axis k = get_or pts (3 * k + axis) nan

-- the coordinates of n points on an axis are finite
abbrev pub AxisFinite : List Float → ℕ → ℕ → Type 0
AxisFinite pts axis n = (k : ℕ) → k < n → T (finite (on_axis pts axis k))

-- v bounds how far any two of n points are apart on an axis
pub record Extent (pts : List Float) (axis n : ℕ) (v : Float) : Type 0 where
  pub sign : T (unsigned v)
  pub bounds : (j k : ℕ) → j < n → k < n → Bounded (on_axis pts axis j ⊖ on_axis pts axis k) v
