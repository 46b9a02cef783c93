-- A cloud's points, read from its coordinates, three to a point. Definitions only.
use Rattle.std.specs.Prelude.{ℕ, ◌+◌, ◌-◌, ◌*◌, ◌/◌, List, get_or, Float}
use Rattle.std.specs.Float.{nan}
use Rattle.vector.specs.declared.Point3f.{Point3f}

-- point number i, from 0
unfoldable pub point_at : List Float → ℕ → Point3f
point_at pts i = record { x = get_or pts (3 * i) nan; y = get_or pts (3 * i + 1) nan; z = get_or pts (3 * i + 2) nan }

-- how many of the numbers i, i + step, i + 2 × step and so on are below n
abbrev pub steps_from : ℕ → ℕ → ℕ → ℕ
steps_from n step i = (n + step - 1 - i) / step
