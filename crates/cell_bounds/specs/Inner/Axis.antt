-- Intervals on one axis that hold every coordinate whose cell lies within a range of another. Definitions only.
use Rattle.std.specs.Prelude.{ℕ, ◌≡◌, Bool, true, ◌&&◌, T, Float}
use Rattle.std.specs.Float.Ieee.{neg, lt, le}
use Rattle.std.specs.Float.Ieee.Scale.{finite}
use Rattle.numbers.specs.Rounded.{f32, ◌⊖◌, ◌⊗◌}
use Rattle.numbers.specs.Inner.Bounds.{unsigned}
use Rattle.bounds.specs.declared.Interval.{Interval}
use Rattle.bounds.specs.Inner.Cover.{between}
use Rattle.grid.specs.Grid.{cell_on, within_range}

-- from -1,000,000 to 1,000,000, which coordinates and sizes of cells always are
unfoldable pub ordinary : Float → Bool
ordinary x = le (neg (f32 0x49742400)) x && le x (f32 0x49742400)

-- a size above 0, and all three ordinary
unfoldable pub usable : Float → Float → Float → Bool
usable size least v = lt (f32 0) size && (ordinary size && (ordinary least && ordinary v))

-- no coordinate below r has its cell in range
abbrev pub LowerEnd : Float → Float → ℕ → ℕ → Float → Type 0
LowerEnd size least range cell r =
    (q : Float) → T (finite q) → within_range range cell (cell_on size least q) ≡ true → T (le r q)

-- and none above r
abbrev pub UpperEnd : Float → Float → ℕ → ℕ → Float → Type 0
UpperEnd size least range cell r =
    (q : Float) → T (finite q) → within_range range cell (cell_on size least q) ≡ true → T (le q r)

-- and none outside an interval
abbrev pub HoldingOn : Float → Float → ℕ → ℕ → Interval → Type 0
HoldingOn size least range cell i =
    (q : Float) → T (finite q) → within_range range cell (cell_on size least q) ≡ true → between i.lo i.hi q ≡ true

-- v is between two ordinary ends
unfoldable pub holds_place : Float → Float → Float → Bool
holds_place v lo hi = ordinary lo && (ordinary hi && (le lo v && le v hi))

-- a coordinate between two ends has a squared difference from v of at most t, which has no minus sign
pub record ReachingOn (v lo hi t : Float) : Type 0 where
  pub signless : T (unsigned t)
  pub most : (q : Float) → T (finite q) → between lo hi q ≡ true → T (le ((q ⊖ v) ⊗ (q ⊖ v)) t)
