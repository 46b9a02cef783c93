-- The ends: cells grow with the coordinates, so that beyond an end whose own cell is out of range none is in range.
-- Assumes nothing.
use mathlib.Core.Path.{◌≡◌, sym, subst}
use mathlib.Core.Logic.{inl, inr}
use mathlib.Core.Bool.{Bool, true, ◌&&◌}
use Prim.Native.Nat.{ℕ, ◌+◌, ◌≤◌, ◌<◌}
use native.Mathlib.Omega.{arith}
use borrow.Author.Tests.{leb-true}
use lib.Dec.{T, leb}
use lib.Ieee.{Float, neg, div, lt, le, of_bits}
use lib.Ieee.Bits.{is_true}
use lib.Ieee.Scale.{finite}
use lib.Ieee.Positive.{positive}
use Rattle.numbers.specs.Rounded.{f32, ◌⊖◌, ◌⊘◌}
use Rattle.numbers.proofs.OrderLaws.{lt_le, le_or_lt, bottom_le, le_top, finite_number}
use Rattle.numbers.proofs.SumOrder.{sub_monotone}
use Rattle.numbers.proofs.QuotientOrder.{div_monotone}
use Rattle.numbers.proofs.CutOrder.{cut_monotone}
use Rattle.numbers.proofs.Bounded.{bounded_finite}
use Rattle.lists.proofs.Bools.{and_both}
use Rattle.numbers.proofs.Above.{positive_is}
use Rattle.bounds.proofs.Beyond.{high, low}
use Rattle.bounds.specs.declared.Interval.{Interval}
use Rattle.bounds.specs.Inner.Within as bounds-within
use Rattle.grid.specs.declared.SpatialGrid.{SpatialGrid}
use Rattle.grid.specs.declared.Cell.{Cell}
use Rattle.grid.specs.Grid.{cell_on, cell_of, within_range, in_range}
use Rattle.cell_bounds.specs.Inner.Axis.{ordinary, usable, LowerEnd, UpperEnd, HoldingOn}
use Rattle.cell_bounds.specs.Inner.CellBounds.{Holding}

pub so : (b : Bool) → b ≡ true → T b
so b e = subst T (sym e) tt

pub ordinary_finite : (x : Float) → ordinary x ≡ true → T (finite x)
unfolding ordinary of_bits
ordinary_finite x e =
    let a = and_both {p = le (neg (f32 0x49742400)) x} {q = le x (f32 0x49742400)} e in
    bounded_finite x (f32 0x49742400) tt (record { upper = so (le x (f32 0x49742400)) a.1; lower = so (le (neg (f32 0x49742400)) x) a.0 })

module _ (size least v : Float) (u : usable size least v ≡ true) where
  parts : (T (positive size)) × (T (finite least)) × (T (finite v))
  unfolding usable
  parts =
      let a = and_both {p = lt (f32 0) size} {q = ordinary size && (ordinary least && ordinary v)} u in
      let b = and_both {p = ordinary size} {q = ordinary least && ordinary v} a.1 in
      let c = and_both {p = ordinary least} {q = ordinary v} b.1 in
      (positive_is size (so (lt (f32 0) size) a.0) (ordinary_finite size b.0), ordinary_finite least c.0, ordinary_finite v c.1)

  grows : (x y : Float) → T (finite x) → T (finite y) → T (le x y) → cell_on size least x ≤ cell_on size least y
  unfolding cell_on
  grows x y f g h =
      cut_monotone ((x ⊖ least) ⊘ size) ((y ⊖ least) ⊘ size) (div_monotone (x ⊖ least) (y ⊖ least) size parts.0 (sub_monotone x y least f g parts.1 h))

  module _ (range cell own : ℕ) (is : own ≡ cell_on size least v) where
    pub lower_tested : own + range < cell → LowerEnd size least range cell v
    unfolding within_range
    lower_tested far q f w = elim (le_or_lt v q (finite_number v parts.2) (finite_number q f)) [
      | inl h ↦ h
      | inr h ↦
          let a = and_both {p = leb cell (cell_on size least q + range)} {q = leb (cell_on size least q) (cell + range)} w in
          absurd (omega (arith, leb-true cell (cell_on size least q + range) a.0, grows q v f parts.2 (lt_le q v h)))
    ]

    pub upper_tested : cell + range < own → UpperEnd size least range cell v
    unfolding within_range
    upper_tested far q f w = elim (le_or_lt q v (finite_number q f) (finite_number v parts.2)) [
      | inl h ↦ h
      | inr h ↦
          let a = and_both {p = leb cell (cell_on size least q + range)} {q = leb (cell_on size least q) (cell + range)} w in
          absurd (omega (arith, leb-true (cell_on size least q) (cell + range) a.1, grows v q parts.2 f (lt_le v q h)))
    ]

module _ (size least : Float) (range cell : ℕ) where
  pub lower_none : LowerEnd size least range cell low
  unfolding div of_bits neg
  lower_none q f w = bottom_le q (finite_number q f)

  pub upper_none : UpperEnd size least range cell high
  unfolding div of_bits
  upper_none q f w = le_top q (finite_number q f)

-- ---- an interval, and all three
pub holding_on : (size least : Float) (range cell : ℕ) (lo hi : Float) → LowerEnd size least range cell lo → UpperEnd size least range cell hi
    → HoldingOn size least range cell (record {
      lo =
          lo;
      hi = hi;
    })
holding_on size least range cell lo hi below above q f w = rw (is_true (le lo q) (below q f w), is_true (le q hi) (above q f w))

pub holding : (g : SpatialGrid) (c : Cell) (range : ℕ) (x y z : Interval) → HoldingOn g.cell_size g.bounds_min.x range c.x x
    → HoldingOn g.cell_size g.bounds_min.y range c.y y
    → HoldingOn g.cell_size g.bounds_min.z range c.z z
    → Holding g c range (record { lo = record { x = x.lo; y = y.lo; z = z.lo }; hi = record { x = x.hi; y = y.hi; z = z.hi } })
unfolding in_range cell_of bounds-within.within
holding g c range x y z hx hy hz q f w =
    let size = g.cell_size in
    let least = g.bounds_min in
    let a = and_both {p = within_range range c.x (cell_on size least.x q.x)} {q = within_range range c.y (cell_on size least.y q.y)
    && within_range range c.z (cell_on size least.z q.z)} w in
    let b = and_both {p = within_range range c.y (cell_on size least.y q.y)} {q = within_range range c.z (cell_on size least.z q.z)} a.1 in
    rw (hx q.x f.x_finite a.0, hy q.y f.y_finite b.0, hz q.z f.z_finite b.1)
