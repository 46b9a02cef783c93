-- Every range that is asked for is the same cut to an i32: the radii are f32 from +0 up to 131,072. Assumes nothing.
use Prim.Native.Nat.{ℕ}
use mathlib.Core.List.{List}
use lib.Count.{count_trailing_zeros}
use lib.Dec.{T}
use lib.Ieee.{Float, span, climb, size, odd, units, round, mul, lt, eq, le, of_fields, of_bits}
use lib.Ieee.Scale.{finite}
use Rattle.numbers.specs.Rounded.{f32, ◌⊗◌}
use Rattle.numbers.proofs.OrderLaws.{le_trans}
use Rattle.numbers.proofs.ProductOrder.{mul_monotone_finite}
use Rattle.numbers.proofs.Bounded.{mul_unsigned}
use Rattle.settings.specs.Inner.Settled.{Settled}
use Rattle.settings.specs.declared.BallPivotingConfig.{BallPivotingConfig}
use Rattle.domain.specs.Inner.Accepted.{Cloud}
use Rattle.sorting.specs.Each.{All}
use Rattle.grid.specs.Grid.{grid_of}
use Rattle.grid.specs.declared.SpatialGrid.{SpatialGrid}
use Rattle.radii.specs.Radii.{adaptive_radii}
use Rattle.decisions.specs.Decisions.{reach}
use Rattle.total_order.specs.TotalOrder.{Given}
use Rattle.total_order.proofs.Order.{Fine}
use Rattle.total_order.proofs.Fine.{fine_finite}
use Rattle.total_order.proofs.Radii.{farther, farther_finite, all_map, twice, set_fine, radii_fine}
use Rattle.cuts.specs.Cuts.{SameRange}
use Rattle.cuts.proofs.Cells.{far_radius, same_range}
use Rattle.numbers.specs.Inner.Bounds.{unsigned}

-- ---- what computes
product_tops : T (le (farther ⊗ f32 0x40000000) far_radius) × T (le (f32 0x447a0000 ⊗ f32 0x40400000) far_radius)
unfolding count_trailing_zeros span climb size odd units round mul lt eq le of_fields of_bits
product_tops = (tt, tt)

farther_top : T (le farther far_radius)
unfolding lt eq le of_bits
farther_top = tt

largest_finite_lem : T (finite (f32 0x447a0000))
unfolding of_bits
largest_finite_lem = tt

three_tops : T (finite (f32 0x40400000)) × T (unsigned (f32 0x40400000)) × T (le (f32 0) (f32 0x40400000))
unfolding lt eq le of_bits
three_tops = (tt, tt, tt)

-- ---- over a cloud
module _ (c : BallPivotingConfig) (points : List Float) (n : ℕ) (cloud : Cloud n points) (settled : Settled c)
    (given : Given c) (g : SpatialGrid) where
  -- a pivot asks for the neighbours at r, a seed at 2r, a sample at 3 × radius
  abbrev pub Asked : Float → Type 0
  Asked r = SameRange (grid_of (c.radius ⊗ c.spatial_cell_factor) points n) r

  pub ranges_same : All (λ (r : Float). Asked r × Asked (reach r)) (adaptive_radii c g points n)
  ranges_same = all_map (Fine farther) (λ (r : Float). Asked r × Asked (reach r))
      (λ r h.
      let d = twice farther far_radius r farther_finite product_tops.0 h in (
        same_range c points n r settled h.clear (le_trans r farther far_radius h.most farther_top),
        same_range c points n (reach r) settled d.clear d.most,
      ))
      (adaptive_radii c g points n) (radii_fine c points n cloud settled given g)

  pub sample_range_same : Asked (c.radius ⊗ f32 0x40400000)
  sample_range_same =
      let h = set_fine c.radius given.radius settled.main in
      let f = fine_finite (f32 0x447a0000) c.radius largest_finite_lem h in
      same_range c points n (c.radius ⊗ f32 0x40400000) settled
      (mul_unsigned c.radius (f32 0x40400000) f three_tops.0 h.clear three_tops.1)
      (le_trans (c.radius ⊗ f32 0x40400000) (f32 0x447a0000 ⊗ f32 0x40400000) far_radius
      (mul_monotone_finite c.radius (f32 0x447a0000) (f32 0x40400000) f largest_finite_lem three_tops.0 h.most
      three_tops.2) product_tops.1)
