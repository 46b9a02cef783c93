-- Cells and ranges cut to a u32 are those cut to an i32: for every point of an accepted cloud, the middle of any two,
-- and every radius up to 262,144. Assumes nothing.
use Prim.Native.Nat.{ℕ, ◌+◌, ◌*◌, ◌≤◌, ◌<◌}
use native.Mathlib.Omega.{arith}
use mathlib.Core.Path.{◌≡◌, sym, subst}
use mathlib.Core.Bool.{true, false, not}
use mathlib.Core.List.{List}
use lib.Dec.{T, leb→le}
use lib.ListN.{length, get_or}
use lib.Count.{count_trailing_zeros}
use lib.Ieee.{Float, nan, inf, binary32, span, climb, size, odd, units, round, neg, sum, add, mul, div, le, fits}
use lib.Ieee.{is_nan, of_fields, of_bits, to_unsigned}
use lib.Ieee.Fits.{div-fits, inf-fits}
use lib.Ieee.Scale.{finite}
use lib.Ieee.Positive.{positive, between, mul_mono}
use Rattle.numbers.specs.Rounded.{f32, ◌⊕◌, ◌⊖◌, ◌⊗◌, ◌⊘◌}
use Rattle.numbers.specs.Cut.{cut, ceil}
use Rattle.numbers.specs.Inner.Bounds.{unsigned, Bounded}
use Rattle.numbers.proofs.OrderLaws.{unsigned_le, le_trans, le_top, le_left}
use Rattle.numbers.proofs.SumOrder.{sub_nonnegative}
use Rattle.numbers.proofs.QuotientOrder.{div_monotone, div_unsigned, div_antitone}
use Rattle.numbers.proofs.CutOrder.{cut_monotone}
use Rattle.cutting.proofs.CutTypes.{signed_cut, ceil_unsigned, ceil_most}
use Rattle.numbers.proofs.Bounded.{bounded_finite, sub_bounded}
use Rattle.ranges.specs.Range.{inside, farthest}
use Rattle.lists.proofs.Bools.{and_both}
use Rattle.settings.specs.Inner.Settled.{Settled}
use Rattle.settings.specs.declared.BallPivotingConfig.{BallPivotingConfig}
use Rattle.domain.specs.Inner.Accepted.{Cloud}
use Rattle.points.specs.Points.{point_at}
use Rattle.grid.specs.Grid.{least_from, bounds_min, grid_of, cell_on, range_of}
use Rattle.decisions.specs.Decisions.{halfway, middle}
use Rattle.cuts.specs.Cuts.{SameOn, SameCell, SameRange}
use Rattle.cuts.proofs.Least.{least_keeps, least_below}
use Rattle.cuts.proofs.Middle.{middle_bounded, middle_least_lem}

-- 0.001 × 0.5 and 1,000 × 16: the least and the greatest cell; 262,144
abbrev narrowest : Float
narrowest = f32 0x3a83126f ⊗ f32 0x3f000000

abbrev widest : Float
widest = f32 0x447a0000 ⊗ f32 0x41800000

abbrev pub far_radius : Float
far_radius = f32 0x48800000

abbrev across : Float
across = farthest ⊕ farthest

-- ---- what computes
narrowest_positive : T (positive narrowest)
unfolding count_trailing_zeros span climb size odd units round mul of_fields of_bits
narrowest_positive = tt

widest_positive : T (positive widest)
unfolding count_trailing_zeros span climb size odd units round mul of_fields of_bits
widest_positive = tt

across_finite : T (finite across)
unfolding count_trailing_zeros span climb size odd units round sum add of_fields of_bits
across_finite = tt

across_unsigned : T (unsigned across)
unfolding count_trailing_zeros span climb size odd units round sum add of_fields of_bits
across_unsigned = tt

most_cells : cut (across ⊘ narrowest) ≤ 40000000
unfolding count_trailing_zeros span climb size odd units round sum add mul div of_fields of_bits to_unsigned
most_cells = leb→le (cut (across ⊘ narrowest)) 40000000 tt

most_range : cut (far_radius ⊘ narrowest) + 1 ≤ 600000000
unfolding count_trailing_zeros span climb size odd units round mul div of_fields of_bits to_unsigned
most_range = leb→le (cut (far_radius ⊘ narrowest) + 1) 600000000 tt

-- ---- the size of a cell
pub within_range_lem : (lo hi x : Float) → inside lo hi x ≡ true → T (le lo x) × T (le x hi)
unfolding inside
within_range_lem lo hi x e = let b = and_both {p = le lo x} {q = le x hi} e in (subst T (sym b.0) tt, subst T (sym b.1) tt)

pub record Sound (size : Float) : Type 0 where
  pub above : T (positive size)
  pub wide : T (le narrowest size)

pub size_sound : (c : BallPivotingConfig) → Settled c → Sound (c.radius ⊗ c.spatial_cell_factor)
unfolding of_bits
size_sound c s =
    let r = within_range_lem (f32 0x3a83126f) (f32 0x447a0000) c.radius s.main in
    let f = within_range_lem (f32 0x3f000000) (f32 0x41800000) c.spatial_cell_factor s.cell in
    let pr = between (f32 0x3a83126f) c.radius (f32 0x447a0000) tt tt r.0 r.1 in
    let pf = between (f32 0x3f000000) c.spatial_cell_factor (f32 0x41800000) tt tt f.0 f.1 in
    let low = mul_mono binary32 (f32 0x3a83126f) c.radius (f32 0x3f000000) c.spatial_cell_factor tt pr tt pf
    r.0 f.0 in
    let high = mul_mono binary32 c.radius (f32 0x447a0000) c.spatial_cell_factor (f32 0x41800000) pr tt pf tt
    r.1 f.1 in
    record {
      above = between narrowest
          (c.radius ⊗ c.spatial_cell_factor) widest narrowest_positive widest_positive low high;
      wide = low;
    }

-- ---- one coordinate
pub same_on : (size least v : Float) → Sound size → Bounded v farthest → Bounded least farthest → T (le least v)
    → SameOn size least v
unfolding cell_on of_bits
same_on size least v s bv bl h =
    let fv = bounded_finite v farthest tt bv in
    let fl = bounded_finite least farthest tt bl in
    let x : Float = v ⊖ least in
    let q : Float = x ⊘ size in
    let low : T (le (f32 0) q) =
    le_trans (f32 0) (f32 0 ⊘ size) q (unsigned_le (f32 0 ⊘ size) (div_unsigned (f32 0) size tt tt s.above))
    (div_monotone (f32 0) x size s.above (sub_nonnegative v least fv fl h)) in
    let high : T (le q (across ⊘ narrowest)) =
    le_trans q (across ⊘ size) (across ⊘ narrowest)
    (div_monotone x across size s.above (sub_bounded v least farthest farthest tt tt bv bl).upper)
    (div_antitone across narrowest size across_finite across_unsigned narrowest_positive s.above s.wide) in
    let most : cut q ≤ 40000000 = omega (arith, cut_monotone q (across ⊘ narrowest) high, most_cells) in
    record { same = signed_cut q low (omega arith); most = most }

-- ---- a radius
pub same_range : (c : BallPivotingConfig) (points : List Float) (n : ℕ) (r : Float) → Settled c → T (unsigned r)
    → T (le r far_radius) → SameRange (grid_of (c.radius ⊗ c.spatial_cell_factor) points n) r
unfolding range_of of_bits le neg
same_range c points n r settled u h =
    let s = size_sound c settled in
    let cell : Float = c.radius ⊗ c.spatial_cell_factor in
    let fr = bounded_finite r far_radius tt
    (record { upper = h; lower = le_trans (neg far_radius) (f32 0) r tt (unsigned_le r u) }) in
    let q : Float = r ⊘ cell in
    let uq = div_unsigned r cell fr u s.above in
    let high : T (le q (far_radius ⊘ narrowest)) =
    le_trans q (far_radius ⊘ cell) (far_radius ⊘ narrowest) (div_monotone r far_radius cell s.above h)
    (div_antitone far_radius narrowest cell tt tt narrowest_positive s.above s.wide) in
    let most : cut (ceil q) ≤ 600000000 =
    omega (arith, ceil_most q (div-fits binary32 r cell), cut_monotone q (far_radius ⊘ narrowest) high, most_range) in
    record { same = signed_cut (ceil q) (unsigned_le (ceil q) (ceil_unsigned q uq)) (omega arith); most = most }

-- ---- a cloud
module _ (c : BallPivotingConfig) (points : List Float) (n : ℕ) (cloud : Cloud n points) (settled : Settled c) where
  cell_size : Sound (c.radius ⊗ c.spatial_cell_factor)
  cell_size = size_sound c settled

  module _ (at : ℕ) (axis : at < 3) where
    coordinate : (i : ℕ) → i < n → Bounded (get_or points (at + 3 * i) nan) farthest
    coordinate i l =
        let b = within_range_lem (neg farthest) farthest (get_or points (at + 3 * i) nan)
        (cloud.near (at + 3 * i) (omega (arith, cloud.threes))) in
        record { upper = b.1; lower = b.0 }

    a_number : (i : ℕ) → i < n → T (not (is_nan (get_or points (at + 3 * i) nan)))
    a_number i l = le_left _ farthest (coordinate i l).upper

    below : (i : ℕ) → i < n → T (le (least_from points (inf false) at n) (get_or points (at + 3 * i) nan))
    unfolding is_nan
    below i l = least_below points n (inf false) at tt a_number i l

    least_bounded : Bounded (least_from points (inf false) at n) farthest
    unfolding neg of_bits is_nan
    least_bounded = record {
      upper =
          le_trans _ (get_or points (at + 3 * 0) nan) farthest (below 0 cloud.some)
          (coordinate 0 cloud.some).upper;
      lower =
          least_keeps points (λ (x : Float). T (le (neg farthest) x)) n (inf false) at (le_top (neg farthest) tt)
          (λ i l. (coordinate i l).lower);
    }

    point_on : (i : ℕ) → i < n
        → SameOn (c.radius ⊗ c.spatial_cell_factor) (least_from points (inf false) at n)
        (get_or points (at + 3 * i) nan)
    point_on i l = same_on _ _ _ cell_size (coordinate i l) least_bounded (below i l)

    module _ (f32s : (k : ℕ) → k < length points → T (fits binary32 (get_or points k nan))) where
      least_fits : T (fits binary32 (least_from points (inf false) at n))
      least_fits =
          least_keeps points (λ (x : Float). T (fits binary32 x)) n (inf false) at (inf-fits binary32 false)
          (λ i l. f32s (at + 3 * i) (omega (arith, cloud.threes)))

      middle_on : (i j : ℕ) → i < n → j < n
          → SameOn (c.radius ⊗ c.spatial_cell_factor) (least_from points (inf false) at n)
          (halfway (get_or points (at + 3 * i) nan) (get_or points (at + 3 * j) nan))
      middle_on i j l m =
          same_on _ _ _ cell_size (middle_bounded _ _ (coordinate i l) (coordinate j m)) least_bounded
          (middle_least_lem _ _ _ least_fits least_bounded (coordinate i l) (coordinate j m) (below i l) (below j m))

  -- every point's cell
  pub cells_same : (i : ℕ) → i < n
      → SameCell (grid_of (c.radius ⊗ c.spatial_cell_factor) points n) (point_at points i)
  unfolding bounds_min point_at
  cells_same i l = record {
    on_x = at 0 (3 * i) (omega arith) (point_on 0 (omega arith) i l);
    on_y = at 1 (3 * i + 1) (omega arith) (point_on 1 (omega arith) i l);
    on_z = at 2 (3 * i + 2) (omega arith) (point_on 2 (omega arith) i l);
  }
    where
      at : (k a : ℕ) → k + 3 * i ≡ a
          → SameOn (c.radius ⊗ c.spatial_cell_factor) (least_from points (inf false) k n)
          (get_or points (k + 3 * i) nan)
          → SameOn (c.radius ⊗ c.spatial_cell_factor) (least_from points (inf false) k n) (get_or points a nan)
      at k a e h = rw e at h

  -- and that of the middle of two points, where the coordinates are f32
  pub middles_same : ((k : ℕ) → k < length points → T (fits binary32 (get_or points k nan))) → (i j : ℕ) → i < n → j < n
      → SameCell (grid_of (c.radius ⊗ c.spatial_cell_factor) points n) (middle (point_at points i) (point_at points j))
  unfolding bounds_min point_at middle
  middles_same f i j l m = record {
    on_x = at 0 (3 * i) (3 * j) (omega arith) (omega arith) (middle_on 0 (omega arith) f i j l m);
    on_y = at 1 (3 * i + 1) (3 * j + 1) (omega arith) (omega arith) (middle_on 1 (omega arith) f i j l m);
    on_z = at 2 (3 * i + 2) (3 * j + 2) (omega arith) (omega arith) (middle_on 2 (omega arith) f i j l m);
  }
    where
      at : (k a b : ℕ) → k + 3 * i ≡ a → k + 3 * j ≡ b
          → SameOn (c.radius ⊗ c.spatial_cell_factor) (least_from points (inf false) k n)
          (halfway (get_or points (k + 3 * i) nan) (get_or points (k + 3 * j) nan))
          → SameOn (c.radius ⊗ c.spatial_cell_factor) (least_from points (inf false) k n)
          (halfway (get_or points a nan) (get_or points b nan))
      at k a b e g h = rw (e, g) at h
