-- `reconstruct_with_normals` as it was published, step by step: the i32 cells and the loop through them, a `min` and a
-- `max` that may give either of two unlike zeros, `total_cmp`, the published acceptance, the second look, the heap, the
-- stop above 50,000 faces and the plain path's loops; and the claim that it is our call, under rule 1, exactly where it
-- lays no triangle of area zero. Definitions only.
use Rattle.std.specs.Prelude.{ℕ, zero, suc, ◌+◌, ◌*◌, ◌≡◌, ◌⊎◌, ◌↔◌, Bool, false, cond, ◌&&◌, List, [], ◌∷◌, ℤ, pos, negsuc, ◌+ℤ◌, ◌-ℤ◌, eqb, ltb, length, Float}
use Rattle.std.proofs.Math.Option.{Option, none, some}
use Rattle.std.specs.Float.{inf}
use Rattle.std.specs.Float.Ieee.{le, neg, to_signed}
use Rattle.lists.specs.Lists.{up_from, count}
use Rattle.lists.specs.Members.{only}
use Rattle.numbers.specs.Rounded.{f32, ◌⊖◌, ◌⊗◌, ◌⊘◌}
use Rattle.numbers.specs.Cut.{ceil}
use Rattle.numbers.specs.Order.{minimum, maximum}
use Rattle.vector.specs.declared.Point3f.{Point3f}
use Rattle.quality.specs.declared.TriangleQuality.{TriangleQuality}
use Rattle.triangle.specs.Quality.{source_acceptable}
use Rattle.points.specs.Points.{point_at}
use Rattle.settings.specs.declared.BallPivotingConfig.{BallPivotingConfig}
use Rattle.domain.specs.Refusals.{reconstruct_refusal}
use Rattle.grid.specs.declared.SpatialGrid.{SpatialGrid}
use Rattle.patch.specs.Lay.{Rules, State, Pop, cleared, seeded, next, blank}
use Rattle.patch.specs.Search.{Floats, searching}
use Rattle.patch.specs.Frontier.{heap_of}
use Rattle.decisions.specs.Decisions.{reach, apart, is_close, middle, pivotable}
use Rattle.ball_pivoting.specs.Reconstruct.{point_count, radii_of, Found, laid, found, delivered}
use Rattle.ball_pivoting.specs.Unsplit.{reconstructed_unsplit}
use Rattle.ball_pivoting.specs.declared.Patch.{Patch}
use Rattle.second_look.specs.SecondLook.{looked}
use Rattle.arealess.specs.Arealess.{area_zero}
use Rattle.zeros.specs.Zeros.{UpToZeros}
use Rattle.zeros.specs.Quality.{quality_by}
use Rattle.zeros.specs.Call.{least_from_by}
use Rattle.cell_loop.specs.FindNeighbors.{extended}
use Rattle.plain_loop.specs.SimpleTriangulate.{simple_triangulate}
use Rattle.total_order.specs.TotalOrder.{Given}
use Rattle.cuts.specs.Cuts.{GivenPoints}
use Rattle.radii_loop.specs.ComputeAdaptiveRadii.{compute_adaptive_radii}

-- ---- `find_neighbors`, over i32

-- two i32 are the same
abbrev pub alike : ℤ → ℤ → Bool
alike (pos a) (pos b) = eqb a b
alike (pos a) (negsuc b) = false
alike (negsuc a) (pos b) = false
alike (negsuc a) (negsuc b) = eqb a b

-- `-range..=range`: dx is the k-th of them, from 0
abbrev pub steps_of : ℤ → List ℕ
steps_of (pos range) = up_from 0 (2 * range + 1)
steps_of (negsuc range) = []

-- `((v - least) / cell_size) as i32`
unfoldable pub cell32 : Float → Float → Float → ℤ
cell32 size least v = to_signed 31 ((v ⊖ least) ⊘ size)

-- `(radius / cell_size).ceil() as i32`
unfoldable pub range32 : SpatialGrid → Float → ℤ
range32 g r = to_signed 31 (ceil (r ⊘ g.cell_size))

module _ (g : SpatialGrid) (pts : List Float) (n : ℕ) where
  -- on one axis: the cell of v is the one at the step k from that of p
  unfoldable pub at_step : ℤ → Float → Float → Float → ℕ → Bool
  at_step range least p v k =
      alike (cell32 g.cell_size least v) (cell32 g.cell_size least p +ℤ (pos k -ℤ range))

  -- the points of one cell, in the order in which they were put in
  unfoldable pub in_cell32 : ℤ → Point3f → ℕ → ℕ → ℕ → List ℕ
  in_cell32 range p a b d =
      only (λ j. at_step range g.bounds_min.x p.x (point_at pts j).x a
      && (at_step range g.bounds_min.y p.y (point_at pts j).y b
      && at_step range g.bounds_min.z p.z (point_at pts j).z d)) (up_from 0 n)

  -- `find_neighbors`
  unfoldable pub neighbors32 : Point3f → Float → List ℕ
  neighbors32 p r =
      let steps = steps_of (range32 g r) in
      extended (λ a. extended (λ b. extended (λ d. in_cell32 (range32 g r) p a b d) steps) steps) steps

-- ---- `advanced_ball_pivoting`, with its stop
module _ {R : Type 0} (rules : Rules R) (pop : Pop) where
  -- `while let Some(item) = frontier.pop() { if triangles.len() > 50000 { break; } .. }`, at most m times
  unfoldable pub run_stopping : R → ℕ → State → State
  run_stopping r zero s = s
  run_stopping r (suc m) s =
      cond (ltb 50000 (length s.faces)) s (run_stopping r m (next rules pop r s.frontier s))

  -- from the seed, if there is one: over n points 3n looks empty the frontier
  unfoldable pub begun_stopping : R → ℕ → Option (ℕ × ℕ × ℕ) → State → State
  begun_stopping r n none s = s
  begun_stopping r n (some t) s = run_stopping r (3 * n) (seeded t s)

  -- all radii in turn
  unfoldable pub all_stopping : ℕ → List R → State → State
  all_stopping n [] s = s
  all_stopping n (r ∷ rs) s = all_stopping n rs (begun_stopping r n (rules.seed_of r s.used) (cleared s))

-- a `min` or a `max` for each measuring of a triangle: by a search for a seed (0), by a pivot (1), by the second look
-- (2), at a radius, of three points
abbrev pub PerMeasuring : Type 0
PerMeasuring = ℕ → Float → ℕ → ℕ → ℕ → Float → Float → Float

-- ---- the call, given the functions that Rust leaves open: a `min` for each coordinate of the cloud, a `min` and a
-- `max` for each measuring, and where a sum starts
module _ (mins : ℕ → Float → Float → Float) (m M : PerMeasuring) (start : Float) (c : BallPivotingConfig)
    (pts : List Float) where
  -- `build_spatial_grid`
  unfoldable pub grid_to : SpatialGrid
  grid_to = record {
    cell_size = c.radius ⊗ c.spatial_cell_factor;
    bounds_min = record {
      x = least_from_by mins pts (inf false) 0 (point_count pts);
      y = least_from_by mins pts (inf false) 1 (point_count pts);
      z = least_from_by mins pts (inf false) 2 (point_count pts);
    };
  }

  -- the neighbours of a place: by the index, or all points
  unfoldable pub near_to : Point3f → Float → List ℕ
  near_to p r =
      cond c.use_spatial_index (neighbors32 grid_to pts (point_count pts) p r)
      (up_from 0 (point_count pts))

  -- `compute_triangle_quality` of three points
  unfoldable pub quality_to : ℕ → Float → ℕ → ℕ → ℕ → TriangleQuality
  quality_to s r i j k = quality_by (m s r i j k) (M s r i j k) (point_at pts i) (point_at pts j) (point_at pts k)

  -- `is_triangle_acceptable` of three points
  unfoldable pub accepted_to : ℕ → Float → ℕ → ℕ → ℕ → Bool
  accepted_to s r i j k =
      source_acceptable (quality_to s r i j k) r c.min_triangle_area c.quality_threshold c.max_edge_factor

  -- what `find_seed_triangle` and `try_ball_pivot` go by
  unfoldable pub floats_to : Floats Float
  floats_to = record {
    near = λ r i. near_to (point_at pts i) (reach r);
    close = λ r i j. is_close pts r i j;
    fits = λ r i j k. accepted_to 0 r i j k;
    pivotable = λ r e. pivotable pts r e;
    around = λ r e. near_to (middle (point_at pts e.v1) (point_at pts e.v2)) r;
    score = λ r e k.
        cond (le (apart pts k e.v1) r && (le (apart pts k e.v2) r && accepted_to 1 r e.v1 e.v2 k))
        (some (quality_to 1 r e.v1 e.v2 k).quality_score) none;
  }

  -- with the second look at what a pivot met
  unfoldable pub rules_to : Rules Float
  rules_to = record {
    seed_of = λ r used. (searching floats_to (point_count pts)).seed_of r used;
    pivot_of = λ r used e.
        looked (accepted_to 2 r e.v1 e.v2) ((searching floats_to (point_count pts)).pivot_of r used e);
  }

  -- `compute_adaptive_radii`
  unfoldable pub radii_to : List Float
  radii_to = compute_adaptive_radii start c pts (λ i. near_to (point_at pts i) (c.radius ⊗ f32 0x40400000))

  -- `advanced_ball_pivoting`
  unfoldable pub laid_to : State
  laid_to = all_stopping rules_to heap_of (point_count pts) radii_to (blank (point_count pts))

  -- the one path or the other
  unfoldable pub found_at_to : List Float → Found
  found_at_to [] = record { faces = simple_triangulate pts c.radius; seeds = 0; looks = 0; pivots = 0 }
  found_at_to (r ∷ rs) = laid laid_to

  unfoldable pub found_to : Found
  found_to = found_at_to radii_to

  -- what comes back of an accepted cloud, with one answer, 8, where no triangle was found
  unfoldable pub published_to : ℕ → Patch
  published_to room = delivered 8 found_to radii_to room

-- ---- the claim
pub record OursBut (c : BallPivotingConfig) (pts normals : List Float) (words floats : ℕ) (rs : List Float) (f : Found)
    : Type 0 where
  -- the radii are the same, bit for bit
  pub radii : radii_of c pts ≡ rs
  -- the same faces in the same order and the same counts, exactly where no published face has area zero
  pub exactly : (found c pts ≡ f) ↔ (count (area_zero pts) f.faces ≡ 0)
  -- and there the same answer, counts and radii
  pub answers : count (area_zero pts) f.faces ≡ 0 → (room : ℕ)
      → reconstructed_unsplit pts normals c room words floats ≡ delivered 8 f rs room

-- for every accepted cloud under rule 1, and whatever Rust's `min`, `max` and `sum` may give. `as_published` proves it.
abbrev pub AsPublished : Type 0
AsPublished =
    (mins : ℕ → Float → Float → Float) (m M : PerMeasuring) (start : Float)
    → ((k : ℕ) → UpToZeros minimum (mins k))
    → ((s : ℕ) (r : Float) (i j k : ℕ) → UpToZeros minimum (m s r i j k) × UpToZeros maximum (M s r i j k))
    → (start ≡ f32 0) ⊎ (start ≡ neg (f32 0))
    → (c : BallPivotingConfig) (pts normals : List Float) (words floats : ℕ)
    → (reconstruct_refusal pts normals c words floats).answer ≡ 0 → Given c → GivenPoints pts → c.frontier_rule ≡ 1
    → OursBut c pts normals words floats (radii_to mins m M start c pts) (found_to mins m M start c pts)
