-- The claim of Published.antt: the published call is ours under rule 1, exactly where it lays no triangle of area zero.
-- Assumes nothing.
use Prim.Native.Nat.{ℕ, zero, suc, ◌+◌, ◌*◌, ◌≤◌}
use native.Mathlib.Omega.{arith}
use native.Mathlib.Decide.{dec_lt}
use mathlib.Core.Path.{◌≡◌, refl, sym, ap, ap₂, ◌∙◌, subst}
use mathlib.Core.Logic.{◌⊎◌, inl, dite}
use mathlib.Core.Bool.{Bool, true, false, cond, ◌&&◌}
use mathlib.Core.List.{List, [], ◌∷◌}
use mathlib.Core.Option.{Option, none, some}
use lib.IntN.{pos}
use lib.ListN.{length, get_or}
use lib.Ieee.{Float, nan, inf, fin, neg, add, sub, mul, div, le, to_signed, to_unsigned}
use borrow.Author.Tests.{eq-eqb}
use Rattle.lists.specs.Lists.{up_from, count}
use Rattle.numbers.specs.Rounded.{f32, ◌⊗◌}
use Rattle.numbers.specs.Order.{minimum, maximum}
use Rattle.vector.specs.declared.Point3f.{Point3f}
use Rattle.quality.specs.declared.TriangleQuality.{TriangleQuality}
use Rattle.triangle.specs.Quality.{source_acceptable}
use Rattle.points.specs.Points.{point_at}
use Rattle.sorting.specs.Each.{All}
use Rattle.settings.specs.declared.BallPivotingConfig.{BallPivotingConfig}
use Rattle.domain.specs.Refusals.{reconstruct_refusal}
use Rattle.domain.specs.Inner.Accepted.{Cloud}
use Rattle.domain.proofs.Accepted.{accepted_reconstruct}
use Rattle.grid.specs.Grid.{least_from, bounds_min, cell_on, cell_of, range_of, neighbors}
use Rattle.grid.specs.declared.SpatialGrid.{SpatialGrid}
use Rattle.grid.proofs.Near.{neighbors_below}
use Rattle.radii.specs.Radii.{near_of}
use Rattle.patch.specs.Lay.{Edge, Rules, State, patch}
use Rattle.patch.specs.Search.{searching}
use Rattle.patch.specs.Frontier.{waiting_after, heap_of, pop_of}
use Rattle.patch.specs.Fair.{NeighborsWithin}
use Rattle.patch.proofs.Searching as found-by
use Rattle.patch.proofs.Claim.{laid_never_stopped}
use Rattle.decisions.specs.Decisions.{reach, apart, quality_at, is_close, halfway, middle, around, pivotable}
use Rattle.ball_pivoting.specs.Reconstruct.{point_count, spatial_index_of, scene_of, radii_of, Found, laid, plainly, found}
use Rattle.ball_pivoting.specs.Reconstruct.{delivered}
use Rattle.ball_pivoting.specs.Unsplit.{reconstructed_unsplit}
use Rattle.second_look.specs.SecondLook.{looked}
use Rattle.second_look.proofs.Second.{pivot_passes}
use Rattle.arealess.specs.Source.{source_accepts, source_score, source_floats, source_laid, source_found_at, source_found}
use Rattle.arealess.specs.Arealess.{area_zero}
use Rattle.arealess.proofs.Claim.{beside}
use Rattle.zeros.specs.Zeros.{UpToZeros}
use Rattle.zeros.specs.Call.{least_from_by}
use Rattle.zeros.proofs.Cells.{least_alike, quotient_alike}
use Rattle.zeros.proofs.Quality.{quality_same}
use Rattle.plain_loop.proofs.Faces.{plain_loop}
use Rattle.total_order.specs.TotalOrder.{Given}
use Rattle.cuts.specs.Cuts.{SameCell, SameRange, GivenPoints, CutAlike}
use Rattle.cuts.proofs.Alike.{cuts_alike}
use Rattle.radii_loop.specs.ComputeAdaptiveRadii.{compute_adaptive_radii}
use Rattle.radii_loop.proofs.Radii.{radii_loop}
use Rattle.published.specs.Published.{PerMeasuring, cell32, range32, grid_to, near_to, quality_to, accepted_to, floats_to}
use Rattle.published.specs.Published.{rules_to, radii_to, laid_to, found_at_to, found_to, OursBut, AsPublished}
use Rattle.published.proofs.Radius.{floats_at, rules_at, rules_agree, patch_agrees}
use Rattle.published.proofs.Cells.{Alike32, neighbors_as}
use Rattle.published.proofs.Stop.{never_stopping}

-- ---- where there is no point there is no number, and its cell is 0
beyond : (xs : List Float) (k : ℕ) → length xs ≤ k → get_or xs k nan ≡ nan
beyond [] k h = refl
beyond (x ∷ xs) zero h = absurd (omega arith)
beyond (x ∷ xs) (suc k) h = beyond xs k (omega arith)

nan_on : (size least : Float) → cell32 size least nan ≡ pos (cell_on size least nan)
unfolding cell32 cell_on sub add div to_signed to_unsigned
nan_on size least = refl

nan_left : (y : Float) → halfway nan y ≡ nan
unfolding add mul
nan_left y = refl

nan_right : (x : Float) → halfway x nan ≡ nan
unfolding add mul
nan_right nan = refl
nan_right (inf s) = refl
nan_right (fin s m e) = refl

module _ (mins : ℕ → Float → Float → Float) (m M : PerMeasuring) (start : Float)
    (each : (k : ℕ) → UpToZeros minimum (mins k))
    (zeros : (s : ℕ) (r : Float) (i j k : ℕ) → UpToZeros minimum (m s r i j k) × UpToZeros maximum (M s r i j k))
    (zero-start : (start ≡ f32 0) ⊎ (start ≡ neg (f32 0)))
    (c : BallPivotingConfig) (pts normals : List Float) (words floats : ℕ)
    (accepted : (reconstruct_refusal pts normals c words floats).answer ≡ 0) (given : Given c) (f32s : GivenPoints pts)
    (rule : c.frontier_rule ≡ 1) where
  abbrev n : ℕ
  n = point_count pts

  abbrev g : SpatialGrid
  g = grid_to mins m M start c pts

  abbrev h : SpatialGrid
  h = spatial_index_of c pts

  cuts : CutAlike c pts
  cuts = cuts_alike pts normals c words floats accepted given f32s

  cloud : Cloud n pts
  cloud = (accepted_reconstruct pts normals c words floats accepted).cloud

  -- ---- cells
  abbrev size : Float
  size = c.radius ⊗ c.spatial_cell_factor

  -- either zero gives the same i32
  either_on : (at : ℕ) (v : Float)
      → cell32 size (least_from_by mins pts (inf false) at n) v ≡ cell32 size (least_from pts (inf false) at n) v
  unfolding cell32 to_signed
  either_on at v =
      quotient_alike (to_signed 31) (pos 0) refl signed_zero size v _ _
      (least_alike mins each pts (inf false) (inf false) at n (inl refl))
    where
      signed_zero : (s : Bool) → to_signed 31 (fin s 0 (pos 0)) ≡ pos 0
      signed_zero true = refl
      signed_zero false = refl

  from_cell : (p : Point3f) → SameCell h p → Alike32 g h p
  unfolding grid_to spatial_index_of bounds_min cell_of cell32
  from_cell p s = record {
    on_x = either_on 0 p.x ∙ s.on_x.same;
    on_y = either_on 1 p.y ∙ s.on_y.same;
    on_z = either_on 2 p.z ∙ s.on_z.same;
  }

  -- no number on any axis
  from_nan : (p : Point3f) → p.x ≡ nan → p.y ≡ nan → p.z ≡ nan → Alike32 g h p
  unfolding grid_to spatial_index_of bounds_min cell_of
  from_nan p x y z = record { on_x = at 0 p.x x; on_y = at 1 p.y y; on_z = at 2 p.z z }
    where
      at : (k : ℕ) (v : Float) → v ≡ nan
          → cell32 size (least_from_by mins pts (inf false) k n) v ≡ pos (cell_on size (least_from pts (inf false) k n) v)
      at k v e =
          either_on k v
          ∙ subst (λ (w : Float). cell32 size (least_from pts (inf false) k n) w
          ≡ pos (cell_on size (least_from pts (inf false) k n) w)) (sym e) (nan_on size (least_from pts (inf false) k n))

  -- a point that is not there
  past_x : (i : ℕ) → n ≤ i → (point_at pts i).x ≡ nan
  unfolding point_at
  past_x i l = beyond pts (3 * i) (omega (arith, cloud.threes))

  past_y : (i : ℕ) → n ≤ i → (point_at pts i).y ≡ nan
  unfolding point_at
  past_y i l = beyond pts (3 * i + 1) (omega (arith, cloud.threes))

  past_z : (i : ℕ) → n ≤ i → (point_at pts i).z ≡ nan
  unfolding point_at
  past_z i l = beyond pts (3 * i + 2) (omega (arith, cloud.threes))

  point_cell : (i : ℕ) → Alike32 g h (point_at pts i)
  point_cell i =
      dite (dec_lt i n) (λ l. from_cell (point_at pts i) (cuts.cells i l))
      (λ no. let l : n ≤ i = omega (arith, no) in from_nan (point_at pts i) (past_x i l) (past_y i l) (past_z i l))

  middle_cell : (i j : ℕ) → Alike32 g h (middle (point_at pts i) (point_at pts j))
  unfolding middle
  middle_cell i j =
      dite (dec_lt i n)
      (λ l. dite (dec_lt j n) (λ k. from_cell (middle (point_at pts i) (point_at pts j)) (cuts.middles i j l k))
      (λ no. let k : n ≤ j = omega (arith, no) in
      from_nan (middle (point_at pts i) (point_at pts j))
      (ap (halfway (point_at pts i).x) (past_x j k) ∙ nan_right (point_at pts i).x)
      (ap (halfway (point_at pts i).y) (past_y j k) ∙ nan_right (point_at pts i).y)
      (ap (halfway (point_at pts i).z) (past_z j k) ∙ nan_right (point_at pts i).z)))
      (λ no. let k : n ≤ i = omega (arith, no) in
      from_nan (middle (point_at pts i) (point_at pts j))
      (ap (λ (v : Float). halfway v (point_at pts j).x) (past_x i k) ∙ nan_left (point_at pts j).x)
      (ap (λ (v : Float). halfway v (point_at pts j).y) (past_y i k) ∙ nan_left (point_at pts j).y)
      (ap (λ (v : Float). halfway v (point_at pts j).z) (past_z i k) ∙ nan_left (point_at pts j).z))

  range_as : (r : Float) → SameRange h r → range32 g r ≡ pos (range_of h r)
  unfolding range32 grid_to spatial_index_of
  range_as r s = s.same

  near_as : (p : Point3f) (r : Float) → Alike32 g h p → SameRange h r
      → near_to mins m M start c pts p r ≡ neighbors c.use_spatial_index h pts n p r
  unfolding near_to neighbors
  near_as p r at s =
      ap (λ (near : List ℕ). cond c.use_spatial_index near (up_from 0 n))
      (neighbors_as g h pts n point_cell p at r (range_as r s))

  -- ---- triangles
  quality_as : (s : ℕ) (r : Float) (i j k : ℕ) → quality_to mins m M start c pts s r i j k ≡ quality_at pts i j k
  unfolding quality_to quality_at
  quality_as s r i j k =
      quality_same (m s r i j k) (M s r i j k) (zeros s r i j k).0 (zeros s r i j k).1 (point_at pts i) (point_at pts j) (point_at pts k)

  fits_as : (s : ℕ) (r : Float) (i j k : ℕ)
      → accepted_to mins m M start c pts s r i j k ≡ source_accepts (scene_of c pts) r (quality_at pts i j k)
  unfolding accepted_to source_accepts scene_of
  fits_as s r i j k =
      ap (λ (q : TriangleQuality). source_acceptable q r c.min_triangle_area c.quality_threshold
      c.max_edge_factor) (quality_as s r i j k)

  -- ---- the searches, at a radius
  floats_as : (r : Float) → SameRange h r → SameRange h (reach r)
      → floats_at (floats_to mins m M start c pts) r ≡ floats_at (source_floats (scene_of c pts) pts) r
  unfolding floats_to source_floats source_score around scene_of
  floats_as r s s2 = λ t. record {
    near = λ u i. near_as (point_at pts i) (reach r) (point_cell i) s2 t;
    close = λ u i j. is_close pts r i j;
    fits = λ u i j k. fits_as 0 r i j k t;
    pivotable = λ u e. pivotable pts r e;
    around = λ u e.
        near_as (middle (point_at pts e.v1) (point_at pts e.v2)) r (middle_cell e.v1 e.v2) s t;
    score = λ u e k.
        cond (le (apart pts k e.v1) r && (le (apart pts k e.v2) r && fits_as 1 r e.v1 e.v2 k t))
        (some (quality_as 1 r e.v1 e.v2 k t).quality_score) none;
  }

  -- ---- the second look: what had a score then is accepted now
  again : (r : Float) (i j k : ℕ) → accepted_to mins m M start c pts 1 r i j k ≡ accepted_to mins m M start c pts 2 r i j k
  again r i j k = fits_as 1 r i j k ∙ sym (fits_as 2 r i j k)

  scored : (r : Float) (e : Edge) (k : ℕ)
      → found-by.All (λ (x : Float). accepted_to mins m M start c pts 2 r e.v1 e.v2 k ≡ true)
      ((floats_to mins m M start c pts).score r e k)
  unfolding floats_to
  scored r e k =
      go (le (apart pts k e.v1) r) (le (apart pts k e.v2) r)
      (accepted_to mins m M start c pts 1 r e.v1 e.v2 k) (sym (again r e.v1 e.v2 k))
    where
      go : (a b t : Bool) → accepted_to mins m M start c pts 2 r e.v1 e.v2 k ≡ t
          → found-by.All (λ (x : Float). accepted_to mins m M start c pts 2 r e.v1 e.v2 k ≡ true)
          (cond (a && (b && t)) (some (quality_to mins m M start c pts 1 r e.v1 e.v2 k).quality_score) none)
      go false b t q = tt
      go true false t q = tt
      go true true false q = tt
      go true true true q = q

  looked_as : (accepts : ℕ → Bool) (o : Option ℕ) → found-by.All (λ (k : ℕ). accepts k ≡ true) o → looked accepts o ≡ o
  unfolding looked
  looked_as accepts none q = refl
  looked_as accepts (some k) q = rw q

  rules_as : rules_to mins m M start c pts ≡ searching (floats_to mins m M start c pts) n
  unfolding rules_to
  rules_as = λ t. record {
    seed_of = λ r used. (searching (floats_to mins m M start c pts) n).seed_of r used;
    pivot_of = λ r used e.
        looked_as (accepted_to mins m M start c pts 2 r e.v1 e.v2)
        ((searching (floats_to mins m M start c pts) n).pivot_of r used e)
        (pivot_passes (floats_to mins m M start c pts) r used e (accepted_to mins m M start c pts 2 r e.v1 e.v2)
        (scored r e) n) t;
  }

  -- ---- the radii
  radii_as : radii_to mins m M start c pts ≡ radii_of c pts
  unfolding radii_to near_of
  radii_as =
      ap (compute_adaptive_radii start c pts)
      (λ t i. near_as (point_at pts i) (c.radius ⊗ f32 0x40400000) (point_cell i) cuts.sample_range t)
      ∙ radii_loop pts normals c words floats start accepted given zero-start

  -- ---- the laying
  abbrev source : Rules Float
  source = searching (source_floats (scene_of c pts) pts) n

  each_radius : (rs : List Float) → All (λ (r : Float). SameRange h r × SameRange h (reach r)) rs
      → All (λ (r : Float). rules_at (searching (floats_to mins m M start c pts) n) r ≡ rules_at source r) rs
  each_radius [] a = tt
  each_radius (r ∷ rs) a = (
    rules_agree (floats_to mins m M start c pts) (source_floats (scene_of c pts) pts) n r
        (floats_as r a.0.0 a.0.1),
    each_radius rs a.1,
  )

  patch_as : patch (rules_to mins m M start c pts) heap_of n (radii_to mins m M start c pts) ≡ source_laid c pts
  unfolding source_laid waiting_after
  patch_as =
      ap₂ (λ (rules : Rules Float) (rs : List Float). patch rules heap_of n rs) rules_as radii_as
      ∙ patch_agrees (searching (floats_to mins m M start c pts) n) source heap_of n (radii_of c pts)
      (each_radius (radii_of c pts) cuts.ranges)
      ∙ ap (λ (k : ℕ). patch source (pop_of k) n (radii_of c pts)) (sym rule)

  -- ---- the stop
  source_within : NeighborsWithin n (source_floats (scene_of c pts) pts)
  unfolding source_floats around scene_of
  source_within = record {
    near_below = λ r i. neighbors_below c.use_spatial_index h pts n (point_at pts i) (reach r);
    around_below = λ r e.
        neighbors_below c.use_spatial_index h pts n (middle (point_at pts e.v1) (point_at pts e.v2)) r;
  }

  source_few : length (source_laid c pts).faces ≤ 50000
  unfolding source_laid
  source_few =
      laid_never_stopped n (source_floats (scene_of c pts) pts) source_within c.frontier_rule (radii_of c pts) cloud.few

  laid_as : laid_to mins m M start c pts ≡ source_laid c pts
  unfolding laid_to
  laid_as =
      never_stopping (rules_to mins m M start c pts) heap_of n (radii_to mins m M start c pts)
      (subst (λ (s : State). length s.faces ≤ 50000) (sym patch_as) source_few)
      ∙ patch_as

  found_at_lem : (rs : List Float) → found_at_to mins m M start c pts rs ≡ source_found_at c pts rs
  unfolding found_at_to source_found_at plainly
  found_at_lem [] = λ t. record { faces = plain_loop pts c.radius t; seeds = 0; looks = 0; pivots = 0 }
  found_at_lem (r ∷ rs) = ap laid laid_as

  found_as : found_to mins m M start c pts ≡ source_found c pts
  unfolding found_to source_found
  found_as = found_at_lem (radii_to mins m M start c pts) ∙ ap (source_found_at c pts) radii_as

  answers_as : found c pts ≡ source_found c pts → (room : ℕ)
      → reconstructed_unsplit pts normals c room words floats ≡ delivered 8 (source_found c pts) (radii_of c pts) room
  unfolding reconstructed_unsplit
  answers_as e room =
      rw (eq-eqb (reconstruct_refusal pts normals c words floats).answer 0 accepted)
      (ap (λ (f : Found). delivered 8 f (radii_of c pts) room) e)

  ours_but : OursBut c pts normals words floats (radii_of c pts) (source_found c pts)
  ours_but = record {
    radii = refl;
    exactly = (λ e. ap (λ (f : Found). count (area_zero pts) f.faces) (sym e) ∙ (beside c pts).none, (beside c pts).same);
    answers = λ z room. answers_as ((beside c pts).same z) room;
  }

pub as_published : AsPublished
as_published mins m M start each zeros zero-start c pts normals words floats accepted given f32s rule =
    let radii = radii_as mins m M start each zeros zero-start c pts normals words floats accepted given f32s
    rule in
    let found = found_as mins m M start each zeros zero-start c pts normals words floats accepted given f32s
    rule in
    subst (λ (f : Found). OursBut c pts normals words floats (radii_to mins m M start c pts) f) (sym found)
    (subst (λ (rs : List Float). OursBut c pts normals words floats rs (source_found c pts)) (sym radii)
    (ours_but mins m M start each zeros zero-start c pts normals words floats accepted given f32s rule))
