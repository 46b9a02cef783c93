-- What is refused under one rule of the frontier is refused under the other, in the same way. Assumes nothing.
use Prim.Native.Nat.{ℕ, zero, suc, ◌+◌, ◌*◌, ◌/◌, ◌≤◌}
use mathlib.Core.Path.{◌≡◌, refl, sym, ap, ◌∙◌}
use mathlib.Core.Logic.{◌≢◌}
use mathlib.Core.Bool.{Bool, true, false, cond}
use mathlib.Core.List.{List, [], ◌∷◌, ◌++◌}
use mathlib.Core.Option.{Option, none, some}
use native.Mathlib.Omega.{arith}
use borrow.Author.Tests.{eqb-true, le-ltb}
use lib.Dec.{eqb, ltb}
use lib.ListN.{length, length-append}
use lib.Ieee.{Float}
use Rattle.numbers.specs.Rounded.{f32}
use Rattle.lists.specs.Lists.{any}
use Rattle.ranges.specs.Range.{first_bad_point}
use Rattle.settings.specs.Settings.{radius_inside, list_inside, threshold_inside, cell_factor_inside, rule_known, first_failing, setting_tests, first_bad_setting}
use Rattle.settings.specs.declared.BallPivotingConfig.{BallPivotingConfig}
use Rattle.domain.specs.Refusals.{check, first_refusal, size_checks, point_check, setting_check, roomy, reconstruct_refusal}
use Rattle.domain.specs.declared.Refusal.{Refusal}
use Rattle.domain.proofs.Accepted.{accepted_reconstruct}
use Rattle.grid.specs.declared.SpatialGrid.{SpatialGrid}
use Rattle.radii.specs.Radii.{step_of, sample_count, average, near_of, nearest_distances, densities_from, radius_candidates, radii_from, adaptive_radii}
use Rattle.patch.specs.Lay.{Edge, same, face, State, Rules, Pop, with_face, cleared, seeded, popped, met, pivoted, looked_at, look, next, run, begun, lay_one}
use Rattle.patch.specs.Lay.{lay_all, blank, patch}
use Rattle.patch.specs.Frontier.{pop_of}
use Rattle.patch.specs.Search.{searching}
use Rattle.decisions.specs.Decisions.{floats_of}
use Rattle.ball_pivoting.specs.declared.Patch.{Patch}
use Rattle.ball_pivoting.specs.Reconstruct.{point_count, spatial_index_of, scene_of, radii_of, laid_of, Found, laid, plainly, found_at, found, reached_at, judged_at}
use Rattle.ball_pivoting.specs.Reconstruct.{reason_by, reason, refused, accepted, delivered, reconstructed}
use Rattle.ball_pivoting.proofs.Found.{found_most}
use Rattle.cases.specs.Rules.{ruled}

-- ---- faces are never taken back, and where none is laid the order of popping is never asked
module _ {R : Type 0} (rules : Rules R) (n : ℕ) where
  module _ (pop : Pop) (r : R) where
    met_grows : (e : Edge) (o : Option ℕ) (s : State) → length s.faces ≤ length (met e o s).faces
    unfolding met with_face
    met_grows e none s = omega arith
    met_grows e (some k) s = omega (arith, length-append s.faces (face e.v1 e.v2 k ∷ []))

    judged_grows : (b : Bool) (e : Edge) (s : State) → length s.faces ≤ length (looked_at rules pop r b e s).faces
    unfolding looked_at pivoted
    judged_grows true e s = omega arith
    judged_grows false e s = met_grows e (rules.pivot_of r s.used e) s

    next_grows : (es : List Edge) (s : State) → length s.faces ≤ length (next rules pop r es s).faces
    unfolding next look popped
    next_grows [] s = omega arith
    next_grows (x ∷ xs) s = judged_grows (any (same (pop x xs).0) s.processed) (pop x xs).0 (popped (pop x xs).1 s)

    run_grows : (m : ℕ) (s : State) → length s.faces ≤ length (run rules pop r m s).faces
    unfolding run
    run_grows zero s = omega arith
    run_grows (suc m) s = omega (arith, next_grows s.frontier s, run_grows m (next rules pop r s.frontier s))

    begun_some : (t : ℕ × ℕ × ℕ) (s : State) → length s.faces + 1 ≤ length (begun rules pop r n (some t) s).faces
    unfolding begun seeded with_face
    begun_some t s = omega (arith, run_grows (3 * n) (seeded t s), length-append s.faces (face t.0 t.1 t.2 ∷ []))

    begun_grows : (o : Option (ℕ × ℕ × ℕ)) (s : State) → length s.faces ≤ length (begun rules pop r n o s).faces
    unfolding begun
    begun_grows none s = omega arith
    begun_grows (some t) s = omega (arith, begun_some t s)

  lay_grows : (pop : Pop) (rs : List R) (s : State) → length s.faces ≤ length (lay_all rules pop n rs s).faces
  unfolding lay_all lay_one cleared
  lay_grows pop [] s = omega arith
  lay_grows pop (r ∷ rs) s = omega (arith, begun_grows pop r (rules.seed_of r s.used) (cleared s), lay_grows pop rs (lay_one rules pop n r s))

  module _ (p q : Pop) where
    after_seed : (r : R) (rs : List R) → ((t : State) → length (lay_all rules p n rs t).faces ≡ 0 → lay_all rules q n rs t ≡ lay_all rules p n rs t)
        → (o : Option (ℕ × ℕ × ℕ)) (t : State) → length (lay_all rules p n rs (begun rules p r n o t)).faces ≡ 0
        → lay_all rules q n rs (begun rules q r n o t) ≡ lay_all rules p n rs (begun rules p r n o t)
    unfolding begun
    after_seed r rs later none t h = later t h
    after_seed r rs later (some ijk) t h = absurd (omega (arith, begun_some p r ijk t, lay_grows p rs (begun rules p r n (some ijk) t)))

    none_laid : (rs : List R) (s : State) → length (lay_all rules p n rs s).faces ≡ 0 → lay_all rules q n rs s ≡ lay_all rules p n rs s
    unfolding lay_all lay_one
    none_laid [] s h = refl
    none_laid (r ∷ rs) s h = after_seed r rs (none_laid rs) (rules.seed_of r s.used) (cleared s) h

-- ---- settings that differ in the rule alone
module _ (a b : ℕ) (c : BallPivotingConfig) (pts : List Float) where
  densities_same : (g : SpatialGrid) (n step i m : ℕ) → densities_from (ruled b c) g pts n step i m ≡ densities_from (ruled a c) g pts n step i m
  unfolding densities_from nearest_distances near_of
  densities_same g n step i zero = refl
  densities_same g n step i (suc m) =
      let ds = nearest_distances (ruled a c) g pts n i in
      ap (λ (later : List Float). cond (eqb (length ds) 0) later (average ds ∷ later)) (densities_same g n step (i + step) m)

  radii_at_lem : (ds : List Float) → radii_from (ruled b c) ds ≡ radii_from (ruled a c) ds
  unfolding radii_from radius_candidates
  radii_at_lem [] = refl
  radii_at_lem (d ∷ ds) = refl

  radii_same : radii_of (ruled b c) pts ≡ radii_of (ruled a c) pts
  unfolding radii_of adaptive_radii spatial_index_of
  radii_same =
      let n : ℕ = point_count pts in
      ap (λ (rs : List Float). cond c.adaptive_radius rs [])
      (radii_at_lem _ ∙ ap (radii_from (ruled a c)) (densities_same (spatial_index_of c pts) n (step_of n) 0 (sample_count n)))

  laid_none : length (laid_of (ruled a c) pts).faces ≡ 0 → laid_of (ruled b c) pts ≡ laid_of (ruled a c) pts
  unfolding laid_of scene_of spatial_index_of patch
  laid_none h =
      let n : ℕ = point_count pts in
      let rules = searching (floats_of (scene_of (ruled a c) pts) pts) n in
      ap (λ (rs : List Float). patch rules (pop_of b) n rs) radii_same
      ∙ none_laid rules n (pop_of a) (pop_of b) (radii_of (ruled a c) pts) (blank n) h

  found_at_lem : (rs : List Float) → length (found_at (ruled a c) pts rs).faces ≡ 0 → found_at (ruled b c) pts rs ≡ found_at (ruled a c) pts rs
  unfolding found_at plainly laid
  found_at_lem [] h = refl
  found_at_lem (r ∷ rs) h = ap laid (laid_none h)

  found_none : length (found (ruled a c) pts).faces ≡ 0 → found (ruled b c) pts ≡ found (ruled a c) pts
  unfolding found
  found_none h = ap (found_at (ruled b c) pts) radii_same ∙ found_at_lem (radii_of (ruled a c) pts) h

  judged_at_lem : (rs : List Float) → judged_at (ruled b c) pts rs ≡ judged_at (ruled a c) pts rs
  unfolding judged_at reached_at scene_of spatial_index_of
  judged_at_lem [] = refl
  judged_at_lem (r ∷ rs) = refl

  reason_same : reason (ruled b c) pts ≡ reason (ruled a c) pts
  unfolding reason
  reason_same = ap (reason_by (point_count pts)) (ap (judged_at (ruled b c) pts) radii_same ∙ judged_at_lem (radii_of (ruled a c) pts))

  module _ (known-a : rule_known a ≡ true) (known-b : rule_known b ≡ true) (normals : List Float) (words floats : ℕ) where
    bad_same : first_bad_setting (ruled b c) ≡ first_bad_setting (ruled a c)
    unfolding first_bad_setting setting_tests
    bad_same =
        ap (λ (known : Bool). first_failing 1
        (radius_inside c.radius
        ∷ list_inside (f32 0x3a83126f) (f32 0x447a0000) c.additional_radii c.additional_count
        ∷ list_inside (f32 0) (f32 0x3f800000) c.adaptive_percentiles c.percentile_count
        ∷ threshold_inside c.quality_threshold
        ∷ threshold_inside c.max_edge_factor
        ∷ threshold_inside c.min_triangle_area
        ∷ cell_factor_inside c.spatial_cell_factor
        ∷ known
        ∷ [])) (known-b ∙ sym known-a)

    refusal_same : reconstruct_refusal pts normals (ruled b c) words floats ≡ reconstruct_refusal pts normals (ruled a c) words floats
    unfolding reconstruct_refusal
    refusal_same =
        ap (λ (bad : ℕ). first_refusal
        (size_checks (length pts) (length normals)
        ++ (point_check (point_count pts) (first_bad_point pts normals) ∷ setting_check bad ∷ check (roomy (point_count pts) words floats) 7 0 ∷ []))) bad_same

    -- the call's answer, given the parts that the rule may have changed
    abbrev answered : ℕ → Refusal → ℕ → Found → List Float → Patch
    answered room r why f rs = cond (eqb r.answer 0) (delivered why f rs room) (refused r.answer r.detail)

    abbrev first : Refusal
    first = reconstruct_refusal pts normals (ruled a c) words floats

    abbrev why : ℕ
    why = reason (ruled a c) pts

    abbrev rs : List Float
    rs = radii_of (ruled a c) pts

    pub alike : (room : ℕ) → 30000 ≤ room → (reconstructed pts normals (ruled a c) room words floats).answer ≢ 0
        → reconstructed pts normals (ruled b c) room words floats ≡ reconstructed pts normals (ruled a c) room words floats
    unfolding reconstructed delivered accepted
    alike room long h =
        ap (λ (r : Refusal). answered room r (reason (ruled b c) pts) (found (ruled b c) pts) (radii_of (ruled b c) pts)) refusal_same
        ∙ ap (λ (y : ℕ). answered room first y (found (ruled b c) pts) (radii_of (ruled b c) pts)) reason_same
        ∙ ap (λ (l : List Float). answered room first why (found (ruled b c) pts) l) radii_same
        ∙ by_checks (eqb first.answer 0) refl h
      where
        fits : first.answer ≡ 0 → ltb (room / 3) (length (found (ruled a c) pts).faces) ≡ false
        fits e =
            let few = (accepted_reconstruct pts normals (ruled a c) words floats e).cloud.few in
            le-ltb (room / 3) (length (found (ruled a c) pts).faces) (omega (arith, found_most (ruled a c) pts few))

        by_faces : first.answer ≡ 0 → (empty : Bool) → eqb (length (found (ruled a c) pts).faces) 0 ≡ empty
            → (cond empty (refused why 0)
            (cond (ltb (room / 3) (length (found (ruled a c) pts).faces)) (refused 9 0) (accepted (found (ruled a c) pts) rs))).answer ≢ 0
            → delivered why (found (ruled b c) pts) rs room ≡ delivered why (found (ruled a c) pts) rs room
        by_faces e true q k = ap (λ (f : Found). delivered why f rs room) (found_none (eqb-true _ 0 q))
        by_faces e false q k = absurd (k (rw (fits e) refl))

        by_checks : (passed : Bool) → eqb first.answer 0 ≡ passed
            → (cond passed (delivered why (found (ruled a c) pts) rs room) (refused first.answer first.detail)).answer ≢ 0
            → cond passed (delivered why (found (ruled b c) pts) rs room) (refused first.answer first.detail)
            ≡ cond passed (delivered why (found (ruled a c) pts) rs room) (refused first.answer first.detail)
        by_checks true e k = by_faces (eqb-true _ 0 e) (eqb (length (found (ruled a c) pts).faces) 0) refl k
        by_checks false e k = refl
