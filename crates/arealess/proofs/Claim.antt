-- What is found, on either path, beside what the source finds (`beside`), and where a face of area zero can come from
-- (`from_seeds`). Assumes nothing.
use Prim.Native.Nat.{ℕ}
use mathlib.Core.Path.{◌≡◌, refl, sym, ap, ◌∙◌, subst}
use mathlib.Core.Bool.{true, false}
use mathlib.Core.List.{List, [], ◌∷◌}
use native.Mathlib.Omega.{arith}
use lib.Dec.{T}
use lib.Ieee.{Float, inf, lt}
use Rattle.numbers.specs.Rounded.{◌⊗◌}
use Rattle.quality.specs.Measures.{tiny}
use Rattle.area_bounds.proofs.Tiny.{accepted_large}
use Rattle.settings.specs.declared.BallPivotingConfig.{BallPivotingConfig}
use Rattle.points.specs.Points.{point_at}
use Rattle.lists.specs.Lists.{count}
use Rattle.patch.specs.Lay.{Rules}
use Rattle.patch.specs.Search.{Floats, searching}
use Rattle.patch.specs.Frontier.{pop_of}
use Rattle.decisions.specs.Decisions.{quality_at, accepts, floats_of}
use Rattle.decisions.specs.Found.{area_at}
use Rattle.ball_pivoting.specs.Reconstruct.{point_count, scene_of, radii_of, laid_of, laid, plainly, found_at, found}
use Rattle.amending.specs.Amending.{Amends}
use Rattle.amending.proofs.Laying.{amended_none, amended_same}
use Rattle.amending.proofs.Seeds.{only_seeds}
use Rattle.amending.proofs.Searching.{searching_amends}
use Rattle.arealess.specs.Source.{source_floats, source_laid, source_found_at, source_found}
use Rattle.arealess.specs.Arealess.{area_zero, FoundBeside, OnlyFromSeeds}
use Rattle.arealess.proofs.Floats.{floats_amended, low_scores}
use Rattle.arealess.proofs.Plain.{plain_none}

module _ (c : BallPivotingConfig) (pts : List Float) where
  abbrev n : ℕ
  n = point_count pts

  abbrev source : Rules Float
  source = searching (source_floats (scene_of c pts) pts) n

  abbrev ours : Rules Float
  ours = searching (floats_of (scene_of c pts) pts) n

  amends : Amends (area_zero pts) source ours
  amends =
      subst (λ (f : Floats Float). Amends (area_zero pts) source (searching f n)) (sym (floats_amended (scene_of c pts) pts))
      (searching_amends (area_zero pts) (source_floats (scene_of c pts) pts) (low_scores (scene_of c pts) pts) n)

  laid_none : count (area_zero pts) (laid_of c pts).faces ≡ 0
  unfolding laid_of
  laid_none = amended_none (area_zero pts) source ours amends (pop_of c.frontier_rule) n (radii_of c pts)

  laid_same : count (area_zero pts) (source_laid c pts).faces ≡ 0 → laid_of c pts ≡ source_laid c pts
  unfolding laid_of source_laid
  laid_same h = amended_same (area_zero pts) source ours amends (pop_of c.frontier_rule) n (radii_of c pts) h

  -- ---- on either path
  found_at_lem : (rs : List Float) → count (area_zero pts) (source_found_at c pts rs).faces ≡ 0 → found_at c pts rs ≡ source_found_at c pts rs
  unfolding source_found_at found_at laid
  found_at_lem [] h = refl
  found_at_lem (r ∷ rs) h = ap laid (laid_same h)

  none_at : (rs : List Float) → count (area_zero pts) (found_at c pts rs).faces ≡ 0
  unfolding found_at laid plainly
  none_at [] = plain_none pts c.radius
  none_at (r ∷ rs) = laid_none

  found_none : count (area_zero pts) (found c pts).faces ≡ 0
  unfolding found
  found_none = none_at (radii_of c pts)

  found_same : count (area_zero pts) (source_found c pts).faces ≡ 0 → found c pts ≡ source_found c pts
  unfolding found source_found
  found_same h = found_at_lem (radii_of c pts) h

  pub beside : FoundBeside c pts
  beside = record {
    same = found_same;
    differs = λ h q. let z = found_none in let e = ap (count (area_zero pts)) q in absurd (omega arith);
    none = found_none;
  }

  -- ---- seeds
  large : (r : Float) (i j k : ℕ) → T (lt (r ⊗ c.max_edge_factor) (inf false)) → accepts (scene_of c pts) r (quality_at pts i j k) ≡ true
      → lt (area_at pts i j k) tiny ≡ false
  unfolding accepts quality_at area_at scene_of
  large r i j k b h = accepted_large r c.min_triangle_area c.quality_threshold c.max_edge_factor b (point_at pts i) (point_at pts j)
      (point_at pts k) h

  pub from_seeds : OnlyFromSeeds c pts
  unfolding source_laid
  from_seeds = record {
    only_seeds = only_seeds (area_zero pts) source (pop_of c.frontier_rule) amends.pivots_good n (radii_of c pts);
    plain_none = plain_none pts c.radius;
    seeds = amends.seeds_good;
    pivots = λ r used e k q. amends.pivots_good r used e k (sym (amends.pivots_same r used e) ∙ q);
    large = large;
  }
