-- What holds of settings once their checks have passed. Definitions only.
use Rattle.std.specs.Prelude.{ℕ, ◌≤◌, ◌<◌, ◌≡◌, true, List, get_or, Float}
use Rattle.std.specs.Float.{nan}
use Rattle.numbers.specs.Rounded.{f32}
use Rattle.ranges.specs.Range.{inside}
use Rattle.settings.specs.Settings.{radius_inside, threshold_inside, cell_factor_inside, rule_known}
use Rattle.settings.specs.declared.BallPivotingConfig.{BallPivotingConfig}

-- every one of the first `count` slots is inside lo to hi, and there are at most 8
pub record Slots (lo hi : Float) (slots : List Float) (count : ℕ) : Type 0 where
  pub few : count ≤ 8
  pub each : (k : ℕ) → k < count → inside lo hi (get_or slots k nan) ≡ true

-- every setting is in its range
pub record Settled (s : BallPivotingConfig) : Type 0 where
  pub main : radius_inside s.radius ≡ true
  pub additional : Slots (f32 0x3a83126f) (f32 0x447a0000) s.additional_radii s.additional_count
  pub percentiles : Slots (f32 0) (f32 0x3f800000) s.adaptive_percentiles s.percentile_count
  pub quality : threshold_inside s.quality_threshold ≡ true
  pub edge : threshold_inside s.max_edge_factor ≡ true
  pub area : threshold_inside s.min_triangle_area ≡ true
  pub cell : cell_factor_inside s.spatial_cell_factor ≡ true
  pub rule : rule_known s.frontier_rule ≡ true
