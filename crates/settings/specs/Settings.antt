-- The scope's settings, their ranges in its order, and those of `ball_pivoting_from_normals`. Definitions only.
use Rattle.std.specs.Prelude.{ℕ, suc, Bool, true, cond, ◌&&◌, ◌||◌, List, [], ◌∷◌, leb, eqb, Float}
use Rattle.numbers.specs.Rounded.{f32}
use Rattle.ranges.specs.Range.{inside, leading}
use Rattle.settings.specs.declared.BallPivotingConfig.{BallPivotingConfig}

-- a setting that is a list: at most 8 values, none of them outside lo to hi; slots past the count do not matter
unfoldable pub list_inside : Float → Float → List Float → ℕ → Bool
list_inside lo hi slots count = leb count 8 && leb count (leading lo hi slots)

-- the number of the first test that fails, counted from n; 0 if all pass
unfoldable pub first_failing : ℕ → List Bool → ℕ
first_failing n [] = 0
first_failing n (passes ∷ tests) = cond passes (first_failing (suc n) tests) n

-- 0.001 to 1,000; 0 to 1; 0 to 1,000,000; 0.5 to 16
abbrev pub radius_inside : Float → Bool
radius_inside x = inside (f32 0x3a83126f) (f32 0x447a0000) x

abbrev pub threshold_inside : Float → Bool
threshold_inside x = inside (f32 0) (f32 0x49742400) x

abbrev pub cell_factor_inside : Float → Bool
cell_factor_inside x = inside (f32 0x3f000000) (f32 0x41800000) x

-- 1 or 2
abbrev pub rule_known : ℕ → Bool
rule_known rule = eqb rule 1 || eqb rule 2

-- `quality_threshold`, `max_edge_factor`, `min_triangle_area`, `spatial_cell_factor`, `frontier_rule`
abbrev pub last_tests : Float → Float → Float → Float → ℕ → List Bool
last_tests quality edge area cell rule =
    threshold_inside quality
    ∷ threshold_inside edge
    ∷ threshold_inside area
    ∷ cell_factor_inside cell
    ∷ rule_known rule
    ∷ []

-- the settings' tests, in the scope's order
unfoldable pub setting_tests : BallPivotingConfig → List Bool
setting_tests s =
    radius_inside s.radius
    ∷ list_inside (f32 0x3a83126f) (f32 0x447a0000) s.additional_radii s.additional_count
    ∷ list_inside (f32 0) (f32 0x3f800000) s.adaptive_percentiles s.percentile_count
    ∷ last_tests s.quality_threshold s.max_edge_factor s.min_triangle_area s.spatial_cell_factor
    s.frontier_rule

-- the number, from 1, of the first setting outside its range; 0 if there is none
unfoldable pub first_bad_setting : BallPivotingConfig → ℕ
first_bad_setting s = first_failing 1 (setting_tests s)

-- the settings that `ball_pivoting_from_normals` takes for a radius; slots that are not used hold 0
unfoldable pub defaults : Float → BallPivotingConfig
defaults radius = record {
  radius = radius;
  additional_radii = f32 0x3d4ccccd ∷ f32 0x3e19999a ∷ f32 0x3e4ccccd ∷ f32 0 ∷ f32 0 ∷ f32 0 ∷ f32 0 ∷ f32 0 ∷ [];
  additional_count = 3;
  adaptive_radius = true;
  adaptive_percentiles = f32 0x3e800000 ∷ f32 0x3f000000 ∷ f32 0x3f400000 ∷ f32 0x3f666666 ∷ f32 0 ∷ f32 0 ∷ f32 0
      ∷ f32 0 ∷ [];
  percentile_count = 4;
  quality_threshold = f32 0x3dcccccd;
  max_edge_factor = f32 0x40400000;
  min_triangle_area = f32 0x322bcc77;
  use_spatial_index = true;
  spatial_cell_factor = f32 0x40000000;
  frontier_rule = 1;
}
