-- The starred cases of the scope's edges of the domain: one table over the definitions.
-- `starred_cases` of proofs/Starred.antt is its theorem.
use Rattle.std.specs.Prelude.{ℕ, zero, suc, ◌*◌, ◌≡◌, true, List, [], ◌∷◌, map, length, get_or, replicate, Float}
use Rattle.std.specs.Float.{nan}
use Rattle.numbers.specs.Rounded.{f32}
use Rattle.ranges.specs.Range.{first_outside, first_bad_point, farthest, percentile_inside}
use Rattle.settings.specs.Settings.{first_bad_setting, defaults}
use Rattle.settings.specs.declared.BallPivotingConfig.{BallPivotingConfig}
use Rattle.domain.specs.Refusals.{Check, check, refusal, first_refusal, size_checks, point_check, setting_check, roomy}
use Rattle.domain.specs.Refusals.{estimate_refusal, reconstruct_refusal}
use Rattle.estimate.specs.Estimate.{optimal_radius, estimate, estimate_of}
use Rattle.radii.specs.Radii.{sample_count, dedup}
use Rattle.patch.specs.Frontier.{after_pop}
use Rattle.ball_pivoting.specs.Reconstruct.{refused, reconstructed}

-- one point at x, 0, 0; and the same as the second of two, behind one at 0, 0, 0
abbrev pub one_at : Float → List Float
one_at x = x ∷ f32 0 ∷ f32 0 ∷ []

abbrev pub second_at : Float → List Float
second_at x = f32 0 ∷ f32 0 ∷ f32 0 ∷ one_at x

-- the entries in the order in which a frontier empties
abbrev pub emptied : ℕ → List ℕ → List ℕ
emptied zero xs = []
emptied (suc k) xs = get_or xs 0 0 ∷ emptied k (after_pop 0 xs)

-- radius 1, empty lists, adaptive on, quality threshold 0, factors 3 and 2, and a least area
abbrev pub with_area : Float → BallPivotingConfig
with_area least = record {
  radius = f32 0x3f800000;
  additional_radii = map f32 (0 ∷ 0 ∷ 0 ∷ 0 ∷ 0 ∷ 0 ∷ 0 ∷ 0 ∷ []);
  additional_count = 0;
  adaptive_radius = true;
  adaptive_percentiles = map f32 (0 ∷ 0 ∷ 0 ∷ 0 ∷ 0 ∷ 0 ∷ 0 ∷ 0 ∷ []);
  percentile_count = 0;
  quality_threshold = f32 0;
  max_edge_factor = f32 0x40400000;
  min_triangle_area = least;
  use_spatial_index = true;
  spatial_cell_factor = f32 0x40000000;
  frontier_rule = 1;
}

-- three points at one place
abbrev pub equal_points : List Float
equal_points = replicate 9 (f32 0x3f800000)

-- the checks behind 1 to 3, for 4,096 points: those of the main call, and those of the estimate
abbrev pub later_checks : List Float → List Float → BallPivotingConfig → ℕ → ℕ → List Check
later_checks points normals s words floats =
    point_check 4096 (first_bad_point points normals)
    ∷ setting_check (first_bad_setting s)
    ∷ check (roomy 4096 words floats) 7 0
    ∷ []

abbrev pub later_checks_of_estimate : List Float → Float → ℕ → ℕ → List Check
later_checks_of_estimate points percentile words floats =
    point_check 4096 (first_outside farthest points)
    ∷ check (percentile_inside percentile) 6 0
    ∷ check (roomy 4096 words floats) 7 0
    ∷ []

pub record StarredCases : Type 0 where
  -- no points, three normal numbers: 1
  pub no_points_lem : (a b c : Float) (s : BallPivotingConfig) (room words floats : ℕ)
      → reconstructed [] (a ∷ b ∷ c ∷ []) s room words floats ≡ refused 1 0
  -- four point numbers: 2
  pub four_numbers : (a b c d : Float) (normals : List Float) (s : BallPivotingConfig) (room words floats : ℕ)
      → reconstructed (a ∷ b ∷ c ∷ d ∷ []) normals s room words floats ≡ refused 2 0
  pub four_numbers_estimate : (a b c d percentile : Float) (words floats : ℕ)
      → estimate_of (a ∷ b ∷ c ∷ d ∷ []) percentile words floats ≡ estimate 2 0 (f32 0)
  -- 4,096 points pass check 3: the checks of the lengths answer 0, and those behind them decide
  pub most_pass : first_refusal (size_checks (3 * 4096) (3 * 4096)) ≡ refusal 0 0
  pub most_points : (points normals : List Float) (s : BallPivotingConfig) (words floats : ℕ)
      → length points ≡ 3 * 4096 → length normals ≡ length points
      → reconstruct_refusal points normals s words floats ≡ first_refusal (later_checks points normals s words floats)
  pub most_points_estimate : (points : List Float) (percentile : Float) (words floats : ℕ) → length points ≡ 3 * 4096
      → estimate_refusal points percentile words floats
      ≡ first_refusal (later_checks_of_estimate points percentile words floats)
  -- 4,097 get 3
  pub too_many_points_lem : (points normals : List Float) (s : BallPivotingConfig) (room words floats : ℕ)
      → length points ≡ 3 * 4097 → length normals ≡ length points
      → reconstructed points normals s room words floats ≡ refused 3 0
  pub too_many_points_estimate : (points : List Float) (percentile : Float) (words floats : ℕ)
      → length points ≡ 3 * 4097 → estimate_of points percentile words floats ≡ estimate 3 0 (f32 0)
  -- coordinate 10,000 passes; the next f32 up gets 4, with its point's number
  pub farthest-passes :
      reconstruct_refusal (second_at (f32 0x461c4000)) (second_at (f32 0)) (defaults (f32 0x3f800000)) 112 72
      ≡ refusal 0 0
  pub farther_refused : (s : BallPivotingConfig) (room words floats : ℕ)
      → reconstructed (second_at (f32 0x461c4001)) (second_at (f32 0)) s room words floats ≡ refused 4 1
  pub farthest_passes_estimate : estimate_refusal (second_at (f32 0x461c4000)) (f32 0x3f000000) 112 72 ≡ refusal 0 0
  pub farther_refused_estimate : (percentile : Float) (words floats : ℕ)
      → estimate_of (second_at (f32 0x461c4001)) percentile words floats ≡ estimate 4 1 (f32 0)
  -- percentile 1 passes; not a number gets 6
  pub percentile_one_passes : estimate_refusal (one_at (f32 0)) (f32 0x3f800000) 88 68 ≡ refusal 0 0
  pub percentile_nan_refused : (words floats : ℕ) → estimate_of (one_at (f32 0)) nan words floats ≡ estimate 6 0 (f32 0)
  -- the estimate of one point, anywhere: 0.1
  pub one_point_anywhere : (x y z percentile : Float) → optimal_radius (x ∷ y ∷ z ∷ []) 1 percentile ≡ f32 0x3dcccccd
  pub one_point : estimate_of (one_at (f32 0)) (f32 0x3f000000) 88 68 ≡ estimate 0 0 (f32 0x3dcccccd)
  -- of two points 1 apart, percentile 0.5: 2.5
  pub two_points : estimate_of (second_at (f32 0x3f800000)) (f32 0x3f000000) 112 72 ≡ estimate 0 0 (f32 0x40200000)
  -- for the radii, 1,999 points: 1,999 samples; 2,000: 1,000
  pub fewer_samples : sample_count 1999 ≡ 1999
  pub more_samples : sample_count 2000 ≡ 1000
  -- of the sorted radii 0.5, 0.5000007, 0.5000014 the first and the third stay
  pub three_radii : dedup (f32 0x3f000000 ∷ f32 0x3f00000c ∷ f32 0x3f000017 ∷ []) ≡ f32 0x3f000000 ∷ f32 0x3f000017 ∷ []
  -- a frontier A, B, C, D empties as A, C, B, D
  pub frontier : emptied 4 (10 ∷ 11 ∷ 12 ∷ 13 ∷ []) ≡ 10 ∷ 12 ∷ 11 ∷ 13 ∷ []
  -- three equal points, with least area 0: 16, since they are judged and have no area
  pub equal_without_area : reconstructed equal_points equal_points (with_area (f32 0)) 3 136 76 ≡ refused 16 0
  -- with least area 1e-8: 16
  pub equal_refused : reconstructed equal_points equal_points (with_area (f32 0x322bcc77)) 3 136 76 ≡ refused 16 0
