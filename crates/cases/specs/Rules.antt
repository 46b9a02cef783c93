-- The frontier's two rules: their orders of popping, that neither decides a refusal, the smallest cloud whose patches
-- differ, and numbers that are no rule. `rule_cases` of proofs/Rules.antt is the theorem.
use Rattle.std.specs.Prelude.{ℕ, zero, suc, ◌≤◌, ◌≡◌, ◌≢◌, true, List, [], ◌∷◌, map, replicate, Float}
use Rattle.numbers.specs.Rounded.{f32}
use Rattle.settings.specs.Settings.{rule_known}
use Rattle.settings.specs.declared.BallPivotingConfig.{BallPivotingConfig}
use Rattle.domain.specs.Refusals.{refusal, reconstruct_refusal}
use Rattle.patch.specs.Lay.{face, Pop, State, patch}
use Rattle.patch.specs.Frontier.{heap_of, queue_of, waiting_after}
use Rattle.patch.specs.Search.{searching}
use Rattle.decisions.specs.Decisions.{floats_of}
use Rattle.ball_pivoting.specs.Reconstruct.{point_count, scene_of, radii_of, laid_of, found, refused, reconstructed}

-- the multi-radius path with an order of popping
abbrev pub laid_with : Pop → BallPivotingConfig → List Float → State
laid_with pop c pts =
    patch (searching (floats_of (scene_of c pts) pts) (point_count pts)) pop (point_count pts) (radii_of c pts)

-- settings with this rule in the place of their own
abbrev pub ruled : ℕ → BallPivotingConfig → BallPivotingConfig
ruled rule c = record {
  radius = c.radius;
  additional_radii = c.additional_radii;
  additional_count = c.additional_count;
  adaptive_radius = c.adaptive_radius;
  adaptive_percentiles = c.adaptive_percentiles;
  percentile_count = c.percentile_count;
  quality_threshold = c.quality_threshold;
  max_edge_factor = c.max_edge_factor;
  min_triangle_area = c.min_triangle_area;
  use_spatial_index = c.use_spatial_index;
  spatial_cell_factor = c.spatial_cell_factor;
  frontier_rule = rule;
}

-- the entries in the order in which a frontier empties under a rule
abbrev pub emptied_under : ℕ → ℕ → List ℕ → List ℕ
emptied_under rule zero xs = []
emptied_under rule (suc k) [] = []
emptied_under rule (suc k) (x ∷ xs) = x ∷ emptied_under rule k (waiting_after 0 rule x xs)

-- radius 2, both lists empty, the other settings as by default, and a rule
abbrev pub under_rule : ℕ → BallPivotingConfig
under_rule rule = record {
  radius = f32 0x40000000;
  additional_radii = replicate 8 (f32 0);
  additional_count = 0;
  adaptive_radius = true;
  adaptive_percentiles = replicate 8 (f32 0);
  percentile_count = 0;
  quality_threshold = f32 0x3dcccccd;
  max_edge_factor = f32 0x40400000;
  min_triangle_area = f32 0x322bcc77;
  use_spatial_index = true;
  spatial_cell_factor = f32 0x40000000;
  frontier_rule = rule;
}

-- (0, 0, 1), (1, 0, 0), (3, 0, 1), (0, 1, 1), (1, 1, 0)
abbrev pub five_points : List Float
five_points = map f32
    (0 ∷ 0 ∷ 0x3f800000 ∷ 0x3f800000 ∷ 0 ∷ 0 ∷ 0x40400000 ∷ 0 ∷ 0x3f800000 ∷ 0 ∷ 0x3f800000 ∷ 0x3f800000
    ∷ 0x3f800000 ∷ 0x3f800000 ∷ 0 ∷ [])

pub record RuleCases : Type 0 where
  -- rule 1 is the order of the Rust's heap, for all settings and points: the equality with the Rust speaks of it alone
  pub heap : (c : BallPivotingConfig) (pts : List Float) → c.frontier_rule ≡ 1 → laid_of c pts ≡ laid_with heap_of c pts
  -- rule 2 is first in, first out
  pub queue : (c : BallPivotingConfig) (pts : List Float) → c.frontier_rule ≡ 2
      → laid_of c pts ≡ laid_with queue_of c pts
  -- a rule decides no refusal: what is refused under one is refused under the other with the same answer and detail,
  -- given a face slice of 30,000, which is long enough for either
  pub refused_alike : (a b : ℕ) (c : BallPivotingConfig) (pts normals : List Float) (room words floats : ℕ)
      → rule_known a ≡ true → rule_known b ≡ true → 30000 ≤ room
      → (reconstructed pts normals (ruled a c) room words floats).answer ≢ 0
      → reconstructed pts normals (ruled b c) room words floats
      ≡ reconstructed pts normals (ruled a c) room words floats
  -- a frontier A, B, C, D empties as A, C, B, D under rule 1, and as it was pushed under rule 2
  pub heap_empties : emptied_under 1 4 (10 ∷ 11 ∷ 12 ∷ 13 ∷ []) ≡ 10 ∷ 12 ∷ 11 ∷ 13 ∷ []
  pub queue_empties : emptied_under 2 4 (10 ∷ 11 ∷ 12 ∷ 13 ∷ []) ≡ 10 ∷ 11 ∷ 12 ∷ 13 ∷ []
  -- five points are enough for a difference: rule 1 ends with face 3, 0, 4, rule 2 with 1, 3, 4
  pub heap_lays : found (under_rule 1) five_points
      ≡ record { faces = face 0 1 2 ∷ face 0 1 3 ∷ face 3 0 4 ∷ []; seeds = 1; looks = 9; pivots = 7 }
  pub queue_lays : found (under_rule 2) five_points
      ≡ record { faces = face 0 1 2 ∷ face 0 1 3 ∷ face 1 3 4 ∷ []; seeds = 1; looks = 9; pivots = 7 }
  -- both pass the checks; 0 and 3 are no rule: 5, with 8 as its detail
  pub heap_passes : reconstruct_refusal five_points five_points (under_rule 1) 184 84 ≡ refusal 0 0
  pub queue_passes : reconstruct_refusal five_points five_points (under_rule 2) 184 84 ≡ refusal 0 0
  pub zero_refused : (room words floats : ℕ)
      → reconstructed five_points five_points (under_rule 0) room words floats ≡ refused 5 8
  pub three_refused : (room words floats : ℕ)
      → reconstructed five_points five_points (under_rule 3) room words floats ≡ refused 5 8
