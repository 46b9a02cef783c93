-- The second look of `advanced_ball_pivoting`: the triangle that `try_ball_pivot` chose is measured once more and laid
-- only if it is acceptable. The definition of the call leaves it out; here it stands, with the claim that nothing
-- comes of it. Definitions only.
use Rattle.std.specs.Prelude.{ℕ, ◌≡◌, Bool, true, cond, List, Float}
use Rattle.std.proofs.Math.Option.{Option, none, some}
use Rattle.triangle.specs.Quality.{quality, acceptable}
use Rattle.points.specs.Points.{point_at}
use Rattle.settings.specs.declared.BallPivotingConfig.{BallPivotingConfig}
use Rattle.patch.specs.Lay.{Edge, Rules, State, patch}
use Rattle.patch.specs.Search.{searching}
use Rattle.patch.specs.Frontier.{pop_of}
use Rattle.decisions.specs.Decisions.{floats_of}
use Rattle.ball_pivoting.specs.Reconstruct.{point_count, scene_of, radii_of, laid_of}

-- `compute_triangle_quality` of the triangle's points in their order, then `is_triangle_acceptable` at the radius
unfoldable pub accepted_again : BallPivotingConfig → List Float → Float → Edge → ℕ → Bool
accepted_again c pts r e k =
    let q = quality (point_at pts e.v1) (point_at pts e.v2) (point_at pts k) in
    acceptable q r c.min_triangle_area c.quality_threshold c.max_edge_factor

-- what is left of the point that a pivot met: none where its triangle is turned down, and then no face is laid
unfoldable pub looked : (ℕ → Bool) → Option ℕ → Option ℕ
looked accepted none = none
looked accepted (some k) = cond (accepted k) (some k) none

-- the rules of the definition's searches
abbrev pub call_rules : BallPivotingConfig → List Float → Rules Float
call_rules c pts = searching (floats_of (scene_of c pts) pts) (point_count pts)

-- those rules, with every pivot looked at again; an edge is processed after its pivot in any case
unfoldable pub looking_again : BallPivotingConfig → List Float → Rules Float
looking_again c pts = record {
  seed_of = λ r used. (call_rules c pts).seed_of r used;
  pivot_of = λ r used e. looked (accepted_again c pts r e) ((call_rules c pts).pivot_of r used e);
}

-- the multi-radius path with the second look: the state when all radii are done, under rule 1, the source's, or rule 2
unfoldable pub laid_again : BallPivotingConfig → List Float → State
laid_again c pts = patch (looking_again c pts) (pop_of c.frontier_rule) (point_count pts) (radii_of c pts)

-- The claim, for all settings and points: whatever the ball meets makes an acceptable triangle, so that the second
-- look passes; and the laying with it is the laying without it, in every field of the state. `second_look` proves it.
pub record SecondLook (c : BallPivotingConfig) (pts : List Float) : Type 0 where
  pub passes : (r : Float) (used : List ℕ) (e : Edge) (k : ℕ)
      → (call_rules c pts).pivot_of r used e ≡ some k → accepted_again c pts r e k ≡ true
  pub same : laid_again c pts ≡ laid_of c pts
