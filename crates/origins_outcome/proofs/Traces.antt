-- What the pass writes over the laid faces is what the laying noted. Assumes nothing.

use mathlib.Core.Path.{◌≡◌, refl, sym, ap, ◌∙◌}
use mathlib.Core.List.{List, [], ◌∷◌}
use lib.ListN.{length, replicate}
use lib.Ieee.{Float}
use Rattle.settings.specs.declared.BallPivotingConfig.{BallPivotingConfig}
use Rattle.patch.specs.Lay.{seeds_of}
use Rattle.patch.specs.Search.{searching}
use Rattle.patch.specs.Frontier.{pop_of}
use Rattle.decisions.specs.Decisions.{floats_of}
use Rattle.decisions.proofs.Within.{within}
use Rattle.origins.specs.Origins.{pop_entry_of, pairs}
use Rattle.origins.specs.Turned.{turned, Traced, OneWay}
use Rattle.origins.specs.Pass.{origins_from}
use Rattle.origins.proofs.Tracing.{pop_entry_of_follows, pop_entry_of_keeps}
use Rattle.origins.proofs.Places.{places_length}
use Rattle.origins.proofs.Claim.{our_state, our_traced, our_origins, our-one-way}
use Rattle.tracing.specs.Plain.{plain_origins}
use Rattle.ball_pivoting.specs.Reconstruct.{point_count, scene_of, radii_of, laid_of, plainly}
use Rattle.ball_pivoting.specs.Inner.Parts.{marks_of}
use Rattle.origins_outcome.specs.Call.{trace_in, origins_at, origins_of}

module _ (c : BallPivotingConfig) (pts : List Float) where
  pub state_same : (trace_in c pts).state ≡ laid_of c pts
  unfolding trace_in laid_of scene_of
  state_same = our_state (point_count pts) (floats_of (scene_of c pts) pts) (within (scene_of c pts) pts) c.frontier_rule (radii_of c pts)

  pub traced_so : Traced (laid_of c pts).faces (laid_of c pts).seed_flags (trace_in c pts).parents
  unfolding trace_in laid_of scene_of
  traced_so = our_traced (point_count pts) (floats_of (scene_of c pts) pts) (within (scene_of c pts) pts) c.frontier_rule (radii_of c pts)

  pub one_way_so : OneWay (turned (trace_in c pts).parents (laid_of c pts).faces) (laid_of c pts).seed_flags
      (length (laid_of c pts).faces) (seeds_of (laid_of c pts)) (laid_of c pts).looks (laid_of c pts).pivots
  unfolding trace_in laid_of scene_of
  one_way_so = our-one-way (point_count pts) (floats_of (scene_of c pts) pts) (within (scene_of c pts) pts) c.frontier_rule (radii_of c pts)

  pub pass_so : origins_from (marks_of c pts) 0 (replicate (point_count pts) 0) (laid_of c pts).faces ≡ pairs (trace_in c pts).parents (trace_in c pts).places
  unfolding trace_in laid_of marks_of scene_of
  pass_so = sym (our_origins (point_count pts) (floats_of (scene_of c pts) pts) (within (scene_of c pts) pts) c.frontier_rule (radii_of c pts))

  pub places_many : length (trace_in c pts).places ≡ length (laid_of c pts).faces
  unfolding trace_in laid_of
  places_many =
      let rule = c.frontier_rule in
      places_length (searching (floats_of (scene_of c pts) pts) (point_count pts)) (pop_of rule) (pop_entry_of rule) (pop_entry_of_follows rule) (pop_entry_of_keeps rule)
      (point_count pts) (radii_of c pts)

  pub parents_as_places : length (trace_in c pts).parents ≡ length (trace_in c pts).places
  parents_as_places = traced_so.long ∙ sym places_many

  -- the origins on either path
  at_laid : (rs : List Float) → (rs ≡ [] → ⊥) → origins_at c pts rs ≡ pairs (trace_in c pts).parents (trace_in c pts).places
  unfolding origins_at
  at_laid [] some = absurd (some refl)
  at_laid (r ∷ rs) some = refl

  pub origins_laid : (radii_of c pts ≡ [] → ⊥) → origins_of c pts ≡ pairs (trace_in c pts).parents (trace_in c pts).places
  unfolding origins_of
  origins_laid some = at_laid (radii_of c pts) some

  pub origins_plain : radii_of c pts ≡ [] → origins_of c pts ≡ plain_origins (length (plainly c pts).faces)
  unfolding origins_of origins_at
  origins_plain none = ap (origins_at c pts) none
