-- What the parts of the main call ask and give. Definitions only.
use Rattle.std.specs.Prelude.{ℕ, ◌*◌, ◌≤◌, ◌<◌, ◌≡◌, List, length, take, Float}
use Rattle.points.specs.Points.{point_at}
use Rattle.vector.specs.Inner.Numbers.{Finite}
use Rattle.settings.specs.declared.BallPivotingConfig.{BallPivotingConfig}
use Rattle.settings.specs.Inner.Settled.{Settled}
use Rattle.patch.specs.Lay.{blank}
use Rattle.patch.specs.Search.{searching}
use Rattle.patch.specs.Frontier.{pop_of}
use Rattle.patch.specs.View.{written}
use Rattle.decisions.specs.Decisions.{floats_of}
use Rattle.origins.specs.Inner.Following.{marks_from}
use Rattle.radii.specs.Inner.Steps.{RadiiListed}
use Rattle.regions.specs.Inner.Regions.{words_length, floats_length}
use Rattle.ball_pivoting.specs.Reconstruct.{Found, point_count, scene_of, radii_of, delivered, faces_after}
use Rattle.ball_pivoting.specs.Unsplit.{NoTriangle}
use Rattle.ball_pivoting.specs.declared.Finding.{Finding}
use Rattle.ball_pivoting.specs.declared.Patch.{Patch}

-- a cloud whose coordinates are numbers, and a work slice for it
pub record CloudSized (points : List Float) (words : List ℕ) : Type 0 where
  pub some : 0 < point_count points
  pub few : point_count points ≤ 4096
  pub threes : length points ≡ 3 * point_count points
  pub numbers : (i : ℕ) → i < point_count points → Finite (point_at points i)
  pub words_enough : words_length (point_count points) ≤ length words

-- what the checks leave for the work that follows
pub record WorkReady (c : BallPivotingConfig) (points : List Float) (words : List ℕ) (floats : List Float)
    : Type 0 where
  pub sized : CloudSized points words
  pub floats_enough : floats_length (point_count points) ≤ length floats
  pub percentiles : c.percentile_count ≤ 8
  pub additional : c.additional_count ≤ 8
  pub settled : Settled c

-- how many faces there are after each radius
unfoldable pub marks_of : BallPivotingConfig → List Float → List ℕ
marks_of c pts =
    let n = point_count pts in
    marks_from (searching (floats_of (scene_of c pts) pts) n) (pop_of c.frontier_rule) n (radii_of c pts) (blank n)

-- the code's account r of what is found, f, with the radii rs and the marks ms, and `why` if it is nothing; the faces
-- that fit stand in front of the slice that was lent
pub record Finds
    (why : ℕ) (f : Found) (rs : List Float) (ms lent : List ℕ) (r : Finding) (slice : List ℕ) : Type 0 where
  pub faces : r.faces ≡ length f.faces
  pub few : r.faces ≤ 10000
  pub seeds : r.seeds ≡ f.seeds
  pub looks : r.looks ≡ f.looks
  pub pivots : r.pivots ≡ f.pivots
  pub radii : RadiiListed rs r.radii
  pub marks : take r.radii.count r.marks ≡ ms
  pub reason : r.faces ≡ 0 → r.reason ≡ why
  pub written_in : slice ≡ written f.faces lent

-- an account as the public struct has it
unfoldable pub accepted_by : Finding → Patch
accepted_by r = record {
  answer = 0;
  detail = 0;
  faces = r.faces;
  seeds = r.seeds;
  looks = r.looks;
  pivots = r.pivots;
  radii_count = r.radii.count;
  radii = r.radii.list;
}

-- whatever was found comes back as the definition says
abbrev pub Delivers : Finding → List ℕ → Patch → List ℕ → Type 0
Delivers found slice p back = (why : ℕ) (f : Found) (rs : List Float) (ms lent : List ℕ) → NoTriangle why
    → Finds why f rs ms lent found slice
    → (p ≡ delivered why f rs (length lent)) × (back ≡ faces_after p f lent)
