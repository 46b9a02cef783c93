-- The one claim about the call with origins: its whole result, for all input. Definitions only.
use Rattle.std.specs.Prelude.{ℕ, ◌<◌, ◌≡◌, Bool, true, false, not, cond, List, length, get_or, Float}
use Rattle.numbers.specs.Rounded.{f32}
use Rattle.settings.specs.declared.BallPivotingConfig.{BallPivotingConfig}
use Rattle.clearing.specs.Swept.{swept}
use Rattle.lists.specs.Lists.{any}
use Rattle.patch.specs.Lay.{edge, Face, State, seeds_of}
use Rattle.patch.specs.Shape.{touches, has, Shape}
use Rattle.patch.specs.View.{flat}
use Rattle.orders.specs.Order.{face_at}
use Rattle.origins.specs.Origins.{Trace, parents_in, places_in}
use Rattle.origins.specs.Turned.{runs, turned, Traced, OneWay}
use Rattle.ball_pivoting.specs.Reconstruct.{point_count, laid_of}
use Rattle.ball_pivoting.specs.Outcome.{passes, faces_in}
use Rattle.ball_pivoting.specs.declared.Patch.{Patch}
use Rattle.origins_outcome.specs.Call.{trace_in, origins_of, faces_as, reconstructed_with, slice_after}

-- a face f and its parent g: f's first two points are an edge of g, which runs the same way in both exactly where the
-- patch is not turned
pub record Hangs (turn : Bool) (f g : Face) : Type 0 where
  pub shares : has (edge f.a f.b) g ≡ true
  pub direction : runs f.a f.b g ≡ not turn

-- what comes back of the multi-radius path over n points, turned or not: the faces fs, of each its parent and the place
-- of its radius, their number F, the number S of seeds, the looks and the pivots
pub record ReturnedWithOrigins
    (n : ℕ) (s : State) (t : Trace) (turn : Bool) (fs : List Face) (parents places : List ℕ) (F S looks pivots : ℕ)
    : Type 0 where
  -- they are those of s, the definition's state when all radii are done, which t lays too
  pub state_is : t.state ≡ s
  pub faces_are : fs ≡ cond turn (turned t.parents s.faces) s.faces
  pub number_is : F ≡ length s.faces
  pub seeds_are : S ≡ seeds_of s
  pub looks_are : looks ≡ s.looks
  pub pivots_are : pivots ≡ s.pivots
  -- parents and places are those that t noted as it laid them
  pub parents_are : parents ≡ t.parents
  pub places_are : places ≡ t.places
  -- as they were laid: a seed names itself; every other parent comes earlier and shares the pivoted edge, in the same
  -- direction
  pub traced : Traced s.faces s.seed_flags parents
  -- as they come back: each face that is no seed has an earlier parent, to which it hangs by its first edge
  pub hangs : (i : ℕ) → i < F → get_or s.seed_flags i false ≡ false
      → (get_or parents i 0 < i) × Hangs turn (face_at fs i) (face_at fs (get_or parents i 0))
  -- of the faces that come back holds the one claim about a patch
  pub shape : Shape fs s.seed_flags F S looks pivots
  pub inside : (x : ℕ) → any (touches x) fs ≡ true → x < n
  -- and of a turned patch, that each edge that lies in two faces runs once each way
  pub one_way : turn ≡ true → OneWay fs s.seed_flags F S looks pivots

-- `faces`, `origins`, `words` and `floats` are the lent slices before the call, those with a mark after it
pub record ReconstructsWithOrigins
    (points normals : List Float) (c : BallPivotingConfig) (turn : Bool) (faces origins words : List ℕ)
    (floats : List Float) (p : Patch) (faces' origins' words' : List ℕ) (floats' : List Float) : Type 0 where
  -- the answer, detail, counts and radii are the definition's
  pub result :
      p ≡ reconstructed_with points normals c turn (length faces) (length origins) (length words) (length floats)
  -- and so is every lent slice
  pub faces_after_lem : faces' ≡ slice_after p (flat (faces_as turn c points)) faces
  pub origins_after : origins' ≡ slice_after p (origins_of c points) origins
  pub words_after : words' ≡ swept 0 (passes points normals c (length words) (length floats)) words
  pub floats_after : floats' ≡ swept (f32 0) (passes points normals c (length words) (length floats)) floats
  -- where the cloud is accepted and there are radii, of the faces and origins in front of the slices and of the counts
  -- holds the one claim
  pub claim : p.answer ≡ 0 → 0 < p.radii_count
      → ReturnedWithOrigins (point_count points) (laid_of c points) (trace_in c points) turn (faces_in p.faces faces')
      (parents_in p.faces origins') (places_in p.faces origins') p.faces p.seeds p.looks p.pivots
