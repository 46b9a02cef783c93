-- The whole call, `reconstruct_with_origins`: a patch as it was laid, or turned to face one way, and of each face its
-- parent and the place of its radius. Definitions only.
use Rattle.std.specs.Prelude.{ℕ, ◌/◌, Bool, cond, ◌&&◌, ◌||◌, List, [], ◌∷◌, ◌++◌, eqb, ltb, length, drop, replicate, Float}
use Rattle.answers.specs.Answers.{short_faces, turned_plain}
use Rattle.domain.specs.Refusals.{reconstruct_refusal}
use Rattle.settings.specs.declared.BallPivotingConfig.{BallPivotingConfig}
use Rattle.patch.specs.Lay.{Face}
use Rattle.patch.specs.Search.{searching}
use Rattle.decisions.specs.Decisions.{floats_of}
use Rattle.origins.specs.Origins.{Trace, trace_of, pairs}
use Rattle.origins.specs.Turned.{turned}
use Rattle.tracing.specs.Plain.{plain_origins}
use Rattle.ball_pivoting.specs.Reconstruct.{point_count, scene_of, radii_of, Found, plainly, found, reason}
use Rattle.ball_pivoting.specs.Reconstruct.{refused, accepted}
use Rattle.ball_pivoting.specs.declared.Patch.{Patch}

-- the multi-radius path, with the record of where each face came from
unfoldable pub trace_in : BallPivotingConfig → List Float → Trace
trace_in c pts =
    let n = point_count pts in
    trace_of (searching (floats_of (scene_of c pts) pts) n) c.frontier_rule n (radii_of c pts)

-- parent and place of each face found, two numbers a face; a plain face names itself and place 0
unfoldable pub origins_at : BallPivotingConfig → List Float → List Float → List ℕ
origins_at c pts [] = plain_origins (length (plainly c pts).faces)
origins_at c pts (r ∷ rs) = pairs (trace_in c pts).parents (trace_in c pts).places

unfoldable pub origins_of : BallPivotingConfig → List Float → List ℕ
origins_of c pts = origins_at c pts (radii_of c pts)

-- the faces that come back: as they were laid, or turned
unfoldable pub faces_as : Bool → BallPivotingConfig → List Float → List Face
faces_as turn c pts = cond turn (turned (trace_in c pts).parents (found c pts).faces) (found c pts).faces

-- there are more faces than a third of the face slice's length or a half of the origins', each rounded down
abbrev pub over : ℕ → ℕ → ℕ → Bool
over count room places = ltb (room / 3) count || ltb (places / 2) count

-- a turned patch was asked for, and the plain path ran
abbrev pub turns_plain : Bool → List Float → Bool
turns_plain turn rs = turn && eqb (length rs) 0

-- `why` where no triangle was found; then 9, then 18; else the patch. `room` and `places` are the lengths of the face
-- slice and of the origins' slice
unfoldable pub delivered_with : ℕ → Found → List Float → Bool → ℕ → ℕ → Patch
delivered_with why f rs turn room places =
    cond (eqb (length f.faces) 0) (refused why 0)
    (cond (over (length f.faces) room places) (refused short_faces 0)
    (cond (turns_plain turn rs) (refused turned_plain 0) (accepted f rs)))

-- the answer, detail, counts and radii of the call, by the lengths of the lent slices
unfoldable pub reconstructed_with : List Float → List Float → BallPivotingConfig → Bool → ℕ → ℕ → ℕ → ℕ → Patch
reconstructed_with pts normals c turn room places words floats =
    let refusal = reconstruct_refusal pts normals c words floats in
    cond (eqb refusal.answer 0) (delivered_with (reason c pts) (found c pts) (radii_of c pts) turn room places)
    (refused refusal.answer refusal.detail)

-- a lent slice at the end: the numbers in front, or all zeros at 9, or untouched
unfoldable pub slice_after : Patch → List ℕ → List ℕ → List ℕ
slice_after p front slice =
    cond (eqb p.answer 0) (front ++ drop (length front) slice)
    (cond (eqb p.answer short_faces) (replicate (length slice) 0) slice)
