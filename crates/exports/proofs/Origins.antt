-- What `yb_order_patch` and `yb_mark_reached` answer on a patch of `yb_reconstruct_with_origins`, turned or not, where
-- there are radii; and slices that are long enough. Assumes nothing.
use mathlib.Core.Path.{◌≡◌, sym, ap, ◌∙◌}
use mathlib.Core.Logic.{◌≢◌}
use mathlib.Core.Bool.{Bool}
use mathlib.Core.List.{List}
use Prim.Native.Nat.{ℕ, ◌+◌, ◌*◌, ◌<◌, ◌≤◌}
use lib.Dec.{eqb}
use lib.ListN.{length, take}
use lib.Ieee.{Float}
use Rattle.settings.specs.declared.BallPivotingConfig.{BallPivotingConfig}
use Rattle.lists.specs.Lists.{count}
use Rattle.patch.specs.Lay.{Face}
use Rattle.ball_pivoting.specs.declared.Patch.{Patch}
use Rattle.ball_pivoting.specs.Reconstruct.{point_count}
use Rattle.ball_pivoting.specs.Outcome.{faces_in}
use Rattle.origins_outcome.specs.Outcome.{ReconstructsWithOrigins}
use Rattle.origins_outcome.proofs.Room as room
use Rattle.orders.specs.Order.{Rearranged}
use Rattle.face_lines.specs.Format.{good, face_file}
use Rattle.patch_order.specs.Ordering.{refusal_of, faces_read, OrdersPatch}
use Rattle.patch_order.specs.declared.Ordered.{Ordered}
use Rattle.patch_order.proofs.Exactly.{told_answer}
use Rattle.patch_order.proofs.Ours.{patch_never}
use Rattle.coverage.specs.Coverage.{reached_marks, Marked}
use Rattle.coverage.proofs.Exact.{reached_exactly}
use Rattle.exports.proofs.Reach.{flat_faces_in}

module _ (points normals : List Float) (c : BallPivotingConfig) (turn : Bool) (faces origins words : List ℕ) (floats : List Float) (p : Patch)
    (faces' origins' words' : List ℕ) (floats' : List Float)
    (made : ReconstructsWithOrigins points normals c turn faces origins words floats p faces' origins' words' floats') where
  -- the slices of the header's bounds never get a 9
  pub never_nine_with : 30000 ≤ length faces → 20000 ≤ length origins → p.answer ≢ 9
  never_nine_with long wide h =
      room.never_nine_with points normals c turn (length words) (length floats) (length faces) (length origins) long wide
      (sym (ap (λ (q : Patch). q.answer) made.result) ∙ h)

  module _ (accepted : p.answer ≡ 0) (radii : 0 < p.radii_count) where
    -- the file has the patch's faces in any order, the first two points of any of them swapped; the count of points and the slices may be any
    pub order_of_traced : (bytes : List ℕ) (hs : List Face) (lines : List ℕ)
        → Rearranged (faces_in p.faces faces') hs lines
        → face_file bytes ≡ good hs
        → (n : ℕ) (order u : List ℕ) (f : List Float) (r : Ordered) (order' u' : List ℕ) (f' : List Float)
        → OrdersPatch bytes n order u f r order' u' f'
        → r.answer ≢ 23
    order_of_traced bytes hs lines rearranged e n order u f r order' u' f' o h =
        let same : r.answer ≡ (refusal_of n (length order) (length u) (length f) (face_file bytes)).answer =
        ap (λ (q : Ordered). q.answer) o.result ∙ told_answer (refusal_of n (length order) (length u) (length f) (face_file bytes))
        (faces_read (face_file bytes)) in
        patch_never (faces_in p.faces faces') _ p.faces p.seeds p.looks p.pivots (made.claim accepted radii).shape hs lines rearranged bytes e n
        (length order) (length u) (length f) (sym same ∙ h)

    -- the slice that is lent for the marks has an entry for each point
    pub marks_of_traced : 3 * p.faces ≤ length faces'
        → (before after : List ℕ) (answer : ℕ)
        → length before ≡ point_count points
        → Marked (take (3 * p.faces) faces') before answer after
        → answer ≡ p.faces + 2 * p.seeds
    marks_of_traced room before after answer entries m =
        let s = made.claim accepted radii in
        let exact = reached_exactly (faces_in p.faces faces') (p.faces + 2 * p.seeds) (point_count points) s.shape.points s.inside in
        m.counted
        ∙ ap (λ (n : ℕ). count (eqb 1) (reached_marks (take (3 * p.faces) faces') n)) entries
        ∙ ap (λ (f : List ℕ). count (eqb 1) (reached_marks f (point_count points))) (sym (flat_faces_in p.faces faces' room))
        ∙ exact
