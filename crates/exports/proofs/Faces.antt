-- What `yb_order_patch` answers on a patch of `yb_reconstruct_with_normals`: where there are radii never 23. Assumes
-- nothing.
use mathlib.Core.Path.{◌≡◌, sym, ap, ◌∙◌}
use mathlib.Core.Logic.{◌≢◌}
use mathlib.Core.List.{List}
use Prim.Native.Nat.{ℕ, ◌<◌}
use lib.ListN.{length}
use lib.Ieee.{Float}
use Rattle.settings.specs.declared.BallPivotingConfig.{BallPivotingConfig}
use Rattle.patch.specs.Lay.{Face}
use Rattle.ball_pivoting.specs.declared.Patch.{Patch}
use Rattle.ball_pivoting.specs.Outcome.{faces_in, Reconstructs}
use Rattle.orders.specs.Order.{Rearranged}
use Rattle.face_lines.specs.Format.{good, face_file}
use Rattle.patch_order.specs.Ordering.{refusal_of, faces_read, OrdersPatch}
use Rattle.patch_order.specs.declared.Ordered.{Ordered}
use Rattle.patch_order.proofs.Exactly.{told_answer}
use Rattle.patch_order.proofs.Ours.{patch_never}

-- the file has the patch's faces in any order, the first two points of any of them swapped; the count of points and the
-- slices may be any
pub order_of_patch : (points normals : List Float) (c : BallPivotingConfig) (faces words : List ℕ) (floats : List Float) (p : Patch) (faces' words' : List ℕ)
    (floats' : List Float)
    → Reconstructs points normals c faces words floats p faces' words' floats'
    → p.answer ≡ 0
    → 0 < p.radii_count
    → (bytes : List ℕ) (hs : List Face) (lines : List ℕ)
    → Rearranged (faces_in p.faces faces') hs lines
    → face_file bytes ≡ good hs
    → (n : ℕ) (order u : List ℕ) (f : List Float) (r : Ordered) (order' u' : List ℕ) (f' : List Float)
    → OrdersPatch bytes n order u f r order' u' f'
    → r.answer ≢ 23
order_of_patch points normals c faces words floats p faces' words' floats' made accepted radii bytes hs lines rearranged e n order u f r order' u' f' o h =
    let shape = (made.shape accepted radii).shape in
    let same : r.answer ≡ (refusal_of n (length order) (length u) (length f) (face_file bytes)).answer =
    ap (λ (q : Ordered). q.answer) o.result ∙ told_answer (refusal_of n (length order) (length u) (length f) (face_file bytes))
    (faces_read (face_file bytes)) in
    patch_never (faces_in p.faces faces') _ p.faces p.seeds p.looks p.pivots shape hs lines rearranged bytes e n (length order) (length u)
    (length f) (sym same ∙ h)
