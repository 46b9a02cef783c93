-- What `yb_mark_reached` answers on a patch of `yb_reconstruct_with_normals`: F + 2S where there are radii. Assumes
-- nothing.
use mathlib.Core.Path.{◌≡◌, refl, sym, ap, ◌∙◌}
use mathlib.Core.List.{List, [], ◌∷◌}
use Prim.Native.Nat.{ℕ, zero, suc, ◌+◌, ◌*◌, ◌<◌, ◌≤◌}
use native.Mathlib.Omega.{arith}
use lib.Dec.{eqb}
use lib.ListN.{length, take}
use lib.Ieee.{Float}
use Rattle.patch.specs.View.{flat}
use Rattle.settings.specs.declared.BallPivotingConfig.{BallPivotingConfig}
use Rattle.ball_pivoting.specs.declared.Patch.{Patch}
use Rattle.ball_pivoting.specs.Reconstruct.{point_count}
use Rattle.ball_pivoting.specs.Outcome.{faces_in, Reconstructs}
use Rattle.coverage.specs.Coverage.{reached_marks, Marked}
use Rattle.coverage.proofs.Exact.{reached_exactly}
use Rattle.lists.specs.Lists.{count}

pub flat_faces_in : (k : ℕ) (slice : List ℕ) → 3 * k ≤ length slice → flat (faces_in k slice) ≡ take (3 * k) slice
unfolding flat faces_in
flat_faces_in zero slice h = refl
flat_faces_in (suc k) [] h = absurd (omega arith)
flat_faces_in (suc k) (a ∷ []) h = absurd (omega arith)
flat_faces_in (suc k) (a ∷ b ∷ []) h = absurd (omega arith)
flat_faces_in (suc k) (a ∷ b ∷ c ∷ slice) h =
    let three : 3 * suc k ≡ suc (suc (suc (3 * k))) = omega arith in
    ap (λ (t : List ℕ). a ∷ b ∷ c ∷ t) (flat_faces_in k slice (omega arith)) ∙ ap (λ (j : ℕ). take j (a ∷ b ∷ c ∷ slice)) (sym three)

-- the slice that is lent for the marks has an entry for each point
pub marks_of_patch : (points normals : List Float) (c : BallPivotingConfig) (faces words : List ℕ) (floats : List Float) (p : Patch) (faces' words' : List ℕ)
    (floats' : List Float)
    → Reconstructs points normals c faces words floats p faces' words' floats'
    → p.answer ≡ 0
    → 0 < p.radii_count
    → 3 * p.faces ≤ length faces'
    → (before after : List ℕ) (answer : ℕ)
    → length before ≡ point_count points
    → Marked (take (3 * p.faces) faces') before answer after
    → answer ≡ p.faces + 2 * p.seeds
marks_of_patch points normals c faces words floats p faces' words' floats' r accepted radii room before after answer entries m =
    let s = r.shape accepted radii in
    let exact = reached_exactly (faces_in p.faces faces') (p.faces + 2 * p.seeds) (point_count points) s.shape.points s.inside in
    m.counted
    ∙ ap (λ (n : ℕ). count (eqb 1) (reached_marks (take (3 * p.faces) faces') n)) entries
    ∙ ap (λ (f : List ℕ). count (eqb 1) (reached_marks f (point_count points))) (sym (flat_faces_in p.faces faces' room))
    ∙ exact
