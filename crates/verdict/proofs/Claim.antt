-- The claim of specs/Claims.antt: `judging`. Assumes nothing.
use mathlib.Core.Path.{◌≡◌, refl, ap, ◌∙◌}
use mathlib.Core.Bool.{Bool, true, false, cond}
use mathlib.Core.List.{List}
use Prim.Native.Nat.{ℕ}
use lib.Dec.{eqb}
use lib.Ieee.{Float}
use borrow.Author.Tests.{eqb-true}
use Rattle.std.specs.Prelude.{Result, Ok, Err}
use Rattle.domain.specs.declared.Refusal.{Refusal}
use Rattle.settings.specs.declared.BallPivotingConfig.{BallPivotingConfig}
use Rattle.points.specs.Points.{point_at}
use Rattle.triangle.specs.Quality.{quality}
use Rattle.verdict.specs.Verdict.{is_good}
use Rattle.verdict.specs.Judged.{judge_refusal, verdict_at, judged}
use Rattle.verdict.specs.Claims.{Judging}
use Rattle.verdict.specs.declared.MeasuredKind.{MeasuredKind}
use Rattle.verdict.proofs.Laws.{good_exactly}

-- where a verdict is told, nothing is refused, and it is the definition's
pub told_is : (points normals : List Float) (s : BallPivotingConfig) (i j k : ℕ) (v : MeasuredKind) → judged points normals s i j k ≡ Ok v
    → ((judge_refusal points normals s i j k).answer ≡ 0) × (v ≡ verdict_at points s i j k)
unfolding judged
told_is points normals s i j k v e = go (eqb (judge_refusal points normals s i j k).answer 0) refl e
  where
    go : (b : Bool) → eqb (judge_refusal points normals s i j k).answer 0 ≡ b
        → ◌≡◌ {A = Result MeasuredKind Refusal} (cond b (Ok (verdict_at points s i j k)) (Err (judge_refusal points normals s i j k))) (Ok v)
        → ((judge_refusal points normals s i j k).answer ≡ 0) × (v ≡ verdict_at points s i j k)
    go true q h = (eqb-true (judge_refusal points normals s i j k).answer 0 q, cc)
    go false q h = cc

pub judging : Judging
unfolding verdict_at
judging points normals s i j k v e =
    let t = told_is points normals s i j k v e in
    let q = quality (point_at points i) (point_at points j) (point_at points k) in
    record {
      verdict = t.1;
      good = ap is_good t.1 ∙ good_exactly q s.radius s.min_triangle_area s.quality_threshold s.max_edge_factor;
    }
