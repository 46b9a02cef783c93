-- The plain path's faces, with no seeds, looks and pivots. Assumes nothing.
use mathlib.Core.Path.{refl, ap, ◌∙◌}
use Prim.Native.Nat.{ℕ}
use native.Mathlib.Omega.{arith}
use lib.ListN.{take, replicate}
use Rattle.plain.proofs.Plain.{plain_most}
use Rattle.ball_pivoting.specs.Reconstruct.{point_count, plainly, reason_by}
use Rattle.reconstruction.proofs.paths.find_plain.Goals as goal

pub returns : goal.returns
unfolding plainly
returns c =
    let simple-triangulate = c.simple_triangulate-laid in
    let start = c in
    let e = simple-triangulate.ensures in
    let a = start.args in
    record {
      faces = e.0;
      few = omega (arith, e.0, plain_most a.points.now a.settings.radius);
      seeds = refl;
      looks = refl;
      pivots = refl;
      radii = start.requires.3;
      marks = ap (λ (k : ℕ). take k (replicate 17 0)) start.requires.3.counted;
      reason = λ z. c.reason_by-reason.ensures ∙ ap (reason_by (point_count a.points.now)) (e.2 z);
      written_in = e.1;
    }
