-- The state that the laying leaves, as it is counted, and the reason where it has no faces. Assumes nothing.
use native.Mathlib.Omega.{arith}
use lib.ListN.{take}
use Rattle.laying.proofs.Claim.{laid_few}
use Rattle.ball_pivoting.specs.Reconstruct.{laid}
use Rattle.ball_pivoting.proofs.Judged.{fresh_after}
use Rattle.reconstruction.proofs.paths.find_pivoting.Goals as goal

pub reason_after-reason-requires : goal.reason_after-reason-requires
reason_after-reason-requires c =
    let advanced-ball-pivoting = c.advanced_ball_pivoting-course in
    let start = c in
    let h = advanced-ball-pivoting.ensures in
    λ z. fresh_after start.args.rule (take start.args.radii.count start.args.radii.list) h.0 h.1 z

pub returns : goal.returns
unfolding laid
returns c =
    let advanced-ball-pivoting = c.advanced_ball_pivoting-course in
    let start = c in
    let h = advanced-ball-pivoting.ensures in
    let a = start.args in
    let p = start.requires in
    record {
      faces = h.0.faces_count;
      few = omega (arith, h.0.faces_count, p.0.held.few, laid_few a.rule a.scene a.points.now (take a.radii.count a.radii.list));
      seeds = h.0.seeds_count;
      looks = h.0.looks;
      pivots = h.0.pivots;
      radii = p.1;
      marks = h.2;
      reason = c.reason_after-reason.ensures;
      written_in = h.0.faces;
    }
