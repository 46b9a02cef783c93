-- `spatial_hash::walk::copy_points` meets its contract. Assumes nothing.
use Rattle.spatial_hash.proofs.Runs.{copying_start, copying_step, copying_end}
use Rattle.spatial_hash.proofs.walk.copy_points.Goals as goal

pub loop-i-init : goal.loop-i-init
loop-i-init c = copying_start _ _ _ _ _ c.requires.2

pub loop-i-preserved : goal.loop-i-preserved
loop-i-preserved c =
    let l = c.loop-i in copying_step _ _ _ _ _ l.w _ _ c.loop-i-test.true c.requires.3
    c.requires.4 c.requires.1 l.invariant

pub returns : goal.returns
returns c = copying_end _ _ _ _ _ _ _ _ c.loop-i-test.false c.loop-i.invariant
