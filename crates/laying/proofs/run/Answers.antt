-- `laying::run` meets its contract. Assumes nothing.
use Rattle.laying.proofs.Runs.{run_start, run_step, run_less, run_end}
use Rattle.laying.proofs.run.Goals as goal

pub loop-c-init : goal.loop-c-init
loop-c-init c =
    let s = c in
    run_start s.requires

pub look-c-requires : goal.look-c-requires
look-c-requires c = (c.loop-c.invariant.between_looks, c.loop-c-test.true)

pub loop-c-smaller : goal.loop-c-smaller
loop-c-smaller c =
    let o = c in
    let t = o in
    let l = t in
    run_less l.loop-c.invariant t.loop-c-test.true o.look-c.ensures

pub loop-c-preserved : goal.loop-c-preserved
loop-c-preserved c =
    let o = c in
    let t = o in
    let l = t in
    run_step l.loop-c.invariant t.loop-c-test.true o.look-c.ensures o.look-c.auto.faces

pub shape_of-faces : goal.shape_of-faces
shape_of-faces c = c.loop-c.invariant.face_words

pub shape_of-w : goal.shape_of-w
shape_of-w c = c.loop-c.invariant.lays.length_same

pub returns : goal.returns
returns c =
    let l = c in
    run_end l.loop-c.invariant c.loop-c-test.false
