-- `spatial_hash::links::link_points` meets its contract. Assumes nothing.
use native.Mathlib.Omega.{arith}
use borrow.Author.Rules.{rules}
use mathlib.Core.Path.{ap, ◌∙◌}
use Rattle.spatial_hash.specs.Inner.Buckets.{bucket_of}
use Rattle.spatial_hash.proofs.Heads.{linking_start, linking_step, linking_end, bucket_below}
use Rattle.spatial_hash.proofs.links.link_points.Goals as goal

pub loop-j-init : goal.loop-j-init
loop-j-init c = linking_start _ _ _ _ c.requires

pub link_point-requires : goal.link_point-requires
link_point-requires c =
    let b = bucket_below c.args.hash c.point_at.result c.requires.sound.some in
    let e = c.bucket_of-b.ensures in
    (search rules, search rules, omega (arith, c.requires.sound.fitting), search rules)

pub loop-j-preserved : goal.loop-j-preserved
loop-j-preserved c =
    let bucket-of = c.bucket_of-b in
    let point_at_lem = c.point_at in
    let loop-test = c.loop-j-test in
    let loop = c.loop-j in
    let l = loop in
    linking_step c.args.hash c.args.points.now c.args.n c.args.w.now l.w _ l.j bucket-of.result c.requires loop-test.true
    (bucket-of.ensures ∙ ap (bucket_of c.args.hash) point_at_lem.ensures) c.link_point.ensures l.invariant

pub returns : goal.returns
returns c = (linking_end _ _ _ _ c.loop-j.w c.loop-j.j c.loop-j-test.false c.loop-j.invariant, c.loop-j.invariant.before)
