-- `write::put_facets` meets its contract: the first i facets were put. Assumes nothing.
use native.Mathlib.Omega.{arith}
use Prim.Native.Nat.{◌+◌, ◌*◌}
use mathlib.Core.Path.{refl}
use Rattle.words.proofs.Chunks.{lay_none, lay_more, lay_all_lem}
use Rattle.facets.specs.Format.{facet_of, corner_at}
use Rattle.facets.proofs.Puts.{facet_length, facet_of_lem}
use Rattle.facets.proofs.write.put_facets.Goals as goal

pub loop-i-init : goal.loop-i-init
loop-i-init c = lay_none (facet_of (corner_at c.args.points.now c.args.faces.now)) 84 c.args.out.now

pub overflow_cast-faces : goal.overflow_cast-faces
overflow_cast-faces c = omega (arith, c.type_inv.faces (3 * c.loop-i.i))

pub point_at-p-requires : goal.point_at-p-requires
point_at-p-requires c =
    let start = c in
    start.requires.2.known (3 * c.loop-i.i) (let h = c.loop-i-test.true in let p = start.requires.1 in omega arith)

pub overflow_cast-faces-in-loop-i : goal.overflow_cast-faces-in-loop-i
overflow_cast-faces-in-loop-i c = omega (arith, c.type_inv.faces (3 * c.loop-i.i + 1))

pub point_at-q-requires : goal.point_at-q-requires
point_at-q-requires c =
    let loop = c.loop-i in
    let start = c in
    start.requires.2.known (3 * loop.i + 1) (let h = c.loop-i-test.true in let p = start.requires.1 in omega arith)

pub overflow_cast-faces-in-loop-i-2 : goal.overflow_cast-faces-in-loop-i-2
overflow_cast-faces-in-loop-i-2 c = omega (arith, c.type_inv.faces (3 * c.loop-i.i + 2))

pub point_at-r-requires : goal.point_at-r-requires
point_at-r-requires c =
    let loop-test = c.loop-i-test in
    let loop = c.loop-i in
    let start = c in
    start.requires.2.known (3 * loop.i + 2) (let h = loop-test.true in let p = start.requires.1 in omega arith)

pub loop-i-preserved : goal.loop-i-preserved
loop-i-preserved c =
    let f = c.put_facet in
    let l = c.loop-i in
    let corner = corner_at c.args.points.now c.args.faces.now in
    lay_more (facet_of corner) 50 (λ i. facet_length (corner (3 * i)) (corner (3 * i + 1)) (corner (3 * i + 2))) 84
    c.args.out.now l.out f.new.out l.i (84 + 50 * l.i) l.invariant refl
    (facet_of_lem corner l.i _ _ _ l.out f.new.out (84 + 50 * l.i) c.point_at-p.ensures c.point_at-q.ensures c.point_at-r.ensures f.ensures)

pub returns : goal.returns
returns c =
    lay_all_lem (facet_of (corner_at c.args.points.now c.args.faces.now)) 84 c.args.out.now _ _ _ c.loop-i.auto.i-end
    c.loop-i-test.false c.loop-i.invariant
