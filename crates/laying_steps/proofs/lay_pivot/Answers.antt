-- `laying_steps::lay_pivot` meets its contract. Assumes nothing.
use Rattle.laying_steps.proofs.Work.{pivot_takes, face_only}
use Rattle.laying_steps.proofs.lay_pivot.Goals as goal

pub returns : goal.returns
returns c =
    let p = c in
    let m = p in
    let f = m in
    let s = f in
    let pushed = p.add_triangle_edges_to_frontier in
    let marked = m.mark_used in
    let wrote = f.put_face in record {
      takes = pivot_takes s.args.n s.args.c s.args.w.now marked.new.w pushed.new.w s.args.faces.now wrote.new.faces s.args.a
          s.args.b s.args.k wrote.ensures marked.ensures pushed.ensures;
      only_in = face_only s.args.n _ _ _ s.args.w.now marked.new.w pushed.new.w marked.ensures pushed.ensures;
    }
