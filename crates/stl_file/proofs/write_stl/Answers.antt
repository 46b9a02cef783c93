-- `write_stl` meets its contract: one law for each way out. Assumes nothing.
use mathlib.Core.Path.{refl}
use native.Mathlib.Omega.{arith}
use Rattle.ranges.specs.Range.{first_outside, farthest}
use Rattle.ranges.proofs.Number.{below_some, below_none}
use Rattle.stl_file.proofs.Judged.{points_odd, faces_odd, many, outside, missing, names, short, written}
use Rattle.stl_file.proofs.write_stl.Goals as goal

pub returns-then-points-ne0 : goal.returns-then-points-ne0
returns-then-points-ne0 c =
    let start = c in
    points_odd start.args.points.now start.args.faces.now start.args.bytes.now _ c.type_inv.points c.not_written.ensures
    c.if-points-ne0.true

pub returns-then-faces-ne0 : goal.returns-then-faces-ne0
returns-then-faces-ne0 c =
    let start = c in
    faces_odd start.args.points.now start.args.faces.now start.args.bytes.now _ c.type_inv.points c.if-points-ne0.false
    c.not_written-then-faces-ne0.ensures c.if-faces-ne0.true

pub returns-then-n-gt1000000 : goal.returns-then-n-gt1000000
returns-then-n-gt1000000 c =
    let start = c in
    many start.args.points.now start.args.faces.now start.args.bytes.now _ c.type_inv.points c.if-points-ne0.false
    c.if-faces-ne0.false c.not_written-then-n-gt1000000.ensures c.if-n-gt1000000.true

pub returns-in-Some : goal.returns-in-Some
returns-in-Some c =
    let out = below_some c.in-Some.ensures in
    let if2 = c.if-faces-ne0 in
    let if1 = c.if-points-ne0 in
    let start = c in
    outside start.args.points.now start.args.faces.now start.args.bytes.now _ c.type_inv.points if1.false if2.false
    c.if-n-gt1000000.false _ out.0 c.not_written-in-Some.ensures (omega (arith, out.0, out.1))

pub returns-then-not-names_points : goal.returns-then-not-names_points
returns-then-not-names_points c =
    let if3 = c.if-n-gt1000000 in
    let if2 = c.if-faces-ne0 in
    let if1 = c.if-points-ne0 in
    let start = c in
    missing start.args.points.now start.args.faces.now start.args.bytes.now _ c.type_inv.points if1.false if2.false if3.false
    (first_outside farthest start.args.points.now) refl (below_none c.in_default.ensures) _ c.names_points.ensures c.not_written-then-not-names_points.ensures
    c.if-not-names_points.true

pub returns-then-bytes-n : goal.returns-then-bytes-n
returns-then-bytes-n c =
    let if3 = c.if-n-gt1000000 in
    let if2 = c.if-faces-ne0 in
    let if1 = c.if-points-ne0 in
    let start = c in
    short start.args.points.now start.args.faces.now start.args.bytes.now _ c.type_inv.points if1.false if2.false if3.false
    (first_outside farthest start.args.points.now) refl (below_none c.in_default.ensures) _ c.names_points.ensures c.if-not-names_points.false
    c.not_written-then-bytes-n.ensures
    c.if-bytes-n.true

pub put_file-requires : goal.put_file-requires
put_file-requires c =
    let if3 = c.if-n-gt1000000 in
    let if2 = c.if-faces-ne0 in
    let if1 = c.if-points-ne0 in
    let start = c in (
      c.if-bytes-n.false,
      if3.false,
      names start.args.points.now start.args.faces.now start.args.bytes.now
          (record { answer = 0; detail = 0; length = 0 }) c.type_inv.points if1.false if2.false if3.false (first_outside farthest start.args.points.now) refl
          (below_none c.in_default.ensures) _
          c.names_points.ensures c.if-not-names_points.false,
    )

pub returns : goal.returns
returns c =
    let if6 = c.if-bytes-n in
    let if5 = c.if-not-names_points in
    let names-points = c.names_points in
    let if3 = c.if-n-gt1000000 in
    let if2 = c.if-faces-ne0 in
    let if1 = c.if-points-ne0 in
    let start = c in
    written start.args.points.now start.args.faces.now start.args.bytes.now _ c.type_inv.points if1.false if2.false if3.false
    (first_outside farthest start.args.points.now) refl (below_none c.in_default.ensures) _ names-points.ensures if5.false _ if6.false refl c.put_file.ensures
