-- `read_stl` meets its contract: one law for each way out. Assumes nothing.
use mathlib.Core.Path.{refl}
use Rattle.stl_file.proofs.Judged.{no_head, wrong_length, no_room_lem, got}
use Rattle.stl_file.proofs.read_stl.Goals as goal

pub returns-then-bytes-lt84 : goal.returns-then-bytes-lt84
returns-then-bytes-lt84 c =
    let start = c in
    no_head start.args.bytes.now start.args.corners.now _ c.not_read.ensures c.if-bytes-lt84.true

pub returns-then-bytes-n : goal.returns-then-bytes-n
returns-then-bytes-n c =
    let start = c in
    wrong_length start.args.bytes.now start.args.corners.now _ c.if-bytes-lt84.false _ c.word_at-n.ensures
    c.not_read-then-bytes-n.ensures c.if-bytes-n.true

pub returns-then-corners-n : goal.returns-then-corners-n
returns-then-corners-n c =
    let if1 = c.if-bytes-lt84 in
    let start = c in
    no_room_lem start.args.bytes.now start.args.corners.now _ if1.false _ c.word_at-n.ensures c.if-bytes-n.false
    c.not_read-then-corners-n.ensures c.if-corners-n.true

pub returns : goal.returns
returns c =
    let if3 = c.if-corners-n in
    let if2 = c.if-bytes-n in
    let word_at = c.word_at-n in
    let if1 = c.if-bytes-lt84 in
    let start = c in
    got start.args.bytes.now start.args.corners.now _ if1.false _ word_at.ensures if2.false _ if3.false refl
    c.read_facets.ensures
