-- `cloud_lines::reader::store_lines` meets its contract: each turn stores one line more, from the place where the reader
-- stands. Assumes nothing.
use mathlib.Core.Path.{refl, ◌∙◌}
use Rattle.cloud_lines.proofs.Placing.{none_stored, one_stored}
use Rattle.cloud_lines.proofs.reader.store_lines.Goals as goal

pub loop-k-init : goal.loop-k-init
loop-k-init c = record { kept = refl; stored = none_stored _ _ _ _ }

pub loop-k-preserved : goal.loop-k-preserved
loop-k-preserved c =
    let before = c.loop-k.invariant in
    let next = c.next_line-m in
    let line = rw before.kept at next.ensures.1 in
    record {
      kept = next.ensures.0 ∙ before.kept;
      stored = one_stored _ _ _ _ _ _ _ _ _ _ _ _ before.stored line c.put_line.ensures;
    }
