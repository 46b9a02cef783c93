-- `cloud_lines::reader::store_lines`: after k lines, the slices hold what k lines store, and the reader stands behind them.
use Rattle.std.proofs.Common.{◌≡◌}
use Rattle.cloud_lines.specs.Inner.Storing.{StoredLines}
use Rattle.cloud_lines.proofs.reader.store_lines.Given as goal

abbrev pub invariant-loop-k : goal.invariant-loop-k
invariant-loop-k l = record {
  kept : l.r.src ≡ l.initial.r.src;
  stored : StoredLines l.src l.from l.k l.r.at l.initial.points l.initial.normals l.points l.normals;
}
