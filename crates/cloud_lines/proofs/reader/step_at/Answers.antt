-- `cloud_lines::reader::step_at` meets its contract: behind a line that was read lie the bytes that are left. Assumes
-- nothing.
use Rattle.cloud_lines.proofs.Means.{stepped_line, stepped_not}
use Rattle.cloud_lines.proofs.reader.step_at.Goals as goal

pub returns-in-Some : goal.returns-in-Some
returns-in-Some c =
    let a = c.args in
    let e = c.in-Some.ensures in
    stepped_line a.s.now a.at _ e.means e.in_bounds

pub returns-in-None : goal.returns-in-None
returns-in-None c =
    let a = c.args in
    stepped_not a.s.now a.at c.in-None.ensures.means
