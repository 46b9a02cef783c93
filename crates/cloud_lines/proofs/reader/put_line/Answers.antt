-- `cloud_lines::reader::put_line` meets its contract. Assumes nothing.
use mathlib.Core.Path.{◌∙◌}
use Rattle.cloud_lines.specs.Inner.Storing.{position_of, normal_of}
use Rattle.cloud_lines.proofs.Placing.{placed_point, placed_malformed}
use Rattle.cloud_lines.proofs.reader.put_line.Goals as goal

pub returns-in-Some : goal.returns-in-Some
returns-in-Some c =
    let point = c.in-Some.is in (
      c.put_triple.ensures ∙ placed_point position_of _ _ _ _ point,
      c.put_triple-in-Some.ensures ∙ placed_point normal_of _ _ _ _ point,
    )

pub returns-in_default : goal.returns-in_default
returns-in_default c =
    let malformed = c.in_default.is in
    (placed_malformed position_of _ _ _ malformed, placed_malformed normal_of _ _ _ malformed)
