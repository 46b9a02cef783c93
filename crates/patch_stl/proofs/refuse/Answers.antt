-- The line fits, whatever the answer and the detail. Assumes nothing.
use mathlib.Core.Path.{sym, ◌∙◌}
use borrow.Author.Rules.{rules}
use Rattle.patch_stl.proofs.Outputs.{line_written, line_output}
use Rattle.patch_stl.proofs.refuse.Goals as goal

pub unwrap-requires : goal.unwrap-requires
unwrap-requires c =
    let a = c.args in
    rw (line_written a.answer a.detail a.out.now c.ranges.answer.fits c.ranges.detail.fits c.requires _ c.write_refusal.ensures.0) (search rules)

pub returns : goal.returns
returns c =
    let w = c.write_refusal.ensures in
    line_output _ _ _ c.ranges.answer.fits c.ranges.detail.fits c.requires _ _ (sym c.unwrap.ensures ∙ w.0) w.1
