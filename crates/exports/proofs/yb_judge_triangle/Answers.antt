-- `exports::yb_judge_triangle` meets its contract: it is the call's answer in numbers. Assumes nothing.
use mathlib.Core.Path.{ap, ◌∙◌}
use Rattle.verdict.specs.Numbered.{verdict_numbers}
use Rattle.exports.proofs.yb_judge_triangle.Goals as goal

pub returns : goal.returns
returns c = c.numbered.ensures ∙ ap verdict_numbers c.judge_triangle.ensures
