-- `face_lines::line::line_at` meets its contract: each way out is a case of `line`. Assumes nothing.
use Rattle.numerals.specs.Format.{then}
use Rattle.numerals.specs.Inner.Answers.{taken_means}
use Rattle.face_lines.specs.Format.{line}
use Rattle.face_lines.specs.Inner.Answers.{line_means}
use Rattle.face_lines.proofs.line.line_at.Goals as goal

pub returns-in_err-a : goal.returns-in_err-a
unfolding taken_means line_means line then
returns-in_err-a c = rw (c.from_residual.ensures, ← c.in_err-a.ensures)

pub returns-in_err-b : goal.returns-in_err-b
unfolding taken_means line_means line then
returns-in_err-b c = rw (c.from_residual-in_err-b.ensures, ← c.in_ok-a.ensures, ← c.in_err-b.ensures)

pub returns-in_err-c : goal.returns-in_err-c
unfolding taken_means line_means line then
returns-in_err-c c =
    rw (c.from_residual-in_err-c.ensures, ← c.in_ok-a.ensures, ← c.in_ok-b.ensures, ← c.in_err-c.ensures)

pub returns : goal.returns
unfolding taken_means line_means line then
returns c = rw (← c.in_ok-a.ensures, ← c.in_ok-b.ensures, ← c.in_ok-c.ensures)
