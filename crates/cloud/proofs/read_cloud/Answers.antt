-- `cloud::read_cloud` meets its contract: the radius line decides which case of `file` holds. Assumes nothing.
use mathlib.Core.Path.{sym}
use lib.ListN.{length}
use Rattle.numerals.specs.Inner.Answers.{taken_means}
use Rattle.cloud.proofs.Answer.{answer_refused, outcome_radius, outcome_no_radius}
use Rattle.cloud.proofs.read_cloud.Goals as goal

pub returns-in-Some : goal.returns-in-Some
unfolding taken_means
returns-in-Some c =
    let s = c.args in
    rw (outcome_radius s.bytes.now (length s.points.now) (length s.normals.now) _ _ (sym c.in-Some.ensures))
    c.read_points.ensures

pub returns-in-None : goal.returns-in-None
unfolding taken_means
returns-in-None c =
    answer_refused _ 10 1 _ _ _ (outcome_no_radius _ _ _ (sym c.in-None.ensures)) c.refused.ensures
