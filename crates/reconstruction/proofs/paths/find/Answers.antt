-- By the radii one path or the other. Assumes nothing.
use native.Mathlib.Omega.{arith}
use Rattle.ball_pivoting.proofs.Found.{listed_none, listed_self, finds_plain, finds_laid}
use Rattle.reconstruction.proofs.paths.find.Goals as goal

pub find_plain-requires : goal.find_plain-requires
find_plain-requires c =
    let survey = c.survey-known in
    let start = c in
    let z = start.requires.sized in
    let k = start.requires.floats_enough in (
      z.few,
      omega (arith, z.words_enough, survey.auto.words),
      omega (arith, k, survey.auto.floats),
      listed_none _ _ survey.ensures.2
          c.if-radii-eq0.true,
    )

pub returns-then-radii-eq0 : goal.returns-then-radii-eq0
returns-then-radii-eq0 c =
    let find-plain = c.find_plain in
    let if1 = c.if-radii-eq0 in
    let survey = c.survey-known in
    finds_plain _ _ _ _ _ _ _ survey.ensures.0 survey.ensures.2 if1.true find-plain.ensures

pub find_pivoting-requires : goal.find_pivoting-requires
find_pivoting-requires c = let e = c.survey-known.ensures in
    let some = c.if-radii-eq0.false in
    (e.1, listed_self _ _ e.2, omega arith)

pub returns : goal.returns
returns c =
    let find-pivoting = c.find_pivoting in
    let if1 = c.if-radii-eq0 in
    let survey = c.survey-known in
    let start = c in
    finds_laid _ _ _ _ _ _ _ survey.ensures.0 start.requires.settled start.requires.sized survey.ensures.2 if1.false find-pivoting.ensures
