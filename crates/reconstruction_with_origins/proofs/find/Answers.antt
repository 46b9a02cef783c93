-- By the radii one path or the other. Assumes nothing.
use mathlib.Core.List.{[]}
use native.Mathlib.Omega.{arith}
use Rattle.ball_pivoting.proofs.Found.{listed_none, listed_self, finds_plain, finds_laid}
use Rattle.reconstruction_with_origins.proofs.Finding.{for_laid, for_counted, for_plain}
use Rattle.reconstruction_with_origins.proofs.find.Goals as goal

pub find_pivoting-requires : goal.find_pivoting-requires
find_pivoting-requires c = let e = c.survey-known.ensures in
    let some = c.if-radii-ne0.true in
    (e.1, listed_self _ _ e.2, omega arith)

pub returns-then-radii-ne0 : goal.returns-then-radii-ne0
returns-then-radii-ne0 c =
    let find-pivoting = c.find_pivoting in
    let if1 = c.if-radii-ne0 in
    let survey = c.survey-known in
    let start = c in
    let e = survey.ensures in
    for_laid _ _ _ _ _ _ e.2 _ if1.true
    (finds_laid _ _ _ _ _ _ _ e.0 start.requires.settled start.requires.sized e.2 if1.true find-pivoting.ensures)

pub count_plain-requires : goal.count_plain-requires
count_plain-requires c =
    let if1 = c.if-radii-ne0 in
    let survey = c.survey-known in
    let start = c in
    let z = start.requires.sized in
    let k = start.requires.floats_enough in (
      z.few,
      omega (arith, z.words_enough, survey.auto.words),
      omega (arith, k, survey.auto.floats),
      listed_none _ _ survey.ensures.2
          if1.false,
    )

pub returns-then-turned : goal.returns-then-turned
returns-then-turned c =
    let count-plain = c.count_plain in
    let if2 = c.if-turned in
    let if1 = c.if-radii-ne0 in
    let survey = c.survey-known in
    let e = survey.ensures in
    for_counted _ _ _ _ _ _ e.2 _ if2.true if1.false (finds_plain _ _ _ _ [] _ [] e.0 e.2 if1.false count-plain.ensures.0)
    count-plain.ensures.1

pub find_plain-requires : goal.find_plain-requires
find_plain-requires c =
    let if1 = c.if-radii-ne0 in
    let survey = c.survey-known in
    let start = c in
    let z = start.requires.sized in
    let k = start.requires.floats_enough in (
      z.few,
      omega (arith, z.words_enough, survey.auto.words),
      omega (arith, k, survey.auto.floats),
      listed_none _ _ survey.ensures.2
          if1.false,
    )

pub returns : goal.returns
returns c =
    let find-plain = c.find_plain in
    let if2 = c.if-turned in
    let if1 = c.if-radii-ne0 in
    let survey = c.survey-known in
    let e = survey.ensures in
    for_plain _ _ _ _ _ _ e.2 _ if2.false (finds_plain _ _ _ _ _ _ _ e.0 e.2 if1.false find-plain.ensures)
