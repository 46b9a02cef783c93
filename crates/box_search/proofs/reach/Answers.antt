use native.Mathlib.Omega.{arith}
use Rattle.box_search.proofs.Bounds.{reach_is, gap_is, six_at}
use Rattle.box_search.proofs.reach.Goals as goal

pub word_at-requires : goal.word_at-requires
word_at-requires c = six_at c.requires 0 (omega arith) _ (omega arith)

pub overflow_add-at : goal.overflow_add-at
overflow_add-at c = omega (arith, c.requires.long)

pub word_at-requires-2 : goal.word_at-requires-2
word_at-requires-2 c = six_at c.requires 3 (omega arith) _ (omega arith)

pub overflow_add-at-2 : goal.overflow_add-at-2
overflow_add-at-2 c = omega (arith, c.requires.long)

pub word_at-requires-3 : goal.word_at-requires-3
word_at-requires-3 c = six_at c.requires 1 (omega arith) _ (omega arith)

pub overflow_add-at-3 : goal.overflow_add-at-3
overflow_add-at-3 c = omega (arith, c.requires.long)

pub word_at-requires-4 : goal.word_at-requires-4
word_at-requires-4 c = six_at c.requires 4 (omega arith) _ (omega arith)

pub overflow_add-at-4 : goal.overflow_add-at-4
overflow_add-at-4 c = omega (arith, c.requires.long)

pub word_at-requires-5 : goal.word_at-requires-5
word_at-requires-5 c = six_at c.requires 2 (omega arith) _ (omega arith)

pub overflow_add-at-5 : goal.overflow_add-at-5
overflow_add-at-5 c = omega (arith, c.requires.long)

pub word_at-requires-6 : goal.word_at-requires-6
word_at-requires-6 c = six_at c.requires 5 (omega arith) _ (omega arith)

pub returns : goal.returns
returns c =
    let word-at5 = c.word_at-5 in
    let gap2 = c.gap-y in
    let word-at4 = c.word_at-4 in
    let word-at3 = c.word_at-3 in
    let gap = c.gap-x in
    let word-at2 = c.word_at-2 in
    let word_at = c.word_at in
    reach_is c.args.words.now c.args.at c.args.spot
    (gap_is c.args.spot.x word_at.ensures word-at2.ensures gap.ensures)
    (gap_is c.args.spot.y word-at3.ensures word-at4.ensures gap2.ensures)
    (gap_is c.args.spot.z word-at5.ensures c.word_at-6.ensures c.gap-z.ensures)
    c.point.ensures c.magnitude_squared.ensures
