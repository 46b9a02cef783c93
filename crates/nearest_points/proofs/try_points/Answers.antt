-- `nearest_points` meets its contract: a refusal of the checks, too little room, an index that is another cloud's, or
-- the search for each spot. The work slices are cleared before the three last. Assumes nothing.
use mathlib.Core.Path.{refl, ap, ◌∙◌}
use Prim.Native.Nat.{ℕ}
use native.Mathlib.Omega.{arith}
use lib.ListN.{length, replicate}
use Rattle.std.proofs.lemmas.Result.{err_from_is_err_and}
use Rattle.answers.proofs.Outcome.{outcome_ok, outcome_err}
use Rattle.numbers.specs.Rounded.{f32}
use Rattle.ranges.proofs.Tests.{passed, failed}
use Rattle.nearest_points.specs.Found.{answer_of}
use Rattle.nearest_points.proofs.Refused.{accepted}
use Rattle.nearest_points.proofs.Outcome.{early, own_words, zero_answer, late_short, late_foreign, late_none, many_refused, many_left, many_found}
use Rattle.nearest_points.proofs.try_points.Goals as goal

pub returns-in_err-refusal_of_search : goal.returns-in_err-refusal_of_search
returns-in_err-refusal_of_search c =
    let a = c.args in
    let e = early a.points.now a.spots.now a.index.now a.words.now a.floats.now in
    let t = outcome_err e.answer (answer_of e.answer e.detail) c.in_err-refusal_of_search.ensures in
    let r = err_from_is_err_and c.from_residual.result c.from_residual.ensures.1 in
    rw (r.1, r.2, t.0)
    (many_refused a.points.now a.spots.now a.index.now a.words.now a.floats.now (own_words e) a.found.now t.1)

pub matches-own-requires : goal.matches-own-requires
matches-own-requires c =
    let a = c.args in
    let f = early a.points.now a.spots.now a.index.now a.words.now a.floats.now in
    let e = own_words f in
    let passed-all = outcome_ok f.answer (answer_of f.answer f.detail) c.in_ok-refusal_of_search.ensures in
    let k = accepted a.points.now a.spots.now (length a.index.now) (length a.words.now) (length a.floats.now)
    (zero_answer a.points.now a.spots.now a.index.now a.words.now a.floats.now e passed-all) in
    (record { cloud = k.cloud; index_enough = k.index_enough; floats_enough = k.room.floats_enough }, omega (arith, k.room.words_enough))

pub returns-then-found-spots : goal.returns-then-found-spots
returns-then-found-spots c =
    let zeros = c.clear-2 in
    let cleared = c.clear in
    let matches = c.matches-own in
    let a = c.args in
    let f = early a.points.now a.spots.now a.index.now a.words.now a.floats.now in
    let e = own_words f in
    let passed-all = outcome_ok f.answer (answer_of f.answer f.detail) c.in_ok-refusal_of_search.ensures in
    many_left a.points.now a.spots.now a.index.now a.words.now a.floats.now e a.found.now passed-all
    (cleared.ensures ∙ ap (λ (n : ℕ). replicate n 0) matches.auto.words)
    (zeros.ensures ∙ ap (λ (n : ℕ). replicate n (f32 0)) matches.auto.floats) 13 (λ z. omega (arith, z)) c.answer_of.ensures
    (late_short a.points.now a.spots.now a.index.now a.words.now a.floats.now e (length a.found.now) passed-all
    c.if-found-spots.true)

pub returns-then-not-own : goal.returns-then-not-own
returns-then-not-own c =
    let zeros = c.clear-2 in
    let cleared = c.clear in
    let matches = c.matches-own in
    let a = c.args in
    let f = early a.points.now a.spots.now a.index.now a.words.now a.floats.now in
    let e = own_words f in
    let passed-all = outcome_ok f.answer (answer_of f.answer f.detail) c.in_ok-refusal_of_search.ensures in
    many_left a.points.now a.spots.now a.index.now a.words.now a.floats.now e a.found.now passed-all
    (cleared.ensures ∙ ap (λ (n : ℕ). replicate n 0) matches.auto.words)
    (zeros.ensures ∙ ap (λ (n : ℕ). replicate n (f32 0)) matches.auto.floats) 22 (λ z. omega (arith, z)) c.answer_of-then-not-own.ensures
    (late_foreign a.points.now a.spots.now a.index.now a.words.now a.floats.now e (length a.found.now) passed-all
    c.if-found-spots.false (failed matches.ensures c.if-not-own.true))

pub width_of-width-requires : goal.width_of-width-requires
width_of-width-requires c =
    let a = c.args in
    let f = early a.points.now a.spots.now a.index.now a.words.now a.floats.now in
    let e = own_words f in
    let passed-all = outcome_ok f.answer (answer_of f.answer f.detail) c.in_ok-refusal_of_search.ensures in
    let k = accepted a.points.now a.spots.now (length a.index.now) (length a.words.now) (length a.floats.now)
    (zero_answer a.points.now a.spots.now a.index.now a.words.now a.floats.now e passed-all) in
    (k.cloud.some, k.cloud.few)

pub fill-requires : goal.fill-requires
fill-requires c =
    let matches = c.matches-own in
    let a = c.args in
    let f = early a.points.now a.spots.now a.index.now a.words.now a.floats.now in
    let e = own_words f in
    let passed-all = outcome_ok f.answer (answer_of f.answer f.detail) c.in_ok-refusal_of_search.ensures in
    let k = accepted a.points.now a.spots.now (length a.index.now) (length a.words.now) (length a.floats.now)
    (zero_answer a.points.now a.spots.now a.index.now a.words.now a.floats.now e passed-all) in record {
      own_index = (
        record { cloud = k.cloud; own = passed matches.ensures c.if-not-own.false },
        c.width_of-width.ensures.0,
        c.width_of-width.ensures.1,
      );
      values_within = (k.near, c.if-found-spots.false);
    }

pub returns : goal.returns
returns c =
    let if3 = c.if-not-own in
    let if2 = c.if-found-spots in
    let zeros = c.clear-2 in
    let cleared = c.clear in
    let matches = c.matches-own in
    let a = c.args in
    let f = early a.points.now a.spots.now a.index.now a.words.now a.floats.now in
    let e = own_words f in
    let passed-all = outcome_ok f.answer (answer_of f.answer f.detail) c.in_ok-refusal_of_search.ensures in
    many_found a.points.now a.spots.now a.index.now a.words.now a.floats.now e a.found.now passed-all
    (cleared.ensures ∙ ap (λ (n : ℕ). replicate n 0) matches.auto.words)
    (zeros.ensures ∙ ap (λ (n : ℕ). replicate n (f32 0)) matches.auto.floats) refl
    (late_none a.points.now a.spots.now a.index.now a.words.now a.floats.now e (length a.found.now) passed-all if2.false
    (passed matches.ensures if3.false)) c.fill.ensures
