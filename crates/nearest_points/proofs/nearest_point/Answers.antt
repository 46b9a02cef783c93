-- `nearest_point` meets its contract: a refusal of the checks, an index that is another cloud's, or the search in its
-- own index. The work slices are cleared before the two last. Assumes nothing.
use mathlib.Core.Path.{ap, ◌∙◌, subst⁻¹}
use mathlib.Core.List.{[], ◌∷◌}
use Prim.Native.Nat.{ℕ, ◌/◌}
use native.Mathlib.Omega.{arith}
use lib.ListN.{length, replicate}
use Rattle.answers.proofs.Outcome.{outcome_ok, outcome_err}
use Rattle.numbers.specs.Rounded.{f32}
use Rattle.ranges.proofs.Tests.{passed, failed}
use Rattle.vector.specs.Inner.Numbers.{Finite}
use Rattle.vector.specs.declared.Point3f.{Point3f}
use Rattle.ranges.specs.Range.{first_outside, farthest}
use Rattle.nearest.specs.Scan.{nearest}
use Rattle.nearest_points.specs.declared.Searched.{Searched}
use Rattle.nearest_points.specs.Found.{answer_of, nearest_of, search_refusal}
use Rattle.nearest_points.proofs.Refused.{accepted, one_finite}
use Rattle.nearest_points.proofs.Outcome.{detail_small, early, own_words, zero_answer, one_refused, one_foreign, one_found}
use Rattle.nearest_points.proofs.nearest_point.Goals as goal

pub overflow_cast-refusal : goal.overflow_cast-refusal
unfolding search_refusal
overflow_cast-refusal c =
    let a = c.args in
    let f = early a.points.now (a.x ∷ a.y ∷ a.z ∷ []) a.index.now a.words.now a.floats.now in
    let t = outcome_err f.answer (answer_of f.answer f.detail) c.in-Err.ensures in
    let d = ap (λ (q : Searched). q.detail) t.0 in
    let small = detail_small (length a.points.now) (first_outside farthest a.points.now) (length a.index.now) (length a.words.now)
    (length a.floats.now) a.x a.y a.z in
    omega (arith, d, small)

pub returns-in-Err : goal.returns-in-Err
returns-in-Err c =
    let a = c.args in
    let f = early a.points.now (a.x ∷ a.y ∷ a.z ∷ []) a.index.now a.words.now a.floats.now in
    let t = outcome_err f.answer (answer_of f.answer f.detail) c.in-Err.ensures in
    let is = c.nearest_of.ensures ∙ ap (λ (q : Searched). nearest_of q.answer q.detail 0 (f32 0)) t.0 in
    one_refused a.points.now a.x a.y a.z a.index.now a.words.now a.floats.now (own_words f) t.1 is

pub matches-own-requires : goal.matches-own-requires
matches-own-requires c =
    let a = c.args in
    let f = early a.points.now (a.x ∷ a.y ∷ a.z ∷ []) a.index.now a.words.now a.floats.now in
    let e = own_words f in
    let passed-all = outcome_ok f.answer (answer_of f.answer f.detail) c.in_default.ensures in
    let k = accepted a.points.now (a.x ∷ a.y ∷ a.z ∷ []) (length a.index.now) (length a.words.now) (length a.floats.now)
    (zero_answer a.points.now (a.x ∷ a.y ∷ a.z ∷ []) a.index.now a.words.now a.floats.now e passed-all) in
    (record { cloud = k.cloud; index_enough = k.index_enough; floats_enough = k.room.floats_enough }, omega (arith, k.room.words_enough))

pub returns-then-not-own : goal.returns-then-not-own
returns-then-not-own c =
    let zeros = c.clear-2 in
    let cleared = c.clear in
    let matches = c.matches-own in
    let a = c.args in
    let f = early a.points.now (a.x ∷ a.y ∷ a.z ∷ []) a.index.now a.words.now a.floats.now in
    let e = own_words f in
    let passed-all = outcome_ok f.answer (answer_of f.answer f.detail) c.in_default.ensures in
    one_foreign a.points.now a.x a.y a.z a.index.now a.words.now a.floats.now e passed-all
    (cleared.ensures ∙ ap (λ (n : ℕ). replicate n 0) matches.auto.words)
    (zeros.ensures ∙ ap (λ (n : ℕ). replicate n (f32 0)) matches.auto.floats) (failed matches.ensures c.if-not-own.true)
    c.nearest_of-then-not-own.ensures

pub width_of-width-requires : goal.width_of-width-requires
width_of-width-requires c =
    let a = c.args in
    let f = early a.points.now (a.x ∷ a.y ∷ a.z ∷ []) a.index.now a.words.now a.floats.now in
    let e = own_words f in
    let passed-all = outcome_ok f.answer (answer_of f.answer f.detail) c.in_default.ensures in
    let k = accepted a.points.now (a.x ∷ a.y ∷ a.z ∷ []) (length a.index.now) (length a.words.now) (length a.floats.now)
    (zero_answer a.points.now (a.x ∷ a.y ∷ a.z ∷ []) a.index.now a.words.now a.floats.now e passed-all) in
    (k.cloud.some, k.cloud.few)

pub nearest_in-best-requires : goal.nearest_in-best-requires
nearest_in-best-requires c =
    let matches = c.matches-own in
    let a = c.args in
    let f = early a.points.now (a.x ∷ a.y ∷ a.z ∷ []) a.index.now a.words.now a.floats.now in
    let e = own_words f in
    let passed-all = outcome_ok f.answer (answer_of f.answer f.detail) c.in_default.ensures in
    let k = accepted a.points.now (a.x ∷ a.y ∷ a.z ∷ []) (length a.index.now) (length a.words.now) (length a.floats.now)
    (zero_answer a.points.now (a.x ∷ a.y ∷ a.z ∷ []) a.index.now a.words.now a.floats.now e passed-all) in (
      record { cloud = k.cloud; own = passed matches.ensures c.if-not-own.false },
      c.width_of-width.ensures.0,
      c.width_of-width.ensures.1,
      subst⁻¹ Finite c.point.ensures (one_finite a.x a.y a.z k.near),
    )

pub returns : goal.returns
returns c =
    let if2 = c.if-not-own in
    let zeros = c.clear-2 in
    let cleared = c.clear in
    let matches = c.matches-own in
    let a = c.args in
    let f = early a.points.now (a.x ∷ a.y ∷ a.z ∷ []) a.index.now a.words.now a.floats.now in
    let e = own_words f in
    let passed-all = outcome_ok f.answer (answer_of f.answer f.detail) c.in_default.ensures in
    one_found a.points.now a.x a.y a.z a.index.now a.words.now a.floats.now e passed-all
    (cleared.ensures ∙ ap (λ (n : ℕ). replicate n 0) matches.auto.words)
    (zeros.ensures ∙ ap (λ (n : ℕ). replicate n (f32 0)) matches.auto.floats) (passed matches.ensures if2.false) c.nearest_of-2.ensures
    ((λ i. record {
      distance = c.sqrt-distance.ensures i;
      number = c.nearest_in-best.result.number;
    }) ∙ c.nearest_in-best.ensures ∙ ap
    (λ (p : Point3f). nearest a.points.now (length a.points.now / 3) p) c.point.ensures)
