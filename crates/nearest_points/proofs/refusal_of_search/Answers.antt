-- `refusal_of_search` meets its contract: each way out is the first of the checks that fails, and what the tests before
-- it said is that those before pass. Assumes nothing.
use mathlib.Core.Path.{◌≡◌, sym, ap, ◌∙◌}
use native.Mathlib.Omega.{arith}
use Prim.Native.Nat.{ℕ, ◌+◌, ◌/◌}
use lib.ListN.{length}
use Rattle.ranges.specs.Range.{first_outside, farthest}
use Rattle.ranges.proofs.Number.{below_some, below_none}
use Rattle.domain.specs.Refusals.{refusal, first_refusal}
use Rattle.nearest_points.specs.Found.{answer_of, checks_by, search_refusal}
use Rattle.nearest_points.proofs.Refused.{told, none, not_threes, spots_not_threes, many, point_out, spot_out, few_words, few_floats, short_index}
use Rattle.nearest_points.proofs.Refused.{all_passed}
use Rattle.nearest_points.proofs.refusal_of_search.Goals as goal
use Rattle.nearest_points.proofs.refusal_of_search.Goals.{then-points-ne0-via-then-points-ne0, then-points-ne0-via-else-points-ne0+then-spots-ne0}
use Rattle.nearest_points.proofs.refusal_of_search.Goals.{then-words-n-via-then-words-n, then-words-n-via-else-words-n+then-floats-n}
use Rattle.nearest_points.proofs.refusal_of_search.Goals.{then-words-n-via-else-words-n+else-floats-n+then-index-n}

pub returns-then-points-eq0 : goal.returns-then-points-eq0
unfolding search_refusal
returns-then-points-eq0 c =
    let a = c.args in
    let p = length a.points.now in
    let s = length a.spots.now in
    let b = first_outside farthest a.points.now in
    let t = first_outside farthest a.spots.now in
    told c.answer_of.ensures (none p s b t a.index a.words a.floats c.if-points-eq0.true) (λ z. omega arith)

pub returns-then-points-ne0 : goal.returns-then-points-ne0
unfolding search_refusal
returns-then-points-ne0 c =
    let a = c.args in
    let p = length a.points.now in
    let s = length a.spots.now in
    let b = first_outside farthest a.points.now in
    let t = first_outside farthest a.spots.now in
    let odd : refusal 2 0 ≡ first_refusal (checks_by p s b t a.index a.words a.floats) = elim c.then-points-ne0.branch [
      | then-points-ne0-via-then-points-ne0 w ↦ not_threes p s b t a.index a.words a.floats c.if-points-eq0.false w.if-points-ne0.true
      | then-points-ne0-via-else-points-ne0+then-spots-ne0 w ↦
          spots_not_threes p s b t a.index a.words a.floats c.if-points-eq0.false w.if-points-ne0.false w.if-spots-ne0.true
    ] in
    told c.answer_of-then-points-ne0.ensures odd (λ z. omega arith)

pub returns-then-n-gt4096 : goal.returns-then-n-gt4096
unfolding search_refusal
returns-then-n-gt4096 c =
    let a = c.args in
    let p = length a.points.now in
    let s = length a.spots.now in
    let b = first_outside farthest a.points.now in
    let t = first_outside farthest a.spots.now in
    told c.answer_of-then-n-gt4096.ensures
    (many p s b t a.index a.words a.floats c.if-points-eq0.false c.if-points-ne0.false c.if-spots-ne0.false c.if-n-gt4096.true)
    (λ z. omega arith)

pub returns-in-Some : goal.returns-in-Some
unfolding search_refusal
returns-in-Some c =
    let a = c.args in
    let p = length a.points.now in
    let s = length a.spots.now in
    let b = first_outside farthest a.points.now in
    let t = first_outside farthest a.spots.now in
    let out = below_some c.in-Some.ensures in
    told c.answer_of-in-Some.ensures
    (ap (refusal 4) out.0
    ∙ point_out p s b t a.index a.words a.floats c.if-points-eq0.false c.if-points-ne0.false c.if-spots-ne0.false c.if-n-gt4096.false out.1)
    (λ z. omega arith)

pub returns-in-Some-first_outside : goal.returns-in-Some-first_outside
unfolding search_refusal
returns-in-Some-first_outside c =
    let a = c.args in
    let p = length a.points.now in
    let s = length a.spots.now in
    let b = first_outside farthest a.points.now in
    let t = first_outside farthest a.spots.now in
    let out = below_some c.in-Some-first_outside.ensures in
    told c.answer_of-in-Some-first_outside.ensures
    (ap (λ (k : ℕ). refusal 4 (p / 3 + k)) out.0
    ∙ spot_out p s b t a.index a.words a.floats c.if-points-eq0.false c.if-points-ne0.false c.if-spots-ne0.false c.if-n-gt4096.false
    (below_none c.in_default.ensures) out.1)
    (λ z. omega arith)

pub returns-then-words-n : goal.returns-then-words-n
unfolding search_refusal
returns-then-words-n c =
    let a = c.args in
    let p = length a.points.now in
    let s = length a.spots.now in
    let b = first_outside farthest a.points.now in
    let t = first_outside farthest a.spots.now in
    let points-in = below_none c.in_default.ensures in
    let spots-in = below_none c.in_default-first_outside.ensures in
    let some = c.if-points-eq0.false in
    let threes = c.if-points-ne0.false in
    let spot-threes = c.if-spots-ne0.false in
    let few = c.if-n-gt4096.false in
    let short : refusal 7 0 ≡ first_refusal (checks_by p s b t a.index a.words a.floats) = elim c.then-words-n.branch [
      | then-words-n-via-then-words-n w ↦
          few_words p s b t a.index a.words a.floats some threes spot-threes few points-in spots-in w.if-words-n.true
      | then-words-n-via-else-words-n+then-floats-n w ↦
          few_floats p s b t a.index a.words a.floats some threes spot-threes few points-in spots-in w.if-words-n.false w.if-floats-n.true
      | then-words-n-via-else-words-n+else-floats-n+then-index-n w ↦
          short_index p s b t a.index a.words a.floats some threes spot-threes few points-in spots-in w.if-words-n.false w.if-floats-n.false
          w.if-index-n.true
    ] in
    told c.answer_of-then-words-n.ensures short (λ z. omega arith)

pub returns : goal.returns
unfolding search_refusal
returns c =
    let a = c.args in
    let p = length a.points.now in
    let s = length a.spots.now in
    let b = first_outside farthest a.points.now in
    let t = first_outside farthest a.spots.now in
    let passed : first_refusal (checks_by p s b t a.index a.words a.floats) ≡ refusal 0 0 = sym
    (all_passed p s b t a.index a.words a.floats c.if-points-eq0.false c.if-points-ne0.false c.if-spots-ne0.false c.if-n-gt4096.false
    (below_none c.in_default.ensures) (below_none c.in_default-first_outside.ensures) c.if-words-n.false c.if-floats-n.false c.if-index-n.false) in
    rw passed
