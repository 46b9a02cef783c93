-- Laws of the checks: 1 to 5 of the main call, then those of the three numbers; and what holds where all pass. Assumes
-- nothing.
use mathlib.Core.Path.{◌≡◌, refl}
use mathlib.Core.Bool.{◌&&◌}
use mathlib.Core.Logic.{◌≢◌}
use mathlib.Core.List.{List}
use Prim.Native.Nat.{ℕ, ◌+◌, ◌*◌, ◌/◌, ◌≤◌, ◌<◌}
use native.Mathlib.Omega.{arith}
use lib.Dec.{ltb}
use lib.ListN.{length}
use lib.Ieee.{Float}
use borrow.Author.Tests.{lt-ltb, le-ltb, eq-eqb, ne_eqb, ltb-true}
use Rattle.std.specs.Prelude.{Ok, Err}
use Rattle.lists.proofs.Bools.{and_both}
use Rattle.answers.proofs.Outcome.{outcome_ok, outcome_err}
use Rattle.domain.specs.Inner.Outcome.{result_of}
use Rattle.settings.specs.declared.BallPivotingConfig.{BallPivotingConfig}
use Rattle.domain.specs.Refusals.{Check, check, refusal, first_refusal, input_checks}
use Rattle.domain.specs.Inner.Accepted.{AcceptedInput}
use Rattle.domain.specs.declared.Refusal.{Refusal}
use Rattle.domain.proofs.Refusals.{check_accepted, numbered, row_refused, row_passed, rows_accepted}
use Rattle.domain.proofs.Accepted.{accepted_input}
use Rattle.verdict.specs.Judged.{number_checks, judge_refusal, verdict_at, judged}
use Rattle.verdict.specs.declared.MeasuredKind.{MeasuredKind}

-- ---- the three numbers
module _ (n i j k : ℕ) where
  abbrev numbers : Refusal
  numbers = first_refusal (number_checks n i j k)

  pub first_missing : n ≤ i → numbers ≡ refusal 14 0
  unfolding first_refusal
  first_missing h = rw (le-ltb i n h)

  module _ (a : i < n) where
    pub second_missing : n ≤ j → numbers ≡ refusal 14 0
    unfolding first_refusal
    second_missing h = rw (lt-ltb i n a, le-ltb j n h)

    module _ (b : j < n) where
      pub third_missing : n ≤ k → numbers ≡ refusal 14 0
      unfolding first_refusal
      third_missing h = rw (lt-ltb i n a, lt-ltb j n b, le-ltb k n h)

      module _ (c : k < n) where
        pub first_equal : i ≡ j → numbers ≡ refusal 17 0
        unfolding first_refusal
        first_equal e = rw (lt-ltb i n a, lt-ltb j n b, lt-ltb k n c, eq-eqb i j e)

        pub second_equal : i ≢ j → j ≡ k → numbers ≡ refusal 17 0
        unfolding first_refusal
        second_equal d e = rw (lt-ltb i n a, lt-ltb j n b, lt-ltb k n c, ne_eqb i j d, eq-eqb j k e)

        pub third_equal : i ≢ j → j ≢ k → k ≡ i → numbers ≡ refusal 17 0
        unfolding first_refusal
        third_equal d f e = rw (lt-ltb i n a, lt-ltb j n b, lt-ltb k n c, ne_eqb i j d, ne_eqb j k f, eq-eqb k i e)

        pub none_equal : i ≢ j → j ≢ k → k ≢ i → numbers ≡ refusal 0 0
        unfolding first_refusal
        none_equal d f e = rw (lt-ltb i n a, lt-ltb j n b, lt-ltb k n c, ne_eqb i j d, ne_eqb j k f, ne_eqb k i e)

  numbers_inside : (first_refusal (number_checks n i j k)).answer ≡ 0 → (i < n) × (j < n) × (k < n)
  numbers_inside e =
      let c = check_accepted (check (ltb i n && ltb j n && ltb k n) 14 0) _ (λ h. omega arith) e in
      let a = and_both {p = ltb i n && ltb j n} {q = ltb k n} c.0 in
      let b = and_both {p = ltb i n} {q = ltb j n} a.0 in
      (ltb-true i n b.0, ltb-true j n b.1, ltb-true k n a.1)

-- ---- 1 to 5, then the numbers
module _ (points normals : List Float) (settings : BallPivotingConfig) (i j k : ℕ) where
  abbrev n : ℕ
  n = length points / 3

  abbrev first : List Check
  first = input_checks points normals settings

  pub judge_first : (r : Refusal) → Err r ≡ result_of (first_refusal first) → Err r ≡ result_of (judge_refusal points normals settings i j k)
  unfolding judge_refusal numbered
  judge_first r e = row_refused first (number_checks n i j k) refl r e

  pub judge_numbers : {u : Unit {0}} → Ok u ≡ result_of (first_refusal first)
      → judge_refusal points normals settings i j k ≡ first_refusal (number_checks n i j k)
  unfolding judge_refusal numbered
  judge_numbers e = row_passed first (number_checks n i j k) refl e

  -- what holds where all checks pass
  pub record AcceptedJudging : Type 0 where
    pub accepted : AcceptedInput points normals settings
    pub inside : (i < n) × (j < n) × (k < n)

  pub accepted_judging : (judge_refusal points normals settings i j k).answer ≡ 0 → AcceptedJudging
  unfolding judge_refusal numbered
  accepted_judging e =
      let b = rows_accepted first (number_checks n i j k) refl e in
      record { accepted = accepted_input points normals settings b.0; inside = numbers_inside n i j k b.1 }

  -- ---- the whole answer
  abbrev whole : Refusal
  whole = judge_refusal points normals settings i j k

  pub judged_refused : (r : Refusal) → Err r ≡ result_of whole → Err r ≡ judged points normals settings i j k
  unfolding judged
  judged_refused r e =
      let t = outcome_err whole.answer whole e in
      rw (t.0, ne_eqb whole.answer 0 t.1)

  module _ {u : Unit {0}} (e : Ok u ≡ result_of whole) where
    passed_whole : whole.answer ≡ 0
    passed_whole = outcome_ok whole.answer whole e

    pub judged_told : (v : MeasuredKind) → v ≡ verdict_at points settings i j k → Ok v ≡ judged points normals settings i j k
    unfolding judged
    judged_told v is = rw (eq-eqb whole.answer 0 passed_whole, is)

    -- the three points are there
    pub judged_inside : (3 * i + 2 < length points) × (3 * j + 2 < length points) × (3 * k + 2 < length points)
    judged_inside =
        let a = accepted_judging passed_whole in
        let t = a.accepted.cloud.threes in
        let h = a.inside in
        let hi = h.0 in
        let hj = h.1 in
        let hk = h.2 in
        (omega arith, omega arith, omega arith)
