-- What the checks decide of a call's result and of its slices. Assumes nothing.
use mathlib.Core.Path.{◌≡◌, refl, sym, ap, ◌∙◌}
use mathlib.Core.Bool.{Bool, true, false}
use mathlib.Core.List.{List, [], ◌∷◌, ◌++◌}
use Prim.Native.Nat.{ℕ, ◌/◌, ◌≤◌, ◌<◌}
use native.Mathlib.Omega.{arith}
use borrow.Author.Tests.{eq-eqb, ne_eqb, le-leb, lt-leb, leb-true}
use lib.Dec.{leb}
use lib.ListN.{length, drop, replicate}
use lib.Ieee.{Float}
use Rattle.numbers.specs.Rounded.{f32}
use Rattle.domain.specs.declared.Refusal.{Refusal}
use Rattle.domain.specs.Refusals.{Check, check, refusal, first_refusal, points_checks, work_checks}
use Rattle.domain.specs.Inner.Accepted.{WorkRoom}
use Rattle.std.specs.Prelude.{Ok, Err}
use Rattle.answers.proofs.Outcome.{outcome_err}
use Rattle.domain.specs.Inner.Outcome.{result_of}
use Rattle.domain.proofs.Refusals.{check_passed, check_failed, check_accepted, numbered, none_refused, row_refused, row_passed, rows_accepted}
use Rattle.domain.proofs.Accepted.{accepted_points, accepted_work}
use Rattle.clearing.specs.Swept.{swept}
use Rattle.kd_tree.specs.Tree.{index_size, built, belongs}
use Rattle.point_index.specs.Index.{index_refusal, index_accepted, Fits, Builds, Tells}

-- ---- three rows of checks
module _ (points : List Float) (index words floats : ℕ) where
  abbrev n : ℕ
  n = length points / 3

  abbrev last_check : Check
  last_check = check (leb (index_size n) index) 7 0

  abbrev rest : List Check
  rest = work_checks n words floats ++ (last_check ∷ [])

  pub refused_points : (r : Refusal) → Err r ≡ result_of (first_refusal (points_checks points)) → Err r ≡ result_of (index_refusal points index words floats)
  unfolding index_refusal numbered
  refused_points r e = row_refused (points_checks points) rest refl r e

  module _ {u : Unit {0}} (e : Ok u ≡ result_of (first_refusal (points_checks points))) where
    to_work : index_refusal points index words floats ≡ first_refusal rest
    unfolding index_refusal numbered
    to_work = row_passed (points_checks points) rest refl e

    pub refused_work : (r : Refusal) → Err r ≡ result_of (first_refusal (work_checks n words floats))
        → Err r ≡ result_of (index_refusal points index words floats)
    unfolding numbered
    refused_work r f = rw to_work (row_refused (work_checks n words floats) (last_check ∷ []) refl r f)

    module _ {v : Unit {0}} (f : Ok v ≡ result_of (first_refusal (work_checks n words floats))) where
      to_last : index_refusal points index words floats ≡ first_refusal (last_check ∷ [])
      unfolding numbered
      to_last = to_work ∙ row_passed (work_checks n words floats) (last_check ∷ []) refl f

      pub refused_index : index < index_size n → index_refusal points index words floats ≡ refusal 7 0
      refused_index l = to_last ∙ check_failed last_check [] (lt-leb (index_size n) index l)

      pub refused_none : index_size n ≤ index → index_refusal points index words floats ≡ refusal 0 0
      unfolding first_refusal
      refused_none l = to_last ∙ check_passed last_check [] (le-leb (index_size n) index l)

-- ---- what holds where nothing is refused
module _ (points : List Float) (index words : List ℕ) (floats : List Float) where
  abbrev pub told : Refusal
  told = index_refusal points (length index) (length words) (length floats)

  abbrev passes : Bool
  passes = index_accepted points (length index) (length words) (length floats)

  module _ (h : told.answer ≡ 0) where
    abbrev size : ℕ
    size = length points / 3

    points_and_rest : ((first_refusal (points_checks points)).answer ≡ 0)
        × ((first_refusal (rest points (length index) (length words) (length floats))).answer ≡ 0)
    unfolding index_refusal numbered
    points_and_rest = rows_accepted (points_checks points) (rest points (length index) (length words) (length floats)) refl h

    work_and_last : ((first_refusal (work_checks size (length words) (length floats))).answer ≡ 0)
        × ((first_refusal (last_check points (length index) (length words) (length floats) ∷ [])).answer ≡ 0)
    unfolding numbered
    work_and_last = rows_accepted (work_checks size (length words) (length floats)) (last_check points (length index) (length words) (length floats) ∷ []) refl
        points_and_rest.1

    room : WorkRoom size (length words) (length floats)
    room = accepted_work size (length words) (length floats) work_and_last.0

    index_fits : index_size size ≤ length index
    index_fits = leb-true (index_size size) (length index)
        (check_accepted (last_check points (length index) (length words) (length floats)) [] (λ z. omega arith) work_and_last.1).0

    pub in_domain : Fits points (length index) (length floats)
    in_domain = record { cloud = accepted_points points points_and_rest.0; index_enough = index_fits; floats_enough = room.floats_enough }

    pub words_fit : index_size size ≤ length words
    words_fit = omega (arith, room.words_enough)

    nothing : told ≡ refusal 0 0
    unfolding index_refusal numbered
    nothing = none_refused (points_checks points ++ rest points (length index) (length words) (length floats)) refl h

    yes : passes ≡ true
    yes = eq-eqb told.answer 0 h

    pub builds_passed : (index' words' : List ℕ) (floats' : List Float) → index' ≡ built points ++ drop (index_size (length points / 3)) index → words'
        ≡ replicate (length words) 0 → floats' ≡ replicate (length floats) (f32 0)
        → Builds points index words floats record { answer = 0; detail = 0 } index' words' floats'
    unfolding swept
    builds_passed index' words' floats' ei ew ef = record {
      answered = sym (ap (λ (q : Refusal). q.answer) nothing);
      detailed = sym (ap (λ (q : Refusal). q.detail) nothing);
      index_left = rw yes ei;
      words_left = rw yes ew;
      floats_left = rw yes ef;
    }

    pub tells_passed : (same : Bool) (words' : List ℕ) (floats' : List Float) → same ≡ belongs points index → words' ≡ replicate (length words) 0 → floats'
        ≡ replicate (length floats) (f32 0)
        → Tells points index words floats record { answer = 0; detail = 0; belongs = same } words' floats'
    unfolding swept
    tells_passed same words' floats' es ew ef = record {
      answered = sym (ap (λ (q : Refusal). q.answer) nothing);
      detailed = sym (ap (λ (q : Refusal). q.detail) nothing);
      told = rw yes es;
      words_left = rw yes ew;
      floats_left = rw yes ef;
    }

  module _ {r : Refusal} (e : Err r ≡ result_of told) where
    as_told : (r ≡ told) × (told.answer ≡ 0 → ⊥)
    as_told = outcome_err told.answer told e

    no : passes ≡ false
    no = ne_eqb told.answer 0 as_told.1

    pub builds_refused : Builds points index words floats record { answer = r.answer; detail = r.detail } index words floats
    unfolding swept
    builds_refused = record {
      answered = ap (λ (q : Refusal). q.answer) as_told.0;
      detailed = ap
          (λ (q : Refusal). q.detail) as_told.0;
      index_left = rw no;
      words_left = rw no;
      floats_left = rw no;
    }

    pub tells_refused : Tells points index words floats record { answer = r.answer; detail = r.detail; belongs = false } words floats
    unfolding swept
    tells_refused = record { answered = ap (λ (q : Refusal). q.answer) as_told.0; detailed = ap (λ (q : Refusal). q.detail) as_told.0; told = rw no; words_left = rw no; floats_left = rw no }
