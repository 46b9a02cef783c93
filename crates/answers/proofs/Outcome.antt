-- What the outcome of checks says of the answer, and the other way round. Assumes nothing.
use mathlib.Core.Path.{◌≡◌, refl}
use mathlib.Core.Bool.{Bool, true, false}
use Prim.Native.Nat.{ℕ}
use lib.Dec.{eqb}
use borrow.Author.Tests.{eqb-true, eqb-false, eq-eqb, ne_eqb}
use Rattle.std.specs.Prelude.{Result, Ok, Err}
use Rattle.answers.specs.Inner.Outcome.{result_by}

module _ {E : Type 0} (answer : ℕ) (refusal : E) where
  pub outcome_ok : {u : Unit {0}} → Ok u ≡ result_by answer refusal → answer ≡ 0
  outcome_ok {u} e = go (eqb answer 0) refl
    where
      go : (b : Bool) → eqb answer 0 ≡ b → answer ≡ 0
      go true q = eqb-true answer 0 q
      go false q = let z : ◌≡◌ {A = Result (Unit {0}) E} (Ok u) (Err refusal) = rw q at e in cc

  pub outcome_err : {r : E} → Err r ≡ result_by answer refusal → (r ≡ refusal) × (answer ≡ 0 → ⊥)
  outcome_err {r} e = go (eqb answer 0) refl
    where
      go : (b : Bool) → eqb answer 0 ≡ b → (r ≡ refusal) × (answer ≡ 0 → ⊥)
      go true q = let z : ◌≡◌ {A = Result (Unit {0}) E} (Err r) (Ok tt) = rw q at e in cc
      go false q = let z : ◌≡◌ {A = Result (Unit {0}) E} (Err r) (Err refusal) = rw q at e in (cc, eqb-false answer 0 q)

  pub ok_outcome : answer ≡ 0 → Ok tt ≡ result_by answer refusal
  ok_outcome h = rw (eq-eqb answer 0 h)

  pub err_outcome : (answer ≡ 0 → ⊥) → Err refusal ≡ result_by answer refusal
  err_outcome h = rw (ne_eqb answer 0 h)
