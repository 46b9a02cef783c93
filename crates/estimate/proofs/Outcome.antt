-- What the checks decide of the call's result and of its two work slices. Assumes nothing.
use mathlib.Core.Path.{◌≡◌, ap, ◌∙◌}
use mathlib.Core.Bool.{Bool, true, false}
use mathlib.Core.List.{List}
use Prim.Native.Nat.{ℕ, ◌+◌, ◌*◌, ◌/◌, ◌<◌}
use native.Mathlib.Omega.{arith}
use borrow.Author.Tests.{eq-eqb, ne_eqb}
use lib.ListN.{length, replicate}
use lib.Ieee.{Float}
use Rattle.numbers.specs.Rounded.{f32}
use Rattle.points.specs.Points.{point_at}
use Rattle.std.specs.Prelude.{Err}
use Rattle.answers.proofs.Outcome.{outcome_err}
use Rattle.domain.specs.declared.Refusal.{Refusal}
use Rattle.domain.specs.Inner.Outcome.{result_of}
use Rattle.domain.specs.Refusals.{estimate_refusal}
use Rattle.domain.specs.Inner.Accepted.{Cloud, WorkRoom, AcceptedEstimate}
use Rattle.domain.proofs.Accepted.{cloud_finite, accepted_estimate}
use Rattle.spatial_hash.specs.Inner.Near.{HashReady}
use Rattle.estimate.specs.Estimate.{optimal_radius, estimate_accepted, estimate, estimate_of, Estimated}
use Rattle.clearing.specs.Swept.{swept}

-- the points of an accepted cloud can be hashed
pub cloud_ready : {n : ℕ} (pts : List Float) (w : List ℕ) (floats : ℕ) → Cloud n pts → WorkRoom n (length w) floats → HashReady pts n w
unfolding point_at
cloud_ready {n} pts w floats cloud room = record {
  few = cloud.few;
  points_long = omega (arith, cloud.threes);
  work_long = room.words_enough;
  numbers = λ (i : ℕ) (h : i < n). record {
    x_finite = cloud_finite cloud (3 * i) (omega (arith, cloud.threes));
    y_finite = cloud_finite cloud (3 * i + 1) (omega (arith, cloud.threes));
    z_finite = cloud_finite cloud (3 * i + 2) (omega (arith, cloud.threes));
  };
}

module _ (pts : List Float) (p : Float) (words : List ℕ) (floats : List Float) where
  abbrev passes : Bool
  passes = estimate_accepted pts p (length words) (length floats)

  abbrev pub told : Refusal
  told = estimate_refusal pts p (length words) (length floats)

  pub outcome_refused : {r : Refusal} → Err r ≡ result_of told → Estimated pts p words floats (estimate r.answer r.detail (f32 0)) words floats
  unfolding estimate_of swept
  outcome_refused {r} e =
      let t = outcome_err told.answer told e in
      let no : passes ≡ false = ne_eqb told.answer 0 t.1 in
      record { result = ap (λ (q : Refusal). estimate q.answer q.detail (f32 0)) t.0 ∙ rw no; words_left = rw no; floats_left = rw no }

  pub outcome_passed : (d : Float) (u : List ℕ) (f : List Float) → told.answer ≡ 0 → d ≡ optimal_radius pts (length pts / 3) p → u ≡ replicate (length words) 0
      → f ≡ replicate (length floats) (f32 0)
      → Estimated pts p words floats (estimate 0 0 d) u f
  unfolding estimate_of swept
  outcome_passed d u f h ed eu ef =
      let yes : passes ≡ true = eq-eqb told.answer 0 h in
      record { result = ap (estimate 0 0) ed ∙ rw yes; words_left = rw yes eu; floats_left = rw yes ef }

  pub in_domain : told.answer ≡ 0 → AcceptedEstimate pts p (length words) (length floats)
  in_domain h = accepted_estimate pts p (length words) (length floats) h
