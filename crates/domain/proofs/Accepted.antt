-- What holds of a call's arguments once its checks have passed. Assumes nothing.
use mathlib.Core.Path.{◌≡◌, refl, sym, subst}
use mathlib.Core.Bool.{true, false}
use mathlib.Core.List.{List, [], ◌∷◌}
use Prim.Native.Nat.{ℕ, ◌/◌, ◌%◌, ◌≤◌, ◌<◌, min}
use native.Mathlib.Nat.{min-le_left, min-le_right}
use native.Mathlib.Omega.{arith}
use lib.Dec.{T}
use lib.ListN.{length, get_or}
use lib.Ieee.{Float, nan, inf, fin, le, neg, of_bits}
use lib.Ieee.Scale.{finite}
use borrow.Author.Tests.{leb-true, eqb-true}
use Rattle.ranges.specs.Range.{inside, leading, first_outside, first_bad_point, farthest, largest_finite, percentile_inside}
use Rattle.settings.specs.Settings.{first_bad_setting}
use Rattle.domain.specs.Refusals.{check, point_check, setting_check, first_refusal, points_checks, input_checks}
use Rattle.domain.specs.Refusals.{roomy, work_checks, estimate_refusal, reconstruct_refusal}
use Rattle.domain.specs.Inner.Accepted.{ValuesWithin, Cloud, WorkRoom, AcceptedEstimate, AcceptedInput, AcceptedReconstruct}
use Rattle.settings.specs.declared.BallPivotingConfig.{BallPivotingConfig}
use Rattle.ranges.proofs.Range.{leading_inside}
use Rattle.lists.proofs.Bools.{and_both}
use Rattle.settings.proofs.Settled.{settled_of}
use Rattle.domain.proofs.Refusals.{Sized, check_accepted, numbered, rows_accepted, size_accepted, roomy_room}

-- ---- points
pub all_within : (bound : Float) (xs : List Float) → length xs % 3 ≡ 0 → length xs / 3 ≤ first_outside bound xs → ValuesWithin bound xs
unfolding first_outside
all_within bound xs threes none k l =
    let most : k < leading (neg bound) bound xs = omega arith in
    leading_inside (neg bound) bound xs k most

pub cloud_of : (points normals : List Float) → Sized (length points) (length normals) → length points / 3 ≤ first_outside farthest points
    → Cloud (length points / 3) points
cloud_of points normals sized none =
    record {
      some = omega (arith, sized.some, sized.threes);
      few = sized.few;
      threes = omega (arith, sized.threes);
      near = all_within farthest points
          sized.threes none;
    }

-- between two numbers there are only numbers
between_finite : (lo hi x : Float) → T (finite lo) → T (finite hi) → T (le lo x) → T (le x hi) → T (finite x)
unfolding le
between_finite lo hi (fin s m e) f g h k = tt
between_finite nan hi nan f g h k = f
between_finite (inf s) hi nan f g h k = f
between_finite (fin s m e) hi nan f g h k = h
between_finite nan hi (inf t) f g h k = f
between_finite (inf s) hi (inf t) f g h k = f
between_finite (fin s m e) hi (inf true) f g h k = h
between_finite (fin s m e) nan (inf false) f g h k = k
between_finite (fin s m e) (inf t) (inf false) f g h k = g
between_finite (fin s m e) (fin t n d) (inf false) f g h k = k

pub cloud_finite : {n : ℕ} {points : List Float} → Cloud n points → (k : ℕ) → k < length points → T (finite (get_or points k nan))
unfolding inside of_bits neg
cloud_finite {points = points} cloud k l =
    let x : Float = get_or points k nan in
    let b = and_both {p = le (neg farthest) x} {q = le x farthest} (cloud.near k l) in
    between_finite (neg farthest) farthest x tt tt (subst T (sym b.0) tt) (subst T (sym b.1) tt)

-- ---- the calls
pub accepted_points : (points : List Float) → (first_refusal (points_checks points)).answer ≡ 0 → Cloud (length points / 3) points
accepted_points points e =
    let n : ℕ = length points / 3 in
    let size = size_accepted (length points) (length points) _ e in
    let four = check_accepted (point_check n (first_outside farthest points)) [] (λ h. omega arith) size.1 in
    cloud_of points points size.0 (leb-true n (first_outside farthest points) four.0)

pub accepted_work : (n words floats : ℕ) → (first_refusal (work_checks n words floats)).answer ≡ 0 → WorkRoom n words floats
accepted_work n words floats e = roomy_room n words floats (check_accepted (check (roomy n words floats) 7 0) [] (λ h. omega arith) e).0

pub accepted_estimate : (points : List Float) (percentile : Float) (words floats : ℕ) → (estimate_refusal points percentile words floats).answer ≡ 0
    → AcceptedEstimate points percentile words floats
unfolding estimate_refusal numbered
accepted_estimate points percentile words floats e =
    let n : ℕ = length points / 3 in
    let both = rows_accepted (points_checks points) (check (percentile_inside percentile) 6 0 ∷ work_checks n words floats) refl e in
    let six = check_accepted (check (percentile_inside percentile) 6 0) _ (λ h. omega arith) both.1 in
    record { cloud = accepted_points points both.0; percentile_inside_lem = six.0; room = accepted_work n words floats six.1 }

pub accepted_input : (points normals : List Float) (settings : BallPivotingConfig) → (first_refusal (input_checks points normals settings)).answer ≡ 0
    → AcceptedInput points normals settings
unfolding first_bad_point
accepted_input points normals settings e =
    let n : ℕ = length points / 3 in
    let size = size_accepted (length points) (length normals) _ e in
    let four = check_accepted (point_check n (first_bad_point points normals)) _ (λ h. omega arith) size.1 in
    let five = check_accepted (setting_check (first_bad_setting settings)) [] (λ h. omega arith) four.1 in
    let none : n ≤ min (first_outside farthest points) (first_outside largest_finite normals) = leb-true n _ four.0 in
    let near : n ≤ first_outside farthest points = omega (arith, min-le_left (first_outside farthest points) (first_outside largest_finite normals)) in
    let finite : length normals / 3 ≤ first_outside largest_finite normals = omega
    (arith, size.0.as_long, min-le_right (first_outside farthest points) (first_outside largest_finite normals)) in
    record {
      cloud = cloud_of points normals size.0 near;
      as_long = size.0.as_long;
      finite = all_within largest_finite normals (omega (arith, size.0.as_long, size.0.threes)) finite;
      settled = settled_of settings (eqb-true (first_bad_setting settings) 0 five.0);
    }

pub accepted_reconstruct : (points normals : List Float) (settings : BallPivotingConfig) (words floats : ℕ)
    → (reconstruct_refusal points normals settings words floats).answer ≡ 0
    → AcceptedReconstruct points normals settings words floats
unfolding reconstruct_refusal numbered
accepted_reconstruct points normals settings words floats e =
    let n : ℕ = length points / 3 in
    let both = rows_accepted (input_checks points normals settings) (work_checks n words floats) refl e in
    let input = accepted_input points normals settings both.0 in
    record {
      cloud = input.cloud;
      as_long = input.as_long;
      finite = input.finite;
      settled = input.settled;
      room = accepted_work n words floats both.1;
    }
