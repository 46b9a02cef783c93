-- Three points that are too far apart or that limits refuse, slivers among them, make no seed (`apart_seedless`,
-- `refused_seedless`). Assumes nothing.
use Prim.Native.Nat.{ℕ, ◌<◌}
use mathlib.Core.Path.{◌≡◌, ap, ◌∙◌}
use mathlib.Core.Bool.{true, false, not}
use mathlib.Core.List.{List}
use lib.Ieee.{Float, lt}
use Rattle.lists.proofs.Bools.{not-true, true_not_false, and_both, and_false}
use Rattle.vector.specs.Vector.{distance}
use Rattle.vector.proofs.Distances.{distance_turned, squared_turned}
use Rattle.points.specs.Points.{point_at}
use Rattle.decisions.specs.declared.Scene.{Scene}
use Rattle.decisions.specs.Decisions.{reach, apart, is_close}
use Rattle.decisions.specs.Inner.Completes.{completes}
use Rattle.filters.specs.declared.Limits.{Limits}
use Rattle.filters.specs.Inner.Refused.{Refused, RefusedThroughout, sliver, distant, each}
use Rattle.filters.proofs.Refusals.{far_apart, refused_turned, refused_accepts}
use Rattle.filters.proofs.Slivers.{sliver_each}
use Rattle.three_points.specs.Inner.Judged.{NoSeed, Seedless, LimitsAtRadius}
use Rattle.three_points.proofs.Measured.{each_seedless}

-- ---- limits

pub refused_completes : {s : Scene} {pts : List Float} {r : Float} {l : Limits} {i j k : ℕ} → LimitsAtRadius s pts r l → i < s.n → j < s.n → k < s.n
    → Refused l (point_at pts i) (point_at pts j) (point_at pts k) → is_close pts r i j ≡ true → completes s pts r i j k ≡ false
unfolding completes
refused_completes {s} {pts} {r} {l} {i} {j} {k} g hi hj hk h close = not-true (λ done.
    let p = and_both {p = is_close pts r i k} done in
    let q = and_both {p = is_close pts r j k} p.1 in
    true_not_false q.1 (refused_accepts s pts r i j k (g.numbers i hi) (g.numbers j hj) (g.numbers k hk) close p.0 q.0 g.limits h))

refused_no_seed : {s : Scene} {pts : List Float} {r : Float} {l : Limits} {i j k : ℕ} → LimitsAtRadius s pts r l → i < s.n → j < s.n → k < s.n
    → Refused l (point_at pts i) (point_at pts j) (point_at pts k) → NoSeed s pts r i j k
refused_no_seed g hi hj hk h = record { forward = refused_completes g hi hj hk h; backward = refused_completes g hi hk hj (refused_turned h) }

-- ---- three points in another order

pub no_seed_turned : {s : Scene} {pts : List Float} {r : Float} {i j k : ℕ} → NoSeed s pts r i j k → NoSeed s pts r i k j
no_seed_turned f = record { forward = f.backward; backward = f.forward }

pub seedless_turned : {s : Scene} {pts : List Float} {r : Float} {i j k : ℕ} → Seedless s pts r i j k → Seedless s pts r i k j
seedless_turned b = record { first = no_seed_turned b.first; second = b.third; third = b.second }

pub seedless_round : {s : Scene} {pts : List Float} {r : Float} {i j k : ℕ} → Seedless s pts r j k i → Seedless s pts r i j k
seedless_round b = record { first = b.third; second = no_seed_turned b.first; third = no_seed_turned b.second }

-- ---- too far apart

-- a seed's other points are within twice the radius of the first
pub close_far : (pts : List Float) (r : Float) (i k : ℕ) → lt (reach r) (apart pts k i) ≡ true → is_close pts r i k ≡ false
unfolding is_close apart
close_far pts r i k h =
    let e : distance (point_at pts i) (point_at pts k) ≡ distance (point_at pts k) (point_at pts i) = distance_turned (point_at pts i) (point_at pts k) in
    ap (λ (d : Float). not (lt (reach r) d)) e ∙ ap not h

module _ (s : Scene) (pts : List Float) (r : Float) where
  first_far : (i j k : ℕ) → is_close pts r i k ≡ false → completes s pts r i j k ≡ false
  unfolding completes
  first_far i j k h = rw h

  second_far : (i j k : ℕ) → is_close pts r j k ≡ false → completes s pts r i j k ≡ false
  unfolding completes
  second_far i j k h = rw h (and_false (is_close pts r i k))

  -- two of the points are too far apart
  far_seedless : (i j k : ℕ) → is_close pts r i j ≡ false → is_close pts r j i ≡ false → Seedless s pts r i j k
  far_seedless i j k h g = record {
    first = record { forward = λ d. absurd (true_not_false d h); backward = λ d. first_far i k j h };
    second = record { forward = λ d. absurd (true_not_false d g); backward = λ d. first_far j k i g };
    third = record { forward = λ d. second_far k i j h; backward = λ d. second_far k j i g };
  }

  pub apart_seedless : (i j k : ℕ) → lt (reach r) (apart pts j i) ≡ true → Seedless s pts r i j k
  apart_seedless i j k h = far_seedless i j k (close_far pts r i j h) (back h)
    where
      back : lt (reach r) (apart pts j i) ≡ true → is_close pts r j i ≡ false
      back h = unfold is_close in ap not h

-- what limits refuse whichever point comes first
pub refused_seedless : {s : Scene} {pts : List Float} {r : Float} {l : Limits} {i j k : ℕ} → LimitsAtRadius s pts r l → i < s.n → j < s.n → k < s.n
    → RefusedThroughout l (point_at pts i) (point_at pts j) (point_at pts k) → Seedless s pts r i j k
refused_seedless {s} {pts} {r} {i =
    i} {j = j} {k = k} g hi hj hk (distant h) = seedless_round
    (far_seedless s pts r j k i (far_apart pts j k g.limits h) (far_apart pts k j g.limits (rw (squared_turned (point_at pts k) (point_at pts j)) h)))
refused_seedless g hi hj hk (sliver h) = each_seedless (sliver_each g.limits h)
refused_seedless g hi hj hk (each a b c) =
    record { first = refused_no_seed g hi hj hk a; second = refused_no_seed g hj hi hk b; third = refused_no_seed g hk hi hj c }
