-- The checks up to 7, one law for each way out, and what holds where they pass. Assumes nothing.
use mathlib.Core.Path.{◌≡◌, refl, sym, ◌∙◌}
use mathlib.Core.Bool.{true, ◌&&◌}
use mathlib.Core.List.{List, [], ◌∷◌}
use Prim.Native.Nat.{ℕ, zero, suc, ◌+◌, ◌*◌, ◌/◌, ◌%◌, ◌≤◌, ◌<◌}
use native.Mathlib.Omega.{arith}
use lib.Dec.{leb, ltb, eqb}
use lib.Ieee.{Float, nan, neg}
use lib.ListN.{length, get_or}
use borrow.Author.Tests.{lt-ltb, le-ltb, le-leb, lt-leb, eq-eqb, ne_eqb, ltb-true, leb-true, eqb-true}
use Rattle.std.specs.Prelude.{Err}
use Rattle.answers.proofs.Outcome.{err_outcome}
use Rattle.lists.proofs.Bools.{and_both}
use Rattle.vector.specs.Vector.{point}
use Rattle.vector.specs.Inner.Numbers.{Finite}
use Rattle.points.specs.Points.{point_at}
use Rattle.ranges.specs.Range.{inside, first_outside, farthest}
use Rattle.domain.specs.declared.Refusal.{Refusal}
use Rattle.domain.specs.Refusals.{check, refusal, first_refusal, roomy, point_check}
use Rattle.domain.specs.Inner.Accepted.{Cloud, ValuesWithin, WorkRoom}
use Rattle.domain.proofs.Refusals.{check_accepted, roomy_room}
use Rattle.domain.proofs.Accepted.{all_within, cloud_finite}
use Rattle.kd_tree.specs.Tree.{index_size}
use Rattle.nearest_points.specs.declared.Searched.{Searched}
use Rattle.nearest_points.specs.Found.{answer_of, checks_by, search_refusal}
use Rattle.nearest_points.specs.Inner.Outcome.{search_result}

pub told : {r : Searched} {f : Refusal} {answer detail : ℕ} → r ≡ answer_of answer detail → refusal answer detail ≡ f → (answer ≡ 0 → ⊥)
    → Err r ≡ search_result f
told {answer = answer} {detail = detail} e g h = rw (e, ← g) (err_outcome answer (answer_of answer detail) h)

module _ (p s bad badSpot index words floats : ℕ) where
  abbrev first : Refusal
  first = first_refusal (checks_by p s bad badSpot index words floats)

  pub none : p ≡ 0 → refusal 1 0 ≡ first
  unfolding first_refusal
  none h = rw (le-ltb 0 p (omega arith))

  module _ (some : p ≡ 0 → ⊥) where
    pub not_threes : (p % 3 ≡ 0 → ⊥) → refusal 2 0 ≡ first
    unfolding first_refusal
    not_threes t = rw (lt-ltb 0 p (omega arith), ne_eqb (p % 3) 0 t)

    module _ (threes : p % 3 ≡ 0) where
      pub spots_not_threes : (s % 3 ≡ 0 → ⊥) → refusal 2 0 ≡ first
      unfolding first_refusal
      spots_not_threes t = rw (lt-ltb 0 p (omega arith), eq-eqb (p % 3) 0 threes, ne_eqb (s % 3) 0 t)

      module _ (spot-threes : s % 3 ≡ 0) where
        pub many : 4096 < p / 3 → refusal 3 0 ≡ first
        unfolding first_refusal
        many h = rw (lt-ltb 0 p (omega arith), eq-eqb (p % 3) 0 threes, eq-eqb (s % 3) 0 spot-threes, lt-leb (p / 3) 4096 h)

        module _ (few : p / 3 ≤ 4096) where
          pub point_out : bad < p / 3 → refusal 4 bad ≡ first
          unfolding first_refusal
          point_out h = rw (lt-ltb 0 p (omega arith), eq-eqb (p % 3) 0 threes, eq-eqb (s % 3) 0 spot-threes, le-leb (p / 3) 4096 few, lt-leb (p / 3) bad h)

          module _ (points-in : p / 3 ≤ bad) where
            pub spot_out : badSpot < s / 3 → refusal 4 (p / 3 + badSpot) ≡ first
            unfolding first_refusal
            spot_out h =
                rw (
                  lt-ltb 0 p (omega arith),
                  eq-eqb (p % 3) 0 threes,
                  eq-eqb (s % 3) 0 spot-threes,
                  le-leb (p / 3) 4096 few,
                  le-leb
                      (p / 3) bad points-in,
                  lt-leb (s / 3) badSpot h,
                )

            module _ (spots-in : s / 3 ≤ badSpot) where
              last : first ≡ first_refusal (check (roomy (p / 3) words floats && leb (index_size (p / 3)) index) 7 0 ∷ [])
              unfolding first_refusal
              last = rw (
                lt-ltb 0 p (omega arith),
                eq-eqb (p % 3) 0 threes,
                eq-eqb (s % 3) 0 spot-threes,
                le-leb (p / 3) 4096 few,
                le-leb
                    (p / 3) bad points-in,
                le-leb (s / 3) badSpot spots-in,
              )

              pub few_words : words < 24 * (p / 3) + 64 → refusal 7 0 ≡ first
              unfolding first_refusal roomy
              few_words h = sym (last ∙ rw (lt-leb (24 * (p / 3) + 64) words h))

              pub few_floats : 24 * (p / 3) + 64 ≤ words → floats < 4 * (p / 3) + 64 → refusal 7 0 ≡ first
              unfolding first_refusal roomy
              few_floats w h = sym (last ∙ rw (le-leb (24 * (p / 3) + 64) words w, lt-leb (4 * (p / 3) + 64) floats h))

              pub short_index : 24 * (p / 3) + 64 ≤ words → 4 * (p / 3) + 64 ≤ floats → index < 8 * (p / 3) + 64 → refusal 7 0 ≡ first
              unfolding first_refusal roomy
              short_index w f h = sym (last ∙ rw (le-leb (24 * (p / 3) + 64) words w, le-leb (4 * (p / 3) + 64) floats f, lt-leb (8 * (p / 3) + 64) index h))

              pub all_passed : 24 * (p / 3) + 64 ≤ words → 4 * (p / 3) + 64 ≤ floats → 8 * (p / 3) + 64 ≤ index → refusal 0 0 ≡ first
              unfolding first_refusal roomy
              all_passed w f h = sym (last ∙ rw (le-leb (24 * (p / 3) + 64) words w, le-leb (4 * (p / 3) + 64) floats f, le-leb (8 * (p / 3) + 64) index h))

-- ---- what holds where they pass
pub record Accepted (points spots : List Float) (index words floats : ℕ) : Type 0 where
  pub cloud : Cloud (length points / 3) points
  pub near : ValuesWithin farthest spots
  pub threes : length spots % 3 ≡ 0
  pub room : WorkRoom (length points / 3) words floats
  pub index_enough : index_size (length points / 3) ≤ index

pub accepted : (points spots : List Float) (index words floats : ℕ) → (search_refusal points spots index words floats).answer ≡ 0
    → Accepted points spots index words floats
unfolding search_refusal
accepted points spots index words floats e =
    let p = length points in
    let s = length spots in
    let n = length points / 3 in
    let one = check_accepted (check (ltb 0 p) 1 0) _ (λ h. omega arith) e in
    let two = check_accepted (check (eqb (p % 3) 0 && eqb (s % 3) 0) 2 0) _ (λ h. omega arith) one.1 in
    let three = check_accepted (check (leb n 4096) 3 0) _ (λ h. omega arith) two.1 in
    let four = check_accepted (point_check n (first_outside farthest points)) _ (λ h. omega arith) three.1 in
    let spot = check_accepted (check (leb (s / 3) (first_outside farthest spots)) 4 (n + first_outside farthest spots)) _ (λ h. omega arith) four.1 in
    let seven = check_accepted (check (roomy n words floats && leb (index_size n) index) 7 0) [] (λ h. omega arith) spot.1 in
    let both = and_both {p = eqb (p % 3) 0} {q = eqb (s % 3) 0} two.0 in
    let rooms = and_both {p = roomy n words floats} {q = leb (index_size n) index} seven.0 in
    let t : p % 3 ≡ 0 = eqb-true (p % 3) 0 both.0 in
    let u : s % 3 ≡ 0 = eqb-true (s % 3) 0 both.1 in
    record {
      cloud = record {
        some = omega (arith, ltb-true 0 p one.0);
        few = leb-true n 4096 three.0;
        threes = omega arith;
        near = all_within farthest points t (leb-true n (first_outside farthest points) four.0);
      };
      near = all_within farthest spots u (leb-true (s / 3) (first_outside farthest spots) spot.0);
      threes = u;
      room = roomy_room n words floats rooms.0;
      index_enough = leb-true (index_size n) index rooms.1;
    }

-- a spot is finite: it is a cloud of one point
pub spot_finite : (x y z : Float) → inside (neg farthest) farthest x ≡ true → inside (neg farthest) farthest y ≡ true → inside (neg farthest) farthest z ≡ true
    → Finite (point x y z)
spot_finite x y z a b c =
    record { x_finite = cloud_finite one 0 (omega arith); y_finite = cloud_finite one 1 (omega arith); z_finite = cloud_finite one 2 (omega arith) }
  where
    near : ValuesWithin farthest (x ∷ y ∷ z ∷ [])
    near zero h = a
    near (suc zero) h = b
    near (suc (suc zero)) h = c
    near (suc (suc (suc k))) h = absurd (omega arith)

    one : Cloud 1 (x ∷ y ∷ z ∷ [])
    one = record { some = omega arith; few = omega arith; threes = refl; near = near }

pub spots_finite : (spots : List Float) → ValuesWithin farthest spots → (i : ℕ) → 3 * i + 2 < length spots → Finite (point_at spots i)
unfolding point_at
spots_finite spots near i h =
    spot_finite (get_or spots (3 * i) nan) (get_or spots (3 * i + 1) nan) (get_or spots (3 * i + 2) nan) (near (3 * i) (omega arith)) (near (3 * i + 1) (omega arith))
    (near (3 * i + 2) h)

-- one spot inside the domain
pub one_finite : (x y z : Float) → ValuesWithin farthest (x ∷ y ∷ z ∷ []) → Finite (point x y z)
one_finite x y z near = spot_finite x y z (near 0 (omega arith)) (near 1 (omega arith)) (near 2 (omega arith))
