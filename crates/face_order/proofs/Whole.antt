-- The whole call, one law for each way out: numbers not in threes, one of the checks up to 7, and those that come
-- after. Assumes nothing.
use mathlib.Core.Path.{◌≡◌, refl, sym, ap, ◌∙◌}
use mathlib.Core.Bool.{Bool, true, false, not, cond}
use mathlib.Core.List.{List, []}
use Prim.Native.Nat.{ℕ, ◌%◌}
use native.Mathlib.Omega.{arith}
use lib.Dec.{leb, eqb}
use lib.ListN.{length, replicate}
use lib.Ieee.{Float}
use borrow.Author.Tests.{eq-eqb, ne_eqb, leb-true}
use Rattle.numbers.specs.Rounded.{f32}
use Rattle.lists.specs.Lists.{any}
use Rattle.clearing.specs.Swept.{swept}
use Rattle.domain.specs.Refusals.{check, refusal, first_refusal, roomy}
use Rattle.domain.specs.declared.Refusal.{Refusal}
use Rattle.domain.proofs.Refusals.{check_accepted, roomy_room}
use Rattle.patch.specs.Lay.{Face}
use Rattle.face_lines.specs.Format.{outside, twice}
use Rattle.patch_order.specs.Ordering.{first_checks, checks_of, last_checks, refusal_of, passed, refused_with, ordered_of, order_after}
use Rattle.patch_order.specs.declared.Ordered.{Ordered}
use Rattle.patch_order.proofs.Whole.{four}
use Rattle.patch_order.proofs.Exactly.{not_false_true}
use Rattle.face_order.specs.Faces.{faces_of, refusal_of_numbers, passed_numbers, seen_of, Ready, Judged, OrdersFaces}
use Rattle.face_order.specs.declared.FacesSeen.{FacesSeen}

module _ (numbers : List ℕ) (n : ℕ) (order words : List ℕ) (floats : List Float) where
  abbrev fs : List Face
  fs = faces_of numbers

  abbrev whole_refusal : Refusal
  whole_refusal = refusal_of_numbers n (length order) (length words) (length floats) numbers

  assembled : (R : Refusal) (p : Bool) → whole_refusal ≡ R → passed_numbers n (length words) (length floats) numbers ≡ p
      → (r : Ordered) (order' words' : List ℕ) (floats' : List Float)
      → r ≡ ordered_of R fs → order' ≡ order_after R fs order → words' ≡ swept 0 p words → floats' ≡ swept (f32 0) p floats
      → OrdersFaces numbers n order words floats r order' words' floats'
  assembled R p eR ep r order' words' floats' h o w f = record { result = rw eR h; order_left = rw eR o; words_left = rw ep w; floats_left = rw ep f }

  pub whole_threes : (length numbers % 3 ≡ 0 → ⊥) → (r : Ordered) → r ≡ refused_with 2 0 → OrdersFaces numbers n order words floats r order words floats
  unfolding refusal_of_numbers passed_numbers ordered_of order_after swept
  whole_threes h r e =
      let no : eqb (length numbers % 3) 0 ≡ false = ne_eqb (length numbers % 3) 0 h in
      assembled (refusal 2 0) false (rw no) (rw no) r order words floats e refl refl refl

  module _ (threes : length numbers % 3 ≡ 0) (answer : ℕ) (is : answer ≡ (first_refusal (checks_of n (length words) (length floats) fs)).answer) where
    whole : whole_refusal ≡ cond (eqb answer 0) (first_refusal (last_checks (length order) fs)) (refusal answer 0)
    unfolding refusal_of_numbers refusal_of
    whole =
        rw (eq-eqb (length numbers % 3) 0 threes)
        (four (leb n 4096) (not (any (outside n) fs)) (not (any twice fs)) (roomy n (length words) (length floats)) (last_checks (length order) fs)
        ∙ ap (λ (k : ℕ). cond (eqb k 0) (first_refusal (last_checks (length order) fs)) (refusal k 0)) (sym is))

    went : (b : Bool) → eqb answer 0 ≡ b → passed_numbers n (length words) (length floats) numbers ≡ b
    unfolding passed_numbers passed
    went b h = rw (eq-eqb (length numbers % 3) 0 threes) (ap (λ (k : ℕ). eqb k 0) (sym is) ∙ h)

    pub whole_first : (answer ≡ 0 → ⊥) → (r : Ordered) → r ≡ refused_with answer 0 → OrdersFaces numbers n order words floats r order words floats
    unfolding ordered_of order_after swept
    whole_first h r s =
        let no : eqb answer 0 ≡ false = ne_eqb answer 0 h in
        let other : whole_refusal ≡ refusal answer 0 = whole ∙ ap (λ (t : Bool). cond t (first_refusal (last_checks (length order) fs)) (refusal answer 0)) no in
        assembled (refusal answer 0) false other (went false no) r order words floats (rw no s) (rw no) refl refl

    module _ (z : answer ≡ 0) where
      pub whole_last : (r : Ordered) (order' words' : List ℕ) (floats' : List Float) → Judged fs order r order' → words' ≡ replicate (length words) 0
          → floats' ≡ replicate (length floats) (f32 0) → OrdersFaces numbers n order words floats r order' words' floats'
      unfolding swept
      whole_last r order' words' floats' j w f =
          let yes : eqb answer 0 ≡ true = eq-eqb answer 0 z in
          let other : whole_refusal ≡ first_refusal (last_checks (length order) fs) = whole
          ∙ ap (λ (t : Bool). cond t (first_refusal (last_checks (length order) fs)) (refusal answer 0)) yes in
          assembled (first_refusal (last_checks (length order) fs)) true other (went true yes) r order' words' floats' j.result j.order_left w f

      pub ready : Ready numbers n (length words)
      ready =
          let one = check_accepted (check (leb n 4096) 3 0) _ (λ h. omega arith) (sym is ∙ z) in
          let two = check_accepted (check (not (any (outside n) fs)) 14 0) _ (λ h. omega arith) one.1 in
          let three = check_accepted (check (not (any twice fs)) 17 0) _ (λ h. omega arith) two.1 in
          let last = check_accepted (check (roomy n (length words) (length floats)) 7 0) [] (λ h. omega arith) three.1 in
          record {
            threes = threes;
            points = leb-true n 4096 one.0;
            inside = not_false_true (any (outside n) fs) two.0;
            different = not_false_true (any twice fs) three.0;
            words_enough = (roomy_room n (length words) (length floats) last.0).words_enough;
          }

-- the code's answer, by what the pass over the faces found
pub first_is : (numbers : List ℕ) (n words floats answer : ℕ) {seen : FacesSeen} → seen ≡ seen_of n (faces_of numbers)
    → answer ≡ (first_refusal (first_checks n seen.outside seen.twice words floats)).answer → answer
    ≡ (first_refusal (checks_of n words floats (faces_of numbers))).answer
unfolding seen_of
first_is numbers n words floats answer {seen} e h = h ∙ ap (λ (s : FacesSeen). (first_refusal (first_checks n s.outside s.twice words floats)).answer) e
