-- The whole call, one law for each way out: a malformed line, one of the checks up to 7, and those that come after.
-- Assumes nothing.
use mathlib.Core.Path.{◌≡◌, refl, sym, ap, ap₂, ◌∙◌}
use mathlib.Core.Bool.{Bool, true, false, not, cond}
use mathlib.Core.List.{List, [], ◌∷◌, ◌++◌}
use Prim.Native.Nat.{ℕ}
use native.Mathlib.Omega.{arith}
use lib.Dec.{leb, eqb}
use lib.ListN.{length, replicate}
use lib.Ieee.{Float}
use borrow.Author.Tests.{eq-eqb, ne_eqb, leb-true}
use Rattle.numbers.specs.Rounded.{f32}
use Rattle.lists.specs.Lists.{any}
use Rattle.clearing.specs.Swept.{swept}
use Rattle.domain.specs.Refusals.{Check, check, refusal, first_refusal, roomy}
use Rattle.domain.specs.declared.Refusal.{Refusal}
use Rattle.domain.proofs.Refusals.{check_accepted, roomy_room}
use Rattle.patch.specs.Lay.{Face}
use Rattle.face_lines.specs.Format.{FaceLines, good, wrong, face_file, outside, twice}
use Rattle.face_lines.specs.declared.FacesScanned.{FacesScanned}
use Rattle.face_lines.proofs.Scanning.{Good}
use Rattle.patch_order.specs.Ordering.{first_checks, checks_of, last_checks, refusal_of, passed, faces_read, refused_with, ordered_of, order_after, OrdersPatch}
use Rattle.patch_order.specs.Inner.Ready.{Checked, OrderJudged}
use Rattle.patch_order.specs.declared.Ordered.{Ordered}
use Rattle.patch_order.proofs.Exactly.{zero_exactly, not_false_true}

pub four : (a b c d : Bool) (rest : List Check)
    → first_refusal ((check a 3 0 ∷ check b 14 0 ∷ check c 17 0 ∷ check d 7 0 ∷ []) ++ rest)
    ≡ cond (eqb (first_refusal (check a 3 0 ∷ check b 14 0 ∷ check c 17 0 ∷ check d 7 0 ∷ [])).answer 0) (first_refusal rest)
    (refusal (first_refusal (check a 3 0 ∷ check b 14 0 ∷ check c 17 0 ∷ check d 7 0 ∷ [])).answer 0)
unfolding first_refusal
four false b c d rest = refl
four true false c d rest = refl
four true true false d rest = refl
four true true true false rest = refl
four true true true true rest = refl

-- the code's answer, by what the pass over the lines found
pub first_is : (n : ℕ) (l : FaceLines) (seen : FacesScanned) (g : Good n l seen) (words floats answer : ℕ)
    → answer ≡ (first_refusal (first_checks n seen.outside seen.twice words floats)).answer → answer
    ≡ (first_refusal (checks_of n words floats g.faces)).answer
first_is n l seen g words floats answer h = h ∙ ap₂ (λ (o t : Bool). (first_refusal (first_checks n o t words floats)).answer) g.out g.same

module _ (bytes : List ℕ) (n : ℕ) (order words : List ℕ) (floats : List Float) where
  assembled : (R : Refusal) (fs : List Face) (p : Bool) → refusal_of n (length order) (length words) (length floats) (face_file bytes) ≡ R
      → faces_read (face_file bytes) ≡ fs
      → passed n (length words) (length floats) (face_file bytes) ≡ p → (r : Ordered) (order' words' : List ℕ) (floats' : List Float) → r ≡ ordered_of R fs
      → order' ≡ order_after R fs order
      → words' ≡ swept 0 p words → floats' ≡ swept (f32 0) p floats → OrdersPatch bytes n order words floats r order' words' floats'
  assembled R fs p eR ef ep r order' words' floats' h o w f =
      let result : r ≡ ordered_of (refusal_of n (length order) (length words) (length floats) (face_file bytes)) (faces_read (face_file bytes)) = rw (eR, ef) h in
      record {
        result = result;
        order_left = rw (eR, ef) o;
        words_left = rw ep w;
        floats_left = rw ep f;
        exactly = zero_exactly bytes n (length order) (length words) (length floats) r (faces_read (face_file bytes)) result;
      }

  pub whole_wrong : (line : ℕ) → face_file bytes ≡ wrong line → (r : Ordered) → r ≡ refused_with 10 line
      → OrdersPatch bytes n order words floats r order words floats
  unfolding refusal_of passed faces_read ordered_of order_after swept
  whole_wrong line e r h = assembled (refusal 10 line) [] false (rw e) (rw e) (rw e) r order words floats h refl refl refl

  module _ (fs : List Face) (e : face_file bytes ≡ good fs) (answer : ℕ)
      (is : answer ≡ (first_refusal (checks_of n (length words) (length floats) fs)).answer) where
    whole : refusal_of n (length order) (length words) (length floats) (face_file bytes)
        ≡ cond (eqb answer 0) (first_refusal (last_checks (length order) fs)) (refusal answer 0)
    unfolding refusal_of
    whole =
        rw e
        (four (leb n 4096) (not (any (outside n) fs)) (not (any twice fs)) (roomy n (length words) (length floats)) (last_checks (length order) fs)
        ∙ ap (λ (k : ℕ). cond (eqb k 0) (first_refusal (last_checks (length order) fs)) (refusal k 0)) (sym is))

    the_faces : faces_read (face_file bytes) ≡ fs
    unfolding faces_read
    the_faces = rw e

    went : (b : Bool) → eqb answer 0 ≡ b → passed n (length words) (length floats) (face_file bytes) ≡ b
    unfolding passed
    went b h = rw e (ap (λ (k : ℕ). eqb k 0) (sym is) ∙ h)

    pub whole_first : (answer ≡ 0 → ⊥) → (r : Ordered) → r ≡ refused_with answer 0 → OrdersPatch bytes n order words floats r order words floats
    unfolding ordered_of order_after swept
    whole_first h r s =
        let not : eqb answer 0 ≡ false = ne_eqb answer 0 h in
        let other : refusal_of n (length order) (length words) (length floats) (face_file bytes) ≡ refusal answer 0 =
        whole ∙ ap (λ (t : Bool). cond t (first_refusal (last_checks (length order) fs)) (refusal answer 0)) not in
        assembled (refusal answer 0) fs false other the_faces (went false not) r order words floats (rw not s) (rw not) refl refl

    module _ (z : answer ≡ 0) where
      pub whole_last : (r : Ordered) (order' words' : List ℕ) (floats' : List Float) → OrderJudged bytes order r order' → words' ≡ replicate (length words) 0
          → floats' ≡ replicate (length floats) (f32 0) → OrdersPatch bytes n order words floats r order' words' floats'
      unfolding swept
      whole_last r order' words' floats' j w f =
          let yes : eqb answer 0 ≡ true = eq-eqb answer 0 z in
          let other : refusal_of n (length order) (length words) (length floats) (face_file bytes) ≡ first_refusal (last_checks (length order) fs) =
          whole ∙ ap (λ (t : Bool). cond t (first_refusal (last_checks (length order) fs)) (refusal answer 0)) yes in
          assembled (first_refusal (last_checks (length order) fs)) fs true other the_faces (went true yes) r order' words' floats' (j.result fs e)
          (j.order_left fs e) w f

      pub checked : (count : ℕ) → count ≡ length fs → Checked bytes n count (length words)
      checked count many =
          let one = check_accepted (check (leb n 4096) 3 0) _ (λ h. omega arith) (sym is ∙ z) in
          let two = check_accepted (check (not (any (outside n) fs)) 14 0) _ (λ h. omega arith) one.1 in
          let three = check_accepted (check (not (any twice fs)) 17 0) _ (λ h. omega arith) two.1 in
          let four = check_accepted (check (roomy n (length words) (length floats)) 7 0) [] (λ h. omega arith) three.1 in
          record {
            faces = fs;
            lines = e;
            many = sym many;
            points = leb-true n 4096 one.0;
            inside = not_false_true (any (outside n) fs) two.0;
            different = not_false_true (any twice fs) three.0;
            words_enough = (roomy_room n (length words) (length floats) four.0).words_enough;
          }
