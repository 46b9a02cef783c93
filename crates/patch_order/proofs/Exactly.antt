-- The answer is 0 exactly if some order of the faces is valid, beside the other checks. Assumes nothing.
use mathlib.Core.Path.{◌≡◌, refl, sym, ap, ◌∙◌}
use mathlib.Core.Logic.{◌↔◌}
use mathlib.Core.Bool.{Bool, true, false, not, cond}
use mathlib.Core.List.{List, [], ◌++◌}
use Prim.Native.Nat.{ℕ, ◌+◌, ◌*◌}
use native.Mathlib.Omega.{arith}
use lib.Dec.{leb, eqb}
use lib.ListN.{length}
use borrow.Author.Tests.{le-leb, leb-true, eqb-true}
use Rattle.lists.specs.Lists.{any}
use Rattle.domain.specs.Refusals.{check, first_refusal, roomy}
use Rattle.domain.specs.declared.Refusal.{Refusal}
use Rattle.domain.proofs.Refusals.{check_accepted, roomy_room}
use Rattle.patch.specs.Lay.{Face}
use Rattle.orders.specs.Order.{greedy, order_accepted}
use Rattle.orders.proofs.Decide.{valid_accepted, accepted_valid}
use Rattle.face_lines.specs.Format.{FaceLines, good, wrong, face_file, outside, twice}
use Rattle.patch_order.specs.Ordering.{checks_of, last_checks, refusal_of, refused_with, ordered_as, ordered_of, Orderable}
use Rattle.patch_order.specs.declared.Ordered.{Ordered}
use Rattle.patch_order.proofs.Each.{all_different}

-- the answer that is told is the refusal's
pub told_answer : (r : Refusal) (fs : List Face) → (ordered_of r fs).answer ≡ r.answer
unfolding ordered_of
told_answer r fs = go (eqb r.answer 0) refl
  where
    go : (b : Bool) → eqb r.answer 0 ≡ b → (cond b (ordered_as fs) (refused_with r.answer r.detail)).answer ≡ r.answer
    go true e = sym (eqb-true r.answer 0 e)
    go false e = refl

pub not_false_true : (b : Bool) → not b ≡ true → b ≡ false
not_false_true false e = refl
not_false_true true e = sym e

module _ (bytes : List ℕ) (n room words floats : ℕ) where
  orderable_zero : Orderable bytes n room words floats → (refusal_of n room words floats (face_file bytes)).answer ≡ 0
  unfolding refusal_of first_refusal roomy
  orderable_zero o =
      let fs = o.faces in
      rw (
        o.lines,
        le-leb n 4096 o.points,
        o.inside,
        o.different,
        le-leb (24 * n + 64) words o.words_enough,
        le-leb (4 * n + 64) floats o.floats_enough,
        le-leb (length fs) room o.order_fits,
        valid_accepted fs (all_different fs o.different) o.order o.valid,
      )

  passes : (fs : List Face) → face_file bytes ≡ good fs → (first_refusal (checks_of n words floats fs ++ last_checks room fs)).answer ≡ 0
      → Orderable bytes n room words floats
  passes fs e z =
      let one = check_accepted (check (leb n 4096) 3 0) _ (λ h. omega arith) z in
      let two = check_accepted (check (not (any (outside n) fs)) 14 0) _ (λ h. omega arith) one.1 in
      let three = check_accepted (check (not (any twice fs)) 17 0) _ (λ h. omega arith) two.1 in
      let four = check_accepted (check (roomy n words floats) 7 0) _ (λ h. omega arith) three.1 in
      let five = check_accepted (check (leb (length fs) room) 13 0) _ (λ h. omega arith) four.1 in
      let six = check_accepted (check (order_accepted fs) 23 0) [] (λ h. omega arith) five.1 in
      let lent = roomy_room n words floats four.0 in
      let same = not_false_true (any twice fs) three.0 in
      record {
        faces = fs;
        lines = e;
        points = leb-true n 4096 one.0;
        inside = not_false_true (any (outside n) fs) two.0;
        different = same;
        words_enough = lent.words_enough;
        floats_enough = lent.floats_enough;
        order_fits = leb-true (length fs) room five.0;
        order = greedy fs;
        valid = accepted_valid fs (all_different fs same) six.0;
      }

  zero_orderable : (l : FaceLines) → face_file bytes ≡ l → (refusal_of n room words floats l).answer ≡ 0 → Orderable bytes n room words floats
  unfolding refusal_of
  zero_orderable (good fs) e z = passes fs e z
  zero_orderable (wrong line) e z = absurd (omega arith)

  pub zero_exactly : (r : Ordered) (fs : List Face) → r ≡ ordered_of (refusal_of n room words floats (face_file bytes)) fs
      → (r.answer ≡ 0) ↔ Orderable bytes n room words floats
  zero_exactly r fs e =
      let same : r.answer ≡ (refusal_of n room words floats (face_file bytes)).answer = ap (λ (q : Ordered). q.answer) e ∙ told_answer
      (refusal_of n room words floats (face_file bytes)) fs in
      (λ z. zero_orderable (face_file bytes) refl (sym same ∙ z), λ o. same ∙ orderable_zero o)
