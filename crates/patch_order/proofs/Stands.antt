-- The faces that were stored stand in front of the words as the search for an order wants them, and what it finds is
-- the answer. Assumes nothing.
use mathlib.Core.Path.{◌≡◌, refl, sym, ap, ◌∙◌, subst}
use mathlib.Core.Logic.{◌⊎◌, inl, inr}
use mathlib.Core.Bool.{Bool, true, false, ◌&&◌}
use mathlib.Core.List.{List}
use Prim.Native.Nat.{ℕ, zero, suc, ◌+◌, ◌*◌, ◌≤◌, ◌<◌}
use native.Mathlib.Omega.{arith}
use lib.Dec.{ltb}
use lib.ListN.{length, get_or}
use borrow.Author.Tests.{ltb-false}
use Rattle.patch.specs.Lay.{Face}
use Rattle.patch.specs.View.{written}
use Rattle.patch.proofs.View.{length_written}
use Rattle.face_lines.specs.Inner.Answers.{Readable, Stored}
use Rattle.corners.specs.Corners.{face_in}
use Rattle.std.specs.Prelude.{Some, None}
use Rattle.ordering.specs.Inner.Ordering.{FacesInWords, FacesOrdered}
use Rattle.ordering.proofs.Slices.{told_order, told_none}
use Rattle.regions.specs.Inner.Ordering.{placed_end}
use Rattle.patch_order.specs.Ordering.{refused_with}
use Rattle.patch_order.specs.Inner.Ready.{too_many, Checked, OrderJudged}
use Rattle.patch_order.specs.declared.Ordered.{Ordered}
use Rattle.patch_order.proofs.Each.{all_different, all_inside}
use Rattle.patch_order.proofs.Front.{written_at, words_below}
use Rattle.patch_order.proofs.Last.{last_none, last_passed, judged_refused, judged_ordered}

few_faces : (n count : ℕ) → too_many n count ≡ false → (count ≡ 0) ⊎ (count + 2 ≤ n)
unfolding too_many
few_faces n zero e = inl refl
few_faces n (suc k) e = go (ltb 0 (suc k)) refl e
  where
    go : (b : Bool) → ltb 0 (suc k) ≡ b → (b && ltb n (suc k + 2)) ≡ false → (suc k ≡ 0) ⊎ (suc k + 2 ≤ n)
    go true p q = inr (ltb-false n (suc k + 2) q)
    go false p q = absurd (omega (arith, ltb-false 0 (suc k) p))

pub few_most : (n count : ℕ) → too_many n count ≡ false → count ≤ n
few_most n count e = go (few_faces n count e)
  where
    go : (count ≡ 0) ⊎ (count + 2 ≤ n) → count ≤ n
    go (inl z) = omega arith
    go (inr h) = omega arith

module _ (bytes : List ℕ) (n count : ℕ) (words : List ℕ) (p : Checked bytes n count (length words)) (few : too_many n count ≡ false) where
  pub readable : Readable bytes
  readable = record { faces = p.faces; good_lines = p.lines; few = omega (arith, p.many, p.points, few_most n count few) }

  module _ (words' : List ℕ) (stored : Stored bytes words words') where
    holds : words' ≡ written p.faces words
    holds = stored p.faces p.lines

    room : 3 * length p.faces ≤ length words
    room = omega (arith, p.many, p.words_enough, few_most n count few)

    told : FacesInWords count p.faces words'
    told = record {
      many = p.many;
      each = λ i h. rw holds (sym (written_at p.faces words room i (omega (arith, p.many))));
      different = all_different p.faces p.different;
    }

    point_below : (i : ℕ) → i < count → ((face_in words' i).a < n) × ((face_in words' i).b < n) × ((face_in words' i).c < n)
    point_below i h =
        let t = all_inside p.faces p.different n p.inside i (omega (arith, p.many)) in
        let at = told.each i h in
        subst (λ (f : Face). (f.a < n) × (f.b < n) × (f.c < n)) at (t.a_below, t.b_below, t.c_below)

    module _ (order : List ℕ) (fits : count ≤ length order) where
      pub between_looks : (n ≤ 4096) × (count ≤ n) × (count ≤ length order) × (placed_end n ≤ length words') × ((s : ℕ) → s < 3 * count → get_or words' s 0 < n)
      between_looks = (
        p.points,
        few_most n count few,
        fits,
        omega (arith, p.words_enough, ap length holds, length_written p.faces words),
        words_below words' n count point_below,
      )

      fits_faces : length p.faces ≤ length order
      fits_faces = omega (arith, p.many)

      module _ (order' : List ℕ) where
        pub found_order : (number : ℕ) → ((fs : List Face) → FacesInWords count fs words' → FacesOrdered fs (Some number) order order')
            → (r : Ordered) → r ≡ record { answer = 0; detail = 0; faces = count; seeds = number } → OrderJudged bytes order r order'
        found_order number f r h =
            let found = f p.faces told in
            let is = told_order p.faces number found.decided in
            judged_ordered bytes order p.faces p.lines (last_passed (length order) p.faces fits_faces is.0) r order' (h ∙ rw (p.many, is.1))
            (found.ordered is.0)

        pub found_none : ((fs : List Face) → FacesInWords count fs words' → FacesOrdered fs None order order')
            → (r : Ordered) → r ≡ refused_with 23 0 → OrderJudged bytes order r order'
        found_none f r h =
            let found = f p.faces told in
            let e = told_none p.faces found.decided in
            subst (OrderJudged bytes order r) (sym (found.untouched e))
            (judged_refused bytes order p.faces p.lines 23 refl (last_none (length order) p.faces fits_faces e) r h)
