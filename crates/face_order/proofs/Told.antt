-- Numbers that were copied to the front of the words stand there as the search for an order wants them. Assumes
-- nothing.
use mathlib.Core.Path.{◌≡◌, sym, ap, ◌∙◌, subst}
use mathlib.Core.Bool.{true, false}
use mathlib.Core.List.{List}
use Prim.Native.Nat.{ℕ, ◌+◌, ◌*◌, ◌/◌, ◌≤◌, ◌<◌}
use native.Mathlib.Omega.{arith}
use lib.ListN.{length, get_or}
use Rattle.patch.specs.Lay.{Face, face}
use Rattle.orders.specs.Order.{face_at, order_accepted}
use Rattle.corners.specs.Corners.{face_in}
use Rattle.std.specs.Prelude.{Some, None}
use Rattle.ordering.specs.Inner.Ordering.{FacesInWords, FacesOrdered}
use Rattle.ordering.proofs.Slices.{told_order, told_none}
use Rattle.regions.specs.Inner.Ordering.{placed_end}
use Rattle.patch_order.specs.Ordering.{refused_with, ordered_of, order_after}
use Rattle.patch_order.specs.Inner.Ready.{too_many}
use Rattle.patch_order.specs.declared.Ordered.{Ordered}
use Rattle.patch_order.proofs.Each.{all_different, all_inside, too_many_lem}
use Rattle.patch_order.proofs.Front.{words_below}
use Rattle.patch_order.proofs.Last.{last_short, last_none, last_passed}
use Rattle.patch_order.proofs.Stands.{few_most}
use Rattle.face_order.specs.Faces.{faces_of, Ready, Judged}
use Rattle.face_order.proofs.Seen.{faces_many, face_at_lem}

-- ---- faces that are not too many
module _ (numbers : List ℕ) (n words : ℕ) (p : Ready numbers n words) where
  abbrev fs : List Face
  fs = faces_of numbers

  abbrev many : ℕ
  many = length numbers / 3

  pub short_refused : (order : List ℕ) → length order < many → (r : Ordered) → r ≡ refused_with 13 0 → Judged fs order r order
  unfolding ordered_of order_after
  short_refused order h r e =
      let s = last_short (length order) fs (omega (arith, faces_many numbers)) in
      record { result = rw s e; order_left = rw s }

  module _ (order : List ℕ) (fits : many ≤ length order) where
    fits_faces : length fs ≤ length order
    fits_faces = omega (arith, faces_many numbers)

    none_refused : order_accepted fs ≡ false → (r : Ordered) → r ≡ refused_with 23 0 → Judged fs order r order
    unfolding ordered_of order_after
    none_refused a r e =
        let s = last_none (length order) fs fits_faces a in
        record { result = rw s e; order_left = rw s }

    pub many_refused : too_many n many ≡ true → (r : Ordered) → r ≡ refused_with 23 0 → Judged fs order r order
    many_refused m r e = none_refused (too_many_lem fs p.different n p.inside (ap (too_many n) (faces_many numbers) ∙ m)) r e

    module _ (few : too_many n many ≡ false) where
      pub copy_fits : length numbers ≤ words
      copy_fits = omega (arith, p.threes, p.words_enough, few_most n many few)

      module _ (words' : List ℕ) (size : length words' ≡ words) (same : (k : ℕ) → k < length numbers → get_or words' k 0 ≡ get_or numbers k 0) where
        each : (i : ℕ) → i < many → face_at fs i ≡ face_in words' i
        each i h =
            let a = sym (same (3 * i) (omega arith)) in
            let b = sym (same (3 * i + 1) (omega arith)) in
            let c = sym (same (3 * i + 2) (omega arith)) in
            face_at_lem numbers i h ∙ (λ t. face (a t) (b t) (c t))

        stands : FacesInWords many fs words'
        stands = record { many = faces_many numbers; each = each; different = all_different fs p.different }

        point_below : (i : ℕ) → i < many → ((face_in words' i).a < n) × ((face_in words' i).b < n) × ((face_in words' i).c < n)
        point_below i h =
            let t = all_inside fs p.different n p.inside i (omega (arith, faces_many numbers)) in
            subst (λ (f : Face). (f.a < n) × (f.b < n) × (f.c < n)) (each i h) (t.a_below, t.b_below, t.c_below)

        pub between_looks : (n ≤ 4096) × (many ≤ n) × (many ≤ length order) × (placed_end n ≤ length words') × ((s : ℕ) → s < 3 * many → get_or words' s 0 < n)
        between_looks = (
          p.points,
          few_most n many few,
          fits,
          omega (arith, p.words_enough, size),
          words_below words' n many point_below,
        )

        module _ (order' : List ℕ) where
          pub found_order : (number : ℕ) → ((gs : List Face) → FacesInWords many gs words' → FacesOrdered gs (Some number) order order')
              → (r : Ordered) → r ≡ record { answer = 0; detail = 0; faces = many; seeds = number } → Judged fs order r order'
          unfolding ordered_of order_after
          found_order number f r e =
              let found = f fs stands in
              let is = told_order fs number found.decided in
              let s = last_passed (length order) fs fits_faces is.0 in
              record { result = rw s (e ∙ rw (faces_many numbers, is.1)); order_left = rw s (found.ordered is.0) }

          pub found_none : ((gs : List Face) → FacesInWords many gs words' → FacesOrdered gs None order order')
              → (r : Ordered) → r ≡ refused_with 23 0 → Judged fs order r order'
          found_none f r e =
              let found = f fs stands in
              let none = told_none fs found.decided in
              subst (Judged fs order r) (sym (found.untouched none)) (none_refused none r e)
