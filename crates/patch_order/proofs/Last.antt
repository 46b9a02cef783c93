-- Laws of the checks 13 and 23, one for each way out. Assumes nothing.
use mathlib.Core.Path.{◌≡◌, subst}
use mathlib.Core.Bool.{true, false}
use mathlib.Core.List.{List, ◌++◌}
use Prim.Native.Nat.{ℕ, ◌≤◌, ◌<◌}
use lib.Dec.{eqb}
use lib.ListN.{length, drop}
use borrow.Author.Tests.{le-leb, lt-leb}
use Rattle.domain.specs.Refusals.{refusal, first_refusal}
use Rattle.patch.specs.Lay.{Face}
use Rattle.orders.specs.Order.{order_accepted, greedy}
use Rattle.face_lines.specs.Format.{good, face_file}
use Rattle.patch_order.specs.Ordering.{last_checks, refused_with, ordered_as, ordered_of, order_after}
use Rattle.patch_order.specs.Inner.Ready.{OrderJudged}
use Rattle.patch_order.specs.declared.Ordered.{Ordered}

module _ (room : ℕ) (fs : List Face) where
  pub last_short : room < length fs → first_refusal (last_checks room fs) ≡ refusal 13 0
  unfolding first_refusal
  last_short h = rw (lt-leb (length fs) room h)

  module _ (h : length fs ≤ room) where
    pub last_none : order_accepted fs ≡ false → first_refusal (last_checks room fs) ≡ refusal 23 0
    unfolding first_refusal
    last_none e = rw (le-leb (length fs) room h, e)

    pub last_passed : order_accepted fs ≡ true → first_refusal (last_checks room fs) ≡ refusal 0 0
    unfolding first_refusal
    last_passed e = rw (le-leb (length fs) room h, e)

module _ (bytes order : List ℕ) (fs : List Face) (e : face_file bytes ≡ good fs) where
  the_faces : (gs : List Face) → face_file bytes ≡ good gs → fs ≡ gs
  the_faces gs g = cc

  judged_by : (r : Ordered) (order' : List ℕ) → r ≡ ordered_of (first_refusal (last_checks (length order) fs)) fs
      → order' ≡ order_after (first_refusal (last_checks (length order) fs)) fs order → OrderJudged bytes order r order'
  judged_by r order' h o = record {
    result = λ gs g. subst (λ (l : List Face). r ≡ ordered_of (first_refusal (last_checks (length order) l)) l) (the_faces gs g) h;
    order_left = λ gs g. subst (λ (l : List Face). order' ≡ order_after (first_refusal (last_checks (length order) l)) l order) (the_faces gs g) o;
  }

  pub judged_refused : (a : ℕ) → eqb a 0 ≡ false → first_refusal (last_checks (length order) fs) ≡ refusal a 0 → (r : Ordered) → r ≡ refused_with a 0
      → OrderJudged bytes order r order
  unfolding ordered_of order_after
  judged_refused a n s r h = judged_by r order (rw (s, n) h) (rw (s, n))

  pub judged_ordered : first_refusal (last_checks (length order) fs) ≡ refusal 0 0 → (r : Ordered) (order' : List ℕ) → r ≡ ordered_as fs
      → order' ≡ greedy fs ++ drop (length fs) order → OrderJudged bytes order r order'
  unfolding ordered_of order_after
  judged_ordered s r order' h o = judged_by r order' (rw s h) (rw s o)
