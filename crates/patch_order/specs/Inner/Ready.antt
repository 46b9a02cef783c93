-- What the inner functions require, and promise to each other.
use Rattle.std.specs.Prelude.{ℕ, ◌+◌, ◌*◌, ◌≤◌, ◌≡◌, Bool, false, ◌&&◌, List, ltb, length}
use Rattle.lists.specs.Lists.{any}
use Rattle.domain.specs.Refusals.{first_refusal}
use Rattle.patch.specs.Lay.{Face}
use Rattle.face_lines.specs.Format.{good, face_file, outside, twice}
use Rattle.patch_order.specs.Ordering.{last_checks, ordered_of, order_after}
use Rattle.patch_order.specs.declared.Ordered.{Ordered}

-- there are faces, and too many of them for n points: a valid order has a new point for each face and two more
unfoldable pub too_many : ℕ → ℕ → Bool
too_many n count = ltb 0 count && ltb n (count + 2)

-- a file of `count` faces has passed the checks up to 7
pub record Checked (bytes : List ℕ) (n count words : ℕ) : Type 0 where
  pub faces : List Face
  pub lines : face_file bytes ≡ good faces
  pub many : length faces ≡ count
  pub points : n ≤ 4096
  pub inside : any (outside n) faces ≡ false
  pub different : any twice faces ≡ false
  pub words_enough : 24 * n + 64 ≤ words

-- what 13 and 23 come to, and the order slice
pub record OrderJudged (bytes order : List ℕ) (r : Ordered) (order' : List ℕ) : Type 0 where
  pub result : (fs : List Face) → face_file bytes ≡ good fs → r
      ≡ ordered_of (first_refusal (last_checks (length order) fs)) fs
  pub order_left :
      (fs : List Face) → face_file bytes ≡ good fs
      → order' ≡ order_after (first_refusal (last_checks (length order) fs)) fs order
