-- Faces of another ball pivoter, as point numbers: the checks of a file's faces behind one of the count, and what the
-- call answers and leaves. Definitions only.
use Rattle.std.specs.Prelude.{ℕ, ◌+◌, ◌*◌, ◌/◌, ◌%◌, ◌≤◌, ◌≡◌, Bool, false, cond, ◌&&◌, List, map, eqb, length, Float}
use Rattle.answers.specs.Answers.{wrong_lengths}
use Rattle.numbers.specs.Rounded.{f32}
use Rattle.lists.specs.Lists.{any, up_from}
use Rattle.clearing.specs.Swept.{swept}
use Rattle.domain.specs.Refusals.{refusal, first_refusal}
use Rattle.domain.specs.declared.Refusal.{Refusal}
use Rattle.patch.specs.Lay.{Face}
use Rattle.corners.specs.Corners.{face_in}
use Rattle.face_lines.specs.Format.{good, outside, twice}
use Rattle.patch_order.specs.Ordering.{last_checks, refusal_of, passed, ordered_of, order_after}
use Rattle.patch_order.specs.declared.Ordered.{Ordered}
use Rattle.face_order.specs.declared.FacesSeen.{FacesSeen}

-- three numbers a face
abbrev pub faces_of : List ℕ → List Face
faces_of numbers = map (face_in numbers) (up_from 0 (length numbers / 3))

-- 2 where the numbers are not in threes, else what a file of these faces gets
unfoldable pub refusal_of_numbers : ℕ → ℕ → ℕ → ℕ → List ℕ → Refusal
refusal_of_numbers n room words floats numbers =
    cond (eqb (length numbers % 3) 0) (refusal_of n room words floats (good (faces_of numbers))) (refusal wrong_lengths 0)

-- whether the checks up to 7 have passed
unfoldable pub passed_numbers : ℕ → ℕ → ℕ → List ℕ → Bool
passed_numbers n words floats numbers =
    eqb (length numbers % 3) 0 && passed n words floats (good (faces_of numbers))

-- what a call answers and leaves, of point numbers, a count of points and the three lent slices
pub record OrdersFaces
    (numbers : List ℕ) (n : ℕ) (order words : List ℕ) (floats : List Float)
    (r : Ordered) (order' words' : List ℕ) (floats' : List Float) : Type 0 where
  pub result :
      r ≡ ordered_of (refusal_of_numbers n (length order) (length words) (length floats) numbers) (faces_of numbers)
  pub order_left :
      order'
      ≡ order_after (refusal_of_numbers n (length order) (length words) (length floats) numbers) (faces_of numbers) order
  pub words_left : words' ≡ swept 0 (passed_numbers n (length words) (length floats) numbers) words
  pub floats_left : floats' ≡ swept (f32 0) (passed_numbers n (length words) (length floats) numbers) floats

-- ---- what the inner functions require, and promise to each other
unfoldable pub seen_of : ℕ → List Face → FacesSeen
seen_of n fs = record { outside = any (outside n) fs; twice = any twice fs }

-- faces in threes that have passed the checks up to 7
pub record Ready (numbers : List ℕ) (n words : ℕ) : Type 0 where
  pub threes : length numbers % 3 ≡ 0
  pub points : n ≤ 4096
  pub inside : any (outside n) (faces_of numbers) ≡ false
  pub different : any twice (faces_of numbers) ≡ false
  pub words_enough : 24 * n + 64 ≤ words

-- what 13 and 23 come to, and the order slice
pub record Judged (fs : List Face) (order : List ℕ) (r : Ordered) (order' : List ℕ) : Type 0 where
  pub result : r ≡ ordered_of (first_refusal (last_checks (length order) fs)) fs
  pub order_left : order' ≡ order_after (first_refusal (last_checks (length order) fs)) fs order
