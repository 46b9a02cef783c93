-- Faces of another ball pivoter, as lines of a file: could they be a patch of ours in shape, and the order given along.
-- The checks in their order, and what the call answers and leaves. Definitions only.
use Rattle.std.specs.Prelude.{ℕ, ◌+◌, ◌*◌, ◌≤◌, ◌≡◌, ◌↔◌, Bool, false, not, cond, List, [], ◌∷◌, ◌++◌, leb, eqb, length, drop, Float}
use Rattle.answers.specs.Answers.{too_many_points, short_work, bad_line, short_output, missing_point, equal_numbers, no_order}
use Rattle.numbers.specs.Rounded.{f32}
use Rattle.lists.specs.Lists.{any}
use Rattle.clearing.specs.Swept.{swept}
use Rattle.domain.specs.Refusals.{Check, check, refusal, first_refusal, roomy}
use Rattle.domain.specs.declared.Refusal.{Refusal}
use Rattle.patch.specs.Lay.{Face}
use Rattle.orders.specs.Order.{Valid, greedy, seeds, order_accepted}
use Rattle.face_lines.specs.Format.{FaceLines, good, wrong, face_file, outside, twice}
use Rattle.patch_order.specs.declared.Ordered.{Ordered}

-- 3, 14, 17 and 7: for n points, whether some number is out of range, whether some face has two equal ones, and the
-- lengths of the work slices
abbrev pub first_checks : ℕ → Bool → Bool → ℕ → ℕ → List Check
first_checks n out same words floats =
    check (leb n 4096) too_many_points 0
    ∷ check (not out) missing_point 0
    ∷ check (not same) equal_numbers 0
    ∷ check (roomy n words floats) short_work 0
    ∷ []

-- 13 and 23: for an order slice of this length
abbrev pub last_checks : ℕ → List Face → List Check
last_checks room fs =
    check (leb (length fs) room) short_output 0
    ∷ check (order_accepted fs) no_order 0
    ∷ []

abbrev pub checks_of : ℕ → ℕ → ℕ → List Face → List Check
checks_of n words floats fs = first_checks n (any (outside n) fs) (any twice fs) words floats

-- the whole file's refusal; 10 comes first
unfoldable pub refusal_of : ℕ → ℕ → ℕ → ℕ → FaceLines → Refusal
unfolding first_refusal
refusal_of n room words floats (good fs) = first_refusal (checks_of n words floats fs ++ last_checks room fs)
refusal_of n room words floats (wrong line) = refusal bad_line line

-- whether the checks up to 7 have passed
unfoldable pub passed : ℕ → ℕ → ℕ → FaceLines → Bool
unfolding first_refusal
passed n words floats (good fs) = eqb (first_refusal (checks_of n words floats fs)).answer 0
passed n words floats (wrong line) = false

unfoldable pub faces_read : FaceLines → List Face
faces_read (good fs) = fs
faces_read (wrong line) = []

-- ---- what comes back
abbrev pub refused_with : ℕ → ℕ → Ordered
refused_with answer detail = record { answer = answer; detail = detail; faces = 0; seeds = 0 }

abbrev pub ordered_as : List Face → Ordered
ordered_as fs = record { answer = 0; detail = 0; faces = length fs; seeds = seeds fs }

unfoldable pub ordered_of : Refusal → List Face → Ordered
ordered_of r fs = cond (eqb r.answer 0) (ordered_as fs) (refused_with r.answer r.detail)

-- the order in front of the slice that is lent for it, which is untouched at a refusal
unfoldable pub order_after : Refusal → List Face → List ℕ → List ℕ
order_after r fs order = cond (eqb r.answer 0) (greedy fs ++ drop (length fs) order) order

-- the file is one of well-formed lines that pass every check, and some order of its faces is valid
pub record Orderable (bytes : List ℕ) (n room words floats : ℕ) : Type 0 where
  pub faces : List Face
  pub lines : face_file bytes ≡ good faces
  pub points : n ≤ 4096
  pub inside : any (outside n) faces ≡ false
  pub different : any twice faces ≡ false
  pub words_enough : 24 * n + 64 ≤ words
  pub floats_enough : 4 * n + 64 ≤ floats
  pub order_fits : length faces ≤ room
  pub order : List ℕ
  pub valid : Valid faces order

-- what a call answers and leaves, of a file's bytes, a count of points and the three lent slices
pub record OrdersPatch
    (bytes : List ℕ) (n : ℕ) (order words : List ℕ) (floats : List Float)
    (r : Ordered) (order' words' : List ℕ) (floats' : List Float) : Type 0 where
  pub result :
      r ≡ ordered_of (refusal_of n (length order) (length words) (length floats) (face_file bytes))
      (faces_read (face_file bytes))
  pub order_left :
      order'
      ≡ order_after (refusal_of n (length order) (length words) (length floats) (face_file bytes))
      (faces_read (face_file bytes)) order
  pub words_left : words' ≡ swept 0 (passed n (length words) (length floats) (face_file bytes)) words
  pub floats_left : floats' ≡ swept (f32 0) (passed n (length words) (length floats) (face_file bytes)) floats
  -- accepted are exactly the files whose faces have some valid order
  pub exactly : (r.answer ≡ 0) ↔ Orderable bytes n (length order) (length words) (length floats)
