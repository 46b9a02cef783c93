-- Faces as numbers get what the same faces get as lines of a file. Assumes nothing.
use mathlib.Core.Path.{◌≡◌, sym, ◌∙◌}
use mathlib.Core.List.{List}
use Prim.Native.Nat.{ℕ, ◌%◌}
use lib.ListN.{length}
use lib.Ieee.{Float}
use borrow.Author.Tests.{eq-eqb}
use Rattle.face_lines.specs.Format.{good, face_file}
use Rattle.patch_order.specs.Ordering.{refusal_of, faces_read, OrdersPatch}
use Rattle.patch_order.specs.declared.Ordered.{Ordered}
use Rattle.face_order.specs.Faces.{faces_of, refusal_of_numbers, OrdersFaces}

module _ (bytes numbers : List ℕ) (n : ℕ) (order words : List ℕ) (floats : List Float) (threes : length numbers % 3 ≡ 0)
    (lines : face_file bytes ≡ good (faces_of numbers)) where
  same_refusal : refusal_of_numbers n (length order) (length words) (length floats) numbers
      ≡ refusal_of n (length order) (length words) (length floats) (face_file bytes)
  unfolding refusal_of_numbers
  same_refusal = rw (eq-eqb (length numbers % 3) 0 threes, lines)

  same_faces : faces_read (face_file bytes) ≡ faces_of numbers
  unfolding faces_read
  same_faces = rw lines

  pub lines_or_numbers : {r q : Ordered} {order₁ order₂ words₁ words₂ : List ℕ} {floats₁ floats₂ : List Float}
      → OrdersPatch bytes n order words floats r order₁ words₁ floats₁ → OrdersFaces numbers n order words floats q order₂ words₂ floats₂ → (r ≡ q)
      × (order₁ ≡ order₂)
  lines_or_numbers a b = (
    a.result ∙ sym (b.result ∙ rw (same_refusal, same_faces)),
    a.order_left ∙ sym (b.order_left ∙ rw (same_refusal, same_faces)),
  )
