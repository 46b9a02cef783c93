-- The texts of the scope, by computation. Assumes nothing.
use mathlib.Core.Path.{◌≡◌, refl}
use mathlib.Core.List.{[], ◌∷◌, ◌++◌}
use Rattle.listing.specs.Listing.{text, spelled, digits_of, field_text, face_line, face_lines, counts_line, listing, refusal_text}

three_points : listing (record {
  points =
      3;
  faces = 1;
  seeds = 1;
  looks = 3;
  pivots = 3;
}) (0 ∷ 1 ∷ 2 ∷ []) ≡ text "points,faces,seeds,looks,pivots\n3,1,1,3,3\nface,a,b,c\n0,0,1,2\n"
unfolding listing text counts_line face_lines face_line field_text digits_of spelled
three_points = refl

empty_input : refusal_text 10 1 ≡ text "refused,10,1\n"
unfolding refusal_text text field_text digits_of spelled
empty_input = refl

large_numbers : digits_of 0 ++ digits_of 10 ++ digits_of 4294967295 ++ digits_of 18446744073709551615 ≡ text "010429496729518446744073709551615"
unfolding text digits_of spelled
large_numbers = refl
