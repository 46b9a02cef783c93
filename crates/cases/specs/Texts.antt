-- Whole files and what the program prints of them, from the bytes to the text. They stand in tests/lay-cases too, where
-- the Rust is held to the same.
-- `text_cases` of proofs/Texts.antt is the theorem.
use Rattle.std.specs.Prelude.{◌≡◌, List, [], ◌++◌, ℕ}
use Rattle.listing.specs.Listing.{text}
use Rattle.patch_text.specs.Text.{printed}

-- the scope's listing
abbrev pub three_points : List ℕ
three_points = text "1\n0,0,0,0,0,1\n1,0,0,0,0,1\n0,1,0,0,0,1\n"

-- two squares far from each other, and a point that is alone
abbrev pub two_squares : List ℕ
two_squares =
    text "1\n0,0,0,0,0,1\n1,0,0,0,0,1\n0,1,0,0,0,1\n1,1,0,0,0,1\n"
    ++ text "50,0,0,0,0,1\n51,0,0,0,0,1\n50,1,0,0,0,1\n51,1,0,0,0,1\n"
    ++ text "20,0,0,0,0,1\n"

pub record TextCases : Type 0 where
  pub listing : printed three_points ≡ text "points,faces,seeds,looks,pivots\n3,1,1,3,3\nface,a,b,c\n0,0,1,2\n"
  -- points, faces, seeds, looks and pivots are five different numbers
  pub five_counts : printed two_squares
      ≡ text "points,faces,seeds,looks,pivots\n9,4,2,12,10\nface,a,b,c\n" ++ text "0,0,1,2\n1,1,2,3\n2,4,5,6\n3,4,5,7\n"
  -- refusals: empty input, a malformed line, and two points
  pub empty : printed [] ≡ text "refused,10,1\n"
  pub malformed : printed (text "1\n0,0,0,0,0,1\n0,0,0,0,0\n") ≡ text "refused,10,3\n"
  pub two_points : printed (text "1\n0,0,0,0,0,1\n1,0,0,0,0,1\n") ≡ text "refused,8,0\n"
