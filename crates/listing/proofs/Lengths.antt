-- How long a text is, where its numbers have at most ten digits. Assumes nothing.
use Prim.Native.Nat.{ℕ, zero, suc, ◌+◌, ◌*◌, ◌^◌, ◌≤◌, ◌<◌}
use mathlib.Core.Path.{◌≡◌}
use mathlib.Core.List.{List, [], ◌∷◌, ◌++◌}
use native.Mathlib.Omega.{arith}
use lib.ListN.{length, get_or, length-append}
use Rattle.listing.specs.Listing.{text, digits_of, field_text, face_line, face_lines, counts_line, listing, refusal_text}
use Rattle.listing.specs.declared.ListingCounts.{ListingCounts}
use Rattle.listing.proofs.Decimal.{decimal_within}

-- ten digits hold it
abbrev pub Ten : ℕ → Type 0
Ten n = n < 10000000000

field_most : (n end : ℕ) → Ten n → length (field_text n end) ≤ 11
unfolding field_text
field_most n end h = let below : n < 10 ^ 10 = h in omega (arith, length-append (digits_of n) (end ∷ []), decimal_within 9 n below)

-- four lists in a row
row : (a b c d : List ℕ) → length (a ++ b ++ c ++ d) ≡ length a + length b + length c + length d
row a b c d = omega (arith, length-append (a ++ b ++ c) d, length-append (a ++ b) c, length-append a b)

line_most : (i a b c : ℕ) → Ten i → Ten a → Ten b → Ten c → length (face_line i a b c) ≤ 44
unfolding face_line
line_most i a b c h k l m =
    let is : length (face_line i a b c) ≡ length (field_text i 44) + length (field_text a 44) + length (field_text b 44)
    + length (field_text c 10) = row (field_text i 44) (field_text a 44) (field_text b 44) (field_text c 10) in
    omega (arith, is, field_most i 44 h, field_most a 44 k, field_most b 44 l, field_most c 10 m)

lines_most : (fs : List ℕ) → ((k : ℕ) → Ten (get_or fs k 0)) → (n i : ℕ) → i + n < 10000000000 → length (face_lines fs i n) ≤ 44 * n
unfolding face_lines
lines_most fs ten zero i h = omega arith
lines_most fs ten (suc n) i h =
    let rest = lines_most fs ten n (i + 1) (omega arith) in
    let a : ℕ = get_or fs (3 * i) 0 in
    let b : ℕ = get_or fs (3 * i + 1) 0 in
    let c : ℕ = get_or fs (3 * i + 2) 0 in
    omega (
      arith,
      length-append (face_line i a b c) (face_lines fs (i + 1) n),
      rest,
      line_most i a b c (omega arith) (ten (3 * i)) (ten (3 * i + 1))
          (ten (3 * i + 2)),
    )

counts_most : (c : ListingCounts) → Ten c.points → Ten c.faces → Ten c.seeds → Ten c.looks → Ten c.pivots → length (counts_line c) ≤ 55
unfolding counts_line
counts_most c n f s l p =
    let first : List ℕ = field_text c.points 44 ++ field_text c.faces 44 ++ field_text c.seeds 44 ++ field_text c.looks 44 in
    let is : length (counts_line c) ≡ length first + length (field_text c.pivots 10) = length-append first (field_text c.pivots 10) in
    let four = row (field_text c.points 44) (field_text c.faces 44) (field_text c.seeds 44) (field_text c.looks 44) in
    omega (
      arith,
      is,
      four,
      field_most c.points 44 n,
      field_most c.faces 44 f,
      field_most c.seeds 44 s,
      field_most c.looks 44 l,
      field_most
          c.pivots 10 p,
    )

pub listing_most : (c : ListingCounts) (fs : List ℕ) → Ten c.points → Ten c.faces → Ten c.seeds → Ten c.looks → Ten c.pivots
    → ((k : ℕ) → Ten (get_or fs k 0)) → length (listing c fs) ≤ 98 + 44 * c.faces
unfolding listing text
listing_most c fs n f s l p ten =
    let is : length (listing c fs) ≡ length (text "points,faces,seeds,looks,pivots\n") + length (counts_line c) + length (text "face,a,b,c\n")
    + length (face_lines fs 0 c.faces) =
    row (text "points,faces,seeds,looks,pivots\n") (counts_line c) (text "face,a,b,c\n") (face_lines fs 0 c.faces) in
    omega (arith, is, counts_most c n f s l p, lines_most fs ten c.faces 0 (omega arith))

pub refusal_most : (answer detail : ℕ) → Ten answer → Ten detail → length (refusal_text answer detail) ≤ 30
unfolding refusal_text text
refusal_most answer detail a d =
    let is : length (refusal_text answer detail) ≡ length (text "refused," ++ field_text answer 44)
    + length (field_text detail 10) = length-append (text "refused," ++ field_text answer 44) (field_text detail 10) in
    omega (arith, is, length-append (text "refused,") (field_text answer 44), field_most answer 44 a, field_most detail 10 d)

-- ---- no text is empty
pub refusal_some : (answer detail : ℕ) → 0 < length (refusal_text answer detail)
unfolding refusal_text text
refusal_some answer detail =
    let is : length (refusal_text answer detail) ≡ length (text "refused," ++ field_text answer 44)
    + length (field_text detail 10) = length-append (text "refused," ++ field_text answer 44) (field_text detail 10) in
    omega (arith, is, length-append (text "refused,") (field_text answer 44))

pub listing_some : (c : ListingCounts) (fs : List ℕ) → 0 < length (listing c fs)
unfolding listing text
listing_some c fs =
    let is : length (listing c fs) ≡ length (text "points,faces,seeds,looks,pivots\n") + length (counts_line c) + length (text "face,a,b,c\n")
    + length (face_lines fs 0 c.faces) =
    row (text "points,faces,seeds,looks,pivots\n") (counts_line c) (text "face,a,b,c\n") (face_lines fs 0 c.faces) in
    omega (arith, is)
