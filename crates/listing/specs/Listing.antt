-- The text that the program prints: the listing of a patch, or a refusal. Definitions only.
use Rattle.std.specs.Prelude.{ℕ, zero, suc, ◌+◌, ◌*◌, ◌/◌, ◌%◌, cond, List, [], ◌∷◌, ◌++◌, leb, ltb, length, get_or, drop}
use Rattle.std.specs.Prelude.{if◌then◌else◌, Option, Some, None}
use Prim.Native.String.{String, [] as []ˢ, ◌∷◌ as ◌∷ˢ◌}
use Prim.Native.Char.{code}
use Rattle.listing.specs.declared.ListingCounts.{ListingCounts}

-- the bytes of a text of ASCII characters
unfoldable pub text : String → List ℕ
text []ˢ = []
text (c ∷ˢ s) = code c ∷ text s

-- a number's decimal digits, without leading zeros. Each step drops a digit, so fuel above the number lasts.
unfoldable pub spelled : ℕ → ℕ → List ℕ
spelled zero n = []
spelled (suc fuel) n = let more = spelled fuel (n / 10) ++ ((48 + n % 10) ∷ []) in cond (ltb n 10) ((48 + n) ∷ []) more

unfoldable pub digits_of : ℕ → List ℕ
unfolding spelled
digits_of n = spelled (suc n) n

-- a number and the byte that ends it: a comma is 44, a line feed 10
unfoldable pub field_text : ℕ → ℕ → List ℕ
unfolding digits_of
field_text n end = digits_of n ++ (end ∷ [])

-- the line of one face: its number and its three points'
unfoldable pub face_line : ℕ → ℕ → ℕ → ℕ → List ℕ
unfolding field_text
face_line i a b c = field_text i 44 ++ field_text a 44 ++ field_text b 44 ++ field_text c 10

-- the lines of n faces, the first of them number i; three entries of fs to a face
unfoldable pub face_lines : List ℕ → ℕ → ℕ → List ℕ
unfolding face_line
face_lines fs i zero = []
face_lines fs i (suc n) = face_line i (get_or fs (3 * i) 0) (get_or fs (3 * i + 1) 0) (get_or fs (3 * i + 2) 0)
    ++ face_lines fs (i + 1) n

unfoldable pub counts_line : ListingCounts → List ℕ
unfolding field_text
counts_line c = field_text c.points 44 ++ field_text c.faces 44 ++ field_text c.seeds 44 ++ field_text c.looks 44
    ++ field_text c.pivots 10

-- the whole listing
unfoldable pub listing : ListingCounts → List ℕ → List ℕ
unfolding text counts_line face_lines
listing c fs =
    text "points,faces,seeds,looks,pivots\n" ++ counts_line c ++ text "face,a,b,c\n" ++ face_lines fs 0 c.faces

-- a refusal
unfoldable pub refusal_text : ℕ → ℕ → List ℕ
unfolding text field_text
refusal_text answer detail = text "refused," ++ field_text answer 44 ++ field_text detail 10

-- ---- into a lent buffer: the whole text in front, or nothing where it does not fit; and how many bytes were
-- written, if it fits
unfoldable pub filled : List ℕ → List ℕ → List ℕ
filled t out = cond (leb (length t) (length out)) (t ++ drop (length t) out) out

unfoldable pub written_length : List ℕ → List ℕ → Option ℕ
written_length t out = if leb (length t) (length out) then Some (length t) else None

-- Where there are fewer faces than the counts say, there is nothing to list.
unfoldable pub listed : ListingCounts → List ℕ → List ℕ
unfolding listing
listed c fs = cond (leb (3 * c.faces) (length fs)) (listing c fs) []

unfoldable pub listed_length : ListingCounts → List ℕ → List ℕ → Option ℕ
unfolding listing written_length
listed_length c fs out = if leb (3 * c.faces) (length fs) then written_length (listing c fs) out else None
