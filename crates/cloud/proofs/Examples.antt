-- The definition of the format on written inputs, by computation. Assumes nothing.
use mathlib.Core.Path.{◌≡◌, refl}
use mathlib.Core.List.{List, [], ◌∷◌, map}
use Prim.Native.Nat.{ℕ}
use Prim.Native.String.{String, [] as []ˢ, ◌∷◌ as ◌∷ˢ◌}
use Prim.Native.Char.{code}
use lib.Ieee.{Float, of_bits, neg, round, units, odd, size, climb, span, of_fields}
use Rattle.numbers.specs.Rounded.{f32}
use Rattle.decimals.specs.Decimal.{decimal}
use Rattle.numerals.specs.Format.{Parsed, parsed, malformed, then, starts_with, digits, few, digits_value, fraction, unsigned_number, number}
use Rattle.cloud_lines.specs.Format.{field, triple, point_fields}
use Rattle.cloud.specs.Format.{point_ahead, lines_of_points, body, File, cloud, malformed_line, under, file}
use Rattle.cloud_lines.specs.declared.line.Triple.{Triple}

-- the bytes of a text of ASCII characters
abbrev text : String → List ℕ
text []ˢ = []
text (c ∷ˢ s) = code c ∷ text s

-- the number at the front of a text; 9 where there is none
abbrev value : Parsed Float → Float
value (parsed v rest) = v
value malformed = f32 0x41100000

-- the first malformed line; 0 where the file is a cloud
abbrev wrong_line : File → ℕ
wrong_line (cloud radius ps) = 0
wrong_line (malformed_line line) = line

abbrev at : Float → Float → Float → Triple
at x y z = record { x = x; y = y; z = z }

four_lines : file (text "1\n0,0,0,0,0,1\n1,0,0,0,0,1\n0,1,0,0,0,1\n")
    ≡ (let o = f32 0 in let i = f32 0x3f800000 in
    cloud i (record { position = at o o o; normal = at o o i } ∷ record { position = at i o o; normal = at o o i } ∷ record {
      position = at o i o;
      normal = at o o i;
    } ∷ []))
unfolding file field then number unsigned_number fraction digits few digits_value decimal starts_with triple point_fields point_ahead lines_of_points body under
    of_bits of_fields neg round units odd size climb span
four_lines = refl

-- 0.5, minus zero, leading zeros, the largest number, which is 100,000, and the smallest
numbers : map (λ t. value (number (text t))) ("0.5" ∷ "-0" ∷ "-0.000000" ∷ "00012.50" ∷ "99999.999999" ∷ "-0.000001" ∷ [])
    ≡ map f32 (0x3f000000 ∷ 0x80000000 ∷ 0x80000000 ∷ 0x41480000 ∷ 0x47c35000 ∷ 0xb58637bd ∷ [])
unfolding number unsigned_number fraction digits few digits_value decimal starts_with of_bits of_fields neg round units odd size climb span
numbers = refl

-- 1.57 is 1 + 4781507 / 8388608, where its rounded fraction, added to its whole part, would be 1 + 4781506 / 8388608.
-- The others lie close to the middle of two f32.
close_ones : map (λ t. value (number (text t))) ("1.57" ∷ "16777.217" ∷ "1.006329" ∷ "2.012658" ∷ "8.003757" ∷ "65536.011719" ∷ "65536.011718" ∷ [])
    ≡ map f32 (0x3fc8f5c3 ∷ 0x4683126f ∷ 0x3f80cf64 ∷ 0x4000cf64 ∷ 0x41000f64 ∷ 0x47800002 ∷ 0x47800001 ∷ [])
unfolding number unsigned_number fraction digits few digits_value decimal starts_with of_bits of_fields neg round units odd size climb span
close_ones = refl

-- an empty input, a last line without a line feed, a line too many, and a number too long on either side of its point
malformed_lines : map (λ t. wrong_line (file (text t)))
    ("" ∷ "\n" ∷ "1" ∷ "1\n" ∷ "1\n0,0,0,0,0,1" ∷ "1\n0,0,0,0,0,1\n\n" ∷ "123456\n" ∷ "1.1234567\n" ∷ "1.\n" ∷ ".5\n" ∷ "-\n" ∷ "1\n0,0,0,0,0\n" ∷
    "1\n0,0,0,0,0,0,0\n" ∷ [])
    ≡ 1 ∷ 1 ∷ 1 ∷ 0 ∷ 2 ∷ 3 ∷ 1 ∷ 1 ∷ 1 ∷ 1 ∷ 1 ∷ 2 ∷ 2 ∷ []
unfolding file field then number unsigned_number fraction digits few digits_value decimal starts_with triple point_fields point_ahead lines_of_points body under
    of_bits of_fields neg round units odd size climb span
malformed_lines = refl
