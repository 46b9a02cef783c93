-- Cutting an f32 to a u32 by the fields of its bits, case by case in the rising order of the exponent's field, as IEEE
-- 754's layout of binary32 has it (3.4): the sign S, the exponent's field E of 8 bits, the fraction's field T of 23.
-- A normal number is 2 ^ (E - 127) * (1 + T / 2 ^ 23), which is (2 ^ 23 + T) * 2 ^ (E - 150). Definitions only.
use Rattle.std.specs.Prelude.{ℕ, ◌+◌, ◌-◌, ◌*◌, ◌/◌, ◌%◌, ◌^◌, Bool, cond, leb, ltb, eqb}

-- E = 0             a zero or a subnormal number, of either sign: 0
-- E < 127           a normal number below one, of either sign: 0
-- S                 a number that is at most -1, minus infinity, or a not-a-number: 0
-- E < 150           a whole part and a fraction: its last 150 - E digits are dropped
-- E < 159           a whole number: its digits are moved up by E - 150 places
-- E < 255           2 ^ 32 or more: 2 ^ 32 - 1
-- E = 255, T ≠ 0    a not-a-number: 0
-- E = 255, T = 0    infinity: 2 ^ 32 - 1
unfoldable pub cut_fields : Bool → ℕ → ℕ → ℕ
cut_fields S E T =
    cond (eqb E 0) 0
    (cond (ltb E 127) 0
    (cond S 0
    (cond (ltb E 150) ((8388608 + T) / 2 ^ (150 - E))
    (cond (ltb E 159) ((8388608 + T) * 2 ^ (E - 150))
    (cond (ltb E 255) 4294967295
    (cond (ltb 0 T) 0
    4294967295))))))

-- the fields of a pattern of 32 bits
abbrev pub negative_of : ℕ → Bool
negative_of b = leb 0x80000000 b

abbrev pub exponent_of : ℕ → ℕ
exponent_of b = b / 8388608 % 256

abbrev pub fraction_field : ℕ → ℕ
fraction_field b = b % 8388608
