-- One number of a file, from its bytes: what is parsed, digits, `number`. Definitions only, leaves first.
use Rattle.std.specs.Prelude.{ℕ, suc, ◌+◌, ◌-◌, ◌*◌, Bool, true, false, cond, ◌&&◌, List, [], ◌∷◌, leb, eqb, take, drop, Float}
use Rattle.decimals.specs.Decimal.{decimal}

-- what stands at the front of the bytes: a thing with the bytes after it, or nothing of its kind
pub data Parsed (A : Type 0) : Type 0 where
  parsed : A → List ℕ → Parsed A
  malformed : Parsed A

-- one thing, and then what the bytes after it give
unfoldable pub then : {A B : Type 0} → Parsed A → (A → List ℕ → Parsed B) → Parsed B
then (parsed a bs) f = f a bs
then malformed f = malformed

-- ---- bytes
unfoldable pub starts_with : ℕ → List ℕ → Bool
starts_with c [] = false
starts_with c (b ∷ bs) = eqb b c

-- the bytes 48 to 57
abbrev pub is_digit : ℕ → Bool
is_digit b = leb 48 b && leb b 57

unfoldable pub starts_digit : List ℕ → Bool
starts_digit [] = false
starts_digit (b ∷ bs) = is_digit b

-- how many digits stand at the front
unfoldable pub digits : List ℕ → ℕ
digits [] = 0
digits (b ∷ bs) = let more = suc (digits bs) in cond (is_digit b) more 0

-- a number of digits that may stand in one place: 1 to most
unfoldable pub few : ℕ → ℕ → Bool
few count most = leb 1 count && leb count most

-- the whole number that digits write in decimal, behind digits that write v
unfoldable pub digits_value : ℕ → List ℕ → ℕ
digits_value v [] = v
digits_value v (d ∷ ds) = digits_value (v * 10 + (d - 48)) ds

-- ---- a number
-- what follows the whole part: a point (byte 46) and 1 to 6 digits, or nothing
unfoldable pub fraction : Bool → ℕ → List ℕ → Parsed Float
unfolding starts_with digits few digits_value decimal
fraction negative units bs =
    let places = digits (drop 1 bs) in
    let digitsRead = parsed (decimal negative units (digits_value 0 (take places (drop 1 bs))) places)
    (drop places (drop 1 bs)) in
    cond (starts_with 46 bs) (cond (few places 6) digitsRead malformed) (parsed (decimal negative units 0 0) bs)

-- 1 to 5 digits, and perhaps a fraction
unfoldable pub unsigned_number : Bool → List ℕ → Parsed Float
unfolding digits few digits_value fraction
unsigned_number negative bs =
    let count = digits bs in
    cond (few count 5) (fraction negative (digits_value 0 (take count bs)) (drop count bs)) malformed

-- an optional minus (byte 45), and a magnitude
unfoldable pub number : List ℕ → Parsed Float
unfolding starts_with unsigned_number
number bs = cond (starts_with 45 bs) (unsigned_number true (drop 1 bs)) (unsigned_number false bs)
