-- Fixed cases, worked out from the definitions: each comparison at its edge, the order of the tests and of the checks,
-- the kinds' numbers, and what a refusal leaves.
use mathlib.Core.Path.{◌≡◌, refl}
use lib.Ieee.{Float, add, sub, mul, div, lt, le, eq, is_nan, neg, of_bits, to_bits}
use Prim.Native.Nat.{ℕ}
use Rattle.numbers.specs.Rounded.{f32}
use Rattle.numbers.specs.Root.{root}
use Rattle.std.specs.Prelude.{Ok, Err}
use Rattle.domain.specs.Refusals.{refusal, first_refusal}
use Rattle.quality.specs.declared.TriangleQuality.{TriangleQuality}
use Rattle.verdict.specs.Verdict.{verdict_of, kind_of, measured_of}
use Rattle.verdict.specs.Judged.{number_checks}
use Rattle.verdict.specs.Numbered.{verdict_numbers}
use Rattle.verdict.specs.declared.MeasuredKind.{MeasuredKind}
use Rattle.verdict.specs.declared.MeasuredKind.TheVariants.{Good, NoArea, Small, Poor, Long}

abbrev one : Float
one = f32 0x3f800000

abbrev two : Float
two = f32 0x40000000

-- a triangle with this area, edge ratio and score
abbrev measures : Float → Float → Float → TriangleQuality
measures area ratio score = record { aspect_ratio = one; min_angle = one; max_angle = one; area = area; edge_ratio = ratio; quality_score = score }

-- at radius 1: of an area of 1, an edge ratio and a score, under a least area, a least score and an edge factor
abbrev at_one : Float → Float → Float → Float → Float → MeasuredKind
at_one ratio score leastArea threshold factor = verdict_of (measures one ratio score) one leastArea threshold factor

-- what is just reached passes: area, score and edges at their limits; and each test just missed tells, before those
-- after it
edges :
    (at_one two one one one two ≡ Good one)
    × (at_one two one two two one ≡ Small one)
    × (at_one two one one two one ≡ Poor one)
    × (at_one two one one one one ≡ Long two)
unfolding verdict_of root add sub mul div lt le eq is_nan neg of_bits to_bits
edges = (refl, refl, refl, refl)

-- an area of either zero comes before all tests; the least area above zero is small
zeros :
    (verdict_of (measures (f32 0) two (f32 0)) one one one one ≡ NoArea (f32 0))
    × (verdict_of (measures (f32 0x80000000) two (f32 0)) one (f32 0) (f32 0) one ≡ NoArea (f32 0x80000000))
    × (verdict_of (measures (f32 1) two (f32 0)) one one one one ≡ Small (f32 1))
unfolding verdict_of root add sub mul div lt le eq is_nan neg of_bits to_bits
zeros = (refl, refl, refl)

abbrev numbered : ℕ → ℕ → ℕ → ℕ
numbered i j k = (first_refusal (number_checks 3 i j k)).answer

-- of three points: a number that isn't there in each place, also where two are equal; each two equal ones; and none of
-- that
numbers :
    (numbered 3 0 1 ≡ 14)
    × (numbered 0 3 1 ≡ 14)
    × (numbered 0 1 3 ≡ 14)
    × (numbered 3 3 0 ≡ 14)
    × (numbered 0 0 1 ≡ 17)
    × (numbered 0 1 1 ≡ 17)
    × (numbered 1 0 1 ≡ 17)
    × (numbered 2 0 1 ≡ 0)
unfolding first_refusal
numbers = (refl, refl, refl, refl, refl, refl, refl, refl)

kinds : (kind_of (Good one) ≡ 1) × (kind_of (NoArea one) ≡ 2) × (kind_of (Small one) ≡ 3) × (kind_of (Poor one) ≡ 4) × (kind_of (Long one) ≡ 5)
unfolding kind_of
kinds = (refl, refl, refl, refl, refl)

-- a refusal has no kind and no measure
refusals :
    ((verdict_numbers (Err (refusal 14 0))).kind ≡ 0)
    × ((verdict_numbers (Err (refusal 14 0))).measured ≡ f32 0)
    × ((verdict_numbers (Ok (Long two))).kind ≡ 5)
    × ((verdict_numbers (Ok (Long two))).measured ≡ two)
unfolding verdict_numbers kind_of measured_of
refusals = (refl, refl, refl, refl)
