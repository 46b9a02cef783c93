-- The answers of the public calls: every number of the scope's list by its name, and one table of them with what each
-- says in words, in the order of the numbers. 0 accepts; the rest are refusals. A call's own definition says which it
-- knows, and in which order it asks. Made from answers.toml. Definitions only.
use Rattle.std.specs.Prelude.{ℕ, List, [], ◌∷◌}
use Prim.Native.String.{String}

abbrev pub no_points : ℕ
no_points = 1

abbrev pub wrong_lengths : ℕ
wrong_lengths = 2

abbrev pub too_many_points : ℕ
too_many_points = 3

abbrev pub outside_point : ℕ
outside_point = 4

abbrev pub outside_setting : ℕ
outside_setting = 5

abbrev pub outside_percentile : ℕ
outside_percentile = 6

abbrev pub short_work : ℕ
short_work = 7

abbrev pub too_few_points : ℕ
too_few_points = 8

abbrev pub short_faces : ℕ
short_faces = 9

abbrev pub bad_line : ℕ
bad_line = 10

abbrev pub no_room : ℕ
no_room = 11

abbrev pub bad_stl : ℕ
bad_stl = 12

abbrev pub short_output : ℕ
short_output = 13

abbrev pub missing_point : ℕ
missing_point = 14

abbrev pub none_close : ℕ
none_close = 15

abbrev pub all_turned_down : ℕ
all_turned_down = 16

abbrev pub equal_numbers : ℕ
equal_numbers = 17

abbrev pub turned_plain : ℕ
turned_plain = 18

abbrev pub tally_full : ℕ
tally_full = 19

abbrev pub bad_season_patch : ℕ
bad_season_patch = 20

abbrev pub tally_empty : ℕ
tally_empty = 21

abbrev pub foreign_index : ℕ
foreign_index = 22

abbrev pub no_order : ℕ
no_order = 23

abbrev pub bad_tally : ℕ
bad_tally = 24

-- an answer's number, and what it says
pub record Answer : Type 0 where
  pub number : ℕ
  pub words : String

abbrev pub says : ℕ → String → Answer
says number words = record { number = number; words = words }

-- every answer, in the order of the numbers
unfoldable pub answers : List Answer
answers =
    says 0 "accepted"
    ∷ says no_points "there are no points"
    ∷ says wrong_lengths "the lengths of the slices don't belong together"
    ∷ says too_many_points "there are too many points, or too many faces to write"
    ∷ says outside_point "a coordinate or normal is outside the domain"
    ∷ says outside_setting "a setting is outside its bounds"
    ∷ says outside_percentile "the percentile is not within 0 to 1"
    ∷ says short_work "a work slice is too short"
    ∷ says too_few_points "no triangle was found: there are fewer than three points"
    ∷ says short_faces "the faces found don't fit the face slice"
    ∷ says bad_line "a line of the file is malformed"
    ∷ says no_room "the file's points don't fit the slices"
    ∷ says bad_stl "the bytes are no STL file, or not as many as it says"
    ∷ says short_output "an output slice is too short"
    ∷ says missing_point "a face or a number names a point that isn't there"
    ∷ says none_close "no triangle was found: no three points lie close enough together"
    ∷ says all_turned_down "no triangle was found: all that were judged were turned down"
    ∷ says equal_numbers "two of three point numbers are equal"
    ∷ says turned_plain "a turned patch was asked for, and the plain path ran"
    ∷ says tally_full "the tally has 100,000 patches"
    ∷ says bad_season_patch "the patch's counts can't be entered"
    ∷ says tally_empty "the tally is empty"
    ∷ says foreign_index "the index isn't this cloud's"
    ∷ says no_order "no order of the faces could be a patch's"
    ∷ says bad_tally "no season can have left this tally"
    ∷ []
