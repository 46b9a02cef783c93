-- Cases on each side of every limit, of every comparison and of the order of the answers, worked out from the
-- definitions. Assumes nothing.
use mathlib.Core.Path.{◌≡◌, refl}
use mathlib.Core.List.{List, [], ◌∷◌}
use Prim.Native.Nat.{ℕ}
use Rattle.fractions.specs.declared.Fraction.{Fraction}
use Rattle.fractions.specs.Terms.{euclid, greatest_divisor, lowest}
use Rattle.tally.specs.declared.SeasonPatch.{SeasonPatch}
use Rattle.tally.specs.declared.Tally.{Tally}
use Rattle.tally.specs.Checks.{enterable, tally_within, sound_tally}
use Rattle.tally.specs.Tallies.{better, better_patch, worst_of, summed, with_patch, added_to}
use Rattle.figures.specs.Working.{coverage_of, variance_of, no_figures, sound_figures, figures_of}
use Rattle.figures.specs.Season.{EmptyTally, after}

-- number, scanned, covered, faces
abbrev patch : ℕ → ℕ → ℕ → ℕ → SeasonPatch
patch number scanned covered faces = record { number = number; scanned = scanned; covered = covered; faces = faces }

-- patches, faces, squares, scanned, covered, with one patch as best and worst
abbrev tally : ℕ → ℕ → ℕ → ℕ → ℕ → SeasonPatch → SeasonPatch → Tally
tally patches faces squares scanned covered best worst = record {
  patches = patches;
  faces = faces;
  face_squares = squares;
  scanned = scanned;
  covered = covered;
  best = best;
  worst = worst;
}

abbrev over : ℕ → ℕ → Fraction
over numerator denominator = record { numerator = numerator; denominator = denominator }

abbrev a : SeasonPatch
a = patch 1 1 0 0

abbrev b : SeasonPatch
b = patch 2 4096 4096 10000

abbrev bad : SeasonPatch
bad = patch 3 0 0 0

-- so many patches of one point each; none is all zeros
abbrev held : ℕ → Tally
held n = tally n 0 0 n 0 a a

abbrev none : Tally
none = tally 0 0 0 0 0 (patch 0 0 0 0) (patch 0 0 0 0)

abbrev answer : Tally → SeasonPatch → ℕ
answer t p = (added_to t p).answer

abbrev figures : Tally → ℕ
figures t = (figures_of t).answer

pub record PatchCases : Type 0 where
  pub least : answer none a ≡ 0
  pub most : answer none b ≡ 0
  pub no_points_lem : answer none (patch 1 0 0 0) ≡ 20
  pub too_many_points_lem : answer none (patch 1 4097 0 0) ≡ 20
  pub more_covered : answer none (patch 1 5 6 0) ≡ 20
  pub too_many_faces : answer none (patch 1 1 0 10001) ≡ 20

pub patch_cases : PatchCases
unfolding added_to sound_tally tally_within enterable with_patch summed better_patch worst_of better
patch_cases = record { least = refl; most = refl; no_points_lem = refl; too_many_points_lem = refl; more_covered = refl; too_many_faces = refl }

-- 24's list on both sides of each bound
pub record TallyCases : Type 0 where
  pub full : figures (held 100000) ≡ 0
  pub too_many_lem : figures (held 100001) ≡ 24
  pub squares : figures (tally 2 20000 200000000 2 0 a a) ≡ 0
  pub squares_above : figures (tally 2 20000 200000001 2 0 a a) ≡ 24
  pub faces_above : figures (tally 2 20001 200000000 2 0 a a) ≡ 24
  pub scanned : figures (tally 2 0 0 8192 0 a a) ≡ 0
  pub scanned_above : figures (tally 2 0 0 8193 0 a a) ≡ 24
  pub scanned_below : figures (tally 2 0 0 1 0 a a) ≡ 24
  pub covered : figures (tally 2 0 0 8192 8192 a a) ≡ 0
  pub covered_above : figures (tally 2 0 0 8191 8192 a a) ≡ 24
  pub variance_none : figures (tally 2 4 8 2 0 a a) ≡ 0
  pub variance_negative : figures (tally 2 3 4 2 0 a a) ≡ 24
  pub best_bad : figures (tally 1 0 0 1 0 bad a) ≡ 24
  pub worst_bad : figures (tally 1 0 0 1 0 a bad) ≡ 24
  pub empty : figures none ≡ 21
  pub empty_any_ends : figures (tally 0 0 0 0 0 bad bad) ≡ 21
  pub empty_faces : figures (tally 0 1 0 0 0 a a) ≡ 24
  pub empty_squares : figures (tally 0 0 1 0 0 a a) ≡ 24
  pub empty_scanned : figures (tally 0 0 0 1 0 a a) ≡ 24
  pub empty_covered : figures (tally 0 0 0 0 1 a a) ≡ 24

pub tally_cases : TallyCases
unfolding figures_of sound_figures no_figures sound_tally tally_within enterable variance_of coverage_of lowest greatest_divisor euclid
tally_cases = record {
  full = refl;
  too_many_lem = refl;
  squares = refl;
  squares_above = refl;
  faces_above = refl;
  scanned = refl;
  scanned_above = refl;
  scanned_below = refl;
  covered = refl;
  covered_above = refl;
  variance_none = refl;
  variance_negative = refl;
  best_bad = refl;
  worst_bad = refl;
  empty = refl;
  empty_any_ends = refl;
  empty_faces = refl;
  empty_squares = refl;
  empty_scanned = refl;
  empty_covered = refl;
}

-- 24 before 20 before 19; and where a tally is full
pub record OrderCases : Type 0 where
  pub not_full : answer (held 99999) a ≡ 0
  pub full : answer (held 100000) a ≡ 19
  pub bad_when_full : answer (held 100000) bad ≡ 20
  pub bad_both : answer (held 100001) bad ≡ 24
  pub too_many_lem : answer (held 100001) a ≡ 24

pub order_cases : OrderCases
unfolding added_to sound_tally tally_within enterable with_patch summed better_patch worst_of better
order_cases = record { not_full = refl; full = refl; bad_when_full = refl; bad_both = refl; too_many_lem = refl }

-- three patches, the first two equally covered by unlike fractions
abbrev three : List SeasonPatch
three = patch 7 4 2 3 ∷ patch 8 2 1 5 ∷ patch 9 4 3 4 ∷ []

pub record SeasonCases : Type 0 where
  -- a season begins with zeros, or with anything as best and worst
  pub begins : EmptyTally none
  pub begins_with_ends : EmptyTally (tally 0 0 0 0 0 b bad)
  -- whatever stood in an empty tally, the first patch is both; of 1/2 and 2/4 the earlier one stays
  pub equal : after (tally 0 0 0 0 0 b bad) (patch 8 2 1 5 ∷ patch 7 4 2 3 ∷ []) ≡ tally 2 8 34 6 3 (patch 8 2 1 5) (patch 8 2 1 5)
  pub worked : figures_of (after none three) ≡ record {
    answer = 0;
    patches = 3;
    mean = over 4 1;
    variance = over 2 3;
    coverage = over 3 5;
    best = patch 9 4 3 4;
    worst = patch 7 4 2 3;
    best_coverage = over 3 4;
    worst_coverage = over 1 2;
  }
  -- nothing covered, no faces: zeros are 0 over 1
  pub zeros : figures_of (after none (patch 5 6 0 0 ∷ [])) ≡ record {
    answer = 0;
    patches = 1;
    mean = over 0 1;
    variance = over 0 1;
    coverage = over 0 1;
    best = patch 5 6 0 0;
    worst = patch 5 6 0 0;
    best_coverage = over 0 1;
    worst_coverage = over 0 1;
  }

pub season_cases : SeasonCases
unfolding after added_to sound_tally tally_within enterable with_patch summed better_patch worst_of better figures_of sound_figures no_figures variance_of coverage_of
    lowest greatest_divisor euclid
season_cases = record {
  begins = record { patches = refl; taken = refl };
  begins_with_ends = record { patches = refl; taken = refl };
  equal = refl;
  worked = refl;
  zeros = refl;
}
