-- The figures of a tally. Definitions only.
use Rattle.std.specs.Prelude.{cond, ℕ, ◌*◌, ◌-◌, eqb}
use Rattle.answers.specs.Answers.{tally_empty, bad_tally}
use Rattle.fractions.specs.declared.Fraction.{Fraction}
use Rattle.fractions.specs.Terms.{lowest}
use Rattle.tally.specs.declared.SeasonPatch.{SeasonPatch}
use Rattle.tally.specs.declared.Tally.{Tally}
use Rattle.figures.specs.declared.Figures.{Figures}
use Rattle.tally.specs.Checks.{sound_tally}

-- the part of a patch's points that is covered
unfoldable pub coverage_of : SeasonPatch → Fraction
coverage_of p = lowest p.covered p.scanned

-- the variance's numerator: m times the sum of squares, less the square of the sum; its denominator is m squared
unfoldable pub variance_of : ℕ → ℕ → ℕ → Fraction
variance_of m sum squares = lowest (m * squares - sum * sum) (m * m)

abbrev none : Fraction
none = record { numerator = 0; denominator = 0 }

abbrev nothing : SeasonPatch
nothing = record { number = 0; scanned = 0; covered = 0; faces = 0 }

-- a refusal: zeros, denominators too
unfoldable pub no_figures : ℕ → Figures
no_figures answer = record {
  answer = answer;
  patches = 0;
  mean = none;
  variance = none;
  coverage = none;
  best = nothing;
  worst = nothing;
  best_coverage = none;
  worst_coverage = none;
}

unfoldable pub sound_figures : Tally → Figures
sound_figures t = record {
  answer = 0;
  patches = t.patches;
  mean = lowest t.faces t.patches;
  variance = variance_of t.patches t.faces t.face_squares;
  coverage = lowest t.covered t.scanned;
  best = t.best;
  worst = t.worst;
  best_coverage = coverage_of t.best;
  worst_coverage = coverage_of t.worst;
}

-- 24 a tally that is not taken, 21 an empty one
unfoldable pub figures_of : Tally → Figures
figures_of t =
    cond (sound_tally t) (cond (eqb t.patches 0) (no_figures tally_empty) (sound_figures t)) (no_figures bad_tally)
