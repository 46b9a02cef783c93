-- The figures of a tally are in lowest terms. Assumes nothing.
use mathlib.Core.Path.{◌≡◌, refl}
use mathlib.Core.Bool.{Bool, true, false}
use Prim.Native.Nat.{◌<◌}
use native.Mathlib.Omega.{arith}
use borrow.Author.Tests.{eqb-false}
use lib.Dec.{eqb}
use Rattle.fractions.proofs.LowestTerms.{lowest_terms}
use Rattle.tally.specs.declared.Tally.{Tally}
use Rattle.tally.specs.Checks.{sound_tally}
use Rattle.figures.specs.Working.{coverage_of, variance_of, no_figures, sound_figures, figures_of}
use Rattle.figures.specs.Claims.{InLowestTerms, FiguresGiven}
use Rattle.tally.proofs.Told.{sound_told, square_some}

module _ (t : Tally) where
  given : sound_tally t ≡ true → 0 < t.patches → InLowestTerms t (sound_figures t)
  unfolding sound_figures variance_of coverage_of
  given h l =
      let s = sound_told t h in
      let ends = s.ends l in
      record {
        mean = lowest_terms _ _ l;
        spread = s.spread;
        variance = lowest_terms _ _ (square_some t.patches l);
        coverage = lowest_terms _ _ (omega (arith, s.sums.points));
        best_coverage = lowest_terms _ _ ends.0.some;
        worst_coverage = lowest_terms _ _ ends.1.some;
      }

  by_tests : (a b : Bool) → sound_tally t ≡ a → eqb t.patches 0 ≡ b → (figures_of t).answer ≡ 0 → InLowestTerms t (figures_of t)
  unfolding figures_of no_figures
  by_tests false b x y z = absurd (let w = rw x at z in omega arith)
  by_tests true true x y z = absurd (let w = rw (x, y) at z in omega arith)
  by_tests true false x y z = let n = eqb-false t.patches 0 y in rw (x, y) (given x (omega arith))

pub given_figures : FiguresGiven
given_figures = record { lowest_terms = λ t. by_tests t (sound_tally t) (eqb t.patches 0) refl refl }
