-- Why a triangle was turned down: the kind, and what was measured. Definitions only.
use Rattle.std.specs.Prelude.{Bool, true, false, cond, ℕ, Float}
use Rattle.std.specs.Float.Ieee.{lt}
use Rattle.numbers.specs.Rounded.{◌⊗◌}
use Rattle.numbers.specs.Root.{root}
use Rattle.quality.specs.declared.TriangleQuality.{TriangleQuality}
use Rattle.triangle.specs.Quality.{is_zero}
use Rattle.verdict.specs.declared.MeasuredKind.{MeasuredKind}
use Rattle.verdict.specs.declared.MeasuredKind.TheVariants.{Good, NoArea, Small, Poor, Long}

-- what is held against the radius times the edge factor: the edge ratio times the root of the area
abbrev pub stretch : Float → Float → Float
stretch ratio area = ratio ⊗ root area

-- the acceptance test's order, no area first; of measures, radius, least area, least score and edge factor
unfoldable pub verdict_of : TriangleQuality → Float → Float → Float → Float → MeasuredKind
verdict_of q radius leastArea threshold factor =
    let long = stretch q.edge_ratio q.area in
    cond (is_zero q.area) (NoArea q.area)
    (cond (lt q.area leastArea) (Small q.area)
    (cond (lt q.quality_score threshold) (Poor q.quality_score)
    (cond (lt (radius ⊗ factor) long) (Long long)
    (Good q.quality_score))))

-- the number of each kind
unfoldable pub kind_of : MeasuredKind → ℕ
kind_of (Good score) = 1
kind_of (NoArea area) = 2
kind_of (Small area) = 3
kind_of (Poor score) = 4
kind_of (Long long) = 5

-- what was measured: the score for good and poor, the area for no area and small
unfoldable pub measured_of : MeasuredKind → Float
measured_of (Good score) = score
measured_of (NoArea area) = area
measured_of (Small area) = area
measured_of (Poor score) = score
measured_of (Long long) = long

unfoldable pub is_good : MeasuredKind → Bool
is_good (Good score) = true
is_good (NoArea area) = false
is_good (Small area) = false
is_good (Poor score) = false
is_good (Long long) = false
