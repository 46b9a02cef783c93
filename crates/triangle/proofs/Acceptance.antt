-- What is turned down: an area of exactly zero (`zero_refused`), whatever the source turns down (`still_refused`), and
-- so a score below the threshold (`low_refused`) and edges too long for the radius (`edges_refused`). Assumes nothing.
use mathlib.Core.Path.{◌≡◌, refl}
use mathlib.Core.Bool.{Bool, true, false, cond}
use lib.Ieee.{Float, lt}
use Rattle.numbers.specs.Rounded.{◌⊗◌}
use Rattle.numbers.specs.Root.{root}
use Rattle.quality.specs.declared.TriangleQuality.{TriangleQuality}
use Rattle.triangle.specs.Quality.{is_zero, source_acceptable, acceptable}

either : (b : Bool) → cond b false false ≡ false
either true = refl
either false = refl

module _ (q : TriangleQuality) (r m threshold factor : Float) where
  pub zero_refused : is_zero q.area ≡ true → acceptable q r m threshold factor ≡ false
  unfolding acceptable
  zero_refused h = rw h

  pub still_refused : source_acceptable q r m threshold factor ≡ false → acceptable q r m threshold factor ≡ false
  unfolding acceptable
  still_refused h = rw h (either (is_zero q.area))

  pub low_refused : lt q.quality_score threshold ≡ true → acceptable q r m threshold factor ≡ false
  unfolding source_acceptable
  low_refused h = still_refused (rw h (either (lt q.area m)))

  pub edges_refused : lt (r ⊗ factor) (q.edge_ratio ⊗ root q.area) ≡ true → acceptable q r m threshold factor ≡ false
  unfolding source_acceptable
  edges_refused h = still_refused (rw (h, either (lt q.quality_score threshold)) (either (lt q.area m)))
