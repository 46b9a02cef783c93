-- Triangles that limits refuse whichever of the three points comes first: with all three squares of the area too small
-- (`small_throughout`), all too large (`large_throughout`), or the largest of them too thin (`thin_throughout`).
-- Assumes nothing.
use mathlib.Core.Path.{◌≡◌}
use mathlib.Core.Bool.{not, ◌&&◌}
use lib.Dec.{T}
use lib.Ieee.{Float, lt, le}
use lib.Ieee.Fits.{and_l, and_r}
use Rattle.numbers.specs.Order.{maximum}
use Rattle.numbers.proofs.OrderLaws.{le_right, le_trans}
use Rattle.numbers.proofs.Maximum.{maximum_left, maximum_right}
use Rattle.vector.specs.Vector.{squared}
use Rattle.vector.specs.declared.Point3f.{Point3f}
use Rattle.vector.proofs.Distances.{squared_turned}
use Rattle.area_bounds.specs.Inner.AreaBound.{cross_squared}
use Rattle.area_bounds.proofs.AreaBound.{cross_fits}
use Rattle.thin.specs.Inner.Thin.{AllThin, ThinUpTo}
use Rattle.thin.proofs.Thin.{not_below}
use Rattle.filters.specs.declared.Limits.{Limits}
use Rattle.filters.specs.Inner.Refused.{small, large, thin, RefusedThroughout, each}

-- ---- the largest of three is below none of them, not-a-numbers among them

module _ (a b c : Float) where
  largest_first : T (not (lt (maximum (maximum a b) c) a))
  largest_first = not_below (maximum (maximum a b) c) a
      (λ n. let h = maximum_left a b n in le_trans a (maximum a b) (maximum (maximum a b) c) h (maximum_left (maximum a b) c (le_right a (maximum a b) h)))

  largest_second : T (not (lt (maximum (maximum a b) c) b))
  largest_second = not_below (maximum (maximum a b) c) b
      (λ n. let h = maximum_right a b n in le_trans b (maximum a b) (maximum (maximum a b) c) h (maximum_left (maximum a b) c (le_right b (maximum a b) h)))

  largest_third : T (not (lt (maximum (maximum a b) c) c))
  largest_third = not_below (maximum (maximum a b) c) c (maximum_right (maximum a b) c)

-- ---- the ways of refusing

-- too thin with each area
pub each_thin : {l : Limits} {p q t : Point3f} → AllThin l.thin (squared p q) (squared p t) (squared q t) (cross_squared p q t)
    → AllThin l.thin (squared p q) (squared p t) (squared q t) (cross_squared q p t)
    → AllThin l.thin (squared p q) (squared p t) (squared q t) (cross_squared t p q) → RefusedThroughout l p q t
each_thin {p = p} {q = q} {t = t} i j k =
    each (thin i)
    (thin (rw (squared_turned q p) (record { abc = j.acb; acb = j.abc; bac = j.cab; bca = j.cba; cab = j.bac; cba = j.bca })))
    (thin (rw (squared_turned t p, squared_turned t q) (record { abc = k.bca; acb = k.bac; bac = k.cba; bca = k.cab; cab = k.abc; cba = k.acb })))

module _ {l : Limits} {p q t : Point3f} {a b c : Float} (ea : a ≡ cross_squared p q t) (eb : b ≡ cross_squared q p t) (ec : c ≡ cross_squared t p q) where
  pub small_throughout : T (le a l.small && (le b l.small && le c l.small)) → RefusedThroughout l p q t
  small_throughout h =
      let k = and_r (le a l.small) _ h in
      each (small (rw (← ea) (and_l (le a l.small) _ h))) (small (rw (← eb) (and_l (le b l.small) _ k))) (small (rw (← ec) (and_r (le b l.small) _ k)))

  pub large_throughout : T (le l.large a && (le l.large b && le l.large c)) → RefusedThroughout l p q t
  large_throughout h =
      let k = and_r (le l.large a) _ h in
      each (large (rw (← ea) (and_l (le l.large a) _ h))) (large (rw (← eb) (and_l (le l.large b) _ k))) (large (rw (← ec) (and_r (le l.large b) _ k)))

  pub thin_throughout : {x y z m : Float} → x ≡ squared p q → y ≡ squared p t → z ≡ squared q t → m ≡ maximum (maximum a b) c → ThinUpTo l.thin x y z m
      → RefusedThroughout l p q t
  thin_throughout {x} {y} {z} {m} ex ey ez em h =
      each_thin (rw (← ex, ← ey, ← ez) (h.less (cross_squared p q t) (cross_fits p q t) (rw (em, ← ea) (largest_first a b c))))
      (rw (← ex, ← ey, ← ez) (h.less (cross_squared q p t) (cross_fits q p t) (rw (em, ← eb) (largest_second a b c))))
      (rw (← ex, ← ey, ← ez) (h.less (cross_squared t p q) (cross_fits t p q) (rw (em, ← ec) (largest_third a b c))))
