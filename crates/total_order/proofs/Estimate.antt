-- The estimate sorts f32 from +0 up, so by the total order. Assumes nothing.
use Prim.Native.Nat.{ℕ, zero, suc, ◌+◌, ◌-◌, ◌*◌, ◌≤◌, ◌<◌}
use native.Mathlib.Nat.{div-mul-le_self}
use native.Mathlib.Omega.{arith}
use mathlib.Core.Path.{◌≡◌, refl, sym, subst}
use mathlib.Core.Logic.{◌⊎◌, inl, inr}
use mathlib.Core.Bool.{Bool, true, false, cond}
use mathlib.Core.List.{List, ◌∷◌}
use lib.Dec.{T, eqb}
use lib.Ieee.{Float, inf, lt}
use Rattle.vector.specs.Vector.{distance}
use Rattle.points.specs.Points.{point_at}
use Rattle.domain.specs.Inner.Accepted.{Cloud}
use Rattle.sorting.specs.Sorted.{sorted}
use Rattle.sorting.specs.Each.{All}
use Rattle.estimate.specs.Estimate.{nearer, nearest_from, least_distance, least_distances, estimate_step, estimate_samples}
use Rattle.total_order.specs.TotalOrder.{totally_sorted}
use Rattle.total_order.proofs.Order.{Fine}
use Rattle.total_order.proofs.Fine.{far, apart_fine}
use Rattle.total_order.proofs.Radii.{fine_sorted, far_finite}

-- no other point yet, or a distance
abbrev Reached : Float → Type 0
Reached d = (d ≡ inf false) ⊎ Fine far d

module _ (points : List Float) (n : ℕ) (cloud : Cloud n points) where
  nearer_reached : (i j : ℕ) (d : Float) → i < n → j < n → Reached d → Reached (nearer points i j d)
  unfolding nearer
  nearer_reached i j d l m r = go (eqb i j) (lt (distance (point_at points i) (point_at points j)) d)
    where
      go : (s t : Bool) → Reached (cond s d (cond t (distance (point_at points i) (point_at points j)) d))
      go true t = r
      go false true = inr (apart_fine n points cloud i j l m)
      go false false = r

  from_reached : (m i j : ℕ) (d : Float) → i < n → j + m ≤ n → Reached d → Reached (nearest_from points i d j m)
  unfolding nearest_from
  from_reached zero i j d l h r = r
  from_reached (suc m) i j d l h r =
      from_reached m i (j + 1) (nearer points i j d) l (omega arith) (nearer_reached i j d l (omega arith) r)

  least_reached : (i : ℕ) → i < n → Reached (least_distance points n i)
  unfolding least_distance
  least_reached i l = from_reached n i 0 (inf false) l (omega arith) (inl refl)

  found : (d : Float) → T (lt d (inf false)) → Reached d → Fine far d
  unfolding lt
  found d h (inl e) = absurd (subst (λ (x : Float). T (lt x (inf false))) e h)
  found d h (inr f) = f

  leasts_fine : (step m i : ℕ) → i + m * step < n + step → All (Fine far) (least_distances points n step i m)
  unfolding least_distances
  leasts_fine step zero i h = tt
  leasts_fine step (suc m) i h =
      let l : i < n = omega arith in
      let later : i + step + m * step < n + step = omega arith in
      go (lt (least_distance points n i) (inf false)) refl l (leasts_fine step m (i + step) later)
    where
      go : (t : Bool) → lt (least_distance points n i) (inf false) ≡ t → i < n
          → All (Fine far) (least_distances points n step (i + step) m)
          → All (Fine far)
          (cond t (least_distance points n i ∷ least_distances points n step (i + step) m)
          (least_distances points n step (i + step) m))
      go true e l r = (found (least_distance points n i) (subst T (sym e) tt) (least_reached i l), r)
      go false e l r = r

  abbrev samples : List Float
  samples = least_distances points n (estimate_step n) 0 (estimate_samples n)

  pub samples_sorted : sorted samples ≡ totally_sorted samples
  samples_sorted =
      let s : 1 ≤ estimate_step n = omega arith in
      let k = div-mul-le_self (n + estimate_step n - 1 - 0) (estimate_step n) in
      fine_sorted far far_finite samples (leasts_fine (estimate_step n) (estimate_samples n) 0 (omega (arith, k, s, cloud.some)))
