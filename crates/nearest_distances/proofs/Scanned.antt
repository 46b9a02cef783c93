-- Of the nearest point the distance is that of its number, and the number is a point's. Assumes nothing.
use mathlib.Core.Path.{◌≡◌, refl, sym}
use mathlib.Core.Bool.{Bool, true, false, cond}
use mathlib.Core.List.{List}
use Prim.Native.Nat.{ℕ, zero, suc, ◌+◌, ◌-◌, ◌≤◌, ◌<◌}
use native.Mathlib.Omega.{arith}
use lib.Ieee.{Float, lt}
use Rattle.vector.specs.Vector.{distance}
use Rattle.vector.specs.declared.Point3f.{Point3f}
use Rattle.points.specs.Points.{point_at}
use Rattle.nearest.specs.Scan.{Near, near_at, length_to, first_least, nearest}

module _ (key : ℕ → Float) where
  own_length : (best : Near) (i m : ℕ) → best.distance ≡ key best.number → (first_least key best i m).distance ≡ key (first_least key best i m).number
  unfolding first_least
  own_length best i zero e = e
  own_length best i (suc m) e = own_length (cond (lt (key i) best.distance) (near_at key i) best) (i + 1) m (step (lt (key i) best.distance))
    where
      step : (b : Bool) → (cond b (near_at key i) best).distance ≡ key (cond b (near_at key i) best).number
      step true = refl
      step false = e

  own_number : (n : ℕ) (best : Near) (i m : ℕ) → best.number < n → i + m ≤ n → (first_least key best i m).number < n
  unfolding first_least
  own_number n best i zero h k = h
  own_number n best i (suc m) h k = own_number n (cond (lt (key i) best.distance) (near_at key i) best) (i + 1) m (step (lt (key i) best.distance))
      (omega arith)
    where
      step : (b : Bool) → (cond b (near_at key i) best).number < n
      step true = omega arith
      step false = h

pub nearest_length : (points : List Float) (n : ℕ) (spot : Point3f) → distance (point_at points (nearest points n spot).number) spot
    ≡ (nearest points n spot).distance
unfolding nearest
nearest_length points n spot = sym (own_length (length_to points spot) (near_at (length_to points spot) 0) 1 (n - 1) refl)

pub nearest_number : (points : List Float) (n : ℕ) (spot : Point3f) → 0 < n → (nearest points n spot).number < n
unfolding nearest
nearest_number points n spot h = own_number (length_to points spot) n (near_at (length_to points spot) 0) 1 (n - 1) h (omega arith)
