-- That a seed has an area, and from where on points are known. Definitions only.
use Rattle.std.specs.Prelude.{ℕ, ◌+◌, ◌≤◌, ◌≡◌, Bool, true, false, List, Float, Option, Some, None}
use Rattle.triangle.specs.Quality.{is_zero}
use Rattle.decisions.specs.Found.{area_at}

-- the computed area of a seed's triangle, in its own order, is not exactly zero
abbrev pub WithArea : List Float → Option (ℕ × ℕ × ℕ) → Type 0
WithArea pts (Some t) = is_zero (area_at pts t.0 t.1 t.2) ≡ false
WithArea pts None = Unit {0}

-- after point i: from lo on if it is known, else from the next point on
pub record KnownFrom (lo i : ℕ) (seedless : Bool) (r : ℕ) : Type 0 where
  pub inside : r ≤ i + 1
  pub same : seedless ≡ true → r ≡ lo
  pub next : seedless ≡ false → r ≡ i + 1
