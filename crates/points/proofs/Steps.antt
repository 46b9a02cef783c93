-- Every step-th number below n: how many there still are. Assumes nothing.
use mathlib.Core.Path.{◌≡◌, ap, ◌∙◌}
use Prim.Native.Nat.{ℕ, suc, ◌+◌, ◌-◌, ◌/◌, ◌≤◌, ◌<◌}
use native.Mathlib.Nat.{add-div_left, div-eq_of_lt}
use native.Mathlib.Omega.{arith}
use Rattle.points.specs.Points.{steps_from}

module _ (n step i : ℕ) (some : 0 < step) where
  pub steps_more : i < n → steps_from n step i ≡ suc (steps_from n step (i + step))
  steps_more h =
      let e : n + step - 1 - i ≡ step + (n + step - 1 - (i + step)) = omega arith in
      ap (λ (k : ℕ). k / step) e ∙ add-div_left (n + step - 1 - (i + step)) some ∙ omega arith

  pub steps_none : n ≤ i → steps_from n step i ≡ 0
  steps_none h = div-eq_of_lt (omega arith)
