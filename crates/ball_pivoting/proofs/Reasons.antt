-- The three answers where no triangle was found. Assumes nothing.
use Prim.Native.Nat.{ℕ, ◌≤◌}
use mathlib.Core.Path.{◌≡◌, refl}
use mathlib.Core.Logic.{◌⊎◌, inl, inr, ⊎_elim}
use mathlib.Core.Bool.{Bool, true, false, cond}
use mathlib.Core.List.{List}
use native.Mathlib.Omega.{arith}
use lib.Dec.{ltb}
use lib.Ieee.{Float}
use Rattle.settings.specs.declared.BallPivotingConfig.{BallPivotingConfig}
use Rattle.ball_pivoting.specs.Reconstruct.{point_count, radii_of, judged_at, reason_by, reason}
use Rattle.ball_pivoting.specs.Unsplit.{NoTriangle}

module _ (x : ℕ) (h : NoTriangle x) where
  -- whatever 8, 15 and 16 are not
  pub no_other : (y : ℕ) → (8 ≡ y → ⊥) → (15 ≡ y → ⊥) → (16 ≡ y → ⊥) → x ≡ y → ⊥
  no_other y a b c e = ⊎_elim
      (λ (q : x ≡ 8). a (omega arith))
      (λ (k : (x ≡ 15) ⊎ (x ≡ 16)). ⊎_elim (λ (q : x ≡ 15). b (omega arith)) (λ (q : x ≡ 16). c (omega arith)) k)
      h

  pub not_zero : x ≡ 0 → ⊥
  not_zero = no_other 0 (λ q. omega arith) (λ q. omega arith) (λ q. omega arith)

  pub not_nine : x ≡ 9 → ⊥
  not_nine = no_other 9 (λ q. omega arith) (λ q. omega arith) (λ q. omega arith)

pub reason_is : (c : BallPivotingConfig) (pts : List Float) → NoTriangle (reason c pts)
unfolding reason reason_by
reason_is c pts = go (ltb (point_count pts) 3) (judged_at c pts (radii_of c pts))
  where
    go : (few judged : Bool) → NoTriangle (cond few 8 (cond judged 16 15))
    go true judged = inl refl
    go false true = inr (inr refl)
    go false false = inr (inl refl)

pub reason_most : (c : BallPivotingConfig) (pts : List Float) → reason c pts ≤ 16
reason_most c pts = ⊎_elim
    (λ (q : reason c pts ≡ 8). omega arith)
    (λ (k : (reason c pts ≡ 15) ⊎ (reason c pts ≡ 16)). ⊎_elim (λ (q : reason c pts ≡ 15). omega arith) (λ (q : reason c pts ≡ 16). omega arith) k)
    (reason_is c pts)
