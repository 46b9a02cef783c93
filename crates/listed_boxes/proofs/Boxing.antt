-- The loop of `box_of`: a box grows by one point after the other. Assumes nothing.
use Prim.Native.Nat.{ℕ, ◌+◌, ◌/◌, ◌≤◌, ◌<◌}
use mathlib.Core.Path.{◌≡◌, subst, subst⁻¹}
use mathlib.Core.List.{List}
use native.Mathlib.Omega.{arith}
use borrow.Author.Count.{below_more}
use lib.Dec.{T}
use lib.Ieee.{Float}
use lib.ListN.{length, get_or}
use Rattle.vector.specs.Inner.Numbers.{Finite}
use Rattle.vector.specs.declared.Point3f.{Point3f}
use Rattle.points.specs.Points.{point_at}
use Rattle.bounds.specs.declared.Bounds.{Bounds}
use Rattle.bounds.specs.Inner.Within.{within}
use Rattle.intervals.specs.Inner.Enclosed.{Grown}
use Rattle.listed_boxes.specs.Inner.Boxes.{RangeBoxed}

-- the word at a place, where it is a point's number, is that of a point in the box
abbrev Has : List Float → List ℕ → ℕ → Bounds → ℕ → Type 0
Has pts list from b m = from ≤ m → get_or list m 0 < length pts / 3 → T (within b (point_at pts (get_or list m 0)))

module _ {pts : List Float} {list : List ℕ} {from : ℕ} where
  pub box_start : {b : Bounds} → RangeBoxed pts list from from b
  box_start = record { has = λ numbers m a h. absurd (omega arith) }

  module _ {b : Bounds} {m : ℕ} (k : RangeBoxed pts list from m b) where
    pub box_skip : length pts / 3 ≤ get_or list m 0 → RangeBoxed pts list from (m + 1) b
    box_skip h = record { has = λ numbers x a l. below_more (Has pts list from b) m (λ y ly ay. k.has numbers y ay ly) (λ _ i. absurd (omega arith)) x l a }

    pub box_more : {p : Point3f} {c : Bounds} → get_or list m 0 < length pts / 3 → p ≡ point_at pts (get_or list m 0) → Grown b p c
        → RangeBoxed pts list from (m + 1) c
    box_more {p} {c} h e g = record {
      has = λ numbers x a l.
          let f : Finite p = subst⁻¹ Finite e (numbers (get_or list m 0) h) in
          below_more (Has pts list from c) m
          (λ y ly ay iy. g.keeps (point_at pts (get_or list y 0)) f (k.has numbers y ay ly iy))
          (λ _ i. subst (λ (q : Point3f). T (within c q)) e (g.own f)) x l a;
    }

    pub box_end : {to : ℕ} → to ≤ m → RangeBoxed pts list from to b
    box_end h = record { has = λ numbers x a l. k.has numbers x a (omega arith) }
