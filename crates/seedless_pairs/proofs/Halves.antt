-- Ranges of listed points whose boxes are refused, and halves of ranges. Assumes nothing.
use Prim.Native.Nat.{ℕ, ◌+◌, ◌*◌, ◌/◌, ◌≤◌, ◌<◌}
use mathlib.Core.Path.{◌≡◌, refl, subst}
use mathlib.Core.Logic.{⊎_elim}
use mathlib.Core.Bool.{true, false}
use mathlib.Core.List.{List}
use native.Mathlib.Omega.{arith}
use lib.Dec.{T, ltb}
use lib.Ieee.{Float, binary32, nan, fits}
use lib.ListN.{length, get_or}
use borrow.Author.Tests.{ltb-true, ltb-false}
use Rattle.vector.specs.Inner.Numbers.{Finite}
use Rattle.vector.specs.declared.Point3f.{Point3f}
use Rattle.points.specs.Points.{point_at}
use Rattle.lists.proofs.Bools.{either}
use Rattle.decisions.specs.declared.Scene.{Scene}
use Rattle.cosines.specs.Inner.Cosine.{Coordinates}
use Rattle.filters.specs.declared.Limits.{Limits}
use Rattle.filters.proofs.Slivers.{sliver_each}
use Rattle.nearby.specs.Inner.Ready.{NeighborsListed, nth}
use Rattle.three_points.specs.Inner.Judged.{Seedless}
use Rattle.three_points.proofs.Refused.{refused_seedless}
use Rattle.three_points.proofs.Measured.{each_seedless}
use Rattle.box_filters.specs.Inner.RefusedWithin.{RefusedPoints, by_limits, as_sliver, by_score, Located, RefusedWithin}
use Rattle.seedless_pairs.specs.declared.Range.{Range}
use Rattle.seedless_pairs.specs.Inner.Pairs.{PairsSeedless, InRange, Spans, Ranged}

pub listed_fewer : {s : Scene} {w : List ℕ} {c : ℕ} (m : ℕ) → m ≤ c → NeighborsListed s w c → NeighborsListed s w m
listed_fewer m h l = record { most = omega (arith, l.most); below = λ x k. l.below x (omega arith) }

-- a slice of f32 has points whose coordinates are f32
coordinates : (pts : List Float) (k : ℕ) → ((m : ℕ) → T (fits binary32 (get_or pts m nan))) → Coordinates (point_at pts k)
unfolding point_at
coordinates pts k f = record { x_fits = f (3 * k); y_fits = f (3 * k + 1); z_fits = f (3 * k + 2) }

module _ {s : Scene} {pts : List Float} {w : List ℕ} {r : Float} {l : Limits} {i : ℕ} {first second : Range} (g : Ranged s pts w r l i first second) where
  numbers : (k : ℕ) → k < length pts / 3 → Finite (point_at pts k)
  numbers k h = g.judged.numbers k (omega (arith, g.held.points_long))

  -- no point of the second range comes later than one of the first
  pub none_later : second.to ≤ first.from → PairsSeedless s pts r w i first second
  none_later h = λ j k a b d e f. absurd (omega arith)

  -- the boxes are refused with the point
  refused_points : {j k : ℕ} → j < s.n → k < s.n → RefusedPoints s.quality_threshold l (point_at pts i) (point_at pts j) (point_at pts k)
      → Seedless s pts r i j k
  refused_points hj hk (by_limits h) = refused_seedless g.judged g.inside hj hk h
  refused_points hj hk (as_sliver h) = each_seedless (sliver_each g.judged.limits h)
  refused_points hj hk (by_score h) = each_seedless (h s r refl)

  pub refused_pairs : {p : Point3f} → ((k : ℕ) → T (fits binary32 (get_or pts k nan))) → p ≡ point_at pts i
      → RefusedWithin s.quality_threshold l p first.bounds second.bounds → PairsSeedless s pts r w i first second
  refused_pairs {p} f e h = λ j k a b c d _.
      let hj : nth s w j < s.n = g.first_in.listed.below j b in
      let hk : nth s w k < s.n = g.second_in.listed.below k d in
      let at = subst (λ (q : Point3f). RefusedWithin s.quality_threshold l q first.bounds second.bounds) e h in
      let located : (k : ℕ) → k < s.n → Located (point_at pts k) = λ k h. record { held = coordinates pts k f; numbers = g.judged.numbers k h } in
      refused_points hj hk (at.each (located i g.inside) (point_at pts (nth s w j)) (point_at pts (nth s w k)) (located (nth s w j) hj)
      (located (nth s w k) hk)
      (g.first_in.boxed.has numbers (4 * s.n + j) (omega arith) (omega arith) (omega (arith, g.held.points_long)))
      (g.second_in.boxed.has numbers (4 * s.n + k) (omega arith) (omega arith) (omega (arith, g.held.points_long))))

  -- two other ranges
  pub ranged : {a b : Range} → InRange s pts w a → InRange s pts w b → Ranged s pts w r l i a b
  ranged x y = record { held = g.held; inside = g.inside; judged = g.judged; first_in = x; second_in = y }

  -- both ranges in two parts
  pub all_parts : {a b c d : Range} (m n : ℕ) → Spans s pts w first.from m a → Spans s pts w m first.to b → Spans s pts w second.from n c
      → Spans s pts w n second.to d
      → PairsSeedless s pts r w i a c → PairsSeedless s pts r w i a d → PairsSeedless s pts r w i b c → PairsSeedless s pts r w i b d
      → PairsSeedless s pts r w i first second
  all_parts m n fa fb fc fd ac ad bc bd = λ j k hj ej hk ek h. ⊎_elim
      (λ (t : ltb j m ≡ true). let x = ltb-true j m t in ⊎_elim
      (λ (u : ltb k n ≡ true). let y = ltb-true k n u in ac j k (omega (arith, fa.from_is)) (omega (arith, fa.to_is)) (omega (arith, fc.from_is))
      (omega (arith, fc.to_is)) h)
      (λ (u : ltb k n ≡ false). let y = ltb-false k n u in ad j k (omega (arith, fa.from_is)) (omega (arith, fa.to_is)) (omega (arith, fd.from_is))
      (omega (arith, fd.to_is)) h)
      (either (ltb k n)))
      (λ (t : ltb j m ≡ false). let x = ltb-false j m t in ⊎_elim
      (λ (u : ltb k n ≡ true). let y = ltb-true k n u in bc j k (omega (arith, fb.from_is)) (omega (arith, fb.to_is)) (omega (arith, fc.from_is))
      (omega (arith, fc.to_is)) h)
      (λ (u : ltb k n ≡ false). let y = ltb-false k n u in bd j k (omega (arith, fb.from_is)) (omega (arith, fb.to_is)) (omega (arith, fd.from_is))
      (omega (arith, fd.to_is)) h)
      (either (ltb k n)))
      (either (ltb j m))
