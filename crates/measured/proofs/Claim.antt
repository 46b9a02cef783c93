-- The claim of specs/Measured.antt: `measured`. Assumes nothing.
use mathlib.Core.Path.{◌≡◌, refl, sym, subst}
use mathlib.Core.Bool.{Bool, true, false, not, cond, ◌||◌}
use mathlib.Core.Logic.{inl, inr}
use mathlib.Core.List.{List}
use Prim.Native.Nat.{ℕ, ◌+◌, ◌*◌, ◌/◌, ◌<◌}
use native.Mathlib.Omega.{arith}
use lib.Dec.{T}
use lib.ListN.{length, get_or}
use lib.Ieee.{Float, inf, nan, binary32, lt, le, is_nan, neg, of_bits}
use lib.Ieee.Fits.{mul-fits}
use Rattle.lists.proofs.Bools.{and_both}
use Rattle.numbers.specs.Rounded.{f32}
use Rattle.numbers.specs.Inner.Bounds.{Bounded}
use Rattle.numbers.proofs.OrderLaws.{le_left, le_or_lt, not_lt_le}
use Rattle.vector.specs.Vector.{point, magnitude, difference, cross, distance}
use Rattle.vector.specs.declared.Point3f.{Point3f}
use Rattle.ranges.specs.Range.{inside, farthest}
use Rattle.domain.specs.Inner.Accepted.{Cloud}
use Rattle.points.specs.Points.{point_at}
use Rattle.quality.specs.Measures.{half, tiny, measures, degenerate, radius_of}
use Rattle.triangle.specs.Quality.{area, circumradius, quality, is_zero}
use Rattle.area_bounds.proofs.AreaBound.{Bounds}
use Rattle.area_bounds.proofs.Tiny.{area_not_below}
use Rattle.verdict.specs.Verdict.{stretch, verdict_of, measured_of}
use Rattle.verdict.specs.Judged.{verdict_at}
use Rattle.verdict.specs.declared.MeasuredKind.{MeasuredKind}
use Rattle.verdict.specs.declared.MeasuredKind.TheVariants.{Good, NoArea, Small, Poor, Long}
use Rattle.verdict.proofs.Checks.{accepted_judging}
use Rattle.verdict.proofs.Claim.{told_is}
use Rattle.verdict.proofs.Laws.{no_area_is, small_is, poor_is, long_is, good_is}
use Rattle.measured.specs.Measured.{VerdictsMeasured}
use Rattle.measured.proofs.Inside.{wide, edge_within, area_within, ratio_number, stretch_number, score_number}

abbrev corner : Point3f
corner = point farthest farthest farthest

-- a point of an accepted cloud
near : (n : ℕ) (points : List Float) → Cloud n points → (i : ℕ) → i < n → Bounds (point_at points i) corner
unfolding point_at
near n points cloud i h =
    record { bounded_x = at (3 * i) (omega (arith, t)); bounded_y = at (3 * i + 1) (omega (arith, t)); bounded_z = at (3 * i + 2) (omega (arith, t)) }
  where
    t : length points ≡ 3 * n
    t = cloud.threes

    at : (k : ℕ) → k < length points → Bounded (get_or points k nan) farthest
    at k l = let b = and_both {p = le (neg farthest) (get_or points k nan)} {q = le (get_or points k nan) farthest}
        (unfold inside in cloud.near k l) in record { upper = subst T (sym b.1) tt; lower = subst T (sym b.0) tt }

-- ---- the measures of three such points
module _ (p1 p2 p3 : Point3f) (P1 : Bounds p1 corner) (P2 : Bounds p2 corner) (P3 : Bounds p3 corner) where
  area_number : T (not (is_nan (area p1 p2 p3)))
  area_number = le_left (area p1 p2 p3) wide (area_within p1 p2 p3 P1 P2 P3).high

  area_is : (quality p1 p2 p3).area ≡ area p1 p2 p3
  unfolding quality measures degenerate
  area_is = go (lt (area p1 p2 p3) tiny)
    where
      go : (t : Bool) → (cond t (degenerate (area p1 p2 p3))
          (measures (distance p2 p1) (distance p3 p2) (distance p1 p3) (area p1 p2 p3) (circumradius p1 p2 p3))).area ≡ area p1 p2 p3
      go true = refl
      go false = refl

  score_is_number : T (not (is_nan (quality p1 p2 p3).quality_score))
  unfolding quality measures degenerate circumradius
  score_is_number = go (lt (area p1 p2 p3) tiny) refl
    where
      go : (t : Bool) → lt (area p1 p2 p3) tiny ≡ t
          → T (not (is_nan (cond t (degenerate (area p1 p2 p3))
          (measures (distance p2 p1) (distance p3 p2) (distance p1 p3) (area p1 p2 p3)
          (cond t (inf false) (radius_of (distance p2 p1) (distance p3 p2) (distance p1 p3) (area p1 p2 p3))))).quality_score))
      go true e = unfold is_nan of_bits in tt
      go false e =
          let k : T (not (lt (area p1 p2 p3) tiny)) = rw e tt in
          score_number (distance p2 p1) (distance p3 p2) (distance p1 p3) (area p1 p2 p3) (edge_within p2 p1 P2 P1) (edge_within p3 p2 P3 P2)
          (edge_within p1 p3 P1 P3) (area_within p1 p2 p3 P1 P2 P3)
          (not_lt_le (area p1 p2 p3) tiny area_number (unfold is_nan of_bits in tt) k) _ _

  ratio_is_number : T (not (is_nan (quality p1 p2 p3).edge_ratio))
  unfolding quality measures degenerate
  ratio_is_number = go (lt (area p1 p2 p3) tiny)
    where
      go : (t : Bool) → T (not
          (is_nan (cond t (degenerate (area p1 p2 p3))
          (measures (distance p2 p1) (distance p3 p2) (distance p1 p3) (area p1 p2 p3) (circumradius p1 p2 p3))).edge_ratio))
      go true = unfold is_nan in tt
      go false = ratio_number (distance p2 p1) (distance p3 p2) (distance p1 p3) (area p1 p2 p3) (edge_within p2 p1 P2 P1) (edge_within p3 p2 P3 P2)
          (edge_within p1 p3 P1 P3) (area_within p1 p2 p3 P1 P2 P3)

  above_zero : is_zero (area p1 p2 p3) ≡ false → T (lt (f32 0) (area p1 p2 p3))
  above_zero e =
      elim (le_or_lt (area p1 p2 p3) (f32 0) area_number (unfold is_nan of_bits in tt)) [
        | inl l ↦ absurd (neither (lt (area p1 p2 p3) (f32 0)) (is_zero (area p1 p2 p3)) (area_not_below p1 p2 p3) e (unfold le in l))
        | inr l ↦ l
      ]
    where
      neither : (a b : Bool) → a ≡ false → b ≡ false → T (a || b) → ⊥
      neither true b h k l = absurd (subst T h tt)
      neither false true h k l = absurd (subst T k tt)
      neither false false h k l = l

  long_number : is_zero (area p1 p2 p3) ≡ false → T (not (is_nan (stretch (quality p1 p2 p3).edge_ratio (area p1 p2 p3))))
  long_number e =
      stretch_number (distance p2 p1) (distance p3 p2) (distance p1 p3) (area p1 p2 p3) (edge_within p2 p1 P2 P1) (edge_within p3 p2 P3 P2)
      (edge_within p1 p3 P1 P3) (area_within p1 p2 p3 P1 P2 P3)
      (quality p1 p2 p3).edge_ratio ratio_is_number (unfold area in mul-fits binary32 (magnitude (cross (difference p2 p1) (difference p3 p1))) half)
      (above_zero e)

  verdict_number : (r m t f : Float) (v : MeasuredKind) → v ≡ verdict_of (quality p1 p2 p3) r m t f → T (not (is_nan (measured_of v)))
  unfolding measured_of
  verdict_number r m t f (Good x) e = rw (good_is (quality p1 p2 p3) r m t f x (sym e)).0 score_is_number
  verdict_number r m t f (NoArea x) e = rw ((no_area_is (quality p1 p2 p3) r m t f x (sym e)).0, area_is) area_number
  verdict_number r m t f (Small x) e = rw ((small_is (quality p1 p2 p3) r m t f x (sym e)).0, area_is) area_number
  verdict_number r m t f (Poor x) e = rw (poor_is (quality p1 p2 p3) r m t f x (sym e)).0 score_is_number
  verdict_number r m t f (Long x) e =
      let l = long_is (quality p1 p2 p3) r m t f x (sym e) in
      let z : is_zero (area p1 p2 p3) ≡ false = subst (λ (y : Float). is_zero y ≡ false) area_is l.1 in
      rw (l.0, area_is) (long_number z)

pub measured : VerdictsMeasured
unfolding verdict_at
measured points normals s i j k v e =
    let t = told_is points normals s i j k v e in
    let a = accepted_judging points normals s i j k t.0 in
    let cloud = a.accepted.cloud in
    let n = length points / 3 in
    verdict_number (point_at points i) (point_at points j) (point_at points k) (near n points cloud i a.inside.0) (near n points cloud j a.inside.1)
    (near n points cloud k a.inside.2)
    s.radius s.min_triangle_area s.quality_threshold s.max_edge_factor v t.1
