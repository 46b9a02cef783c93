-- With plain squares no score reaches a threshold that is out of reach, in any order of the points (`plain_low`).
-- Assumes nothing.
use mathlib.Core.Path.{sym, ◌∙◌, subst}
use lib.Dec.{T}
use lib.Ieee.{Float, add, mul, div, lt, is_nan, of_bits}
use lib.Ieee.Fits.{and_l, and_r}
use Rattle.numbers.specs.Rounded.{f32, ◌⊗◌}
use Rattle.numbers.specs.Root.{root}
use Rattle.numbers.specs.Order.{minimum}
use Rattle.numbers.proofs.OrderLaws.{lt_le_trans}
use Rattle.vector.specs.Vector.{squared}
use Rattle.vector.specs.declared.Point3f.{Point3f}
use Rattle.vector.proofs.Distances.{squared_turned, distance_is, distance_turned}
use Rattle.bounds.specs.declared.Interval.{Interval}
use Rattle.quality.specs.Measures.{half, score}
use Rattle.score_bounds.specs.Inner.Bound.{AspectLimit}
use Rattle.score_bounds.proofs.Aspect.{aspect_limit_is, aspect_low}
use Rattle.triangle.specs.Quality.{quality}
use Rattle.triangle.proofs.Quality.{quality_is}
use Rattle.area_bounds.specs.Inner.AreaBound.{cross_squared}
use Rattle.area_bounds.proofs.AreaBound.{area_is}
use Rattle.cosines.specs.Inner.Cosine.{is_plain_pair, are_plain, Coordinates}
use Rattle.cosines.proofs.Narrow.{plain_at}
use Rattle.euler.specs.Inner.OutOfReach.{is_out_of_reach, OutOfReach}
use Rattle.euler.proofs.Aspect.{bound, aspect_half}

-- ---- the threshold

best_low : T (lt (score (f32 0x40490fdb) bound (f32 0x3f800000)) (f32 0x3f800054))
unfolding score minimum add mul div lt is_nan of_bits
best_low = tt

bound_limits : (threshold : Float) → T (is_out_of_reach threshold) → AspectLimit threshold bound
unfolding is_out_of_reach
bound_limits threshold h = aspect_limit_is threshold bound (lt_le_trans (score (f32 0x40490fdb) bound (f32 0x3f800000)) (f32 0x3f800054) threshold best_low h)

-- ---- three points

abbrev Plain : Point3f → Point3f → Type 0
Plain p q = T (is_plain_pair (squared p q) (squared p q))

plain_turned : (p q : Point3f) → Plain p q → Plain q p
plain_turned p q h = subst (λ (x : Float). T (is_plain_pair x x)) (squared_turned p q) h

low_one : (threshold : Float) → T (is_out_of_reach threshold) → (p q t : Point3f) → Coordinates p → Coordinates q → Coordinates t → Plain p q → Plain q t
    → Plain t p → T (lt (quality p q t).quality_score threshold)
low_one threshold h p q t P Q R ha hb hc =
    let ea = distance_is q p in
    let eb = distance_turned t q ∙ distance_is q t in
    let ec = distance_turned p t ∙ distance_is t p in
    let k = aspect_low threshold bound (root (squared q p)) (root (squared q t)) (root (squared t p)) (root (cross_squared p q t) ⊗ half)
    (bound_limits threshold h) (aspect_half p q t P Q R (plain_turned p q ha) hc hb) in
    rw (← quality_is p q t, ea, eb, ec, area_is p q t) (subst T (sym k) tt)

-- ---- intervals

pub plain_low : (a b c : Interval) → T (are_plain a.lo a.hi c.lo c.hi b.lo b.hi) → OutOfReach a b c
unfolding are_plain
plain_low a b c h = record {
  low =
      λ threshold g p q t P Q R ha hb hc.
      let second = and_r (is_plain_pair a.lo a.hi) _ h in
      let pq : Plain p q = plain_at a.lo a.hi (squared p q) (and_l (is_plain_pair a.lo a.hi) _ h) ha.least ha.most in
      let qt : Plain q t = plain_at b.lo b.hi (squared q t) (and_r (is_plain_pair c.lo c.hi) _ second) hb.least hb.most in
      let pt : Plain p t = plain_at c.lo c.hi (squared p t) (and_l (is_plain_pair c.lo c.hi) _ second) hc.least hc.most in
      let qp = plain_turned p q pq in
      let tq = plain_turned q t qt in
      let tp = plain_turned p t pt in
      record {
        pqt = low_one threshold g p q t P Q R pq qt tp;
        ptq = low_one threshold g p t q P R Q pt tq qp;
        qpt = low_one threshold g q p t Q P R qp pt tq;
        qtp = low_one threshold g q t p Q R P qt tp pq;
        tpq = low_one threshold g t p q R P Q tp pq qt;
        tqp = low_one threshold g t q p R Q P tq qp pt;
      };
}
