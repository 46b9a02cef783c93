-- A score is at most that of a larger least angle, a larger aspect ratio and a lesser edge ratio, so one score below a
-- threshold puts another below it (`score_below`), those of all orders (`all_below_lem`, and `low_by_aspect` of one order
-- with an aspect ratio of its own), and of all edges that are not shorter (`all_below_from`). Assumes nothing.
use mathlib.Core.Path.{◌≡◌, refl}
use mathlib.Core.Bool.{Bool, true, false, not, cond}
use lib.Dec.{T}
use lib.Ieee.{Float, nan, inf, fin, div, lt, le, is_nan, of_bits}
use lib.Ieee.Scale.{finite}
use lib.Ieee.Positive.{positive, positive-finite}
use Rattle.numbers.specs.Rounded.{f32, ◌⊗◌, ◌⊘◌}
use Rattle.numbers.specs.Order.{minimum}
use Rattle.numbers.proofs.Above.{positive_is, positive_signless}
use Rattle.numbers.proofs.OrderLaws.{le_left, le_trans, lt_le_trans, le_lt_trans, not_lt_le}
use Rattle.numbers.proofs.QuotientOrder.{div_monotone}
use Rattle.numbers.proofs.Minimum.{minimum_either, minimum_first, minimum_le}
use Rattle.quality.specs.Measures.{tiny, radius_of, aspect_ratio, edge_ratio, score, measures, degenerate}
use Rattle.quality.specs.Inner.Shape.{shape, flat_shape, shape_of, quality_of}
use Rattle.score_bounds.proofs.Bounds.{part}
use Rattle.score_bounds.proofs.Aspect.{doubled_le, mean_under, below_low}
use Rattle.six_orders.specs.Inner.SixOrders.{InOrder, abc, acb, bac, bca, cab, cba, least_angle, AngleBound, AspectBound, EdgeBound, AllBelow, NotShorter}
use Rattle.six_orders.specs.Inner.SixOrders.{AspectFrom, EdgeFrom, AllBelowFrom}
use Rattle.six_orders.proofs.Positive.{above_zero, div_falls}

-- ---- the parts of a score

minimum_monotone : (x y o : Float) → T (le x y) → T (not (is_nan o)) → T (le (minimum x o) (minimum y o))
minimum_monotone x y o h n =
    minimum_either (λ (z : Float). T (le (minimum x o) z)) y o (le_trans (minimum x o) x y (minimum_first x o (le_left x y h)) h) (minimum_le x o n)

one_number : T (not (is_nan (f32 0x3f800000)))
unfolding is_nan of_bits
one_number = tt

tiny_number : T (not (is_nan tiny))
unfolding is_nan of_bits
tiny_number = tt

sixth_positive : T (positive (f32 0x40490fdb ⊘ f32 0x40c00000))
unfolding div of_bits
sixth_positive = tt

three_positive : T (positive (f32 0x40400000))
unfolding of_bits
three_positive = tt

no_part : f32 0x3f800000 ≡ part nan
unfolding minimum div is_nan of_bits
no_part = refl

part_under : (x m : Float) → (T (not (is_nan m)) → T (le x m)) → T (le (part x) (part m))
part_under x nan h = rw (← no_part) (minimum_le (x ⊘ (f32 0x40490fdb ⊘ f32 0x40c00000)) (f32 0x3f800000) one_number)
part_under x (inf s) h = minimum_monotone _ _ _ (div_monotone x (inf s) (f32 0x40490fdb ⊘ f32 0x40c00000) sixth_positive (h (unfold is_nan in tt))) one_number
part_under x (fin s n e) h =
    minimum_monotone _ _ _ (div_monotone x (fin s n e) (f32 0x40490fdb ⊘ f32 0x40c00000) sixth_positive (h (unfold is_nan in tt))) one_number

-- the edges' part
abbrev edges : Float → Float
edges x = minimum (f32 0x40400000 ⊘ x) (f32 0x3f800000)

no_edges : f32 0x3f800000 ≡ edges nan
unfolding minimum div is_nan of_bits
no_edges = refl

edges_under : (d e : Float) → (T (not (is_nan e)) → T (positive e) × T (le e d)) → T (le (edges d) (edges e))
edges_under d nan h = rw (← no_edges) (minimum_le (f32 0x40400000 ⊘ d) (f32 0x3f800000) one_number)
edges_under d (inf s) h = absurd (h (unfold is_nan in tt)).0
edges_under d (fin s n e) h =
    let k = h (unfold is_nan in tt) in
    minimum_monotone (f32 0x40400000 ⊘ d) (f32 0x40400000 ⊘ fin s n e) (f32 0x3f800000)
    (div_falls (f32 0x40400000) (fin s n e) d (positive-finite (f32 0x40400000) three_positive) (positive_signless (f32 0x40400000) three_positive) k.0
    k.1) one_number

-- ---- the score

-- one score below a threshold puts another below it
pub score_below : (x q d m t e threshold : Float) → (T (not (is_nan m)) → T (le x m)) → T (le q t) → (T (not (is_nan e)) → T (positive e) × T (le e d))
    → T (lt (score m t e) threshold) → T (lt (score x q d) threshold)
unfolding score
score_below x q d m t e threshold angle aspect edge low =
    le_lt_trans (score x q d) (score m t e) threshold
    (mean_under (part x) (part m) (q ⊗ f32 0x40000000) (t ⊗ f32 0x40000000) (edges d) (edges e) (part_under x m angle) (doubled_le q t aspect)
    (edges_under d e edge) (below_low (score m t e) threshold low)) low

module _ (a b c m t e X threshold : Float) (above : T (lt (f32 0) threshold)) (angles : AngleBound a b c m) (aspects : AspectBound a b c X t)
    (number : T (not (is_nan t))) (edge : EdgeBound a b c e) (low : T (lt (score m t e) threshold)) where
  score_low : (u v w r : Float) → InOrder a b c u v w → T (le tiny r) → T (le r X)
      → T (lt (score (least_angle u v w) (aspect_ratio u v w r (radius_of u v w r)) (edge_ratio u v w)) threshold)
  score_low u v w r o h k =
      score_below (least_angle u v w) (aspect_ratio u v w r (radius_of u v w r)) (edge_ratio u v w) m t e threshold (angles.most u v w o)
      (aspects.most u v w r o h k number) (λ n. (edge.above n, edge.least u v w o n)) low

  pub all_below_lem : AllBelow threshold X a b c
  unfolding quality_of measures degenerate least_angle
  all_below_lem = record { below = λ u v w r o h. at u v w r o h (lt r tiny) refl }
    where
      at : (u v w r : Float) → InOrder a b c u v w → T (le r X) → (k : Bool) → lt r tiny ≡ k
          → T (lt (cond k (degenerate r) (measures u v w r (radius_of u v w r))).quality_score threshold)
      at u v w r o h true e = above
      at u v w r o h false e = score_low u v w r o (not_lt_le r tiny (le_left r X h) tiny_number (rw e tt)) h

-- by an aspect ratio that is known in one order
pub low_by_aspect : (a b c m t e threshold : Float) → T (lt (f32 0) threshold) → AngleBound a b c m → EdgeBound a b c e → T (lt (score m t e) threshold)
    → (u v w area : Float) → InOrder a b c u v w → T (le (shape_of u v w area).aspect_ratio t) → T (lt (quality_of u v w area).quality_score threshold)
unfolding shape_of quality_of shape flat_shape measures degenerate least_angle
low_by_aspect a b c m t e threshold above angles edge low u v w area o = go (lt area tiny)
  where
    go : (k : Bool) → T (le (cond k (flat_shape area) (shape u v w area)).aspect_ratio t)
        → T (lt (cond k (degenerate area) (measures u v w area (radius_of u v w area))).quality_score threshold)
    go true h = above
    go false h = score_below (least_angle u v w) (aspect_ratio u v w area (radius_of u v w area)) (edge_ratio u v w) m t e threshold (angles.most u v w o) h
        (λ n. (edge.above n, edge.least u v w o n)) low

-- ---- edges that are not shorter

not_shorter : {a x : Float} → T (positive a) → T (finite x) → T (le a x) → NotShorter a x
not_shorter {a} {x} p f h = record { shorter = p; own = positive_is x (lt_le_trans (f32 0) a x (above_zero a p) h) f; least = h }

pub all_below_from : {a b c s m t e X threshold : Float} → T (lt (f32 0) threshold) → T (positive a) × T (positive b) × T (positive c) → AspectFrom a b c X t
    → T (not (is_nan t)) → EdgeFrom a b c s e → T (lt (score m t e) threshold) → AllBelowFrom threshold X m a b c s
all_below_from {m = m} {t = t} {e = e} {X = X} {threshold = threshold} above p aspects number edges low = record {
  longer = λ x y z f g h i j k o angles.
      let A = not_shorter p.0 f i in
      let B = not_shorter p.1 g j in
      let C = not_shorter p.2 h k in
      all_below_lem x y z m t e X threshold above angles (aspects.longer x y z A B C) number (edges.longer x y z A B C o) low;
}

-- ---- edges in another order

second_first : {a b c u v w : Float} → InOrder a b c u v w → InOrder b a c u v w
second_first abc = bac
second_first acb = bca
second_first bac = abc
second_first bca = acb
second_first cab = cba
second_first cba = cab

third_first : {a b c u v w : Float} → InOrder a b c u v w → InOrder c a b u v w
third_first abc = bca
third_first acb = bac
third_first bac = cba
third_first bca = cab
third_first cab = abc
third_first cba = acb

module _ {a b c : Float} where
  pub second_below : {threshold X : Float} → AllBelow threshold X b a c → AllBelow threshold X a b c
  second_below h = record { below = λ u v w r o. h.below u v w r (second_first o) }

  pub third_below : {threshold X : Float} → AllBelow threshold X c a b → AllBelow threshold X a b c
  third_below h = record { below = λ u v w r o. h.below u v w r (third_first o) }

  pub second_angle : {m : Float} → AngleBound b a c m → AngleBound a b c m
  second_angle h = record { most = λ u v w o. h.most u v w (second_first o) }

  pub third_angle : {m : Float} → AngleBound c a b m → AngleBound a b c m
  third_angle h = record { most = λ u v w o. h.most u v w (third_first o) }
