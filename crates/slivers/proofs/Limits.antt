-- Two angles that are at most m and an aspect ratio that is at most t put a triangle's score below a threshold in each
-- order, if the score of m and t is below it (`slivers_are`). Assumes nothing.
use mathlib.Core.Path.{◌≡◌, refl, ap}
use mathlib.Core.Bool.{not}
use lib.Dec.{T}
use lib.Ieee.{Float, nan, binary32, div, lt, le, is_nan, of_bits}
use lib.Ieee.Fits.{div-fits}
use Rattle.numbers.specs.Rounded.{f32, ◌⊕◌, ◌⊖◌, ◌⊗◌, ◌⊘◌}
use Rattle.numbers.specs.Order.{minimum}
use Rattle.numbers.proofs.OrderLaws.{le_left, le_trans}
use Rattle.quality.specs.Measures.{angle, least, score}
use Rattle.quality.specs.Inner.Shape.{shape_of, quality_of}
use Rattle.score_bounds.proofs.Bounds.{part}
use Rattle.six_orders.specs.Inner.SixOrders.{InOrder, abc, acb, bac, bca, cab, cba, least_angle}
use Rattle.six_orders.proofs.Positive.{least_first, least_second}
use Rattle.six_orders.proofs.Edges.{no_edge_bound}
use Rattle.six_orders.proofs.Scores.{low_by_aspect}
use Rattle.slivers.specs.Inner.Slivers.{cosine_of, AngleLimit, SmallAngles, Slivers}

-- edges of any ratio have a part of at most 1, as those of ratio 1
edges_full : (m t : Float) → score m t (f32 0x3f800000) ≡ score m t nan
unfolding score
edges_full m t = ap (λ (e : Float). (part m ⊕ t ⊗ f32 0x40000000 ⊕ e) ⊘ f32 0x40400000) same
  where
    same : minimum (f32 0x40400000 ⊘ f32 0x3f800000) (f32 0x3f800000) ≡ minimum (f32 0x40400000 ⊘ nan) (f32 0x3f800000)
    same = unfold minimum div lt is_nan of_bits in refl

module _ (threshold κ t m : Float) (above : T (lt (f32 0) threshold)) (limit : AngleLimit κ m) (low : T (lt (score m t (f32 0x3f800000)) threshold)) where
  module _ (a b c : Float) (small : SmallAngles κ a b c) (number : T (not (is_nan m))) where
    angle_most : (u v w : Float) → T (le κ (cosine_of u v w)) → T (le (angle u v w) m)
    unfolding angle cosine_of
    angle_most u v w h = limit.most (cosine_of u v w) (div-fits binary32 (v ⊗ v ⊕ w ⊗ w ⊖ u ⊗ u) (f32 0x40000000 ⊗ v ⊗ w)) h number

    by_first : (p q r : Float) → T (le p m) → T (le (least p q r) m)
    by_first p q r h = le_trans (least p q r) p m (least_first p q r (le_left p m h)) h

    by_second : (p q r : Float) → T (le q m) → T (le (least p q r) m)
    by_second p q r h = le_trans (least p q r) q m (least_second p q r (le_left q m h)) h

    -- two of three angles are measured, and the third is not small
    least_most : {u v w : Float} → InOrder a b c u v w → T (le (least_angle u v w) m)
    unfolding least_angle
    least_most abc = by_first (angle a b c) (angle b a c) _ (angle_most a b c small.abc)
    least_most acb = by_first (angle a c b) (angle c a b) _ (angle_most a c b small.acb)
    least_most bac = by_first (angle b a c) (angle a b c) _ (angle_most b a c small.bac)
    least_most bca = by_first (angle b c a) (angle c b a) _ (angle_most b c a small.bca)
    least_most cab = by_second (angle c a b) (angle a c b) _ (angle_most a c b small.acb)
    least_most cba = by_second (angle c b a) (angle b c a) _ (angle_most b c a small.bca)

  below : (a b c u v w area : Float) → SmallAngles κ a b c → InOrder a b c u v w → T (le (shape_of u v w area).aspect_ratio t)
      → T (lt (quality_of u v w area).quality_score threshold)
  below a b c u v w area small = low_by_aspect a b c m t nan threshold above (record { most = λ x y z o n. least_most a b c small n o }) (no_edge_bound a b c)
      (rw (← edges_full m t) low) u v w area

  pub slivers_are : Slivers threshold κ t
  slivers_are = record { below = below }

pub no_slivers : (threshold t : Float) → Slivers threshold nan t
no_slivers threshold t = record { below = λ a b c u v w area small o h. absurd (unfold is_nan in le_left nan (cosine_of a b c) small.abc) }
