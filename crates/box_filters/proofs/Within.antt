-- By which ends all triangles of a point and of points in two boxes are refused (`far_within`, `unreached_within`,
-- `within_by`). Assumes nothing.
use mathlib.Core.Bool.{◌&&◌}
use lib.Dec.{T}
use lib.Ieee.{Float, binary32, lt, le, fits}
use Rattle.numbers.specs.Rounded.{f32}
use Rattle.numbers.proofs.OrderLaws.{le_trans, lt_le_trans}
use Rattle.vector.specs.Vector.{squared}
use Rattle.vector.specs.Inner.Numbers.{Finite}
use Rattle.vector.specs.declared.Point3f.{Point3f}
use Rattle.vector.proofs.Distances.{squared_fits}
use Rattle.bounds.specs.declared.Bounds.{Bounds}
use Rattle.bounds.specs.declared.Interval.{Interval}
use Rattle.bounds.specs.Inner.Within.{within}
use Rattle.area_bounds.specs.Inner.AreaBound.{cross_squared}
use Rattle.area_bounds.proofs.AreaBound.{cross_fits}
use Rattle.thin.specs.Inner.Thin.{AllThin}
use Rattle.cosines.specs.Inner.Cosine.{Coordinates}
use Rattle.filters.specs.declared.Limits.{Limits}
use Rattle.filters.specs.Inner.Refused.{small, large, distant, each}
use Rattle.filters.proofs.Slivers.{low_each as low-each-of}
use Rattle.filters.proofs.Throughout.{each_thin}
use Rattle.box_filters.specs.declared.Edges.{Edges}
use Rattle.box_filters.specs.Inner.RefusedWithin.{EdgesOf, Points, AreasOf, RefusedBy, small_areas, large_areas, thin_edges, all_slivers, low_scores}
use Rattle.box_filters.specs.Inner.RefusedWithin.{RefusedPoints, by_limits, as_sliver, by_score, RefusedWithin, Unreached}
use Rattle.box_filters.proofs.Triangles.{edges_held, points, areas_of}
use Rattle.box_filters.proofs.Low.{low_each}

module _ {p : Point3f} {q t at : Bounds} {e : Edges} (own : Finite p → T (within at p)) (edges : EdgesOf at q t e) where
  pub far_within : {threshold : Float} {l : Limits} → T (lt l.far e.qt.lo) → RefusedWithin threshold l p q t
  far_within {l = l} k = record {
    each = λ f b c g h i j. by_limits
        (distant (lt_le_trans l.far e.qt.lo (squared b c) k
        (edges_held (points own edges b c f.numbers g.numbers h.numbers i j) edges).qt_square.least));
  }

  pub unreached_within : {threshold : Float} {l : Limits} → Unreached threshold e → RefusedWithin threshold l p q t
  unreached_within {threshold} u = record {
    each = λ f b c g h i j.
        let k = edges_held (points own edges b c f.numbers g.numbers h.numbers i j) edges in
        by_score (λ s r es. low-each-of s r
        (rw es (u.plain.low threshold u.beyond p b c f.held g.held h.held k.pq_square k.qt_square k.pt_square)));
  }

  -- where no edge is too long
  module _ {r : Interval} (short : T (le e.pq.hi (f32 0x7f7fffff) && (le e.pt.hi (f32 0x7f7fffff) && le e.qt.hi (f32 0x7f7fffff))))
      (areas : AreasOf at q t r) where
    refused : {threshold : Float} {l : Limits} (b c : Point3f) → Points at q t p b c → Coordinates p → Coordinates b → Coordinates c → RefusedBy threshold l e r
        → RefusedPoints threshold l p b c
    refused {l = l} b c m f g i (small_areas h) =
        let k = areas_of own edges short areas b c m in
        by_limits (each (small (le_trans _ r.hi l.small k.0.most h)) (small (le_trans _ r.hi l.small k.1.most h))
        (small (le_trans _ r.hi l.small k.2.most h)))
    refused {l = l} b c m f g i (large_areas h) =
        let k = areas_of own edges short areas b c m in
        by_limits (each (large (le_trans l.large r.lo _ h k.0.least)) (large (le_trans l.large r.lo _ h k.1.least))
        (large (le_trans l.large r.lo _ h k.2.least)))
    refused {l = l} b c m f g i (thin_edges h) =
        let k = areas_of own edges short areas b c m in
        let s = edges_held m edges in
        let thin : (w : Float) → T (fits binary32 w) → T (le w r.hi) → AllThin l.thin (squared p b) (squared p c) (squared b c) w =
        λ w fw o. h.thin (squared p b) (squared p c) (squared b c) w (record { held = squared_fits p b; inside = s.pq_square })
        (record { held = squared_fits p c; inside = s.pt_square }) (record { held = squared_fits b c; inside = s.qt_square }) fw o in
        by_limits (each_thin (thin (cross_squared p b c) (cross_fits p b c) k.0.most) (thin (cross_squared b p c) (cross_fits b p c) k.1.most)
        (thin (cross_squared c p b) (cross_fits c p b) k.2.most))
    refused b c m f g i (all_slivers h) =
        let k = areas_of own edges short areas b c m in
        let s = edges_held m edges in
        as_sliver (record {
          low = λ threshold d. h.low threshold d p b c
              (record {
                p_held = f;
                q_held = g;
                t_held = i;
                pq = s.pq_square;
                qt = s.qt_square;
                pt = s.pt_square;
                at_p = k.0.most;
                at_q = k.1.most;
                at_t = k.2.most;
              });
        })
    refused b c m f g i (low_scores h) = by_score (low_each own edges short areas h b c m)

    pub within_by : {threshold : Float} {l : Limits} → RefusedBy threshold l e r → RefusedWithin threshold l p q t
    within_by h = record {
      each = λ f b c g k i j. refused b c (points own edges b c f.numbers g.numbers k.numbers i j) f.held g.held
          k.held h;
    }
