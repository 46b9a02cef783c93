-- Triangles whose edges are too long for their area by squares are refused (`long_quality`), and where they are too
-- long with the area of each first point, in each order (`long_each`). Assumes nothing.
use mathlib.Core.Path.{◌≡◌, refl, sym, subst}
use mathlib.Core.Bool.{Bool, true, false}
use lib.Dec.{T}
use lib.Ieee.{Float, inf, lt}
use lib.Ieee.Bits.{is_true}
use Rattle.numbers.specs.Rounded.{◌⊗◌}
use Rattle.numbers.specs.Root.{root}
use Rattle.numbers.proofs.OrderLaws.{le_right, lt_le, le_top, lt_le_trans}
use Rattle.vector.specs.Vector.{squared, distance}
use Rattle.vector.specs.declared.Point3f.{Point3f}
use Rattle.vector.proofs.Distances.{squared_fits, squared_turned, distance_is, distance_turned}
use Rattle.quality.specs.Measures.{tiny, edge_ratio, measures}
use Rattle.triangle.specs.Quality.{area, circumradius, quality, acceptable}
use Rattle.triangle.proofs.Acceptance.{edges_refused}
use Rattle.area_bounds.specs.Inner.AreaBound.{cross_squared}
use Rattle.area_bounds.proofs.AreaBound.{area_is, cross_fits, cross_squared_turned}
use Rattle.area_bounds.proofs.Tiny.{tiny_refused}
use Rattle.long_edges.specs.Inner.LongEdges.{LongLimit, Long}
use Rattle.long_edges.proofs.Edges.{long_swapped, long_turned, long_edges}
use Rattle.decisions.specs.declared.Scene.{Scene}
use Rattle.decisions.specs.Decisions.{accepts}
use Rattle.filters.specs.Inner.Refused.{RefusedEach}

measures_long : (a b c x t r m threshold factor : Float) → T (lt (r ⊗ factor) (edge_ratio a b c ⊗ root x)) → acceptable (measures a b c x t) r m threshold factor
    ≡ false
unfolding measures
measures_long a b c x t r m threshold factor h =
    edges_refused (measures a b c x t) r m threshold factor (is_true (lt (r ⊗ factor) (edge_ratio a b c ⊗ root x)) h)

quality_long : (p q t : Point3f) (r m threshold factor : Float)
    → T (lt (r ⊗ factor) (edge_ratio (distance q p) (distance t q) (distance p t) ⊗ root (area p q t))) → acceptable (quality p q t) r m threshold factor ≡ false
unfolding quality
quality_long p q t r m threshold factor h = go (lt (area p q t) tiny) refl
  where
    y : Float
    y = edge_ratio (distance q p) (distance t q) (distance p t) ⊗ root (area p q t)

    bounded : T (lt (r ⊗ factor) (inf false))
    bounded = lt_le_trans (r ⊗ factor) y (inf false) h (le_top y (le_right (r ⊗ factor) y (lt_le (r ⊗ factor) y h)))

    go : (b : Bool) → lt (area p q t) tiny ≡ b → acceptable (quality p q t) r m threshold factor ≡ false
    go true e = tiny_refused r m threshold factor bounded p q t (subst T (sym e) tt)
    go false e = rw e (measures_long (distance q p) (distance t q) (distance p t) (area p q t) (circumradius p q t) r m threshold factor h)

long_quality : (p q t : Point3f) (r m threshold factor limit : Float) → LongLimit (r ⊗ factor) limit
    → Long limit (squared p q) (squared p t) (squared q t) (cross_squared p q t) → acceptable (quality p q t) r m threshold factor ≡ false
long_quality p q t r m threshold factor limit g h =
    quality_long p q t r m threshold factor (rw (distance_turned q p, distance_turned t q, distance_is p q, distance_is q t, distance_is p t, area_is p q t)
    (long_edges (r ⊗ factor) limit (squared p q) (squared p t) (squared q t) (cross_squared p q t) (squared_fits p q) (squared_fits p t) (squared_fits q t)
    (cross_fits p q t) h g))

-- ---- each order

abbrev LongAt : Float → Point3f → Point3f → Point3f → Type 0
LongAt limit p q t = Long limit (squared p q) (squared p t) (squared q t) (cross_squared p q t)

long_back : (limit : Float) (p q t : Point3f) → LongAt limit p q t → LongAt limit p t q
long_back limit p q t h = rw (cross_squared_turned p t q, squared_turned t q) (long_turned h)

module _ (s : Scene) (r limit : Float) (g : LongLimit (r ⊗ s.max_edge_factor) limit) where
  refused_at : (p q t : Point3f) → LongAt limit p q t → accepts s r (quality p q t) ≡ false
  unfolding accepts
  refused_at p q t h = long_quality p q t r s.min_triangle_area s.quality_threshold s.max_edge_factor limit g h

  pub long_each : {p q t : Point3f} {x y z a b c : Float} → x ≡ squared p q → y ≡ squared p t → z ≡ squared q t → a ≡ cross_squared p q t → b
      ≡ cross_squared q p t → c ≡ cross_squared t p q
      → Long limit x y z a × Long limit x y z b × Long limit x y z c → RefusedEach s r p q t
  long_each {p} {q} {t} ex ey ez ea eb ec h =
      let i : LongAt limit p q t = rw (← ex, ← ey, ← ez, ← ea) h.0 in
      let j : LongAt limit q p t = rw (squared_turned q p, ← ex, ← ey, ← ez, ← eb) (long_swapped h.1) in
      let k : LongAt limit t p q = rw (squared_turned t p, squared_turned t q, ← ex, ← ey, ← ez, ← ec) (long_swapped (long_turned h.2)) in
      record {
        pqt = refused_at p q t i;
        ptq = refused_at p t q (long_back limit p q t i);
        qpt = refused_at q p t j;
        qtp = refused_at q t p (long_back limit q p t j);
        tpq = refused_at t p q k;
        tqp = refused_at t q p (long_back limit t p q k);
      }
