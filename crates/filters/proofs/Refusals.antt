-- What is refused without measuring it: triangles below a bound of the area (`bounded_accepts`), those of points with a
-- square above the limit (`far_apart`), and of points close to each other those that limits refuse (`refused_accepts`)
-- and all at a `RefusesAll` radius (`refuses_all_accepts`). Assumes nothing.
use Prim.Native.Nat.{ℕ}
use mathlib.Core.Path.{◌≡◌, sym, ◌∙◌, subst}
use mathlib.Core.Bool.{true, false}
use mathlib.Core.List.{List}
use lib.Dec.{T}
use lib.Ieee.{Float, inf, lt, le}
use lib.Ieee.Bits.{is_true}
use lib.Ieee.Scale.{finite}
use Rattle.numbers.specs.Rounded.{◌⊗◌}
use Rattle.numbers.specs.Root.{root}
use Rattle.vector.specs.Vector.{difference, squared, distance}
use Rattle.vector.specs.Inner.Numbers.{Finite}
use Rattle.quality.specs.Measures.{tiny}
use Rattle.triangle.specs.Quality.{area, quality}
use Rattle.quality.specs.Inner.Shape.{shape_of}
use Rattle.score_bounds.specs.Inner.Bound.{AspectLimit}
use Rattle.area_bounds.specs.Inner.AreaBound.{cross_squared, area_bound}
use Rattle.vector.specs.declared.Point3f.{Point3f}
use Rattle.vector.proofs.Distances.{squared_fits, squared_turned, distance_is, distance_turned}
use Rattle.area_bounds.proofs.AreaBound.{Bounds, Unsigned, area_bounded, area_limited, area_too_long, area_is, cross_squared_turned}
use Rattle.area_bounds.proofs.Tiny.{tiny_refused}
use Rattle.area_bounds.proofs.Refused.{small_refused, large_refused, long_refused, near_finite, area_number}
use Rattle.triangle.proofs.Quality.{quality_is}
use Rattle.triangle.proofs.Acceptance.{low_refused}
use Rattle.score_bounds.proofs.Aspect.{aspect_low}
use Rattle.thin.specs.Inner.Thin.{ThinLimit, AllThin}
use Rattle.points.specs.Points.{point_at}
use Rattle.decisions.specs.declared.Scene.{Scene}
use Rattle.decisions.specs.Decisions.{reach, apart, is_close, quality_at, accepts}
use Rattle.filters.specs.declared.Limits.{Limits}
use Rattle.filters.specs.Inner.Refused.{Least, Limiting, Refused, small, large, far, thin, RefusesAll}

pub refused_turned : {l : Limits} {p q t : Point3f} → Refused l p q t → Refused l p t q
refused_turned {l} {p} {q} {t} (small h) = small (rw (cross_squared_turned p t q) h)
refused_turned {l} {p} {q} {t} (large h) = large (rw (cross_squared_turned p t q) h)
refused_turned {l} {p} {q} {t} (far h) = far (rw (squared_turned t q) h)
refused_turned {l} {p} {q} {t} (thin h) =
    thin (rw (cross_squared_turned p t q, squared_turned t q) (record { abc = h.bac; acb = h.bca; bac = h.abc; bca = h.acb; cab = h.cba; cba = h.cab }))

-- ---- too thin

thin_low : (p q t : Point3f) (threshold α limit : Float) → AspectLimit threshold α → ThinLimit α limit
    → AllThin limit (squared p q) (squared p t) (squared q t) (cross_squared p q t) → lt (quality p q t).quality_score threshold ≡ true
thin_low p q t threshold α limit a l h =
    let k : T (le (shape_of (distance q p) (distance t q) (distance p t) (area p q t)).aspect_ratio α) = rw
    (distance_turned q p, distance_turned t q, distance_is p q, distance_is q t, distance_is p t, area_is p q t) (h.acb.below α l) in
    rw (← quality_is p q t) (aspect_low threshold α (distance q p) (distance t q) (distance p t) (area p q t) a k)

-- ---- too small

-- below the settings' least area
pub least_own : (s : Scene) (r : Float) → Least s r s.min_triangle_area
unfolding accepts
least_own s r = record { refuses = λ p q t h. small_refused p q t r s.min_triangle_area s.quality_threshold s.max_edge_factor h }

-- next to no area
pub least_flat : (s : Scene) (r : Float) → T (lt (r ⊗ s.max_edge_factor) (inf false)) → Least s r tiny
unfolding accepts
least_flat s r b = record { refuses = λ p q t h. tiny_refused r s.min_triangle_area s.quality_threshold s.max_edge_factor b p q t h }

-- ---- triangles of the cloud's points

-- points whose square of the distance is above the limit are not close
pub far_apart : {s : Scene} {r : Float} {l : Limits} (pts : List Float) (i j : ℕ) → Limiting s r l → T (lt l.far (squared (point_at pts i) (point_at pts j)))
    → is_close pts r i j ≡ false
unfolding is_close apart
far_apart {r = r} pts i j g h =
    let p = point_at pts i in
    let q = point_at pts j in
    let k : lt (reach r) (distance p q)
    ≡ true = rw (distance_is p q) (is_true (lt (reach r) (root (squared p q))) (g.fars (squared p q) (squared_fits p q) h)) in
    rw k

module _ (s : Scene) (pts : List Float) (r : Float) (i j k : ℕ) where
  pub bounded_accepts : {m : Float} → Least s r m → (v w : Point3f) → Unsigned v → Unsigned w → Bounds (difference (point_at pts j) (point_at pts i)) v
      → Bounds (difference (point_at pts k) (point_at pts i)) w
      → lt (area_bound v w) m ≡ true → accepts s r (quality_at pts i j k) ≡ false
  unfolding quality_at
  bounded_accepts {m} l v w f g b c h =
      let p = point_at pts i in
      let q = point_at pts j in
      let t = point_at pts k in
      l.refuses p q t (area_bounded p q t v w m f g b c (subst T (sym h) tt))

  -- the points are close to each other
  module _ (fi : Finite (point_at pts i)) (fj : Finite (point_at pts j)) (fk : Finite (point_at pts k)) (cij : is_close pts r i j ≡ true)
      (cik : is_close pts r i k ≡ true) (cjk : is_close pts r j k ≡ true) where
    edges_finite : T (lt (reach r) (inf false)) → T (finite (distance (point_at pts j) (point_at pts i))) × T (finite (distance (point_at pts k) (point_at pts j)))
        × T (finite (distance (point_at pts i) (point_at pts k)))
    unfolding is_close apart
    edges_finite b =
        let p = point_at pts i in
        let q = point_at pts j in
        let t = point_at pts k in (
          rw (distance_turned q p) (near_finite p q (reach r) fi fj b (subst T (sym cij) tt)),
          rw (distance_turned t q) (near_finite q t (reach r) fj fk b (subst T (sym cjk) tt)),
          near_finite p t (reach r) fi fk b (subst T (sym cik) tt),
        )

    pub refuses_all_accepts : RefusesAll s r → accepts s r (quality_at pts i j k) ≡ false
    unfolding accepts quality_at
    refuses_all_accepts h =
        let p = point_at pts i in
        let q = point_at pts j in
        let t = point_at pts k in
        let e = edges_finite h.bounded in
        let ki : T (finite (distance t p)) = rw (distance_turned t p) e.2 in
        long_refused p q t r s.min_triangle_area s.quality_threshold s.max_edge_factor e.0 e.1 e.2 (area_number p q t e.0 ki)
        h.long

    pub refused_accepts : {l : Limits} → Limiting s r l → Refused l (point_at pts i) (point_at pts j) (point_at pts k) → accepts s r (quality_at pts i j k) ≡ false
    unfolding accepts quality_at is_close apart
    refused_accepts {l} g (small h) =
        let p = point_at pts i in
        let q = point_at pts j in
        let t = point_at pts k in
        g.leasts.refuses p q t (area_limited p q t g.least l.small g.smalls h)
    refused_accepts {l} g (large h) =
        let p = point_at pts i in
        let q = point_at pts j in
        let t = point_at pts k in
        let e = edges_finite (g.larges.bounded (cross_squared p q t) h) in
        large_refused p q t r s.min_triangle_area s.quality_threshold s.max_edge_factor e.0 e.1 e.2
        (area_too_long p q t r s.max_edge_factor l.large g.larges h)
    refused_accepts {l} g (far h) = absurd (subst T (sym cjk ∙ far_apart pts j k g h) tt)
    refused_accepts {l} g (thin h) =
        let p = point_at pts i in
        let q = point_at pts j in
        let t = point_at pts k in
        low_refused (quality p q t) r s.min_triangle_area s.quality_threshold s.max_edge_factor
        (thin_low p q t s.quality_threshold g.aspect l.thin g.aspects g.thins h)
