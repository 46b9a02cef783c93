-- A score is at most that of the least angle pi, a larger aspect ratio and the edge ratio 1 (`score_under`), so that
-- one test gives an aspect ratio up to which no score reaches a threshold (`aspect_limit_is`), and with it the score of
-- every triangle whose aspect ratio is not above it (`aspect_low`); and a bound that is below the threshold does the
-- same (`bound_low`). Assumes nothing.
use mathlib.Core.Path.{◌≡◌, refl, subst}
use mathlib.Core.Bool.{Bool, true, false, not, cond}
use lib.Dec.{T}
use lib.Ieee.{Float, nan, inf, fin, add, mul, div, lt, le, is_nan, of_bits}
use lib.Ieee.Bits.{is_true}
use Rattle.numbers.specs.Rounded.{f32, ◌⊕◌, ◌⊗◌, ◌⊘◌}
use Rattle.numbers.specs.Order.{minimum}
use Rattle.numbers.proofs.OrderLaws.{le_left, le_right, le_refl, lt_le, le_top, le_trans, lt_le_trans, le_lt_trans}
use Rattle.numbers.proofs.SumOrder.{add_commutative, add_monotone, add_monotone_left}
use Rattle.numbers.proofs.ProductOrder.{mul_number, mul_monotone}
use Rattle.numbers.proofs.QuotientOrder.{div_monotone}
use Rattle.numbers.proofs.Minimum.{minimum_le}
use Rattle.quality.specs.Measures.{radius_of, score, measures, degenerate}
use Rattle.quality.specs.Inner.Shape.{shape, flat_shape, shape_of, quality_of}
use Rattle.score_bounds.specs.Inner.Bound.{score_bound, AspectLimit}
use Rattle.score_bounds.proofs.Bounds.{part, part_le, flat_le}

-- ---- sums below +infinity

abbrev pub Low : Float → Type 0
Low x = T (lt x (inf false))

low_number : (x y : Float) → Low x → Low y → T (not (is_nan (x ⊕ y)))
unfolding lt
low_number nan y h k = absurd h
low_number (inf false) y h k = absurd h
low_number (inf true) nan h k = absurd k
low_number (inf true) (inf true) h k = unfold add is_nan in tt
low_number (inf true) (inf false) h k = absurd k
low_number (inf true) (fin t n d) h k = unfold add is_nan in tt
low_number (fin s m e) nan h k = absurd k
low_number (fin s m e) (inf true) h k = unfold add is_nan in tt
low_number (fin s m e) (inf false) h k = absurd k
low_number (fin s m e) (fin t n d) h k =
    let x = fin s m e in
    let y = fin t n d in
    le_left (x ⊕ y) (x ⊕ y) (add_monotone x x y y tt tt tt tt (le_refl x (unfold is_nan in tt)) (le_refl y (unfold is_nan in tt)))

low_parts : (x y : Float) → Low (x ⊕ y) → Low x × Low y
unfolding add lt
low_parts nan y h = absurd h
low_parts (inf s) nan h = absurd h
low_parts (inf true) (inf true) h = (tt, tt)
low_parts (inf true) (inf false) h = absurd h
low_parts (inf false) (inf true) h = absurd h
low_parts (inf false) (inf false) h = absurd h
low_parts (inf true) (fin t n d) h = (tt, tt)
low_parts (inf false) (fin t n d) h = absurd h
low_parts (fin s m e) nan h = absurd h
low_parts (fin s m e) (inf true) h = (tt, tt)
low_parts (fin s m e) (inf false) h = absurd h
low_parts (fin s m e) (fin t n d) h = (tt, tt)

low_third : (x : Float) → Low (x ⊘ f32 0x40400000) → Low x
unfolding div lt of_bits
low_third nan h = h
low_third (inf true) h = tt
low_third (inf false) h = h
low_third (fin s m e) h = tt

pub add_under : (x y c d : Float) → T (le x c) → T (le y d) → Low c → Low d → T (le (x ⊕ y) (c ⊕ d))
add_under x y c d h k i j =
    let p = le_lt_trans x c (inf false) h i in
    let q = le_lt_trans y d (inf false) k j in
    le_trans (x ⊕ y) (c ⊕ y) (c ⊕ d)
    (add_monotone_left x c y h (low_number x y p q) (low_number c y i q))
    (rw (add_commutative c y, add_commutative c d) (add_monotone_left y d c k (low_number y c q i) (low_number d c j i)))

-- ---- the score

doubled_number : (x : Float) → T (not (is_nan x)) → T (not (is_nan (x ⊗ f32 0x40000000)))
doubled_number nan h = absurd (unfold is_nan in h)
doubled_number (inf s) h = unfold is_nan mul of_bits in tt
doubled_number (fin s m e) h = mul_number (fin s m e) (f32 0x40000000) tt (unfold of_bits in tt)

pub doubled_le : (x y : Float) → T (le x y) → T (le (x ⊗ f32 0x40000000) (y ⊗ f32 0x40000000))
doubled_le x y h =
    mul_monotone x y (f32 0x40000000) (unfold of_bits in tt) h (unfold le of_bits in tt) (doubled_number x (le_left x y h)) (doubled_number y (le_right x y h))

edge_full : f32 0x3f800000 ≡ minimum (f32 0x40400000 ⊘ f32 0x3f800000) (f32 0x3f800000)
unfolding minimum div lt is_nan of_bits
edge_full = refl

edge_le : (x : Float) → T (le (minimum (f32 0x40400000 ⊘ x) (f32 0x3f800000)) (minimum (f32 0x40400000 ⊘ f32 0x3f800000) (f32 0x3f800000)))
edge_le x = rw (← edge_full) (minimum_le (f32 0x40400000 ⊘ x) (f32 0x3f800000) (unfold is_nan of_bits in tt))

pub mean_under : (x y u v e o : Float) → T (le x y) → T (le u v) → T (le e o) → Low ((y ⊕ v ⊕ o) ⊘ f32 0x40400000)
    → T (le ((x ⊕ u ⊕ e) ⊘ f32 0x40400000) ((y ⊕ v ⊕ o) ⊘ f32 0x40400000))
mean_under x y u v e o h k m l =
    let i = low_parts (y ⊕ v) o (low_third (y ⊕ v ⊕ o) l) in
    let j = low_parts y v i.0 in
    div_monotone (x ⊕ u ⊕ e) (y ⊕ v ⊕ o) (f32 0x40400000) (unfold of_bits in tt)
    (add_under (x ⊕ u) e (y ⊕ v) o (add_under x u y v h k j.0 j.1) m i.0 i.1)

score_under : (x aspect edge t : Float) → T (le aspect t) → Low (score (f32 0x40490fdb) t (f32 0x3f800000))
    → T (le (score x aspect edge) (score (f32 0x40490fdb) t (f32 0x3f800000)))
unfolding score
score_under x aspect edge t h l =
    mean_under (part x) (part (f32 0x40490fdb)) (aspect ⊗ f32 0x40000000) (t ⊗ f32 0x40000000) (minimum (f32 0x40400000 ⊘ edge) (f32 0x3f800000))
    (minimum (f32 0x40400000 ⊘ f32 0x3f800000) (f32 0x3f800000)) (part_le x) (doubled_le aspect t h) (edge_le edge) l

-- with the angle pi alone
angle_under : (x aspect edge : Float) → Low (score (f32 0x40490fdb) aspect edge) → T (le (score x aspect edge) (score (f32 0x40490fdb) aspect edge))
unfolding score
angle_under x aspect edge l =
    let p = part (f32 0x40490fdb) in
    let u = aspect ⊗ f32 0x40000000 in
    let e = minimum (f32 0x40400000 ⊘ edge) (f32 0x3f800000) in
    let i = low_parts (p ⊕ u) e (low_third (p ⊕ u ⊕ e) l) in
    mean_under (part x) p u u e e (part_le x) (low_same u (low_parts p u i.0).1) (low_same e i.1) l
  where
    low_same : (y : Float) → Low y → T (le y y)
    low_same y h = le_refl y (le_left y (inf false) (lt_le y (inf false) h))

-- ---- limits

pub below_low : (x y : Float) → T (lt x y) → Low x
below_low x y h = lt_le_trans x y (inf false) h (le_top y (le_right x y (lt_le x y h)))

pub aspect_limit_is : (threshold t : Float) → T (lt (score (f32 0x40490fdb) t (f32 0x3f800000)) threshold) → AspectLimit threshold t
aspect_limit_is threshold t h =
    let b = score (f32 0x40490fdb) t (f32 0x3f800000) in
    record { below = λ x aspect edge k. le_lt_trans (score x aspect edge) b threshold (score_under x aspect edge t k (below_low b threshold h)) h }

pub no_aspect_limit : (threshold : Float) → AspectLimit threshold nan
no_aspect_limit threshold = record { below = λ x aspect edge k. absurd (unfold is_nan in le_right aspect nan k) }

-- what a limit says of a triangle
flat_score : score (f32 0) (f32 0) (inf false) ≡ f32 0
unfolding score minimum add mul div lt is_nan of_bits
flat_score = refl

pub aspect_low : (threshold t a b c area : Float) → AspectLimit threshold t → T (le (shape_of a b c area).aspect_ratio t)
    → lt (quality_of a b c area).quality_score threshold ≡ true
unfolding shape_of quality_of shape flat_shape measures degenerate
aspect_low threshold t a b c area l = go (lt area (f32 0x2edbe6ff))
  where
    go : (e : Bool) → T (le (cond e (flat_shape area) (shape a b c area)).aspect_ratio t)
        → lt (cond e (degenerate area) (measures a b c area (radius_of a b c area))).quality_score threshold ≡ true
    go true h = is_true (lt (f32 0) threshold) (subst (λ (x : Float). T (lt x threshold)) flat_score (l.below (f32 0) (f32 0) (inf false) h))
    go false h =
        let q = measures a b c area (radius_of a b c area) in
        is_true (lt q.quality_score threshold) (l.below q.min_angle q.aspect_ratio q.edge_ratio h)

-- a bound below the threshold bounds the score
pub bound_low : (threshold a b c area : Float) → T (lt (score_bound (shape_of a b c area)) threshold) → lt (quality_of a b c area).quality_score threshold
    ≡ true
unfolding score_bound shape_of quality_of shape flat_shape measures degenerate
bound_low threshold a b c area = go (lt area (f32 0x2edbe6ff))
  where
    go : (e : Bool) → T (lt (score_bound (cond e (flat_shape area) (shape a b c area))) threshold)
        → lt (cond e (degenerate area) (measures a b c area (radius_of a b c area))).quality_score threshold ≡ true
    go true h = is_true (lt (f32 0) threshold) (le_lt_trans (f32 0) (score (f32 0x40490fdb) (f32 0) (inf false)) threshold flat_le h)
    go false h =
        let q = measures a b c area (radius_of a b c area) in
        let d = score_bound (shape a b c area) in
        is_true (lt q.quality_score threshold)
        (le_lt_trans q.quality_score d threshold (angle_under q.min_angle q.aspect_ratio q.edge_ratio (below_low d threshold h)) h)
