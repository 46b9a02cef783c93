-- No `min` or `max` in a triangle's quality is asked of two zeros of unlike sign, so that any of them gives the same.
-- Assumes nothing.
use mathlib.Core.Path.{◌≡◌, refl, sym, ap, ap₂, ◌∙◌, subst}
use mathlib.Core.Bool.{Bool, true, false, cond, ◌&&◌, ◌||◌}
use lib.Dec.{T}
use lib.Ieee.{Float, inf, binary32, neg, lt, fits, is_nan, of_bits}
use lib.Ieee.Fits.{add-fits, sub-fits, mul-fits, div-fits, cond-fits, neg-fits}
use lib.Ieee.Bits.{of_bits-fits}
use Rattle.numbers.specs.Rounded.{f32, ◌⊕◌, ◌⊖◌, ◌⊗◌, ◌⊘◌}
use Rattle.numbers.specs.Order.{minimum, maximum, clamp}
use Rattle.numbers.proofs.Minimum.{minimum_either}
use Rattle.vector.specs.Vector.{distance}
use Rattle.vector.specs.declared.Point3f.{Point3f}
use Rattle.vector.proofs.Distances.{square, squared_is, squared_fits, distance_is}
use Rattle.quality.specs.Measures.{one, tiny, angle, least, largest, aspect_ratio, edge_ratio, score, measures}
use Rattle.quality.specs.Measures.{degenerate}
use Rattle.quality.specs.declared.TriangleQuality.{TriangleQuality}
use Rattle.triangle.specs.Quality.{area, circumradius, quality}
use Rattle.zeros.specs.Zeros.{is_zero_of, unlike_zeros, UpToZeros}
use Rattle.zeros.specs.Quality.{least_by, largest_by, edge_ratio_by, score_by, measures_by, quality_by}
use Rattle.zeros.proofs.Clear.{Clear, add_clear, sub_clear, square_clear, root_clear}
use Rattle.zeros.proofs.Arc.{Held, acos_held}

-- what holds of both holds of the greater
maximum_either : (P : Float → Type 0) (a b : Float) → P a → P b → P (maximum a b)
unfolding maximum
maximum_either P a b p q = go (is_nan a) (lt a b)
  where
    go : (n l : Bool) → P (cond n b (cond l b a))
    go true l = q
    go false true = q
    go false false = p

-- ---- two numbers that are no unlike zeros
unlike_clear : (a b : Float) → Clear a → Clear b → unlike_zeros a b ≡ false
unfolding unlike_zeros
unlike_clear a b h k = rw (h, k) (go (is_zero_of false a))
  where
    go : (t : Bool) → (t && false) ≡ false
    go true = refl
    go false = refl

unlike_one : (a : Float) → unlike_zeros a one ≡ false
unfolding unlike_zeros of_bits
unlike_one a = go (is_zero_of true a) (is_zero_of false a)
  where
    go : (s t : Bool) → ((s && false) || (t && false)) ≡ false
    go true true = refl
    go true false = refl
    go false true = refl
    go false false = refl

-- of three numbers, none of them -0
three : (f m : Float → Float → Float) → UpToZeros f m → ((a b : Float) → Clear a → Clear b → Clear (f a b))
    → (a b c : Float) → Clear a → Clear b → Clear c → m (m a b) c ≡ f (f a b) c
three f m some keeps a b c p q r =
    ap (λ (x : Float). m x c) (some.else a b (unlike_clear a b p q))
    ∙ some.else (f a b) c (unlike_clear (f a b) c (keeps a b p q) r)

-- ---- a distance
pub distance_clear : (p q : Point3f) → Clear (distance p q)
distance_clear p q =
    let a : Float = square p.x q.x in
    let b : Float = square p.y q.y in
    let c : Float = square p.z q.z in
    let first = add_clear a b (mul-fits binary32 (p.x ⊖ q.x) (p.x ⊖ q.x))
    (mul-fits binary32 (p.y ⊖ q.y) (p.y ⊖ q.y)) (square_clear (p.x ⊖ q.x)) in
    let both = add_clear (a ⊕ b) c (add-fits binary32 a b) (mul-fits binary32 (p.z ⊖ q.z) (p.z ⊖ q.z)) first in
    subst Clear (sym (distance_is p q)) (root_clear _ (squared_fits p q) (subst Clear (sym (squared_is p q)) both))

-- ---- an angle
clamp_fits : (v lo hi : Float) → T (fits binary32 v) → T (fits binary32 lo) → T (fits binary32 hi)
    → T (fits binary32 (clamp v lo hi))
unfolding clamp
clamp_fits v lo hi f g h =
    let w : Float = cond (lt v lo) lo v in
    cond-fits binary32 (lt hi w) hi w h (cond-fits binary32 (lt v lo) lo v g f)

angle_held : (a b c : Float) → Held (angle a b c)
unfolding angle
angle_held a b c =
    let x : Float = b ⊗ b ⊕ c ⊗ c ⊖ a ⊗ a in
    let y : Float = f32 0x40000000 ⊗ b ⊗ c in
    acos_held (clamp (x ⊘ y) (neg one) one)
    (clamp_fits (x ⊘ y) (neg one) one (div-fits binary32 x y)
    (neg-fits binary32 one (of_bits-fits binary32 0x3f800000)) (of_bits-fits binary32 0x3f800000))

abbrev pi : Float
pi = f32 0x40490fdb

pi_clear : Clear pi
unfolding of_bits
pi_clear = refl

third_clear : (x y : Float) → Held x → Held y → Clear (pi ⊖ x ⊖ y)
third_clear x y h k =
    sub_clear (pi ⊖ x) y (sub-fits binary32 pi x) k.0
    (sub_clear pi x (of_bits-fits binary32 0x40490fdb) h.0 pi_clear)

-- ---- the quality
module _ (m M : Float → Float → Float) (lesser : UpToZeros minimum m) (greater : UpToZeros maximum M) where
  least_same : (a b c : Float) → Clear a → Clear b → Clear c → least_by m M a b c ≡ least a b c
  unfolding least_by least
  least_same a b c p q r = three minimum m lesser (λ x y h k. minimum_either Clear x y h k) a b c p q r

  largest_same : (a b c : Float) → Clear a → Clear b → Clear c → largest_by m M a b c ≡ largest a b c
  unfolding largest_by largest
  largest_same a b c p q r = three maximum M greater (λ x y h k. maximum_either Clear x y h k) a b c p q r

  edge_same : (a b c : Float) → Clear a → Clear b → Clear c → edge_ratio_by m M a b c ≡ edge_ratio a b c
  unfolding edge_ratio_by edge_ratio
  edge_same a b c p q r =
      ap₂ (λ (s l : Float). cond (lt tiny s) (l ⊘ s) (inf false)) (least_same a b c p q r) (largest_same a b c p q r)

  score_same : (x aspect edge : Float) → score_by m M x aspect edge ≡ score x aspect edge
  unfolding score_by score
  score_same x aspect edge =
      ap₂ (λ (s t : Float). (s ⊕ aspect ⊗ f32 0x40000000 ⊕ t) ⊘ f32 0x40400000)
      (lesser.else (x ⊘ (pi ⊘ f32 0x40c00000)) one (unlike_one (x ⊘ (pi ⊘ f32 0x40c00000))))
      (lesser.else (f32 0x40400000 ⊘ edge) one (unlike_one (f32 0x40400000 ⊘ edge)))

  measures_same : (a b c area radius : Float) → Clear a → Clear b → Clear c
      → measures_by m M a b c area radius ≡ measures a b c area radius
  unfolding measures_by measures
  measures_same a b c area radius p q r =
      let x : Float = angle a b c in
      let y : Float = angle b a c in
      let z : Float = pi ⊖ x ⊖ y in
      let hx = angle_held a b c in
      let hy = angle_held b a c in
      let hz = third_clear x y hx hy in
      let lo = least_same x y z hx.1 hy.1 hz in
      let hi = largest_same x y z hx.1 hy.1 hz in
      let e = edge_same a b c p q r in
      let aspect : Float = aspect_ratio a b c area radius in
      let s = ap₂ (λ (u v : Float). score_by m M u aspect v) lo e ∙ score_same (least x y z) aspect (edge_ratio a b c) in
      λ i. record {
        aspect_ratio = aspect;
        min_angle = lo i;
        max_angle = hi i;
        area = area;
        edge_ratio = e i;
        quality_score = s i;
      }

  pub quality_same : (p1 p2 p3 : Point3f) → quality_by m M p1 p2 p3 ≡ quality p1 p2 p3
  unfolding quality_by quality
  quality_same p1 p2 p3 =
      ap (λ (q : TriangleQuality). cond (lt (area p1 p2 p3) tiny) (degenerate (area p1 p2 p3)) q)
      (measures_same (distance p2 p1) (distance p3 p2) (distance p1 p3) (area p1 p2 p3) (circumradius p1 p2 p3)
      (distance_clear p2 p1) (distance_clear p3 p2) (distance_clear p1 p3))
