-- No arc cosine of a number up to κ is below a number that is worked out from κ (`high_least_lem`, `low_least_lem`,
-- `middle_least_lem`, `negative_least_lem`): each part of it is bounded by what the number has in its place. Assumes nothing.
use mathlib.Core.Path.{◌≡◌, subst}
use mathlib.Core.Logic.{inl, inr}
use mathlib.Core.Bool.{false}
use lib.Dec.{T}
use lib.Ieee.{Float, inf, binary32, neg, add, sub, mul, div, lt, le, fits, of_bits}
use lib.Ieee.Fits.{neg-fits}
use lib.Ieee.Scale.{finite}
use lib.Ieee.Positive.{positive, positive-finite, between}
use Rattle.numbers.specs.Rounded.{f32, ◌⊕◌, ◌⊖◌, ◌⊗◌, ◌⊘◌}
use Rattle.numbers.specs.Root.{root}
use Rattle.numbers.specs.Inner.Bounds.{unsigned, Bounded}
use Rattle.numbers.specs.Acos.{R, high_part, acos_middle, acos_low, acos_high}
use Rattle.numbers.proofs.Above.{positive_signless, finite_under}
use Rattle.numbers.proofs.OrderLaws.{le_left, le_right, lt_le, le_or_lt, le_not_lt, le_trans, le_lt_trans, lt_le_trans, unsigned_le}
use Rattle.numbers.proofs.RoundedOrder.{neg_le}
use Rattle.numbers.proofs.SumOrder.{sub_monotone, sub_antitone}
use Rattle.numbers.proofs.ProductOrder.{mul_monotone_finite, mul_commutative, square_monotone, square_antitone, square_neg}
use Rattle.numbers.proofs.QuotientOrder.{div_monotone, div_unsigned}
use Rattle.numbers.proofs.RootMonotone.{root_monotone}
use Rattle.numbers.proofs.Bounded.{neg_neg, bounded_finite, add_bounded, sub_bounded, mul_unsigned, mul_bounded}
use Rattle.intervals.proofs.Ends.{mul_antitone}
use Rattle.score_bounds.proofs.Aspect.{add_under, doubled_le}
use Rattle.slivers.proofs.Arc.{parts, z_of, z_fits, z_falls}
use Rattle.slivers.proofs.Angle.{low_finite, plain_bounded, quarter, ratio, ratio_plain, ratio_most, ratio_least, first_bounded, product_most, root_most}

abbrev half : Float
half = f32 0x3f000000

abbrev one : Float
one = f32 0x3f800000

abbrev two : Float
two = f32 0x40000000

abbrev H : Float
H = f32 0x3fc90fda

abbrev L : Float
L = f32 0x33a22168

-- 1 / 1024
abbrev small : Float
small = f32 0x3a800000

-- ---- the rational function up to 0.25

abbrev pub low_ratio : Float → Float
low_ratio z = z ⊗ f32 0x3e19999a ⊘ one

module _ (z : Float) (p : T (positive z)) (h : T (le z quarter)) where
  R-bounded : Bounded (R z) (ratio quarter)
  R-bounded = plain_bounded (R z) (ratio quarter) (ratio_plain z p h) (ratio_most z p h quarter (unfold of_bits in tt) h) (unfold le neg div mul of_bits in tt)

  R-finite : T (finite (R z))
  R-finite = bounded_finite (R z) (ratio quarter) (unfold div mul of_bits in tt) R-bounded

  product_bounded : (s : Float) → Bounded s one → Bounded (R z ⊗ s) (ratio quarter ⊗ one)
  product_bounded s b = mul_bounded (R z) s (ratio quarter) one (unfold div mul of_bits in tt) (unfold of_bits in tt) (unfold div mul of_bits in tt)
      (unfold of_bits in tt) R-bounded b

  quotient_unsigned : (c e : Float) → T (finite c) → T (unsigned c) → Bounded c c → T (finite (quarter ⊗ c)) → T (positive e) → T (unsigned (z ⊗ c ⊘ e))
  quotient_unsigned c e f u b k q =
      div_unsigned (z ⊗ c) e
      (bounded_finite (z ⊗ c) (quarter ⊗ c) k
      (mul_bounded z c quarter c (unfold of_bits in tt) f (unfold of_bits in tt) u
      (plain_bounded z quarter (positive_signless z p) h (unfold le neg of_bits in tt)) b))
      (mul_unsigned z c (positive-finite z p) f (positive_signless z p) u) q

  low_ratio_unsigned : T (unsigned (low_ratio z))
  low_ratio_unsigned = quotient_unsigned (f32 0x3e19999a) one (unfold of_bits in tt) (unfold of_bits in tt)
      (record { upper = unfold le of_bits in tt; lower = unfold le neg of_bits in tt }) (unfold mul of_bits in tt) (unfold of_bits in tt)

  ratio_under : Bounded (ratio z) (ratio quarter)
  ratio_under =
      plain_bounded (ratio z) (ratio quarter)
      (quotient_unsigned (f32 0x3e3851ec) (f32 0x3f51eb85) (unfold of_bits in tt) (unfold of_bits in tt)
      (record { upper = unfold le of_bits in tt; lower = unfold le neg of_bits in tt }) (unfold mul of_bits in tt) (unfold of_bits in tt))
      (div_monotone (z ⊗ f32 0x3e3851ec) (quarter ⊗ f32 0x3e3851ec) (f32 0x3f51eb85) (unfold of_bits in tt)
      (mul_monotone_finite z quarter (f32 0x3e3851ec) (positive-finite z p) (unfold of_bits in tt) (unfold of_bits in tt) h (unfold le of_bits in tt)))
      (unfold le neg div mul of_bits in tt)

-- ---- signs changed

pub neg_lt : (x y : Float) → T (lt x y) → T (lt (neg y) (neg x))
neg_lt x y h =
    let k = neg_le x y (lt_le x y h) in
    elim (le_or_lt (neg x) (neg y) (le_right (neg y) (neg x) k) (le_left (neg y) (neg x) k)) [
      | inl l ↦ absurd (le_not_lt y x
          (subst (λ (a : Float). T (le a x)) (neg_neg y) (subst (λ (a : Float). T (le (neg (neg y)) a)) (neg_neg x) (neg_le (neg x) (neg y) l))) h)
      | inr l ↦ l
    ]

-- ---- from 0.5 on

abbrev pub high_least : Float → Float
high_least κ = let s = root (z_of κ) in two ⊗ (s ⊗ f32 0x3f7fc000 ⊕ (low_ratio (z_of κ) ⊗ s ⊕ neg (one ⊗ small)))

root_bounded : (v : Float) → T (fits binary32 v) → T (le half v) → T (lt v one) → Bounded (root (z_of v)) one
root_bounded v f lo hi =
    let p = parts v f lo hi in plain_bounded (root (z_of v)) one (positive_signless (root (z_of v)) p.s_positive) p.s_most (unfold le neg of_bits in tt)

pub high_least_lem : (κ v : Float) → T (fits binary32 κ) → T (fits binary32 v) → T (le half v) → T (le v κ) → T (lt κ one) → T (le (high_least κ) (acos_high v))
unfolding acos_high
high_least_lem κ v f g lo h hi =
    let Z = z_of κ in
    let S = root Z in
    let z = z_of v in
    let s = root z in
    let d = high_part s in
    let c = (z ⊖ d ⊗ d) ⊘ (s ⊕ d) in
    let lo-κ = le_trans half v κ lo h in
    let hi-v = le_lt_trans v κ one h hi in
    let P = parts κ f lo-κ hi in
    let p = parts v g lo hi-v in
    let z-le : T (le Z z) = z_falls v κ g f lo h hi in
    let s-le : T (le S s) = root_monotone Z z (z_fits κ f lo-κ hi) (z_fits v g lo hi-v) (unsigned_le Z (positive_signless Z P.z_positive)) z-le in
    let S-finite = positive-finite S P.s_positive in
    let s-finite = positive-finite s p.s_positive in
    let s-bounded = root_bounded v g lo hi-v in
    let r-le : T (le (low_ratio Z) (R z)) = ratio_least z p.z_positive p.z_most Z (positive-finite Z P.z_positive) z-le in
    let r_finite = R-finite z p.z_positive p.z_most in
    let l-plain = low_ratio_unsigned Z P.z_positive P.z_most in
    let l-finite = finite_under (low_ratio Z) (R z) l-plain r-le r_finite in
    let rs-le : T (le (low_ratio Z ⊗ S) (R z ⊗ s)) =
    le_trans (low_ratio Z ⊗ S) (low_ratio Z ⊗ s) (R z ⊗ s)
    (rw (mul_commutative (low_ratio Z) S, mul_commutative (low_ratio Z) s)
    (mul_monotone_finite S s (low_ratio Z) S-finite s-finite l-finite s-le (unsigned_le (low_ratio Z) l-plain)))
    (mul_monotone_finite (low_ratio Z) (R z) s l-finite r_finite s-finite r-le (unsigned_le s (positive_signless s p.s_positive))) in
    let e-le : T (le (s ⊗ small) (one ⊗ small)) = mul_monotone_finite s one small s-finite (unfold of_bits in tt) (unfold of_bits in tt) p.s_most
    (unfold le of_bits in tt) in
    let c-least : T (le (neg (one ⊗ small)) c) = le_trans (neg (one ⊗ small)) (neg (s ⊗ small)) c (neg_le (s ⊗ small) (one ⊗ small) e-le)
    p.correction_least in
    let c-bounded : Bounded c (one ⊗ small) = record { upper = le_trans c (s ⊗ small) (one ⊗ small) p.correction e-le; lower = c-least } in
    let product = product_bounded z p.z_positive p.z_most s s-bounded in
    let low_Product = low_finite (R z ⊗ s) (bounded_finite (R z ⊗ s) (ratio quarter ⊗ one) (unfold div mul of_bits in tt) product) in
    let low-c = low_finite c (bounded_finite c (one ⊗ small) (unfold mul of_bits in tt) c-bounded) in
    let sum = add_under (low_ratio Z ⊗ S) (neg (one ⊗ small)) (R z ⊗ s) c rs-le c-least low_Product low-c in
    let low_sum = low_finite (R z ⊗ s ⊕ c)
    (bounded_finite (R z ⊗ s ⊕ c) (ratio quarter ⊗ one ⊕ one ⊗ small) (unfold add div mul of_bits in tt)
    (add_bounded (R z ⊗ s) c (ratio quarter ⊗ one) (one ⊗ small) (unfold div mul of_bits in tt) (unfold mul of_bits in tt) product c-bounded)) in
    let d-le : T (le (S ⊗ f32 0x3f7fc000) d) =
    le_trans (S ⊗ f32 0x3f7fc000) (s ⊗ f32 0x3f7fc000) d
    (mul_monotone_finite S s (f32 0x3f7fc000) S-finite s-finite (unfold of_bits in tt) s-le (unfold le of_bits in tt)) p.d_least in
    let whole = add_under (S ⊗ f32 0x3f7fc000) (low_ratio Z ⊗ S ⊕ neg (one ⊗ small)) d (R z ⊗ s ⊕ c) d-le sum
    (le_lt_trans d s (inf false) p.d_most (low_finite s s-finite)) low_sum in
    rw (mul_commutative two (S ⊗ f32 0x3f7fc000 ⊕ (low_ratio Z ⊗ S ⊕ neg (one ⊗ small))), mul_commutative two (d ⊕ (R z ⊗ s ⊕ c)))
    (doubled_le (S ⊗ f32 0x3f7fc000 ⊕ (low_ratio Z ⊗ S ⊕ neg (one ⊗ small))) (d ⊕ (R z ⊗ s ⊕ c)) whole)

-- ---- up to -0.5

-- of -κ
abbrev pub low_least : Float → Float
low_least κ = let s = root (z_of κ) in two ⊗ (H ⊖ (s ⊕ (ratio (z_of κ) ⊗ s ⊖ L)))

abbrev inner : Float → Float → Float
inner s r = s ⊕ (r ⊖ L)

inner_finite : (s r : Float) → Bounded s one → Bounded r (ratio quarter ⊗ one) → T (finite (r ⊖ L)) × T (finite (inner s r))
inner_finite s r b k =
    let l : Bounded L L = record { upper = unfold le of_bits in tt; lower = unfold le neg of_bits in tt } in
    let d = sub_bounded r L (ratio quarter ⊗ one) L (unfold div mul of_bits in tt) (unfold of_bits in tt) k l in (
      bounded_finite (r ⊖ L) (ratio quarter ⊗ one ⊕ L) (unfold add div mul of_bits in tt) d,
      bounded_finite (inner s r) (one ⊕ (ratio quarter ⊗ one ⊕ L)) (unfold add div mul of_bits in tt)
          (add_bounded s (r ⊖ L) one (ratio quarter ⊗ one ⊕ L) (unfold of_bits in tt) (unfold add div mul of_bits in tt) b d),
    )

mirrored : (v : Float) → acos_low v ≡ (let s = root (z_of (neg v)) in two ⊗ (H ⊖ inner s (R (z_of (neg v)) ⊗ s)))
unfolding acos_low sub
mirrored v = rw (neg_neg v)

pub low_least_lem : (κ v : Float) → T (fits binary32 κ) → T (fits binary32 v) → T (le half κ) → T (le v (neg κ)) → T (lt (neg one) v)
    → T (le (low_least κ) (acos_low v))
low_least_lem κ v f g lo h hi =
    let u = neg v in
    let z = z_of u in
    let s = root z in
    let Z = z_of κ in
    let S = root Z in
    let fits-u = neg-fits binary32 v g in
    let h-u : T (le κ u) = subst (λ (x : Float). T (le x u)) (neg_neg κ) (neg_le v (neg κ) h) in
    let hi-u : T (lt u one) = below v hi in
    let hi-κ = le_lt_trans κ u one h-u hi-u in
    let lo-u = le_trans half κ u lo h-u in
    let p = parts u fits-u lo-u hi-u in
    let r-bounded = product_bounded z p.z_positive p.z_most s (root_bounded u fits-u lo-u hi-u) in
    let first = ratio Z ⊗ S in
    let first-bound = first_bounded κ f lo hi-κ in
    let less = inner_finite s (R z ⊗ s) (root_bounded u fits-u lo-u hi-u) r-bounded in
    let more = inner_finite S first (root_bounded κ f lo hi-κ) first-bound in
    let first_finite = bounded_finite first (ratio quarter ⊗ one) (unfold div mul of_bits in tt) first-bound in
    let rest = sub_monotone (R z ⊗ s) first L (bounded_finite (R z ⊗ s) (ratio quarter ⊗ one) (unfold div mul of_bits in tt) r-bounded) first_finite
    (unfold of_bits in tt) (product_most κ f lo hi-κ u fits-u h-u hi-u) in
    let S-finite = positive-finite S (parts κ f lo hi-κ).s_positive in
    let sum = add_under s (R z ⊗ s ⊖ L) S (first ⊖ L) (root_most κ f lo hi-κ u fits-u h-u hi-u) rest (low_finite S S-finite)
    (low_finite (first ⊖ L) more.0) in
    rw (mirrored v, mul_commutative two (H ⊖ inner S first), mul_commutative two (H ⊖ inner s (R z ⊗ s)))
    (doubled_le (H ⊖ inner S first) (H ⊖ inner s (R z ⊗ s)) (sub_antitone (inner s (R z ⊗ s)) (inner S first) H less.1 more.1 (unfold of_bits in tt) sum))
  where
    below : (v : Float) → T (lt (neg one) v) → T (lt (neg v) one)
    below v h = subst (λ (x : Float). T (lt (neg v) x)) (neg_neg one) (neg_lt (neg one) v h)

-- ---- between

-- v² of a number from 2 ^ -26 to 0.5
square_positive : (v : Float) → T (lt (f32 0x32800000) v) → T (le v half) → T (positive (v ⊗ v)) × T (le (v ⊗ v) quarter)
square_positive v lo hi =
    let k = lt_le (f32 0x32800000) v lo in
    let l = square_monotone (f32 0x32800000) v (unfold le of_bits in tt) k in
    let m : T (le (v ⊗ v) quarter) = le_trans (v ⊗ v) (half ⊗ half) quarter
    (square_monotone v half (le_trans (f32 0) (f32 0x32800000) v (unfold le of_bits in tt) k) hi) (unfold le mul of_bits in tt) in
    (between (f32 0x32800000 ⊗ f32 0x32800000) (v ⊗ v) quarter (unfold mul of_bits in tt) (unfold of_bits in tt) l m, m)

abbrev pub middle_least : Float → Float
middle_least κ = H ⊖ (κ ⊖ (L ⊖ κ ⊗ ratio (κ ⊗ κ)))

abbrev pub negative_least : Float → Float
negative_least κ = H ⊖ (κ ⊖ (L ⊖ κ ⊗ low_ratio (κ ⊗ κ)))

-- what is taken from a half of pi
taken_finite : (v r : Float) → Bounded v half → Bounded r (ratio quarter) → T (finite (v ⊗ r)) × T (finite (L ⊖ v ⊗ r)) × T (finite (v ⊖ (L ⊖ v ⊗ r)))
taken_finite v r b k =
    let l : Bounded L L = record { upper = unfold le of_bits in tt; lower = unfold le neg of_bits in tt } in
    let d = mul_bounded v r half (ratio quarter) (unfold of_bits in tt) (unfold div mul of_bits in tt) (unfold of_bits in tt) (unfold div mul of_bits in tt) b k in
    let e = sub_bounded L (v ⊗ r) L (half ⊗ ratio quarter) (unfold of_bits in tt) (unfold div mul of_bits in tt) l d in
    let t = sub_bounded v (L ⊖ v ⊗ r) half (L ⊕ half ⊗ ratio quarter) (unfold of_bits in tt) (unfold add div mul of_bits in tt) b e in (
      bounded_finite (v ⊗ r) (half ⊗ ratio quarter) (unfold div mul of_bits in tt) d,
      bounded_finite (L ⊖ v ⊗ r) (L ⊕ half ⊗ ratio quarter) (unfold add div mul of_bits in tt) e,
      bounded_finite (v ⊖ (L ⊖ v ⊗ r)) (half ⊕ (L ⊕ half ⊗ ratio quarter)) (unfold add div mul of_bits in tt) t,
    )

-- with more in their place
falling : (κ v q p : Float) → T (finite v) → T (finite κ) → T (le v κ) → T (finite p) × T (finite (L ⊖ p)) × T (finite (v ⊖ (L ⊖ p))) → T (finite q)
    × T (finite (L ⊖ q)) × T (finite (κ ⊖ (L ⊖ q))) → T (le p q) → T (le (H ⊖ (κ ⊖ (L ⊖ q))) (H ⊖ (v ⊖ (L ⊖ p))))
falling κ v q p v_finite κ-finite h less more product =
    let rest = sub_antitone p q L less.0 more.0 (unfold of_bits in tt) product in
    let whole : T (le (v ⊖ (L ⊖ p)) (κ ⊖ (L ⊖ q))) =
    le_trans (v ⊖ (L ⊖ p)) (κ ⊖ (L ⊖ p)) (κ ⊖ (L ⊖ q)) (sub_monotone v κ (L ⊖ p) v_finite κ-finite less.1 h)
    (sub_antitone (L ⊖ q) (L ⊖ p) κ more.1 less.1 κ-finite rest) in
    sub_antitone (v ⊖ (L ⊖ p)) (κ ⊖ (L ⊖ q)) H less.2 more.2 (unfold of_bits in tt) whole

pub middle_least_lem : (κ v : Float) → T (lt (f32 0x32800000) v) → T (le v κ) → T (le κ half) → T (le (middle_least κ) (acos_middle v))
unfolding acos_middle
middle_least_lem κ v lo h hi =
    let z = v ⊗ v in
    let Z = κ ⊗ κ in
    let lo-κ = lt_le_trans (f32 0x32800000) v κ lo h in
    let v-le = le_trans v κ half h hi in
    let sq = square_positive v lo v-le in
    let sq-κ = square_positive κ lo-κ hi in
    let above = le_trans (f32 0) (f32 0x32800000) v (unfold le of_bits in tt) (lt_le (f32 0x32800000) v lo) in
    let above-κ = le_trans (f32 0) v κ above h in
    let v-bounded : Bounded v half = record { upper = v-le; lower = le_trans (neg half) (f32 0) v (unfold le neg of_bits in tt) above } in
    let κ-bounded : Bounded κ half = record { upper = hi; lower = le_trans (neg half) (f32 0) κ (unfold le neg of_bits in tt) above-κ } in
    let v_finite = bounded_finite v half (unfold of_bits in tt) v-bounded in
    let κ-finite = bounded_finite κ half (unfold of_bits in tt) κ-bounded in
    let r-le : T (le (R z) (ratio Z)) = ratio_most z sq.0 sq.1 Z (positive-finite Z sq-κ.0) (square_monotone v κ above h) in
    let r-bounded = R-bounded z sq.0 sq.1 in
    let r_finite = R-finite z sq.0 sq.1 in
    let q-bounded : Bounded (ratio Z) (ratio quarter) = ratio_under Z sq-κ.0 sq-κ.1 in
    let q-finite = bounded_finite (ratio Z) (ratio quarter) (unfold div mul of_bits in tt) q-bounded in
    let less = taken_finite v (R z) v-bounded r-bounded in
    let more = taken_finite κ (ratio Z) κ-bounded q-bounded in
    let product : T (le (v ⊗ R z) (κ ⊗ ratio Z)) =
    le_trans (v ⊗ R z) (κ ⊗ R z) (κ ⊗ ratio Z) (mul_monotone_finite v κ (R z) v_finite κ-finite r_finite h (unsigned_le (R z) (ratio_plain z sq.0 sq.1)))
    (rw (mul_commutative κ (R z), mul_commutative κ (ratio Z)) (mul_monotone_finite (R z) (ratio Z) κ r_finite q-finite κ-finite r-le above-κ)) in
    falling κ v (κ ⊗ ratio Z) (v ⊗ R z) v_finite κ-finite h less more product

pub negative_least_lem : (κ v : Float) → T (le (neg half) v) → T (lt v (neg (f32 0x32800000))) → T (le v κ) → T (le κ (f32 0)) → T (finite (κ ⊗ κ))
    → T (le (f32 0) (low_ratio (κ ⊗ κ))) → T (le (negative_least κ) (acos_middle v))
unfolding acos_middle
negative_least_lem κ v lo b h o f k =
    let z = v ⊗ v in
    let u = neg v in
    let sq = square_positive u (turned v b) (subst (λ (x : Float). T (le u x)) (neg_neg half) (neg_le (neg half) v lo)) in
    let p : T (positive z) = subst (λ (x : Float). T (positive x)) (square_neg v) sq.0 in
    let m : T (le z quarter) = subst (λ (x : Float). T (le x quarter)) (square_neg v) sq.1 in
    let v-bounded : Bounded v half = record { upper = le_trans v κ half h (le_trans κ (f32 0) half o (unfold le of_bits in tt)); lower = lo } in
    let κ-bounded : Bounded κ half = record { upper = le_trans κ (f32 0) half o (unfold le of_bits in tt); lower = le_trans (neg half) v κ lo h } in
    let v_finite = bounded_finite v half (unfold of_bits in tt) v-bounded in
    let κ-finite = bounded_finite κ half (unfold of_bits in tt) κ-bounded in
    let l = low_ratio (κ ⊗ κ) in
    let r-bounded = R-bounded z p m in
    let r_finite = R-finite z p m in
    let l_le : T (le l (R z)) = ratio_least z p m (κ ⊗ κ) f (square_antitone κ v o h) in
    let l-bounded : Bounded l
    (ratio quarter) = record {
      upper = le_trans l (R z) (ratio quarter) l_le r-bounded.upper;
      lower = le_trans (neg (ratio quarter)) (f32 0) l
          (unfold le neg div mul of_bits in tt) k;
    } in
    let l-finite = bounded_finite l (ratio quarter) (unfold div mul of_bits in tt) l-bounded in
    let less = taken_finite v (R z) v-bounded r-bounded in
    let more = taken_finite κ l κ-bounded l-bounded in
    let product : T (le (v ⊗ R z) (κ ⊗ l)) =
    le_trans (v ⊗ R z) (κ ⊗ R z) (κ ⊗ l) (mul_monotone_finite v κ (R z) v_finite κ-finite r_finite h (unsigned_le (R z) (ratio_plain z p m)))
    (rw (mul_commutative κ (R z), mul_commutative κ l) (mul_antitone l (R z) κ l-finite r_finite κ-finite l_le o)) in
    falling κ v (κ ⊗ l) (v ⊗ R z) v_finite κ-finite h less more product
  where
    turned : (v : Float) → T (lt v (neg (f32 0x32800000))) → T (lt (f32 0x32800000) (neg v))
    turned v h = subst (λ (x : Float). T (lt x (neg v))) (neg_neg (f32 0x32800000)) (neg_lt v (neg (f32 0x32800000)) h)
