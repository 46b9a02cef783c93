-- A triangle's score is not above the bound that its shape gives (`score_bounded`): it grows with the least angle's
-- part, which is at most 1, and the bound has 1 there. Assumes nothing.
use mathlib.Core.Path.{◌≡◌, refl}
use mathlib.Core.Bool.{Bool, true, false, not, cond}
use lib.Dec.{T, not_T}
use lib.Ieee.{Float, inf, add, mul, div, lt, le, is_nan, of_bits}
use lib.Ieee.Bits.{is_false}
use lib.Ieee.Positive.{positive}
use Rattle.numbers.specs.Rounded.{f32, ◌⊕◌, ◌⊗◌, ◌⊘◌}
use Rattle.numbers.specs.Order.{minimum}
use Rattle.numbers.proofs.OrderLaws.{le_left, le_right, lt_le, le_trans, le_not_lt}
use Rattle.numbers.proofs.SumOrder.{add_number, add_monotone_left}
use Rattle.numbers.proofs.QuotientOrder.{div_number_back, div_monotone}
use Rattle.numbers.proofs.Minimum.{minimum_le}
use Rattle.quality.specs.Measures.{radius_of, score, measures, degenerate}
use Rattle.quality.specs.Inner.Shape.{shape, flat_shape, shape_of, quality_of}
use Rattle.score_bounds.specs.Inner.Bound.{score_bound}

mean_monotone : (x y u v c : Float) → T (positive c) → T (le x y) → T (not (is_nan ((x ⊕ u ⊕ v) ⊘ c))) → T (not (is_nan ((y ⊕ u ⊕ v) ⊘ c)))
    → T (le ((x ⊕ u ⊕ v) ⊘ c) ((y ⊕ u ⊕ v) ⊘ c))
mean_monotone x y u v c p h i j =
    let m = div_number_back (x ⊕ u ⊕ v) c i in
    let n = div_number_back (y ⊕ u ⊕ v) c j in
    let k = add_monotone_left x y u h (add_number (x ⊕ u) v m).0 (add_number (y ⊕ u) v n).0 in
    div_monotone (x ⊕ u ⊕ v) (y ⊕ u ⊕ v) c p (add_monotone_left (x ⊕ u) (y ⊕ u) v k m n)

-- the angle's part of a score, and that of the bound
abbrev pub part : Float → Float
part x = minimum (x ⊘ (f32 0x40490fdb ⊘ f32 0x40c00000)) (f32 0x3f800000)

part_full : f32 0x3f800000 ≡ part (f32 0x40490fdb)
unfolding minimum div lt is_nan of_bits
part_full = refl

pub part_le : (x : Float) → T (le (part x) (part (f32 0x40490fdb)))
part_le x = rw (← part_full) (minimum_le (x ⊘ (f32 0x40490fdb ⊘ f32 0x40c00000)) (f32 0x3f800000) (unfold is_nan of_bits in tt))

pub score_le : (x aspect edge : Float) → T (not (is_nan (score x aspect edge))) → T (not (is_nan (score (f32 0x40490fdb) aspect edge)))
    → T (le (score x aspect edge) (score (f32 0x40490fdb) aspect edge))
unfolding score
score_le x aspect edge i j =
    mean_monotone (part x) (part (f32 0x40490fdb)) (aspect ⊗ f32 0x40000000) (minimum (f32 0x40400000 ⊘ edge) (f32 0x3f800000)) (f32 0x40400000)
    (unfold of_bits in tt) (part_le x) i j

-- what is not above `top` bounds no score that is
under : (top bound x : Float) → (T (not (is_nan x)) → T (not (is_nan bound)) → T (le x bound)) → T (le bound top) → lt top x ≡ false
under top bound x f h =
    is_false (lt top x) (not_T (lt top x) (λ k. le_not_lt x top (le_trans x bound top (f (le_right top x (lt_le top x k)) (le_left bound top h)) h) k))

-- a flat triangle's score is 0
pub flat_le : T (le (f32 0) (score (f32 0x40490fdb) (f32 0) (inf false)))
unfolding le score minimum add mul div lt is_nan of_bits
flat_le = tt

pub score_bounded : (top a b c area : Float) → T (le (score_bound (shape_of a b c area)) top) → lt top (quality_of a b c area).quality_score ≡ false
unfolding score_bound shape_of quality_of shape flat_shape measures degenerate
score_bounded top a b c area = go (lt area (f32 0x2edbe6ff))
  where
    go : (t : Bool) → T (le (score_bound (cond t (flat_shape area) (shape a b c area))) top)
        → lt top (cond t (degenerate area) (measures a b c area (radius_of a b c area))).quality_score ≡ false
    go true h = under top (score (f32 0x40490fdb) (f32 0) (inf false)) (f32 0) (λ i j. flat_le) h
    go false h =
        let q = measures a b c area (radius_of a b c area) in
        under top (score_bound (shape a b c area)) q.quality_score (score_le q.min_angle q.aspect_ratio q.edge_ratio) h
