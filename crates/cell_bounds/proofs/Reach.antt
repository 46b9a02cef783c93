-- How far from a place the coordinates between two ends are, and the points within bounds. Assumes nothing.
use mathlib.Core.Path.{◌≡◌, sym, subst}
use mathlib.Core.Logic.{inl, inr}
use mathlib.Core.Bool.{true, not, ◌&&◌}
use lib.Dec.{T}
use lib.Ieee.{Float, div, le, is_nan, of_bits}
use lib.Ieee.Scale.{finite}
use Rattle.numbers.specs.Rounded.{◌⊕◌, ◌⊖◌}
use Rattle.numbers.specs.Order.{maximum}
use Rattle.numbers.specs.Inner.Bounds.{unsigned}
use Rattle.numbers.proofs.OrderLaws.{le_trans, le_or_lt, lt_le, le_top, finite_number, unsigned_number_lem}
use Rattle.numbers.proofs.SumOrder.{sub_number, add_unsigned, add_monotone_left, add_commutative}
use Rattle.numbers.proofs.ProductOrder.{square_unsigned, square_beyond}
use Rattle.numbers.proofs.Maximum.{maximum_left, maximum_right, maximum_unsigned}
use Rattle.vector.specs.declared.Point3f.{Point3f}
use Rattle.vector.specs.Vector.{squared}
use Rattle.vector.specs.Inner.Numbers.{Finite}
use Rattle.vector.proofs.Distances.{square, squared_is}
use Rattle.lists.proofs.Bools.{and_both}
use Rattle.bounds.specs.declared.Bounds.{Bounds}
use Rattle.bounds.specs.Inner.Cover.{between}
use Rattle.bounds.specs.Inner.Within.{within}
use Rattle.bounds.proofs.Beyond.{high}
use Rattle.cell_bounds.specs.Inner.Axis.{ordinary, holds_place, ReachingOn}
use Rattle.cell_bounds.specs.Inner.CellBounds.{Reaching}
use Rattle.cell_bounds.proofs.Ends.{so, ordinary_finite}

signless_square : (x y : Float) → T (finite x) → T (finite y) → T (unsigned (square x y))
signless_square x y f g = square_unsigned (x ⊖ y) (sub_number x y f g)

-- ---- one axis
module _ (v lo hi : Float) (f : T (finite v)) where
  pub reaching_none : ReachingOn v lo hi high
  unfolding div of_bits
  reaching_none = record { signless = tt; most = λ q g b. le_top (square q v) (unsigned_number_lem (square q v) (signless_square q v g f)) }

  module _ (h : holds_place v lo hi ≡ true) where
    parts : (T (finite lo)) × (T (finite hi)) × (T (le lo v)) × (T (le v hi))
    unfolding holds_place
    parts =
        let a = and_both {p = ordinary lo} {q = ordinary hi && (le lo v && le v hi)} h in
        let b = and_both {p = ordinary hi} {q = le lo v && le v hi} a.1 in
        let c = and_both {p = le lo v} {q = le v hi} b.1 in
        (ordinary_finite lo a.0, ordinary_finite hi b.0, so (le lo v) c.0, so (le v hi) c.1)

    number : (e : Float) → T (finite e) → T (not (is_nan (square e v)))
    number e g = unsigned_number_lem (square e v) (signless_square e v g f)

    most_is : (q : Float) → T (finite q) → between lo hi q ≡ true → T (le (square q v) (maximum (square lo v) (square hi v)))
    most_is q g b =
        let c = and_both {p = le lo q} {q = le q hi} b in
        elim (le_or_lt v q (finite_number v f) (finite_number q g)) [
          | inl k ↦
              le_trans (square q v) (square hi v) (maximum (square lo v) (square hi v)) (square_beyond v q hi f g parts.1 (inl (k, so (le q hi) c.1)))
              (maximum_right (square lo v) (square hi v) (number hi parts.1))
          | inr k ↦
              le_trans (square q v) (square lo v) (maximum (square lo v) (square hi v))
              (square_beyond v q lo f g parts.0 (inr (lt_le q v k, so (le lo q) c.0)))
              (maximum_left (square lo v) (square hi v) (number lo parts.0))
        ]

    pub reaching_tested : (t : Float) → t ≡ maximum (square lo v) (square hi v) → ReachingOn v lo hi t
    reaching_tested t e = subst (ReachingOn v lo hi)
        (sym e) record { signless = maximum_unsigned (square lo v) (square hi v) (signless_square lo v parts.0 f); most = most_is }

-- ---- all three
sum_monotone : (a b c d : Float) → T (unsigned a) → T (unsigned b) → T (unsigned c) → T (unsigned d) → T (le a c) → T (le b d) → T (le (a ⊕ b) (c ⊕ d))
sum_monotone a b c d fa fb fc fd h k =
    let one : T (le (a ⊕ b) (c ⊕ b)) = add_monotone_left a c b h (unsigned_number_lem (a ⊕ b) (add_unsigned a b fa fb))
    (unsigned_number_lem (c ⊕ b) (add_unsigned c b fc fb)) in
    let two : T (le (b ⊕ c) (d ⊕ c)) = add_monotone_left b d c k (unsigned_number_lem (b ⊕ c) (add_unsigned b c fb fc))
    (unsigned_number_lem (d ⊕ c) (add_unsigned d c fd fc)) in
    let turned : T (le (c ⊕ b) (c ⊕ d)) = subst (λ (x : Float). T (le (c ⊕ b) x)) (add_commutative d c)
    (subst (λ (x : Float). T (le x (d ⊕ c))) (add_commutative b c) two) in
    le_trans (a ⊕ b) (c ⊕ b) (c ⊕ d) one turned

pub reaching : (b : Bounds) (p : Point3f) (x y z t : Float) → Finite p → ReachingOn p.x b.lo.x b.hi.x x → ReachingOn p.y b.lo.y b.hi.y y
    → ReachingOn p.z b.lo.z b.hi.z z
    → t ≡ (x ⊕ y) ⊕ z → Reaching b p t
unfolding within
reaching b p x y z t f rx ry rz e q g w =
    let i = and_both {p = between b.lo.x b.hi.x q.x} {q = between b.lo.y b.hi.y q.y && between b.lo.z b.hi.z q.z} w in
    let j = and_both {p = between b.lo.y b.hi.y q.y} {q = between b.lo.z b.hi.z q.z} i.1 in
    let sx = signless_square q.x p.x g.x_finite f.x_finite in
    let sy = signless_square q.y p.y g.y_finite f.y_finite in
    let sz = signless_square q.z p.z g.z_finite f.z_finite in
    let two = sum_monotone (square q.x p.x) (square q.y p.y) x y sx sy rx.signless ry.signless (rx.most q.x g.x_finite i.0)
    (ry.most q.y g.y_finite j.0) in
    let three = sum_monotone (square q.x p.x ⊕ square q.y p.y) (square q.z p.z) (x ⊕ y) z
    (add_unsigned (square q.x p.x) (square q.y p.y) sx sy) sz (add_unsigned x y rx.signless ry.signless) rz.signless two
    (rz.most q.z g.z_finite j.1) in
    subst (λ (s : Float). T (le (squared q p) s)) (sym e) (subst (λ (s : Float). T (le s ((x ⊕ y) ⊕ z))) (sym (squared_is q p)) three)
