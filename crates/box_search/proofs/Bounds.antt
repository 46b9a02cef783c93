-- No point of a box has a smaller square than the box, by monotone rounding. Assumes nothing.
use mathlib.Core.Path.{◌≡◌, refl, ap, ◌∙◌, subst, subst⁻¹}
use mathlib.Core.Bool.{Bool, true, false, cond, not}
use mathlib.Core.Logic.{◌⊎◌, inl, inr, ⊎_elim}
use mathlib.Core.List.{List}
use Prim.Native.Nat.{ℕ, ◌+◌, ◌<◌}
use native.Mathlib.Omega.{arith}
use lib.Dec.{T}
use lib.Ieee.{Float, binary32, lt, le, nan_bits}
use lib.Ieee.Scale.{finite}
use lib.ListN.{length, get_or}
use Rattle.numbers.specs.Rounded.{◌⊕◌, ◌⊖◌, ◌⊗◌}
use Rattle.numbers.proofs.OrderLaws.{finite_number, lt_le, le_refl, le_trans, le_or_lt, not_lt_le, unsigned_number_lem}
use Rattle.numbers.specs.Inner.Bounds.{unsigned}
use Rattle.numbers.proofs.SumOrder.{add_commutative, add_unsigned, add_monotone_left, sub_number}
use Rattle.numbers.proofs.ProductOrder.{square_unsigned, square_beyond}
use Rattle.vector.specs.Vector.{point, magnitude_squared, squared}
use Rattle.vector.specs.Inner.Numbers.{Finite}
use Rattle.vector.specs.declared.Point3f.{Point3f}
use Rattle.vector.proofs.Distances.{square, squared_is}
use Rattle.nearest.specs.Least.{greater, lesser}
use Rattle.box_search.specs.Boxes.{float_at, side_gap, reach_of, FiniteBetween, Inside, Six}

-- ---- the box's distance, from what was read
pub reach_is : (words : List ℕ) (at : ℕ) (spot : Point3f) {x y z r : Float} {q : Point3f}
    → x ≡ side_gap spot.x (float_at words at) (float_at words (at + 3)) → y ≡ side_gap spot.y (float_at words (at + 1)) (float_at words (at + 4))
    → z ≡ side_gap spot.z (float_at words (at + 2)) (float_at words (at + 5)) → q ≡ point x y z → r ≡ magnitude_squared q → r ≡ reach_of words at spot
unfolding reach_of
reach_is words at spot ex ey ez eq er = er ∙ ap magnitude_squared (eq ∙ (λ i. point (ex i) (ey i) (ez i)))

pub gap_is : (v : Float) {a b lo hi r : Float} → a ≡ lo → b ≡ hi → r ≡ side_gap v a b → r ≡ side_gap v lo hi
gap_is v ea eb er = er ∙ (λ i. side_gap v (ea i) (eb i))

pub gap_of : (v lo hi : Float) {a b : Float} → a ≡ greater lo v → b ≡ lesser a hi → b ⊖ v ≡ side_gap v lo hi
unfolding side_gap
gap_of v lo hi ea eb = ap (λ (z : Float). z ⊖ v) (eb ∙ ap (λ (z : Float). lesser z hi) ea)

-- ---- on one axis
module _ (v lo hi p : Float) (f : T (finite v)) (b : FiniteBetween lo hi p) where
  -- the square of a number that is no farther than the point
  record Within (g : Float) : Type 0 where
    sign : T (unsigned (g ⊗ g))
    least : T (le (g ⊗ g) (square p v))

  -- a number between v and the point
  between : (h : Float) → T (finite h) → (T (le v h) × T (le h p)) ⊎ (T (le h v) × T (le p h)) → Within (h ⊖ v)
  between h k o = record { sign = square_unsigned (h ⊖ v) (sub_number h v k f); least = square_beyond v h p f k b.v_finite o }

  not_less : (x y : Float) → T (finite x) → T (finite y) → lt x y ≡ false → T (le y x)
  not_less x y g h e = not_lt_le x y (finite_number x g) (finite_number y h) (subst⁻¹ (λ (z : Bool). T (not z)) e tt)

  itself : T (le v v)
  itself = le_refl v (finite_number v f)

  within : Within (v ⊖ v)
  within = between v f (⊎_elim (λ o. inl (itself, o)) (λ o. inr (itself, lt_le p v o)) (le_or_lt v p (finite_number v f) (finite_number p b.v_finite)))

  cases : (x y : Bool) → lt lo v ≡ x → lt (cond x v lo) hi ≡ y → Within (cond y (cond x v lo) hi ⊖ v)
  cases true true e g = within
  cases true false e g = between hi b.hi_finite (inr (not_less v hi f b.hi_finite g, b.below))
  cases false true e g = between lo b.lo_finite (inl (not_less lo v b.lo_finite f e, b.above))
  cases false false e g = between hi b.hi_finite
      (inl (
        le_trans v lo hi (not_less lo v b.lo_finite f e) (le_trans lo p hi b.above b.below),
        le_trans hi lo p
            (not_less lo hi b.lo_finite b.hi_finite g) b.above,
      ))

  on_axis_lem : Within (side_gap v lo hi)
  unfolding side_gap greater lesser
  on_axis_lem = cases (lt lo v) (lt (cond (lt lo v) v lo) hi) refl refl

-- ---- the three together
square_sign : (x y : Float) → T (finite x) → T (finite y) → T (unsigned (square x y))
square_sign x y f g = square_unsigned (x ⊖ y) (sub_number x y f g)

sum_monotone : (a b c d : Float) → T (unsigned a) → T (unsigned b) → T (unsigned c) → T (unsigned d) → T (le a c) → T (le b d) → T (le (a ⊕ b) (c ⊕ d))
sum_monotone a b c d ua ub uc ud h k =
    le_trans (a ⊕ b) (c ⊕ b) (c ⊕ d)
    (add_monotone_left a c b h (unsigned_number_lem _ (add_unsigned a b ua ub)) (unsigned_number_lem _ (add_unsigned c b uc ub)))
    (subst (λ (x : Float). T (le x (c ⊕ d))) (add_commutative b c)
    (subst (λ (x : Float). T (le (b ⊕ c) x)) (add_commutative d c)
    (add_monotone_left b d c k (unsigned_number_lem _ (add_unsigned b c ub uc)) (unsigned_number_lem _ (add_unsigned d c ud uc)))))

module _ (words : List ℕ) (at : ℕ) (spot p : Point3f) (s : Finite spot) (i : Inside words at p) where
  pub reach_least : T (le (reach_of words at spot) (squared p spot))
  unfolding reach_of magnitude_squared
  reach_least =
      let x = on_axis_lem spot.x (float_at words at) (float_at words (at + 3)) p.x s.x_finite i.on_x in
      let y = on_axis_lem spot.y (float_at words (at + 1)) (float_at words (at + 4)) p.y s.y_finite i.on_y in
      let z = on_axis_lem spot.z (float_at words (at + 2)) (float_at words (at + 5)) p.z s.z_finite i.on_z in
      let bx = square_sign p.x spot.x i.on_x.v_finite s.x_finite in
      let by = square_sign p.y spot.y i.on_y.v_finite s.y_finite in
      let bz = square_sign p.z spot.z i.on_z.v_finite s.z_finite in
      rw (squared_is p spot)
      (sum_monotone _ _ _ _ (add_unsigned _ _ x.sign y.sign) z.sign (add_unsigned _ _ bx by) bz
      (sum_monotone _ _ _ _ x.sign y.sign bx by x.least y.least) z.least)

  pub inside_finite : Finite p
  inside_finite = record { x_finite = i.on_x.v_finite; y_finite = i.on_y.v_finite; z_finite = i.on_z.v_finite }

-- ---- six words
pub six_at : {words : List ℕ} {at : ℕ} → Six words at → (k : ℕ) → k < 6 → (p : ℕ) → p ≡ at + k → (p < length words)
    × T (not (nan_bits binary32 (get_or words p 0)))
six_at {words} s k h p e = (omega (arith, s.long), subst⁻¹ (λ (z : ℕ). T (not (nan_bits binary32 (get_or words z 0)))) e (s.numbers k h))
