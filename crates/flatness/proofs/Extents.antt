-- How far points reach on an axis, turn by turn of the loop (`reach_end`), and that a box too small holds no acceptable
-- triangle (`box_flat`). Assumes nothing.
use Prim.Native.Nat.{ℕ, ◌+◌, ◌*◌, ◌≤◌, ◌<◌}
use mathlib.Core.Path.{◌≡◌, refl, sym, subst}
use mathlib.Core.Bool.{Bool, true, false, not, cond, ◌||◌}
use mathlib.Core.List.{List}
use native.Mathlib.Omega.{arith}
use lib.Dec.{T}
use lib.ListN.{get_or}
use lib.Ieee.{Float, nan, neg, lt, le, is_nan, of_bits}
use lib.Ieee.Scale.{finite}
use Rattle.numbers.specs.Rounded.{f32, ◌⊖◌}
use Rattle.numbers.specs.Order.{minimum, maximum}
use Rattle.numbers.proofs.OrderLaws.{finite_number, le_left, le_refl, le_trans, lt_le, unsigned_number_lem}
use Rattle.numbers.specs.Inner.Bounds.{unsigned, Bounded}
use Rattle.numbers.proofs.RoundedOrder.{neg_le}
use Rattle.numbers.proofs.SumOrder.{sub_monotone, sub_antitone, sub_number}
use Rattle.numbers.proofs.Bounded.{neg_neg}
use Rattle.numbers.proofs.Minimum.{minimum_le}
use Rattle.numbers.proofs.Maximum.{maximum_left, maximum_right, maximum_unsigned, minimum_finite, maximum_finite}
use Rattle.vector.specs.Vector.{point, difference}
use Rattle.vector.specs.Inner.Numbers.{Finite}
use Rattle.vector.specs.declared.Point3f.{Point3f}
use Rattle.quality.specs.Measures.{tiny}
use Rattle.area_bounds.specs.Inner.AreaBound.{area_bound}
use Rattle.area_bounds.proofs.AreaBound.{Bounds, Unsigned}
use Rattle.points.specs.Points.{point_at}
use Rattle.decisions.specs.declared.Scene.{Scene}
use Rattle.decisions.specs.Decisions.{accepts, quality_at}
use Rattle.filters.specs.Inner.Refused.{Least}
use Rattle.filters.proofs.Refusals.{least_own, least_flat, bounded_accepts}
use Rattle.flatness.specs.Inner.Flat.{too_small, Flat, on_axis, AxisFinite, Extent}
use Rattle.flatness.proofs.Below.{below_next}

-- ---- one axis

minimum_left : (x y : Float) → T (not (is_nan x)) → T (le (minimum x y) x)
unfolding minimum
minimum_left x y f = go (is_nan x) f (lt y x) refl
  where
    go : (n : Bool) → T (not n) → (l : Bool) → lt y x ≡ l → T (le (cond n y (cond l y x)) x)
    go true k l i = absurd k
    go false k true i = lt_le y x (subst T (sym i) tt)
    go false k false i = le_refl x f

neg_number : (x : Float) → T (not (is_nan x)) → T (not (is_nan (neg x)))
neg_number x f = le_left (neg x) (neg x) (neg_le x x (le_refl x f))

-- the first i points lie from lo to hi
pub record Reaching (pts : List Float) (axis n : ℕ) (lo hi : Float) (i : ℕ) : Type 0 where
  pub inside : i ≤ n
  pub lo_finite : T (finite lo)
  pub hi_finite : T (finite hi)
  pub above : (k : ℕ) → k < i → T (le lo (on_axis pts axis k))
  pub below : (k : ℕ) → k < i → T (le (on_axis pts axis k) hi)

module _ (pts : List Float) (axis n : ℕ) (numbers : AxisFinite pts axis n) where
  pub reach_start : 0 < n → Reaching pts axis n (get_or pts axis nan) (get_or pts axis nan) 1
  reach_start h =
      let e : 3 * 0 + axis ≡ axis = omega arith in
      let f : T (finite (on_axis pts axis 0)) = numbers 0 h in
      let r : Reaching pts axis n (on_axis pts axis 0) (on_axis pts axis 0) 1 = record {
        inside = h;
        lo_finite = f;
        hi_finite = f;
        above = λ k l. only k l (λ x. T (le (on_axis pts axis 0) x)) (le_refl (on_axis pts axis 0) (finite_number (on_axis pts axis 0) f));
        below = λ k l. only k l (λ x. T (le x (on_axis pts axis 0))) (le_refl (on_axis pts axis 0) (finite_number (on_axis pts axis 0) f));
      } in
      subst (λ (m : ℕ). Reaching pts axis n (get_or pts m nan) (get_or pts m nan) 1) e r
    where
      only : (k : ℕ) → k < 1 → (P : Float → Type 0) → P (on_axis pts axis 0) → P (on_axis pts axis k)
      only k l P p = let z : 0 ≡ k = omega arith in subst (λ (m : ℕ). P (on_axis pts axis m)) z p

  pub reach_step : {lo hi lo' hi' : Float} {i : ℕ} → Reaching pts axis n lo hi i → i < n → lo' ≡ minimum lo (on_axis pts axis i) → hi'
      ≡ maximum hi (on_axis pts axis i) → Reaching pts axis n lo' hi' (i + 1)
  reach_step {lo} {hi} {lo'} {hi'} {i} r h low high = record {
    inside = omega arith;
    lo_finite = subst (λ (v : Float). T (finite v)) (sym low) (minimum_finite lo x r.lo_finite f);
    hi_finite = subst (λ (v : Float). T (finite v)) (sym high) (maximum_finite hi x r.hi_finite f);
    above = below_next (λ k l. le_trans lo' lo (on_axis pts axis k)
        (subst (λ (v : Float). T (le v lo)) (sym low) (minimum_left lo x (finite_number lo r.lo_finite))) (r.above k l))
        (subst (λ (v : Float). T (le v x)) (sym low) (minimum_le lo x (finite_number x f)));
    below = below_next (λ k l. le_trans (on_axis pts axis k) hi hi' (r.below k l)
        (subst (λ (v : Float). T (le hi v)) (sym high) (maximum_left hi x (finite_number hi r.hi_finite))))
        (subst (λ (v : Float). T (le x v)) (sym high) (maximum_right hi x (finite_number x f)));
  }
    where
      x : Float
      x = on_axis pts axis i

      f : T (finite x)
      f = numbers i h

  pub reach_end : {lo hi a v : Float} {i : ℕ} → Reaching pts axis n lo hi i → n ≤ i → a ≡ maximum (f32 0) (hi ⊖ lo) → v ≡ maximum a (neg (lo ⊖ hi))
      → Extent pts axis n v
  reach_end {lo} {hi} {a} {v} {i} r h ha hv = record {
    sign = subst (λ (x : Float). T (unsigned x)) (sym hv) (maximum_unsigned a (neg (lo ⊖ hi)) sign_a);
    bounds = λ j k hj hk. let x = on_axis pts axis j in let y = on_axis pts axis k in let f = numbers j hj in let g = numbers k hk in record {
      upper =
          le_trans (x ⊖ y) (hi ⊖ y) v (sub_monotone x hi y f r.hi_finite g (r.below j (omega arith)))
          (le_trans (hi ⊖ y) (hi ⊖ lo) v (sub_antitone lo y hi r.lo_finite g r.hi_finite (r.above k (omega arith))) upper_v);
      lower =
          le_trans (neg v) (lo ⊖ hi) (x ⊖ y) lower_v
          (le_trans (lo ⊖ hi) (lo ⊖ y) (x ⊖ y) (sub_antitone y hi lo g r.hi_finite r.lo_finite (r.below k (omega arith)))
          (sub_monotone lo x y r.lo_finite f g (r.above j (omega arith))));
    };
  }
    where
      sign_a : T (unsigned a)
      sign_a = subst (λ (x : Float). T (unsigned x)) (sym ha) (maximum_unsigned (f32 0) (hi ⊖ lo) (unfold of_bits in tt))

      upper_v : T (le (hi ⊖ lo) v)
      upper_v =
          le_trans (hi ⊖ lo) a v
          (subst (λ (x : Float). T (le (hi ⊖ lo) x)) (sym ha) (maximum_right (f32 0) (hi ⊖ lo) (sub_number hi lo r.hi_finite r.lo_finite)))
          (subst (λ (x : Float). T (le a x)) (sym hv) (maximum_left a (neg (lo ⊖ hi)) (unsigned_number_lem a sign_a)))

      turned : T (le (neg (lo ⊖ hi)) v)
      turned = subst (λ (x : Float). T (le (neg (lo ⊖ hi)) x)) (sym hv)
          (maximum_right a (neg (lo ⊖ hi)) (neg_number (lo ⊖ hi) (sub_number lo hi r.lo_finite r.hi_finite)))

      lower_v : T (le (neg v) (lo ⊖ hi))
      lower_v = subst (λ (x : Float). T (le (neg v) x)) (neg_neg (lo ⊖ hi)) (neg_le (neg (lo ⊖ hi)) v turned)

-- ---- the box

plus_zero_lem : (m : ℕ) → m + 0 ≡ m
plus_zero_lem m = omega arith

pub axis_numbers : (pts : List Float) (n : ℕ) → ((k : ℕ) → k < n → Finite (point_at pts k)) → AxisFinite pts 0 n × (AxisFinite pts 1 n × AxisFinite pts 2 n)
unfolding point_at
axis_numbers pts n numbers = (
  λ k h. subst (λ (m : ℕ). T (finite (get_or pts m nan))) (sym (plus_zero_lem (3 * k))) (numbers k h).x_finite,
  (λ k h. (numbers k h).y_finite, λ k h. (numbers k h).z_finite),
)

sides : {pts : List Float} {n : ℕ} {x y z : Float} → Extent pts 0 n x → Extent pts 1 n y → Extent pts 2 n z → (a b : ℕ) → a < n → b < n
    → Bounds (difference (point_at pts a) (point_at pts b)) (point x y z)
unfolding point_at difference
sides {pts} {n} {x} ex ey ez a b ha hb = record {
  bounded_x = subst (λ (m : ℕ). Bounded (get_or pts m nan ⊖ get_or pts (3 * b) nan) x) (plus_zero_lem (3 * a))
      (subst (λ (m : ℕ). Bounded (get_or pts (3 * a + 0) nan ⊖ get_or pts m nan) x) (plus_zero_lem (3 * b)) (ex.bounds a b ha hb));
  bounded_y = ey.bounds a b ha hb;
  bounded_z = ez.bounds a b ha hb;
}

pub box_flat : (s : Scene) {pts : List Float} {x y z : Float} {v : Point3f} → Extent pts 0 s.n x → Extent pts 1 s.n y → Extent pts 2 s.n z → v
    ≡ point x y z → too_small s v ≡ true → Flat s pts
unfolding too_small
box_flat s {pts} {x} {y} {z} {v} ex ey ez e h r b i j k hi hj hk = go (lt (area_bound v v) s.min_triangle_area) refl h
  where
    signs : Unsigned v
    signs = subst (λ (p : Point3f). Unsigned p) (sym e) (record { unsigned_x = ex.sign; unsigned_y = ey.sign; unsigned_z = ez.sign })

    edge : (a b : ℕ) → a < s.n → b < s.n → Bounds (difference (point_at pts a) (point_at pts b)) v
    edge a b ha hb = subst (λ (p : Point3f). Bounds (difference (point_at pts a) (point_at pts b)) p) (sym e) (sides ex ey ez a b ha hb)

    below : {m : Float} → Least s r m → lt (area_bound v v) m ≡ true → accepts s r (quality_at pts i j k) ≡ false
    below l t = bounded_accepts s pts r i j k l v v signs signs (edge j i hj hi) (edge k i hk hi) t

    go : (t : Bool) → lt (area_bound v v) s.min_triangle_area ≡ t → (t || lt (area_bound v v) tiny) ≡ true → accepts s r (quality_at pts i j k) ≡ false
    go true q a = below (least_own s r) q
    go false q a = below (least_flat s r b) a
