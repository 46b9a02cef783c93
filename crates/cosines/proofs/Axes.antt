-- Three points on an axis: the computed differences and the exact ones (`on_axis_lem`), and of two axes a component of the
-- computed cross product and the exact one (`component_of`). Assumes nothing.
use mathlib.Core.Path.{◌≡◌, refl, ap, ◌∙◌}
use Prim.Native.Nat.{ℕ, ◌+◌, ◌-◌, ◌*◌, ◌^◌, ◌≤◌}
use native.Mathlib.Nat.{add-mul}
use native.Mathlib.Omega.{arith}
use native.Mathlib.Decide.{dec_le}
use mathlib.Core.Bool.{Bool, true, false}
use lib.Dec.{T}
use lib.Ieee.{Float, binary32, unlike, fits}
use lib.Ieee.Exact.{HasValue}
use lib.Ieee.Scale.{finite}
use Rattle.numbers.specs.Rounded.{◌⊖◌, ◌⊗◌}
use Rattle.rounding_errors.proofs.Near.{Near, near_eq, near_self, near_trans, near_mul, near_add, near_square, near_times}
use Rattle.rounding_errors.proofs.Rounding.{Summed}
use Rattle.rounding_errors.proofs.Signed.{Is, over, short, sub_finite, finite_signed, sub_whole, mul_whole}
use Rattle.cosines.proofs.Exact.{apart, axis_square}
use Rattle.cosines.proofs.Component.{component_off, component_over}

-- ---- one axis

-- the coordinates p, q and t: q - p is a with the sign s, t - p is c with the sign r, and q - t is b
pub record On (p q t : Float) : Type 0 where
  pub s : Bool
  pub r : Bool
  pub o : Bool
  pub a : ℕ
  pub c : ℕ
  pub b : ℕ
  pub v : Summed (q ⊖ p) s a
  pub w : Summed (t ⊖ p) r c
  pub u : Summed (q ⊖ t) o b
  pub square : b * b + 2 * over (unlike s r) (a * c) ≡ a * a + c * c + 2 * short (unlike s r) (a * c)

pub on_axis_lem : (p q t : Float) → T (fits binary32 p) → T (fits binary32 q) → T (fits binary32 t) → T (finite (q ⊖ p)) → T (finite (t ⊖ p)) → T (finite (q ⊖ t))
    → On p q t
on_axis_lem p q t fp fq ft h k l =
    let P = finite_signed p fp (sub_finite q p h).1 in
    let Q = finite_signed q fq (sub_finite q p h).0 in
    let R = finite_signed t ft (sub_finite t p k).0 in
    let v = sub_whole q p Q.s P.s Q.n P.n Q.value P.value h in
    let w = sub_whole t p R.s P.s R.n P.n R.value P.value k in
    let u = sub_whole q t Q.s R.s Q.n R.n Q.value R.value l in
    record {
      s = v.s;
      r = w.s;
      o = u.s;
      a = v.a;
      c = w.a;
      b = u.a;
      v = v.rounded;
      w = w.rounded;
      u = u.rounded;
      square =
          axis_square v.s w.s u.s v.a w.a u.a (over Q.s Q.n) (short Q.s Q.n) (over P.s P.n) (short P.s P.n)
          (over R.s R.n) (short R.s R.n)
          v.is w.is u.is;
    }

-- ---- two axes

apart_is : (z s t : Bool) (a k l : ℕ) → Is z a (over s k + short t l) (short s k + over t l) → a ≡ apart (unlike s t) k l
apart_is true true true a k l h = omega arith
apart_is true true false a k l h = omega arith
apart_is true false true a k l h = omega arith
apart_is true false false a k l h = omega arith
apart_is false true true a k l h = omega arith
apart_is false true false a k l h = omega arith
apart_is false false true a k l h = omega arith
apart_is false false false a k l h = omega arith

apart_times : (u : Bool) (k l w : ℕ) → apart u k l * w ≡ apart u (k * w) (l * w)
apart_times true k l w = add-mul k l w
apart_times false k l w = go (dec_le k l)
  where
    go : Dec (k ≤ l) → (k - l + (l - k)) * w ≡ k * w - l * w + (l * w - k * w)
    go (yes h) =
        let d = l - k in
        let e : l ≡ k + d = omega arith in
        let g : k - l + (l - k) ≡ d = omega arith in
        let f : l * w ≡ k * w + d * w = ap (λ (z : ℕ). z * w) e ∙ add-mul k d w in
        ap (λ (z : ℕ). z * w) g ∙ sides (k * w) (l * w) (d * w) f
      where
        sides : (x y z : ℕ) → y ≡ x + z → z ≡ x - y + (y - x)
        sides x y z h = omega arith
    go (no h) =
        let d = k - l in
        let e : k ≡ l + d = omega arith in
        let g : k - l + (l - k) ≡ d = omega arith in
        let f : k * w ≡ l * w + d * w = ap (λ (z : ℕ). z * w) e ∙ add-mul l d w in
        ap (λ (z : ℕ). z * w) g ∙ sides (k * w) (l * w) (d * w) f
      where
        sides : (x y z : ℕ) → x ≡ y + z → z ≡ x - y + (y - x)
        sides x y z h = omega arith

signs : (s r s' r' : Bool) → unlike (unlike s r') (unlike s' r) ≡ unlike (unlike s r) (unlike s' r')
signs true true true true = refl
signs true true true false = refl
signs true true false true = refl
signs true true false false = refl
signs true false true true = refl
signs true false true false = refl
signs true false false true = refl
signs true false false false = refl
signs false true true true = refl
signs false true true false = refl
signs false true false true = refl
signs false true false false = refl
signs false false true true = refl
signs false false true false = refl
signs false false false true = refl
signs false false false false = refl

-- x is k units; the exact component is that of m and n, with signs that are unlike or not
pub record Computed (x : Float) (u : Bool) (m n : ℕ) : Type 0 where
  pub s : Bool
  pub k : ℕ
  pub value : HasValue x s k (2 ^ 149)
  pub off : 64 * (17592186044416 * (apart u m n * apart u m n)) ≤ 65 * (17592202821636 * (k * 2 ^ 149 * (k * 2 ^ 149)))
      + 4160 * (316659348799488 * (2 ^ 149 * 2 ^ 149) + 16 * (m * m + n * n))
  -- the square of the component before its last rounding
  pub y : ℕ
  pub last : Near 2 (k * 2 ^ 149 * (k * 2 ^ 149)) y
  pub over : (e : ℕ) → 4 * (17592177655809 * (e * y)) ≤ 4 * (17592177655809 * ((e + 1) * (apart u m n * apart u m n)))
      + e * (e + 1) * (2533274790395904 * (2 ^ 149 * 2 ^ 149) + 9 * (m * m + n * n))

-- m and n are the exact sizes, k and l the computed ones, j their rounded product
module _ (w m n k l j : ℕ) where
  rounded_above : Near 1 m k → Near 1 n l → Near 1 (k * l) (j * w + w) → Near 3 (m * n) (j * w + w)
  rounded_above a b c = near_trans (near_mul a b) c

  rounded_below : Near 1 k m → Near 1 l n → Near 1 (j * w) (k * l + w) → Near 3 (j * w) (m * n + w)
  rounded_below a b c = near_trans c (near_add (near_mul a b) (near_self 2 w))

module _ (v w v' w' : Float) (s r s' r' : Bool) (a c a' c' : ℕ) (hv : Summed v s a) (hw : Summed w r c) (hv' : Summed v' s' a') (hw' : Summed w' r' c') where
  pub component_of : T (finite (v ⊗ w' ⊖ v' ⊗ w)) → Computed (v ⊗ w' ⊖ v' ⊗ w) (unlike (unlike s r) (unlike s' r')) (a * c') (a' * c)
  component_of f =
      let W : ℕ = 2 ^ 149 in
      let g = sub_finite (v ⊗ w') (v' ⊗ w) f in
      let M = mul_whole v w' s r' hv.n hw'.n hv.value hw'.value g.0 in
      let N = mul_whole v' w s' r hv'.n hw.n hv'.value hw.value g.1 in
      let D = sub_whole (v ⊗ w') (v' ⊗ w) (unlike s r') (unlike s' r) M.n N.n M.value N.value f in
      let u = unlike (unlike s r) (unlike s' r') in
      let e : D.a ≡ apart u M.n N.n = apart_is D.s (unlike s r') (unlike s' r) D.a M.n N.n D.is ∙ ap (λ (b : Bool). apart b M.n N.n)
      (signs s r s' r') in
      let scaled = ap (λ (x : ℕ). x * W) e ∙ apart_times u M.n N.n W in
      let z : Near 1 (apart u (M.n * W) (N.n * W)) (D.rounded.n * W) = near_eq scaled refl (near_times W D.rounded.above) in
      let below : Near 1 (D.rounded.n * W) (apart u (M.n * W) (N.n * W)) = near_eq refl scaled (near_times W D.rounded.below) in
      let first_above = rounded_above W a c' hv.n hw'.n M.n hv.above hw'.above M.above in
      let second_above = rounded_above W a' c hv'.n hw.n N.n hv'.above hw.above N.above in
      let first_below = rounded_below W a c' hv.n hw'.n M.n hv.below hw'.below M.below in
      let second_below = rounded_below W a' c hv'.n hw.n N.n hv'.below hw.below N.below in
      record {
        s = D.s;
        k = D.rounded.n;
        value = D.rounded.value;
        off = component_off u (a * c') (a' * c) (M.n * W) (N.n * W) W (D.rounded.n * W) first_above second_above first_below second_below z;
        y = apart u (M.n * W) (N.n * W) * apart u (M.n * W) (N.n * W);
        last = near_square below;
        over = λ i. component_over u (a * c') (a' * c) (M.n * W) (N.n * W) W i first_above second_above first_below second_below;
      }
