-- Quotients of numbers above 0: a product that is above x bounds the quotient (`quotient_most`), one that is below x
-- does from below (`quotient_least`), and a larger divisor gives no larger quotient (`quotient_antitone`). Assumes
-- nothing.
use mathlib.Core.Path.{◌≡◌}
use Prim.Native.Nat.{zero, suc, ◌*◌, ◌≤◌, ◌<◌}
use native.Mathlib.Nat.{mul-pos, mul_comm, mul_assoc, mul_left_comm, mul-le-mul_left, le_of_lt}
use native.Mathlib.Omega.{arith}
use native.Mathlib.Decide.{dec_le}
use mathlib.Core.Bool.{true, false}
use lib.Dec.{T, ltb→lt, eqb-suc-zero}
use lib.Ieee.{Float, nan, inf, fin, binary32, round, div, fits, lt, le}
use lib.Ieee.Fits.{up_pos}
use lib.Ieee.Order.{round_mono}
use lib.Ieee.Positive.{positive, num, den, den_pos, own_value, le→cross, mul_at}
use Rattle.numbers.specs.Rounded.{◌⊗◌, ◌⊘◌}
use Rattle.numbers.proofs.OrderLaws.{le_not_lt}
use Rattle.plain.proofs.RootBounds.{own_rounded}

num_above : (x : Float) → T (positive x) → 0 < num x
num_above nan p = absurd p
num_above (inf s) p = absurd p
num_above (fin true m e) p = absurd p
num_above (fin false m e) p = mul-pos (ltb→lt 0 m p) (up_pos e)

divided_is : (x d : Float) → T (positive x) → T (positive d) → x ⊘ d ≡ round binary32 false (num x * den d) (num d * den x)
unfolding div
divided_is nan d p q = absurd p
divided_is (inf s) d p q = absurd p
divided_is (fin true m e) d p q = absurd p
divided_is (fin false m e) nan p q = absurd q
divided_is (fin false m e) (inf s) p q = absurd q
divided_is (fin false m e) (fin true n k) p q = absurd q
divided_is (fin false m e) (fin false zero k) p q = absurd q
divided_is (fin false m e) (fin false (suc n) k) p q = rw (eqb-suc-zero n)

multiplied_is : (w d : Float) → T (positive w) → T (positive d) → w ⊗ d ≡ round binary32 false (num w * num d) (den w * den d)
multiplied_is w d p q = mul_at binary32 w d (num w) (den w) (num d) (den d) p q (den_pos w) (den_pos d) (own_value w p) (own_value d q)

own_is : (x : Float) → T (fits binary32 x) → T (positive x) → x ≡ round binary32 false (num x) (den x)
own_is x f p = own_rounded x (num x) (den x) f p (den_pos x) (own_value x p)

module _ (x w d : Float) (f : T (fits binary32 x)) (g : T (fits binary32 w)) (p : T (positive x)) (q : T (positive w)) (r : T (positive d)) where
  pub quotient_most : T (lt x (w ⊗ d)) → T (le (x ⊘ d) w)
  quotient_most h = go (dec_le (num w * num d * den x) (num x * (den w * den d)))
    where
      go : Dec (num w * num d * den x ≤ num x * (den w * den d)) → T (le (x ⊘ d) w)
      go (yes k) =
          absurd (le_not_lt (w ⊗ d) x
          (rw (multiplied_is w d q r, own_is x f p)
          (round_mono binary32 (num w * num d) (den w * den d) (num x) (den x) (mul-pos (den_pos w) (den_pos d)) (den_pos x) k)) h)
      go (no k) =
          let l : num x * den d * den w ≤ num w * (num d * den x) = simp (mul_assoc, mul_comm, mul_left_comm)
          (simp (mul_assoc, mul_comm, mul_left_comm) at (le_of_lt (above k))) in
          rw (divided_is x d p r, own_is w g q)
          (round_mono binary32 (num x * den d) (num d * den x) (num w) (den w) (mul-pos (num_above d r) (den_pos x)) (den_pos w) l)
        where
          above : (num w * num d * den x ≤ num x * (den w * den d) → ⊥) → num x * (den w * den d) < num w * num d * den x
          above k = omega arith

  pub quotient_least : T (lt (w ⊗ d) x) → T (le w (x ⊘ d))
  quotient_least h = go (dec_le (num x * (den w * den d)) (num w * num d * den x))
    where
      go : Dec (num x * (den w * den d) ≤ num w * num d * den x) → T (le w (x ⊘ d))
      go (yes k) =
          absurd (le_not_lt x (w ⊗ d)
          (rw (multiplied_is w d q r, own_is x f p)
          (round_mono binary32 (num x) (den x) (num w * num d) (den w * den d) (den_pos x) (mul-pos (den_pos w) (den_pos d)) k)) h)
      go (no k) =
          let l : num w * (num d * den x) ≤ num x * den d * den w = simp (mul_assoc, mul_comm, mul_left_comm)
          (simp (mul_assoc, mul_comm, mul_left_comm) at (le_of_lt (below k))) in
          rw (divided_is x d p r, own_is w g q)
          (round_mono binary32 (num w) (den w) (num x * den d) (num d * den x) (den_pos w) (mul-pos (num_above d r) (den_pos x)) l)
        where
          below : (num x * (den w * den d) ≤ num w * num d * den x → ⊥) → num w * num d * den x < num x * (den w * den d)
          below k = omega arith

pub quotient_antitone : (x d e : Float) → T (positive x) → T (positive d) → T (positive e) → T (le d e) → T (le (x ⊘ e) (x ⊘ d))
quotient_antitone x d e p q r h =
    let l : num x * den e * (num d * den x) ≤ num x * den d * (num e * den x) = simp (mul_assoc, mul_comm, mul_left_comm)
    (simp (mul_assoc, mul_comm, mul_left_comm) at (mul-le-mul_left (num x * den x) (le→cross d e q r h))) in
    rw (divided_is x e p r, divided_is x d p q)
    (round_mono binary32 (num x * den e) (num e * den x) (num x * den d) (num d * den x) (mul-pos (num_above e r) (den_pos x))
    (mul-pos (num_above d q) (den_pos x)) l)
