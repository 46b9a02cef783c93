-- A number whose square, rounded, is below s is at most the root of s (`root_least`), and one whose square is above it
-- at least that (`root_most`): rounding keeps the order, so the true squares compare as the rounded ones do. Assumes
-- nothing.
use mathlib.Core.Path.{◌≡◌, ap, ◌∙◌}
use Prim.Native.Nat.{ℕ, ◌+◌, ◌*◌, ◌^◌, ◌≤◌, ◌<◌}
use native.Mathlib.Nat.{mul-pos, mul-le-mul, mul-le-mul_right}
use native.Mathlib.Omega.{arith}
use native.Mathlib.Decide.{dec_le}
use mathlib.Core.Bool.{true, false}
use lib.Dec.{T, ltb→lt}
use lib.Pow.{pow_pos}
use lib.Ieee.{Float, nan, inf, fin, binary32, up, down, round, fits, lt, le}
use lib.Ieee.Fits.{up_pos, down_pos}
use lib.Ieee.Exact.{HasValue}
use lib.Ieee.Order.{le_of_values, round_mono}
use lib.Ieee.Scale.{round_same}
use lib.Ieee.Positive.{positive, mul_at}
use Rattle.numbers.specs.Rounded.{◌⊗◌}
use Rattle.numbers.specs.Root.{root}
use Rattle.numbers.proofs.OrderLaws.{le_not_lt}
use Rattle.numbers.proofs.RoundedOrder.{Rounds, above, under, rounds_own}
use Rattle.numbers.proofs.RootGrid.{f32_whole}
use Rattle.numbers.proofs.RootNearest.{root_nearest}

-- ---- as fractions

-- an f32 is its own rounding, by any fraction that it equals
pub own_rounded : (x : Float) (a c : ℕ) → T (fits binary32 x) → T (positive x) → 0 < c → HasValue x false a c → x ≡ round binary32 false a c
own_rounded nan a c f p C v = absurd p
own_rounded (inf s) a c f p C v = absurd p
own_rounded (fin true m e) a c f p C v = absurd p
own_rounded (fin false m e) a c f p C v = go (rounds_own (fin false m e) f tt)
  where
    go : Rounds (fin false m e) (m * up e) 0 (down e) → fin false m e ≡ round binary32 false a c
    go (above k h r) = let z : k ≡ m * up e = omega arith in r ∙ round_same binary32 false k (down e) a c (down_pos e) C (ap (λ (n : ℕ). n * c) z ∙ v.1)
    go (under k h r) = absurd (omega (arith, mul-pos (ltb→lt 0 m p) (up_pos e)))

whole : (g : Float) → T (fits binary32 g) → T (positive g) → (a : ℕ) × HasValue g false a (2 ^ 149)
whole nan f p = absurd p
whole (inf s) f p = absurd p
whole (fin true m e) f p = absurd p
whole (fin false m e) f p = let w = f32_whole false m e f in (w.0, w.1)

-- ---- the true squares

module _ (g s : Float) (G X : ℕ) (f : T (fits binary32 s)) (p : T (positive g)) (q : T (positive s)) (v : HasValue g false G (2 ^ 149))
    (w : HasValue s false X (2 ^ 298)) where
  square_is : g ⊗ g ≡ round binary32 false (G * G) (2 ^ 298)
  square_is = mul_at binary32 g g G (2 ^ 149) G (2 ^ 149) p p (pow_pos 149) (pow_pos 149) v v

  square_below : T (lt (g ⊗ g) s) → G * G < X
  square_below h = go (dec_le X (G * G))
    where
      go : Dec (X ≤ G * G) → G * G < X
      go (yes k) = absurd (le_not_lt s (g ⊗ g)
          (rw (own_rounded s X (2 ^ 298) f q (pow_pos 298) w, square_is)
          (round_mono binary32 X (2 ^ 298) (G * G) (2 ^ 298) (pow_pos 298) (pow_pos 298) (mul-le-mul_right (2 ^ 298) k))) h)
      go (no k) = omega arith

  square_above : T (lt s (g ⊗ g)) → X < G * G
  square_above h = go (dec_le (G * G) X)
    where
      go : Dec (G * G ≤ X) → X < G * G
      go (yes k) = absurd (le_not_lt (g ⊗ g) s
          (rw (own_rounded s X (2 ^ 298) f q (pow_pos 298) w, square_is)
          (round_mono binary32 (G * G) (2 ^ 298) X (2 ^ 298) (pow_pos 298) (pow_pos 298) (mul-le-mul_right (2 ^ 298) k))) h)
      go (no k) = omega arith

-- ---- the nearest to the root is on the same side

at_least_lem : (X R G : ℕ) → G * G < X → (R < G → 4 * X < (R + G) * (R + G)) → G ≤ R
at_least_lem X R G h n = go (dec_le G R)
  where
    go : Dec (G ≤ R) → G ≤ R
    go (yes k) = k
    go (no k) =
        let l : R < G = omega arith in
        let s : R + G ≤ G + G = omega arith in
        let m = mul-le-mul s s in
        let i = n l in
        absurd (omega arith)

at_most : (X R G : ℕ) → X < G * G → (G < R → (R + G) * (R + G) < 4 * X) → R ≤ G
at_most X R G h n = go (dec_le R G)
  where
    go : Dec (R ≤ G) → R ≤ G
    go (yes k) = k
    go (no k) =
        let l : G < R = omega arith in
        let s : G + G ≤ R + G = omega arith in
        let m = mul-le-mul s s in
        let i = n l in
        absurd (omega arith)

module _ (g s : Float) (f : T (fits binary32 g)) (h : T (fits binary32 s)) (p : T (positive g)) (q : T (positive s)) where
  pub root_least : T (lt (g ⊗ g) s) → T (le g (root s))
  root_least k =
      let w = whole g f p in
      let r = root_nearest s h q in
      let l = at_least_lem r.X r.R w.0 (square_below g s w.0 r.X h p q w.1 r.argument k) (r.nearest g w.0 f w.1).1 in
      le_of_values g (root s) w.0 (2 ^ 149) r.R (2 ^ 149) (pow_pos 149) (pow_pos 149) w.1 r.result (mul-le-mul_right (2 ^ 149) l)

  pub root_most : T (lt s (g ⊗ g)) → T (le (root s) g)
  root_most k =
      let w = whole g f p in
      let r = root_nearest s h q in
      let l = at_most r.X r.R w.0 (square_above g s w.0 r.X h p q w.1 r.argument k) (r.nearest g w.0 f w.1).0 in
      le_of_values (root s) g r.R (2 ^ 149) w.0 (2 ^ 149) (pow_pos 149) (pow_pos 149) r.result w.1 (mul-le-mul_right (2 ^ 149) l)
