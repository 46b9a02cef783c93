-- On f32 from +0 up, `<` is the total order; so sorting by the one is sorting by the other. Assumes nothing.
use Prim.Native.Nat.{ℕ, ◌+◌, ◌*◌, ◌^◌, ◌≤◌, ◌<◌}
use native.Mathlib.Nat.{mul-lt-mul_of_pos_right, mul-le-mul_right, mul-pos}
use native.Mathlib.Omega.{arith}
use native.Mathlib.Decide.{dec_lt}
use mathlib.Core.Path.{◌≡◌, refl, sym, ap, ◌∙◌, subst}
use mathlib.Core.Bool.{Bool, true, false, cond}
use mathlib.Core.List.{List, [], ◌∷◌}
use lib.IntN.{ℤ}
use lib.Dec.{T, ltb}
use lib.Pow.{pow_pos}
use lib.Ieee.{Float, nan, inf, fin, binary32, up, down, fits, lt, le, to_bits}
use lib.Ieee.Fits.{down_pos}
use lib.Ieee.Scale.{finite}
use borrow.Author.Tests.{lt-ltb, le-ltb}
use Rattle.numbers.specs.Inner.Bounds.{unsigned}
use Rattle.numbers.proofs.OrderLaws.{lt→side, side→lt}
use Rattle.numbers.proofs.RootGrid.{f32_whole}
use Rattle.patterns.specs.Pattern.{units_of}
use Rattle.patterns.proofs.Pattern.{number_bits, bits_units, units_mono}
use Rattle.sorting.specs.Insertion.{insert_before}
use Rattle.sorting.specs.Sorted.{insert_all, sorted}
use Rattle.sorting.specs.Each.{All}
use Rattle.total_order.specs.TotalOrder.{rank, total_below, insert_all_by, totally_sorted}

-- fits, has no sign, and is finite
abbrev pub Plain : Float → Type 0
Plain x = T (fits binary32 x) × T (unsigned x) × T (finite x)

-- an f32 from +0 up to `top`: no not-a-number and no minus zero
pub record Fine (top x : Float) : Type 0 where
  pub held : T (fits binary32 x)
  pub clear : T (unsigned x)
  pub most : T (le x top)

-- ---- by units
module _ (x d n y e k w : ℕ) (D : 0 < d) (E : 0 < e) (W : 0 < w) (hx : x * w ≡ n * d) (hy : y * w ≡ k * e) where
  by_units : x * e < y * d → n < k
  by_units h = go (dec_lt n k)
    where
      go : Dec (n < k) → n < k
      go (yes l) = l
      go (no l) =
          let more : k * (d * e) ≤ n * (d * e) = mul-le-mul_right (d * e) (omega arith) in
          let less : x * e * w < y * d * w = mul-lt-mul_of_pos_right h W in
          absurd (omega (arith, more, less, ap (λ (v : ℕ). v * e) hx, ap (λ (v : ℕ). v * d) hy))

  back : n < k → x * e < y * d
  back h = go (dec_lt (x * e) (y * d))
    where
      go : Dec (x * e < y * d) → x * e < y * d
      go (yes l) = l
      go (no l) =
          let more : y * d * w ≤ x * e * w = mul-le-mul_right w (omega arith) in
          let less : n * (d * e) < k * (d * e) = mul-lt-mul_of_pos_right h (mul-pos D E) in
          absurd (omega (arith, more, less, ap (λ (v : ℕ). v * e) hx, ap (λ (v : ℕ). v * d) hy))

-- ---- by bits
module _ (m : ℕ) (e : ℤ) (n : ℕ) (d : ℤ) (f : T (fits binary32 (fin false m e)))
    (g : T (fits binary32 (fin false n d))) where
  abbrev a : ℕ
  a = to_bits binary32 (fin false m e)

  abbrev b : ℕ
  b = to_bits binary32 (fin false n d)

  low_a : a < 0x7f800000
  low_a = let w = f32_whole false m e f in number_bits (fin false m e) w.0 f w.1

  low_b : b < 0x7f800000
  low_b = let w = f32_whole false n d g in number_bits (fin false n d) w.0 g w.1

  units_a : units_of a ≡ (f32_whole false m e f).0
  units_a = let w = f32_whole false m e f in bits_units (fin false m e) w.0 f w.1

  units_b : units_of b ≡ (f32_whole false n d g).0
  units_b = let w = f32_whole false n d g in bits_units (fin false n d) w.0 g w.1

  bits_of_lt : T (lt (fin false m e) (fin false n d)) → a < b
  bits_of_lt h =
      let wx = f32_whole false m e f in
      let wy = f32_whole false n d g in
      let s = lt→side (fin false m e) (fin false n d) tt tt h in
      let u : wx.0 < wy.0 =
      by_units (m * up e) (down e) wx.0 (n * up d) (down d) wy.0 (2 ^ 149) (down_pos e) (down_pos d)
      (pow_pos 149) wx.1.1 wy.1.1 (omega (arith, s)) in
      go (dec_lt a b) (dec_lt b a) u
    where
      go : Dec (a < b) → Dec (b < a) → (f32_whole false m e f).0 < (f32_whole false n d g).0 → a < b
      go (yes l) k u = l
      go (no l) (yes k) u = absurd (omega (arith, units_mono b a k, units_a, units_b, u))
      go (no l) (no k) u =
          let same : a ≡ b = omega arith in absurd (omega (arith, ap units_of same, units_a, units_b, u))

  lt_of_bits : a < b → T (lt (fin false m e) (fin false n d))
  lt_of_bits h =
      let wx = f32_whole false m e f in
      let wy = f32_whole false n d g in
      let s = back (m * up e) (down e) wx.0 (n * up d) (down d) wy.0 (2 ^ 149) (down_pos e) (down_pos d)
      (pow_pos 149) wx.1.1 wy.1.1 (omega (arith, units_mono a b h, units_a, units_b)) in
      side→lt (fin false m e) (fin false n d) tt tt (omega (arith, s))

  rank_low : (c : ℕ) → c < 0x7f800000 → rank c ≡ c + 0x80000000
  unfolding rank
  rank_low c h = rw (lt-ltb c 0x80000000 (omega arith))

  order_finite : lt (fin false m e) (fin false n d) ≡ total_below (fin false m e) (fin false n d)
  unfolding total_below
  order_finite = rw (rank_low a low_a, rank_low b low_b) (go (lt (fin false m e) (fin false n d)) refl)
    where
      go : (t : Bool) → lt (fin false m e) (fin false n d) ≡ t → t ≡ ltb (a + 0x80000000) (b + 0x80000000)
      go true h = sym (lt-ltb (a + 0x80000000) (b + 0x80000000) (omega (arith, bits_of_lt (subst T (sym h) tt))))
      go false h = sym (le-ltb (a + 0x80000000) (b + 0x80000000) (none (dec_lt a b)))
        where
          none : Dec (a < b) → b + 0x80000000 ≤ a + 0x80000000
          none (yes l) = absurd (subst T h (lt_of_bits l))
          none (no l) = omega arith

pub lt_total : (x y : Float) → Plain x → Plain y → lt x y ≡ total_below x y
lt_total nan y p q = absurd p.1
lt_total (inf s) y p q = absurd p.2
lt_total (fin true m e) y p q = absurd p.1
lt_total (fin false m e) nan p q = absurd q.1
lt_total (fin false m e) (inf s) p q = absurd q.2
lt_total (fin false m e) (fin true n d) p q = absurd q.1
lt_total (fin false m e) (fin false n d) p q = order_finite m e n d p.0 q.0

-- ---- sorting
insert_same : (x : Float) (xs : List Float) → Plain x → All Plain xs
    → insert_before (lt x) x xs ≡ insert_before (total_below x) x xs
unfolding insert_before
insert_same x [] p a = refl
insert_same x (y ∷ ys) p a =
    ap (λ (l : List Float). cond (lt x y) (x ∷ y ∷ ys) (y ∷ l)) (insert_same x ys p a.1)
    ∙ ap (λ (t : Bool). cond t (x ∷ y ∷ ys) (y ∷ insert_before (total_below x) x ys)) (lt_total x y p a.0)

pub insert_keeps : (P : Float → Type 0) (test : Float → Bool) (v : Float) (xs : List Float) → P v → All P xs
    → All P (insert_before test v xs)
unfolding insert_before
insert_keeps P test v [] p a = (p, tt)
insert_keeps P test v (x ∷ xs) p a = go (test x) (insert_keeps P test v xs p a.1)
  where
    go : (t : Bool) → All P (insert_before test v xs) → All P (cond t (v ∷ x ∷ xs) (x ∷ insert_before test v xs))
    go true r = (p, a)
    go false r = (a.0, r)

all_same : (s xs : List Float) → All Plain s → All Plain xs → insert_all s xs ≡ insert_all_by total_below s xs
unfolding insert_all insert_all_by
all_same s [] a b = refl
all_same s (x ∷ xs) a b =
    all_same (insert_before (lt x) x s) xs (insert_keeps Plain (lt x) x s b.0 a) b.1
    ∙ ap (λ (l : List Float). insert_all_by total_below l xs) (insert_same x s b.0 a)

pub sorted_total : (xs : List Float) → All Plain xs → sorted xs ≡ totally_sorted xs
sorted_total xs a = all_same [] xs tt a
